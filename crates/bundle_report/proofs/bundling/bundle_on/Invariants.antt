use Rattle.std.proofs.Common.{◌≡◌, drop}
use Rattle.trail_bundle.specs.BundleView.{bundle_of}
use Rattle.bundle_report.proofs.Bundled.{Bundled}
use Rattle.bundle_report.proofs.bundling.bundle_on.Given as goal

-- the requests so far were bundled
abbrev pub invariant-loop-request : goal.invariant-loop-request
invariant-loop-request l =
    (l.tree.files ≡ l.fn.tree.files)
    × Bundled (bundle_of l.bundle) l.fn.tree.files l.project l.requests (drop l.request-index l.requests)
