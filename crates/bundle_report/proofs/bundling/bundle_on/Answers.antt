use Rattle.std.proofs.Common.{◌∙◌}
use Rattle.trail_bundle.specs.BundleView.{bundle_of}
use Rattle.bundle_report.proofs.Bundled.{all_bundled, next_given, one_bundled}
use Rattle.bundle_report.proofs.bundling.bundle_on.Goals as goal

pub loop-request-preserved : goal.loop-request-preserved
loop-request-preserved c =
    let next = next_given c.args.requests.now c.loop-request.request-index c.request-item.result
    c.loop-request-test.true c.request-item.is in (
      c.add.ensures.files ∙ c.loop-request.invariant.0,
      one_bundled (bundle_of c.loop-request.bundle) (bundle_of c.add.new.bundle) c.args.tree.now.files
          c.args.project.now c.args.requests.now _ _ c.request-item.result
          c.loop-request.invariant.1 next (rw c.loop-request.invariant.0 at c.in_ok-add.ensures.added),
    )

pub returns : goal.returns
returns c =
    all_bundled (bundle_of c.loop-request.bundle) c.args.tree.now.files c.args.project.now c.args.requests.now
    c.loop-request.request-index
    c.loop-request.invariant.1 c.loop-request-test.false c.loop-request.bundle.are
