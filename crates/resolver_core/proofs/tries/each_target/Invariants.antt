use Rattle.std.proofs.Common.{◌≡◌, map, drop}
use Rattle.tree_core.specs.Asks.{Leads}
use Rattle.tree_core.specs.RecorderView.{asking_of}
use Rattle.resolver_core.specs.Mapping.{tries_of, each_target, with_rest}
use Rattle.resolver_core.proofs.Targets.{left_targets}
use Rattle.resolver_core.proofs.tries.each_target.Given as goal

-- what is left are the targets behind, and a refusal leaves the inner resolver
abbrev pub invariant-loop-target : goal.invariant-loop-target
invariant-loop-target g l =
    Leads (asking_of l.fn.tree) (asking_of l.tree)
    (each_target (g.R.Resolve.order (g.R.Resolve.view l.fn.inner))
    (map (tries_of l.request.folder.now l.request.base.now l.request.specifier.now)
    (map (with_rest l.rest) l.targets)))
    (left_targets (g.R.Resolve.order (g.R.Resolve.view l.fn.inner))
    (map (tries_of l.request.folder.now l.request.base.now l.request.specifier.now)
    (map (with_rest l.rest) (drop l.target-index l.targets))) l.refusals)
    × (g.R.Resolve.view l.inner ≡ g.R.Resolve.view l.fn.inner)
