-- What a trail that settles a verdict says of a tree in memory.
use Rattle.std.proofs.Common.{◌≡◌}
use Rattle.tree_core.specs.Tree.{Files}
use Rattle.tree_core.specs.Asks.{Settles, AgreeWith}
use Rattle.tree_core.specs.Memory.{same_files}
use Rattle.tree_core.proofs.Entries.{same_files-refl}
use Rattle.resolve_stack.specs.declared.verdict.Outcome.{Outcome}
use Rattle.resolve_stack.specs.Outcomes.{request_outcome}
use Rattle.resolve_stack.specs.Request.{Request}
use Rattle.resolve_stack.specs.Settings.{ProjectSettings}
use Rattle.resolve_stack.specs.Verdict.{verdict}

-- An outcome whose trail settles its verdict is that of a tree in memory that agrees with the trail.
pub settled_here : (t : Files) (project : ProjectSettings) (request : Request) (o : Outcome) →
    Settles o.verdict o.trail (verdict project request) → AgreeWith (same_files t) o.trail →
    o ≡ request_outcome t project request
unfolding request_outcome
settled_here t project request o settled agree =
    let here = agree t (same_files-refl t) in
    let told = settled.verdict t here in
    let kept = settled.trail t here in
    λ i. record { verdict = told i; trail = kept i }
