use Rattle.std.proofs.Common.{ap, ℕ, List}
use Rattle.std.specs.Prelude.{codes}
use Rattle.yarn_lock_parser.specs.ByteSet.{is_no_at}
use Rattle.yarn_lock_parser.proofs.Rests.{behind, after_optional-rest, run-rest}
use Rattle.yarn_lock_parser.proofs.descriptors.parted.Goals as goal

pub front-name-requires : goal.front-name-requires
front-name-requires c =
    let end = ap (λ (x : List ℕ × List ℕ). x.1) c.run.ensures in
    rw (end, c.after_optional.ensures) (behind (after_optional-rest (codes "@") c.args.text.now) (run-rest is_no_at _))
