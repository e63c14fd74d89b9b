use Rattle.std.proofs.Common.{sym, refl}
use Rattle.yarn_lock_parser.specs.Metas.{flag_under, property_at}
use Rattle.yarn_lock_parser.proofs.Every.{some-none, some-more}
use Rattle.yarn_lock_parser.proofs.Shorter.{property_at-shortens}
use Rattle.yarn_lock_parser.proofs.metas.flag_under.Goals as goal

pub returns-in_err-key : goal.returns-in_err-key
unfolding flag_under
returns-in_err-key c =
    let none = some-none (property_at c.args.indent.now) c.args.text.now (sym c.in_err-key.ensures) in
    rw (c.from_residual.ensures, none) refl

pub returns : goal.returns
unfolding flag_under
returns c =
    let more = some-more (property_at c.args.indent.now) (property_at-shortens c.args.indent.now) c.args.text.now _
    (sym c.in_ok-key.ensures) in
    rw (more, c.further_flag.ensures.flag, c.further_flag.ensures.rest, c.noted.ensures) refl
