use Rattle.std.proofs.Common.{Some, None, ap}
use Rattle.std.specs.Prelude.{codes, unwrap_or}
use Rattle.sugar_path.proofs.Words.{after-strip_prefix}
use Rattle.resolve_stack.proofs.exports.without_dot_slash.Goals as goal

pub returns-in-Some : goal.returns-in-Some
returns-in-Some c =
    ap (λ o. unwrap_or o c.args.target.now) (after-strip_prefix (codes "./") c.args.target.now (Some c.in-Some.file)
    c.in-Some.ensures.cases)

pub returns-in-None : goal.returns-in-None
returns-in-None c =
    ap (λ o. unwrap_or o c.args.target.now) (after-strip_prefix (codes "./") c.args.target.now None
    c.in-None.ensures.cases)
