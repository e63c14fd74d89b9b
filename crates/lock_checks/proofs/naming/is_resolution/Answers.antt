use Rattle.std.proofs.Common.{◌++◌, codes, bytes_eq, sym, ap, ◌∙◌, append_assoc}
use Rattle.lock_checks.proofs.Texts.{joined-some, joined-none}
use Rattle.lock_checks.proofs.naming.is_resolution.Goals as goal

pub returns-in-Some : goal.returns-in-Some
returns-in-Some c =
    let behind = joined-some c.args.name.now (codes "@" ++ c.args.reference.now) c.args.text.now c.in-Some.rest.now
    c.in-Some.ensures in
    c.is_joined.ensures ∙ behind ∙ ap (bytes_eq c.args.text.now)
    (sym (append_assoc c.args.name.now (codes "@") c.args.reference.now))

pub returns-in-None : goal.returns-in-None
returns-in-None c =
    let behind = joined-none c.args.name.now (codes "@" ++ c.args.reference.now) c.args.text.now c.in-None.ensures in
    behind ∙ ap (bytes_eq c.args.text.now) (sym (append_assoc c.args.name.now (codes "@") c.args.reference.now))
