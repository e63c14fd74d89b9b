use Rattle.std.proofs.Common.{◌≡◌, [], true, false, bytes_eq, sym, ◌∙◌, rules}
use Rattle.pnp_core.proofs.Slashes.{bytes_eq-nil, ends_in_slash-last}
use Rattle.pnp_core.proofs.initialize.with_slash.Goals as goal

pub returns-then-is_empty : goal.returns-then-is_empty
returns-then-is_empty c =
    let empty : bytes_eq c.args.folder.now [] ≡ true =
    bytes_eq-nil c.args.folder.now ∙ sym c.is_empty.ensures ∙ c.if-is_empty.true in
    rw empty c.in_ok-text.ensures

pub returns-then-ends_with : goal.returns-then-ends_with
returns-then-ends_with c =
    let some : bytes_eq c.args.folder.now [] ≡ false =
    bytes_eq-nil c.args.folder.now ∙ sym c.is_empty.ensures ∙ c.if-is_empty.false in
    rw (some, ends_in_slash-last c.args.folder.now) (search rules)

pub returns : goal.returns
returns c =
    let some : bytes_eq c.args.folder.now [] ≡ false =
    bytes_eq-nil c.args.folder.now ∙ sym c.is_empty.ensures ∙ c.if-is_empty.false in
    rw (some, ends_in_slash-last c.args.folder.now) (search rules)
