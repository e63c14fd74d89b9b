use Rattle.std.proofs.Common.{arith, ◌≡◌, [], true, false, nat_eq, Some, sym, ap, ◌∙◌, string_bytes}
use Rattle.std.specs.List.{starts_with}
use Rattle.tree_core.proofs.Keys.{find-keys}
use Rattle.tree_core.proofs.memory.first_with_prefix.Goals as goal

pub returns-in-None : goal.returns-in-None
returns-in-None c = sym (find-keys c.args.prefix.now c.args.files.now.entries c.range.result [] c.range.ensures.ordered
    (c.range.ensures.between tt) c.in-None.ensures.steps.0)

pub returns-then-starts_with : goal.returns-then-starts_with
returns-then-starts_with c =
    let first = find-keys c.args.prefix.now c.args.files.now.entries c.range.result _ c.range.ensures.ordered
    (c.range.ensures.between tt) c.in-Some.ensures.steps in
    let begins : starts_with nat_eq (string_bytes c.in-Some.path.now) (string_bytes c.args.prefix.now) ≡ true =
    grind arith in
    ap Some c.as_str.ensures.value ∙ sym (rw begins at first)

pub returns-else-starts_with : goal.returns-else-starts_with
returns-else-starts_with c =
    let first = find-keys c.args.prefix.now c.args.files.now.entries c.range.result _ c.range.ensures.ordered
    (c.range.ensures.between tt) c.in-Some.ensures.steps in
    let begins : starts_with nat_eq (string_bytes c.in-Some.path.now) (string_bytes c.args.prefix.now) ≡ false =
    grind arith in
    sym (rw begins at first)
