use Rattle.std.proofs.Common.{◌≡◌, ◌-◌, ◌&&◌, true, false, List, [], ◌∷◌, nat_eq, length, take, drop, ap, sym, ◌∙◌}
use Rattle.std.specs.List.{starts_with}
use Rattle.std.proofs.lemmas.List.{take_rest}
use Rattle.tree_core.proofs.Above.{above-continues}
use Rattle.tree_core.proofs.Prefixes.{starts_with-append}
use Rattle.tree_core.proofs.memory.stands_above.Goals as goal

pub returns-then-starts_with : goal.returns-then-starts_with
returns-then-starts_with c =
    let path = c.args.path.now in
    let other = c.args.other.now in
    let begins : starts_with nat_eq other path ≡ true = cc in
    let rest : take (length c.as_bytes-below.result.now - length c.as_bytes-above.result.now)
    (drop (length c.as_bytes-above.result.now) c.as_bytes-below.result.now) ≡ drop (length path) other =
    take_rest c.as_bytes-below.result.now (length c.as_bytes-above.result.now) ∙ (cc) in
    c.starts_with-then-starts_with.ensures.value
    ∙ ap (λ (text : List _). starts_with nat_eq text (47 ∷ [])) rest
    ∙ ap (λ b. b && starts_with nat_eq (drop (length path) other) (47 ∷ [])) (sym begins)
    ∙ sym (starts_with-append path (47 ∷ []) other)
    ∙ sym (above-continues path other c.requires)

pub returns-else-starts_with : goal.returns-else-starts_with
returns-else-starts_with c =
    let path = c.args.path.now in
    let other = c.args.other.now in
    let begins : starts_with nat_eq other path ≡ false = cc in
    c.if-starts_with.false
    ∙ ap (λ b. b && starts_with nat_eq (drop (length path) other) (47 ∷ [])) (sym begins)
    ∙ sym (starts_with-append path (47 ∷ []) other)
    ∙ sym (above-continues path other c.requires)
