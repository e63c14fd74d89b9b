use Rattle.std.proofs.Common.{◌≡◌, ◌++◌, ◌∷◌, [], Bool, false, List, ℕ, cond, string_bytes, refl, sym, ap, ◌∙◌, lit<}
use Rattle.sugar_path.specs.Path.{is_absolute, text_of, join, with_slash}
use Rattle.swc_loader.proofs.Naming.{with_slash-text}
use Rattle.swc_loader.proofs.search.joined.Goals as goal
use Rattle.swc_loader.proofs.search.joined.Goals.{then-not-is_root+in_ok-push_str, else-not-is_root}

-- a text that isn't absolute stands behind a front that ends in a `/`
behind : (base front t : List ℕ) → is_absolute t ≡ false → front ≡ with_slash base → front ++ t ≡ join base t
behind base front t relative is = rw (relative, is) refl

pub returns : goal.returns
returns c =
    let relative : is_absolute c.args.text.now ≡ false =
    sym (c.starts_with.ensures.byte (lit< tt) (lit< tt) (λ _ _ h. h)) ∙ c.if-starts_with.false in
    let text : string_bytes c.in_ok-joined.joined ≡ text_of c.args.folder.now =
    c.in_ok-joined.ensures.ok ∙ c.as_str.ensures.text in
    let closed = λ (b : Bool). cond b (text_of c.args.folder.now) (text_of c.args.folder.now ++ 47 ∷ []) in
    let slash = with_slash-text c.args.folder.now c.as_str.ensures.names ∙ ap closed (sym c.is_root.ensures) in
    let front = elim c.if-not-is_root.branch as (λ _. string_bytes c.if-not-is_root.joined ≡ with_slash
    (text_of c.args.folder.now)) [
      | then-not-is_root+in_ok-push_str w ↦ ap string_bytes w.joined-is ∙ w.in_ok-push_str.ensures.bytes
          ∙ ap (λ s. s ++ 47 ∷ []) text ∙ sym (slash ∙ ap closed w.if-not-is_root.true)
      | else-not-is_root w ↦ ap string_bytes w.joined-is ∙ text ∙ sym (slash ∙ ap closed w.if-not-is_root.false)
    ] in
    c.in_ok-push_str-2.ensures.bytes ∙ behind (text_of c.args.folder.now) (string_bytes c.if-not-is_root.joined)
    c.args.text.now relative front
