-- The parent of a path, found from its end.
use Rattle.std.proofs.Common.{
  ◌≡◌,
  ◌≢◌,
  ◌&&◌,
  ◌+◌,
  ◌-◌,
  ℕ,
  Bool,
  true,
  false,
  cond,
  List,
  [],
  ◌∷◌,
  ◌++◌,
  length,
  take,
  drop,
  refl,
  sym,
  ap,
  ◌∙◌,
  arith,
  length-drop,
}
use Rattle.std.specs.Prelude.{Some, None}
use Rattle.std.specs.List.{join_with_byte, AllByRecursion}
use Rattle.std.proofs.lemmas.Bool.Decides.{Decides-eqb}
use Rattle.std.proofs.lemmas.List.{take_all}
use Rattle.std.proofs.lemmas.List.Splits.{join_with_byte-slice_split}
use Rattle.memchr.specs.Find.{IsLastByte, is_byte}
use Rattle.sugar_path.specs.Path.{parts}
use Rattle.sugar_path.specs.Parent.{
  is_silent,
  is_nil,
  trimmed,
  but_last,
  or_slash,
  parent_by,
  parent_of_parts,
  parent_of,
}
use Rattle.sugar_path.specs.ParentEnd.{until_last}
use Rattle.sugar_path.proofs.FirstParts.{parts-uncut}
use Rattle.sugar_path.proofs.Paths.{cut-is, no_slash-after}
use Rattle.sugar_path.proofs.Parts.{HasNoSlash, parts-some, parts-no_slash, parts-slash, parts-name}
use Rattle.sugar_path.proofs.Placed.{parts-join}

-- ---- a text at its last slash
pub record IsCut (t front last : List ℕ) : Type 0 where
  pub whole : t ≡ front ++ 47 ∷ last
  pub slash : HasNoSlash last

pub last-cut : (t : List ℕ) (k : ℕ) → IsLastByte (is_byte 47) t (Some k) → IsCut t (take k t) (drop (k + 1) t)
last-cut t k last = record {
  whole = cut-is t k last.0.high ((Decides-eqb _ 47).0 last.1);
  slash =
      no_slash-after t k (λ i above within is. last.0.after i (omega (arith, above)) within ((Decides-eqb _ 47).1 is));
}

-- the rest behind it as it is borrowed
pub rest-borrowed : (t : List ℕ) (k : ℕ) → take (length t - (k + 1)) (drop (k + 1) t) ≡ drop (k + 1) t
rest-borrowed t k = take_all (length t - (k + 1)) (drop (k + 1) t) (omega (arith, length-drop (k + 1) t))

pub uncut-parts : (t : List ℕ) → IsLastByte (is_byte 47) t None → parts t ≡ t ∷ []
uncut-parts t none = parts-uncut t (λ k lt is. none k (omega arith) lt is)

cut-parts : (t front last : List ℕ) → IsCut t front last → parts t ≡ parts front ++ last ∷ []
cut-parts t front last h =
    ap parts h.whole ∙ parts-slash front last ∙ ap (λ ps. parts front ++ ps) (parts-name last h.slash)

-- ---- a last part that is silent says nothing
trimmed-silent : (xs : List (List ℕ)) (x : List ℕ) → is_silent x ≡ true → trimmed (xs ++ x ∷ []) ≡ trimmed xs
trimmed-silent [] x h = rw h refl
trimmed-silent (y ∷ xs) x h = ap (λ zs. cond (is_nil zs && is_silent y) [] (y ∷ zs)) (trimmed-silent xs x h)

trimmed-told : (xs : List (List ℕ)) (x : List ℕ) → is_silent x ≡ false → trimmed (xs ++ x ∷ []) ≡ xs ++ x ∷ []
trimmed-told [] x h = rw h refl
trimmed-told (y ∷ xs) x h = ap (λ zs. cond (is_nil zs && is_silent y) [] (y ∷ zs)) (trimmed-told xs x h) ∙ some xs
  where
    some : (xs : List (List ℕ)) → cond (is_nil (xs ++ x ∷ []) && is_silent y) [] (y ∷ (xs ++ x ∷ [])) ≡ y ∷
        (xs ++ x ∷ [])
    some [] = refl
    some (z ∷ xs) = refl

pub until-silent : (t front last : List ℕ) → IsCut t front last → is_silent last ≡ true
    → until_last (parts front) ≡ until_last (parts t)
until-silent t front last h silent = by_parts (parts front) (parts-some front) (cut-parts t front last h)
  where
    by_parts : (ps : List (List ℕ)) → ps ≢ [] → parts t ≡ ps ++ last ∷ [] → until_last ps ≡ until_last (parts t)
    by_parts [] some is = absurd (some refl)
    by_parts (p ∷ ps) some is =
        sym (ap until_last is ∙ ap (λ xs. join_with_byte 47 (p ∷ xs)) (trimmed-silent ps last silent))

pub until-told : (t front last : List ℕ) → IsCut t front last → is_silent last ≡ false → t ≡ until_last (parts t)
until-told t front last h told = by_parts (parts front) (parts-some front) (cut-parts t front last h)
  where
    by_parts : (ps : List (List ℕ)) → ps ≢ [] → parts t ≡ ps ++ last ∷ [] → t ≡ until_last (parts t)
    by_parts [] some is = absurd (some refl)
    by_parts (p ∷ ps) some is =
        sym (join_with_byte-slice_split 47 t)
        ∙ ap (join_with_byte 47) is
        ∙ sym (ap until_last is ∙ ap (λ xs. join_with_byte 47 (p ∷ xs)) (trimmed-told ps last told))

pub until-alone : (t : List ℕ) → parts t ≡ t ∷ [] → t ≡ until_last (parts t)
until-alone t is = sym (ap until_last is)

-- ---- the parts as far as the last component
pub trimmed-no_slash : (xs : List (List ℕ)) → AllByRecursion HasNoSlash xs → AllByRecursion HasNoSlash (trimmed xs)
trimmed-no_slash [] h = tt
trimmed-no_slash (x ∷ xs) h = by_test (is_nil (trimmed xs) && is_silent x) (trimmed-no_slash xs h.1)
  where
    by_test : (b : Bool) → AllByRecursion HasNoSlash (trimmed xs)
        → AllByRecursion HasNoSlash (cond b [] (x ∷ trimmed xs))
    by_test true rest = tt
    by_test false rest = (h.0, rest)

parent-by : (first : List ℕ) (xs : List (List ℕ)) (x : List ℕ)
    → parent_by first (xs ++ x ∷ []) ≡ Some (or_slash (join_with_byte 47 (first ∷ trimmed xs)))
parent-by first xs x = by_case first xs ∙ ap (λ ys. Some (or_slash (join_with_byte 47 (first ∷ trimmed ys)))) (but xs)
  where
    but : (xs : List (List ℕ)) → but_last (xs ++ x ∷ []) ≡ xs
    but [] = refl
    but (y ∷ []) = refl
    but (y ∷ z ∷ xs) = ap (λ ys. y ∷ ys) (but (z ∷ xs))

    by_case : (first : List ℕ) (xs : List (List ℕ))
        → parent_by first (xs ++ x ∷ []) ≡ Some (or_slash (join_with_byte 47
        (first ∷ trimmed (but_last (xs ++ x ∷ [])))))
    by_case [] [] = refl
    by_case [] (y ∷ xs) = refl
    by_case (c ∷ first) [] = refl
    by_case (c ∷ first) (y ∷ xs) = refl

-- where one part is left
pub parent-lone : (t text : List ℕ) → text ≡ until_last (parts t) → parts text ≡ text ∷ []
    → parent_of t ≡ parent_by text []
unfolding parent_of
parent-lone t text is alone = by_parts (parts t) (parts-no_slash t) (parts-some t) is
  where
    by_parts : (ps : List (List ℕ)) → AllByRecursion HasNoSlash ps → ps ≢ [] → text ≡ until_last ps
        → parent_of_parts ps ≡ parent_by text []
    by_parts [] slash some e = absurd (some refl)
    by_parts (p ∷ ps) slash some e =
        let both : p ∷ trimmed ps ≡ text ∷ [] =
        sym (parts-join p (trimmed ps) (slash.0, trimmed-no_slash ps slash.1)) ∙ ap parts (sym e) ∙ alone in
        let first : p ≡ text = cc in
        let rest : trimmed ps ≡ [] = cc in
        ap (parent_by p) rest ∙ ap (λ x. parent_by x []) first

-- and where the text is cut at its last slash
pub parent-cut : (t text front last : List ℕ) → text ≡ until_last (parts t) → IsCut text front last
    → parent_of t ≡ Some (or_slash (until_last (parts front)))
unfolding parent_of
parent-cut t text front last is h = by_parts (parts t) (parts-no_slash t) (parts-some t) is (parts front)
    (parts-some front) (cut-parts text front last h)
  where
    by_parts : (ps : List (List ℕ)) → AllByRecursion HasNoSlash ps → ps ≢ [] → text ≡ until_last ps
        → (qs : List (List ℕ)) → qs ≢ [] → parts text ≡ qs ++ last ∷ []
        → parent_of_parts ps ≡ Some (or_slash (until_last qs))
    by_parts [] slash some e qs other cut = absurd (some refl)
    by_parts (p ∷ ps) slash some e [] other cut = absurd (other refl)
    by_parts (p ∷ ps) slash some e (q ∷ qs) other cut =
        let both : p ∷ trimmed ps ≡ q ∷ (qs ++ last ∷ []) =
        sym (parts-join p (trimmed ps) (slash.0, trimmed-no_slash ps slash.1)) ∙ ap parts (sym e) ∙ cut in
        let first : p ≡ q = cc in
        let rest : trimmed ps ≡ qs ++ last ∷ [] = cc in
        ap (parent_by p) rest ∙ parent-by p qs last
        ∙ ap (λ x. Some (or_slash (join_with_byte 47 (x ∷ trimmed qs)))) first

pub lone-empty : (text : List ℕ) → length text ≡ 0 → None ≡ parent_by text []
lone-empty [] h = refl
lone-empty (c ∷ text) h = absurd (omega (arith, h))

pub lone-some : (text : List ℕ) → length text ≢ 0 → Some [] ≡ parent_by text []
lone-some [] h = absurd (h refl)
lone-some (c ∷ text) h = refl
