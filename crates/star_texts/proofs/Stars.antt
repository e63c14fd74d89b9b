-- Texts around a `*`.
use Rattle.std.proofs.Common.{
  ◌≡◌,
  ◌<◌,
  ◌≤◌,
  ◌+◌,
  ◌==◌,
  ◌||◌,
  ◌⊎◌,
  inl,
  inr,
  ℕ,
  suc,
  Bool,
  true,
  false,
  not,
  cond,
  nat_lt,
  List,
  [],
  ◌∷◌,
  ◌++◌,
  length,
  get_or,
  take,
  drop,
  Option,
  Some,
  None,
  refl,
  sym,
  ap,
  ◌∙◌,
  arith,
  lit<,
}
use Rattle.std.specs.Prelude.{option_map, option_and_then, MatchBool}
use Rattle.std.specs.List.{position_or_len}
use Rattle.std.specs.Str.Pattern.{FindsChar, HasMatch}
use Rattle.std.proofs.lemmas.Bool.{cases_lt, false≢true, eqb-true, lt-ltb, le-ltb}
use Rattle.std.proofs.lemmas.List.Folds.{list_any_at}
use Rattle.std.proofs.lemmas.Option.{none-some, some_pair_parts}
use Rattle.std.proofs.lemmas.Str.Pattern.{contains_char}
use Rattle.star_texts.specs.Star.{is_star, has_star, around_star, unless_another, around_only_star}
use Rattle.star_texts.specs.Laws.{StarParts}

-- std's `contains`
pub star_within : (text : List ℕ) → has_star text ≡ true → (k : ℕ) × (k < length text) × (get_or text k 0 ≡ 42)
star_within [] h = absurd (false≢true h)
star_within (b ∷ text) h = by_test (b == 42) refl h (star_within text)
  where
    by_test : (r : Bool) → (b == 42) ≡ r → r || has_star text ≡ true
        → (has_star text ≡ true → (k : ℕ) × (k < length text) × (get_or text k 0 ≡ 42)) → (k : ℕ)
        × (k < length (b ∷ text)) × (get_or (b ∷ text) k 0 ≡ 42)
    by_test true is x later = (0, omega arith, eqb-true b 42 is)
    by_test false is x later = let at = later x in (suc at.0, omega (arith, at.1), at.2)

pub has_star-contains : (text : List ℕ) (r : Bool) → MatchBool r (HasMatch (FindsChar 42) text) (FindsChar 42 text None)
    → r ≡ has_star text
has_star-contains text r h = by_answers r (has_star text) refl (contains_char 42 text r h (lit< tt))
  where
    by_answers : (r s : Bool) → has_star text ≡ s → (r ≡ true → (k : ℕ) × (k < length text) × (get_or text k 0 ≡ 42))
        × ((k : ℕ) → k < length text → get_or text k 0 ≡ 42 → r ≡ true) → r ≡ s
    by_answers true true is found = refl
    by_answers false false is found = refl
    by_answers true false is found =
        let at = found.0 refl in
        absurd (false≢true (sym is ∙ list_any_at is_star text at.0 0 at.1 (ap is_star at.2)))
    by_answers false true is found = let at = star_within text is in absurd (false≢true (found.1 at.0 at.1 at.2))

abbrev Parts : Type 0
Parts = List ℕ × List ℕ

-- how far the first `*` stands from the front, or how long a text without one is
abbrev stars : List ℕ → ℕ
stars text = position_or_len is_star text

abbrev parts_at : List ℕ → ℕ → Parts
parts_at text at = (take at text, drop (at + 1) text)

-- the parts with a byte more in front
abbrev with_front : ℕ → Parts → Parts
with_front b parts = (b ∷ parts.0, parts.1)

around-here : (b : ℕ) (text : List ℕ) → is_star b ≡ true → around_star (b ∷ text) ≡ Some ([], text)
around-here b text is = by_test (b == 42) is
  where
    by_test : (r : Bool) → r ≡ true → option_map (parts_at (b ∷ text))
        (cond (nat_lt (cond (not r) (1 + position_or_len is_star text) 0) (suc (length text)))
        (Some (cond (not r) (1 + position_or_len is_star text) 0)) None) ≡ Some ([], text)
    by_test r e = rw e (rw (lt-ltb 0 (suc (length text)) (omega arith)) refl)

around-later : (b : ℕ) (text : List ℕ) → is_star b ≡ false
    → around_star (b ∷ text) ≡ option_map (with_front b) (around_star text)
around-later b text is = by_test (b == 42) is (cases_lt (stars text) (length text))
  where
    by_test : (r : Bool) → r ≡ false → (stars text < length text) ⊎ (length text ≤ stars text)
        → option_map (parts_at (b ∷ text)) (cond (nat_lt (cond (not r) (1 + stars text) 0) (suc (length text)))
        (Some (cond (not r) (1 + stars text) 0)) None) ≡ option_map (with_front b) (around_star text)
    by_test r e (inl lt) =
        let one : 1 + stars text ≡ suc (stars text) = omega arith in
        let two : suc (stars text) + 1 ≡ suc (stars text + 1) = omega arith in
        rw (
          e,
          one,
          lt-ltb (stars text) (length text) lt,
          lt-ltb (suc (stars text)) (suc (length text)) (omega arith),
          two,
        ) refl
    by_test r e (inr le) = let one : 1 + stars text ≡ suc (stars text) = omega arith in
        rw (e, one, le-ltb (stars text) (length text) le, le-ltb (suc (stars text)) (suc (length text)) (omega arith))
        refl

-- the parts around the first `*` make the text
around-parts : (text before behind : List ℕ) → around_star text ≡ Some (before, behind)
    → (text ≡ before ++ (42 ∷ behind)) × (has_star before ≡ false)
around-parts [] before behind e = absurd (none-some {A = Parts} (before, behind) e)
around-parts (b ∷ text) before behind e = by_test (b == 42) refl (around-parts text)
  where
    by_rest : (o : Option Parts) → is_star b ≡ false → around_star text ≡ o
        → option_map (with_front b) o ≡ Some (before, behind)
        → ((x y : List ℕ) → around_star text ≡ Some (x, y) → (text ≡ x ++ (42 ∷ y)) × (has_star x ≡ false))
        → (b ∷ text ≡ before ++ (42 ∷ behind)) × (has_star before ≡ false)
    by_rest None is found x rest = absurd (none-some {A = Parts} (before, behind) x)
    by_rest (Some parts) is found x rest =
        let same = some_pair_parts (b ∷ parts.0) before parts.1 behind x in
        let later = rest parts.0 parts.1 found in (
          ap (λ xs. b ∷ xs) later.0 ∙ ap (λ xs. xs ++ (42 ∷ parts.1)) same.0 ∙ ap (λ ys. before ++ (42 ∷ ys)) same.1,
          ap has_star (sym same.0) ∙ rw is later.1,
        )

    by_test : (r : Bool) → is_star b ≡ r → ((x y : List ℕ) → around_star text ≡ Some (x, y) → (text ≡ x ++ (42 ∷ y))
        × (has_star x ≡ false)) → (b ∷ text ≡ before ++ (42 ∷ behind)) × (has_star before ≡ false)
    by_test true is rest =
        let same = some_pair_parts [] before text behind (sym (around-here b text is) ∙ e) in
        (rw (eqb-true b 42 is, same.1, ← same.0) refl, ap has_star (sym same.0))
    by_test false is rest = by_rest (around_star text) is refl (sym (around-later b text is) ∙ e) rest

around-made : (before behind : List ℕ) → has_star before ≡ false
    → around_star (before ++ (42 ∷ behind)) ≡ Some (before, behind)
around-made [] behind h = around-here 42 behind refl
around-made (b ∷ before) behind h = by_test (b == 42) refl h (around-made before behind)
  where
    by_test : (r : Bool) → (b == 42) ≡ r → r || has_star before ≡ false
        → (has_star before ≡ false → around_star (before ++ (42 ∷ behind)) ≡ Some (before, behind))
        → around_star (b ∷ (before ++ (42 ∷ behind))) ≡ Some (b ∷ before, behind)
    by_test true is x rest = absurd (false≢true (sym x))
    by_test false is x rest = around-later b (before ++ (42 ∷ behind)) is ∙ ap (option_map (with_front b)) (rest x)

-- no other `*` stands behind the only one
only-parts : (text before behind : List ℕ) → around_only_star text ≡ Some (before, behind)
    → (around_star text ≡ Some (before, behind)) × (has_star behind ≡ false)
only-parts text before behind e = by_first (around_star text) refl e
  where
    by_test : (parts : Parts) (r : Bool) → around_star text ≡ Some parts → has_star parts.1 ≡ r
        → cond r None (Some parts) ≡ Some (before, behind) → (around_star text ≡ Some (before, behind))
        × (has_star behind ≡ false)
    by_test parts true is star x = absurd (none-some {A = Parts} (before, behind) x)
    by_test parts false is star x =
        (is ∙ x, let same = some_pair_parts parts.0 before parts.1 behind x in ap has_star (sym same.1) ∙ star)

    by_first : (o : Option Parts) → around_star text ≡ o → option_and_then unless_another o ≡ Some (before, behind)
        → (around_star text ≡ Some (before, behind)) × (has_star behind ≡ false)
    by_first None is x = absurd (none-some {A = Parts} (before, behind) x)
    by_first (Some parts) is x = by_test parts (has_star parts.1) is refl x

only-made : (before behind : List ℕ) → has_star before ≡ false → has_star behind ≡ false
    → around_only_star (before ++ (42 ∷ behind)) ≡ Some (before, behind)
only-made before behind first none = rw (around-made before behind first) (rw none refl)

pub star_parts : StarParts
star_parts = record {
  first =
      λ text before behind. (around-parts text before behind, λ h. ap around_star h.0 ∙ around-made before behind h.1);
  only = λ text before behind. (
    λ e. let found = only-parts text before behind e in let made = around-parts text before behind found.0 in
        (made.0, made.1, found.1),
    λ h. ap around_only_star h.0 ∙ only-made before behind h.1 h.2,
  );
}
