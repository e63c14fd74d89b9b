-- A loop over the parts of a string.
use Rattle.std.proofs.Common.{
  ◌≡◌,
  ◌<◌,
  ◌≤◌,
  ◌+◌,
  ℕ,
  zero,
  suc,
  List,
  [],
  ◌∷◌,
  ◌++◌,
  length,
  drop,
  refl,
  ap,
  sym,
  ◌∙◌,
  arith,
  append_assoc,
  append-nil,
}
use Rattle.std.proofs.lemmas.List.{drop-drop, length-drop}
use Rattle.es_imports.specs.declared.escape.Meaning.{Meaning}
use Rattle.es_imports.specs.Escapes.{part_at, units_at, units_of, units_up_to}

-- so far these are the units, and the parts from that place on give the rest
pub record Uniting (text : List ℕ) (at : ℕ) (units : List ℕ) : Type 0 where
  pub within : at ≤ length text
  pub left : ℕ
  pub enough : length (drop at text) ≤ left
  pub is : units ++ units_up_to left (drop at text) ≡ units_up_to (length text) text

pub uniting_start : (text : List ℕ) → Uniting text 0 []
uniting_start text = record { within = omega arith; left = length text; enough = omega arith; is = refl }

none_left : (n : ℕ) (t : List ℕ) → length t ≡ 0 → units_up_to n t ≡ []
none_left zero t e = refl
none_left (suc n) [] e = refl
none_left (suc n) (c ∷ cs) e = absurd (omega arith)

pub uniting_end : (text : List ℕ) (at : ℕ) (units : List ℕ) → Uniting text at units → length text ≤ at
    → units ≡ units_of text
unfolding units_of
uniting_end text at units u h =
    let none = none_left u.left (drop at text) (omega (arith, length-drop at text)) in
    sym (append-nil units) ∙ ap (λ (us : List ℕ). units ++ us) (sym none) ∙ u.is

one_more : (n : ℕ) (t : List ℕ) → 0 < length t → units_up_to (suc n) t ≡ units_at (part_at t).code
    ++ units_up_to n (drop (part_at t).len t)
one_more n [] h = absurd (omega arith)
one_more n (c ∷ cs) h = refl

next_from : (text : List ℕ) (at : ℕ) (units : List ℕ) (left : ℕ) → at < length text
    → length (drop at text) ≤ left → units ++ units_up_to left (drop at text) ≡ units_up_to (length text) text
    → 0 < (part_at (drop at text)).len → (part_at (drop at text)).len ≤ length (drop at text)
    → Uniting text (at + (part_at (drop at text)).len) (units ++ units_at (part_at (drop at text)).code)
next_from text at units zero h enough is some within = absurd (omega (arith, length-drop at text))
next_from text at units (suc n) h enough is some within =
    let rest = length-drop at text in
    let rest' = length-drop (part_at (drop at text)).len (drop at text) in
    let there = drop-drop (part_at (drop at text)).len at text in
    record {
      within = omega arith;
      left = n;
      enough = rw (← there) (omega arith);
      is = rw (← there) (append_assoc units _ _
          ∙ ap (λ (us : List ℕ). units ++ us) (sym (one_more n (drop at text) (omega arith))) ∙ is);
    }

pub uniting_next : (text : List ℕ) (at : ℕ) (units units' : List ℕ) (part : Meaning) → Uniting text at units
    → at < length text → part ≡ part_at (drop at text) → 0 < part.len → part.len ≤ length (drop at text)
    → units' ≡ units ++ units_at part.code → Uniting text (at + part.len) units'
uniting_next text at units units' part u h same some within grown =
    rw (grown, same) (next_from text at units u.left h u.enough u.is (rw (← same) some) (rw (← same) within))
