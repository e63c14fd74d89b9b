-- Where a map keeps what is put into it, and what holds of all that it keeps.
use Rattle.std.proofs.Common.{
  ◌≡◌,
  ◌+◌,
  ℕ,
  Bool,
  true,
  false,
  not,
  if◌then◌else◌,
  List,
  [],
  ◌∷◌,
  map,
  Some,
  slice_get,
  cond,
  bytes_eq,
  refl,
  sym,
  ap,
  ◌∙◌,
}
use Rattle.std.proofs.Math.Numerals.{one-add}
use Rattle.std.specs.List.{position_or_len}
use Rattle.std.specs.Map.{keys_of, lookup}
use Rattle.std.specs.Prelude.{unwrap_or}
use Rattle.std.proofs.lemmas.Slice.Eq.{bytes_eq-Decides}
use Rattle.indexmap.specs.IndexMap.{insert_entry}

-- a value stands at the place of its key, be the key new or not
pub stands_at : {K V : Type 0} (eq : K → K → Bool) (k : K) (v : V) (es : List (K × V))
    → slice_get (map (λ e. e.1) (insert_entry eq es k v)) (position_or_len (eq k) (keys_of es)) ≡ Some v
stands_at eq k v [] = refl
stands_at {V = V} eq k v (e ∷ es) =
    elim (eq k e.0) as (λ b. slice_get (map {B = V} (λ e. e.1)
    (if b then ((e.0, v) ∷ es) else (e ∷ insert_entry eq es k v)))
    (cond (not b) (1 + position_or_len (eq k) (keys_of es)) 0) ≡ Some v) [
      | true ↦ refl
      | false ↦ rw (one-add (position_or_len (eq k) (keys_of es))) (stands_at eq k v es)
    ]

-- what each value is that is kept for bytes, each is too when one more is kept
pub hold_with_one_more : {V : Type 0} (Is : List ℕ → V → Type 0) (before after : List (List ℕ × V)) (content : List ℕ)
    (made : V)
    → ((bytes : List ℕ) (value : V) → lookup (bytes_eq bytes) before ≡ Some value → Is bytes value)
    → Is content made
    → ((bytes : List ℕ) → lookup (bytes_eq bytes) after ≡ cond (bytes_eq content bytes) (Some made)
    (lookup (bytes_eq bytes) before))
    → (bytes : List ℕ) (value : V) → lookup (bytes_eq bytes) after ≡ Some value → Is bytes value
hold_with_one_more {V = V} Is before after content made hold one updates bytes value found =
    by_test (bytes_eq content bytes) refl (sym (updates bytes) ∙ found)
  where
    by_test : (b : Bool) → bytes_eq content bytes ≡ b → cond b (Some made) (lookup (bytes_eq bytes) before) ≡ Some value
        → Is bytes value
    by_test true same is =
        let text : content ≡ bytes = (bytes_eq-Decides content bytes).0 same in
        let kept : made ≡ value = ap (λ o. unwrap_or o made) is in
        rw (text, kept) at one
    by_test false other is = hold bytes value is
