-- Copies of maps and of sets, one entry or member after the other.
use Rattle.std.proofs.Common.{
  ◌≡◌,
  ◌++◌,
  ◌||◌,
  ℕ,
  Bool,
  true,
  false,
  List,
  [],
  ◌∷◌,
  refl,
  sym,
  ap,
  ◌∙◌,
  append_assoc,
  bytes_eq,
  true≢false,
}
use Rattle.std.specs.List.{IsDistinct, AllByRecursion, list_any}
use Rattle.std.specs.Map.{keys_of}
use Rattle.std.specs.Cmp.{IsEquivalence}
use Rattle.std.proofs.lemmas.Cmp.{nat_list_eq_equiv}
use Rattle.std.proofs.lemmas.Map.Keys.{IsDistinct-head, IsDistinct-tail}
use Rattle.std.proofs.lemmas.List.{map-append}
use Rattle.indexmap.specs.IndexMap.{insert_entry}
use Rattle.indexmap.specs.IndexSet.{insert_key}
use Rattle.pnp_core.specs.Copying.{told_by}

at_place : {K : Type 0} (P : K → Type 0) (ks rest : List K) (k : K) → AllByRecursion P (ks ++ k ∷ rest) → P k
at_place P [] rest k h = h.0
at_place P (x ∷ ks) rest k h = at_place P ks rest k h.1

-- a key that stands behind others is equal to none of them
later_is_new : {K : Type 0} (eq : K → K → Bool) → IsEquivalence eq → (ks rest : List K) (k : K)
    → IsDistinct eq (ks ++ k ∷ rest) → list_any (eq k) ks ≡ false
later_is_new eq o [] rest k distinct = refl
later_is_new eq o (x ∷ ks) rest k distinct =
    let apart : eq x k ≡ false =
    at_place (λ y. eq x y ≡ false) ks rest k (IsDistinct-head eq x (ks ++ k ∷ rest) distinct) in
    rw (o.symm k x, apart) (later_is_new eq o ks rest k (IsDistinct-tail eq x (ks ++ k ∷ rest) distinct))

-- an entry with a new key goes last
new_goes_last : {K V : Type 0} (eq : K → K → Bool) (es : List (K × V)) (k : K) (v : V)
    → list_any (eq k) (keys_of es) ≡ false → insert_entry eq es k v ≡ es ++ (k, v) ∷ []
new_goes_last eq [] k v new = refl
new_goes_last eq (e ∷ es) k v new = by_test (eq k e.0) refl new (new_goes_last eq es k v)
  where
    by_test : (b : Bool) → eq k e.0 ≡ b → (b || list_any (eq k) (keys_of es)) ≡ false
        → (list_any (eq k) (keys_of es) ≡ false → insert_entry eq es k v ≡ es ++ (k, v) ∷ [])
        → insert_entry eq (e ∷ es) k v ≡ (e ∷ es) ++ (k, v) ∷ []
    by_test true is new rest = absurd (true≢false new)
    by_test false is new rest = rw is (ap (λ l. e ∷ l) (rest new))

-- the keys stay where the values are told
keys_of-told : {V M : Type 0} (told : V → M) (es : List (List ℕ × V)) → keys_of (told_by told es) ≡ keys_of es
keys_of-told told [] = refl
keys_of-told told (e ∷ es) = ap (λ l. e.0 ∷ l) (keys_of-told told es)

keys_of-append : {K V : Type 0} (es fs : List (K × V)) → keys_of (es ++ fs) ≡ keys_of es ++ keys_of fs
keys_of-append [] fs = refl
keys_of-append (e ∷ es) fs = ap (λ l. e.0 ∷ l) (keys_of-append es fs)

-- one entry more is copied: what is copied and what is left are told as the whole
pub copied-entry : {V M : Type 0} (told : V → M) (copy rest whole : List (List ℕ × V)) (k : List ℕ) (v w : V)
    → IsDistinct bytes_eq (keys_of whole) → told_by told copy ++ told_by told ((k, v) ∷ rest) ≡ told_by told whole
    → told w ≡ told v
    → told_by told (insert_entry bytes_eq copy k w) ++ told_by told rest ≡ told_by told whole
copied-entry told copy rest whole k v w distinct parts same =
    let keys : keys_of copy ++ k ∷ keys_of rest ≡ keys_of whole =
    sym (keys_of-append (told_by told copy) (told_by told ((k, v) ∷ rest))
    ∙ rw (keys_of-told told copy, keys_of-told told rest) refl) ∙ ap keys_of parts ∙ keys_of-told told whole in
    let new = later_is_new bytes_eq nat_list_eq_equiv (keys_of copy) (keys_of rest) k (rw keys distinct) in
    rw (new_goes_last bytes_eq copy k w new, map-append, append_assoc, same) parts

-- one member more is copied
pub copied-member : {T : Type 0} (eq : T → T → Bool) → IsEquivalence eq → (copy rest whole : List T) (k : T)
    → IsDistinct eq whole → copy ++ k ∷ rest ≡ whole → insert_key eq copy k ++ rest ≡ whole
copied-member eq o copy rest whole k distinct parts =
    rw (later_is_new eq o copy rest k (rw parts distinct), append_assoc) parts

-- maps that are told alike by all of their values are equal
pub told_whole : {V : Type 0} (es fs : List (List ℕ × V)) → told_by (λ v. v) es ≡ told_by (λ v. v) fs → es ≡ fs
told_whole {V} es fs same = sym (whole es) ∙ same ∙ whole fs
  where
    whole : (es : List (List ℕ × V)) → told_by (λ v. v) es ≡ es
    whole [] = refl
    whole (e ∷ es) = ap (λ l. e ∷ l) (whole es)
