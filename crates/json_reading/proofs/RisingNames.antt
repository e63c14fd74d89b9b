-- Entries whose names rise, put into a map one after another.
use Rattle.std.proofs.Common.{
  ◌≡◌,
  ℕ,
  Less,
  List,
  [],
  ◌∷◌,
  ◌++◌,
  false,
  nat_cmp,
  bytes_eq,
  is_eq,
  refl,
  sym,
  ap,
  ◌∙◌,
  append_assoc,
  append-nil,
}
use Rattle.std.proofs.lemmas.Cmp.{nat_list_cmp_total}
use Rattle.std.proofs.lemmas.Map.Text.{is_eq-slice_cmp}
use Rattle.std.specs.Cmp.Lexicographic.{slice_cmp}
use Rattle.std.specs.List.{AllByRecursion}
use Rattle.std.specs.Ordering.{ordering_reverse}
use Rattle.indexmap.specs.IndexMap.{insert_entry, insert_all}

-- a name stands before an entry's
abbrev pub StandsBefore : {V : Type 0} → List ℕ → List ℕ × V → Type 0
StandsBefore k e = slice_cmp nat_cmp k e.0 ≡ Less

-- each name stands before those that follow it
abbrev pub IsRising : {V : Type 0} → List (List ℕ × V) → Type 0
IsRising [] = Unit {0}
IsRising (e ∷ es) = AllByRecursion (StandsBefore e.0) es × IsRising es

-- each name of the one stands before each of the other
abbrev AllBefore : {V : Type 0} → List (List ℕ × V) → List (List ℕ × V) → Type 0
AllBefore done es = AllByRecursion (λ d. AllByRecursion (StandsBefore d.0) es) done

apart : (k l : List ℕ) → slice_cmp nat_cmp k l ≡ Less → bytes_eq l k ≡ false
apart k l less = sym (is_eq-slice_cmp l k) ∙ ap is_eq (nat_list_cmp_total.antisymm l k ∙ ap ordering_reverse less)

insert_entry-last : {V : Type 0} (done : List (List ℕ × V)) (k : List ℕ) (v : V)
    → AllByRecursion (λ d. slice_cmp nat_cmp d.0 k ≡ Less) done → insert_entry bytes_eq done k v ≡ done ++ (k, v) ∷ []
insert_entry-last [] k v h = refl
insert_entry-last (d ∷ done) k v h = rw (apart d.0 k h.0) (ap (λ es. d ∷ es) (insert_entry-last done k v h.1))

heads : {V : Type 0} (done : List (List ℕ × V)) (e : List ℕ × V) (es : List (List ℕ × V)) → AllBefore done (e ∷ es)
    → AllByRecursion (λ d. slice_cmp nat_cmp d.0 e.0 ≡ Less) done
heads [] e es h = tt
heads (d ∷ done) e es h = (h.0.0, heads done e es h.1)

tails : {V : Type 0} (done : List (List ℕ × V)) (e : List ℕ × V) (es : List (List ℕ × V)) → AllBefore done (e ∷ es)
    → AllByRecursion (StandsBefore e.0) es → AllBefore (done ++ e ∷ []) es
tails [] e es h first = (first, tt)
tails (d ∷ done) e es h first = (h.0.1, tails done e es h.1 first)

insert_all-appended : {V : Type 0} (es done : List (List ℕ × V)) → AllBefore done es → IsRising es
    → insert_all bytes_eq done es ≡ done ++ es
insert_all-appended [] done all rising = sym (append-nil done)
insert_all-appended (e ∷ es) done all rising =
    ap (λ table. insert_all bytes_eq table es) (insert_entry-last done e.0 e.1 (heads done e es all))
    ∙ insert_all-appended es (done ++ e ∷ []) (tails done e es all rising.0) rising.1
    ∙ append_assoc done (e ∷ []) es

-- names that rise are each new, so the map has the entries in order
pub insert_all-rising : {V : Type 0} (es : List (List ℕ × V)) → IsRising es → insert_all bytes_eq [] es ≡ es
insert_all-rising es rising = insert_all-appended es [] tt rising
