-- The members of a JSON object, read one after the other and put into a map.
use Rattle.std.proofs.Common.{◌≡◌, ℕ, Less, List, [], ◌∷◌, Option, Some, None, nat_cmp, bytes_eq, refl, ap}
use Rattle.std.specs.Borrow.{Bor}
use Rattle.std.specs.Cmp.Lexicographic.{slice_cmp}
use Rattle.std.specs.List.{AllByRecursion}
use Rattle.std.specs.List.Sorted.{IsStrictlySortedBy}
use Rattle.std.specs.Prelude.{map, option_map, option_and_then, IfSome}
use Rattle.indexmap.specs.IndexMap.{insert_entry, insert_all}
use Rattle.serde_json.specs.Data.{Data}
use Rattle.json_reading.specs.Kinds.{NamesRise, listed}
use Rattle.json_reading.specs.Reading.{members_by}
use Rattle.json_reading.proofs.RisingNames.{StandsBefore, IsRising, insert_all-rising}

-- a borrowed name with its borrowed value
abbrev pub Entry : Type 0 → Type 0
Entry V = Bor (List ℕ) × Bor V

-- what is read so far, and what is read of the rest put into it
abbrev pub read_into : {A V : Type 0} → (Data → Option A) → (V → Data) → List (List ℕ × A) → List (Entry V)
    → Option (List (List ℕ × A))
read_into f g made es = option_map (insert_all bytes_eq made) (members_by f (listed g es))

pub read_into-member : {A V : Type 0} (f : Data → Option A) (g : V → Data) (made : List (List ℕ × A)) (e : Entry V)
    (es : List (Entry V)) (a : A) → f (g e.1.now) ≡ Some a
    → read_into f g made (e ∷ es) ≡ read_into f g (insert_entry bytes_eq made e.0.now a) es
read_into-member {A} f g made e es a reads = rw reads (by_rest (members_by f (listed g es)))
  where
    by_rest : (o : Option (List (List ℕ × A)))
        → option_map (insert_all bytes_eq made) (option_and_then (λ rest. Some ((e.0.now, a) ∷ rest)) o) ≡ option_map
        (insert_all bytes_eq (insert_entry bytes_eq made e.0.now a)) o
    by_rest None = refl
    by_rest (Some rest) = refl

pub read_into-none : {A V : Type 0} (f : Data → Option A) (g : V → Data) (made : List (List ℕ × A)) (e : Entry V)
    (es : List (Entry V)) → f (g e.1.now) ≡ None → read_into f g made (e ∷ es) ≡ None
read_into-none f g made e es reads = rw reads refl

StandsBefore-members_by : {A V : Type 0} (f : Data → Option A) (g : V → Data) (k : List ℕ) (es : List (Entry V))
    → AllByRecursion (λ l. slice_cmp nat_cmp k l ≡ Less) (map (λ m. m.0.now) es)
    → IfSome (members_by f (listed g es)) (λ read. AllByRecursion (StandsBefore k) read)
StandsBefore-members_by f g k [] h = tt
StandsBefore-members_by {A} f g k (e ∷ es) h =
    by_value (f (g e.1.now)) (members_by f (listed g es)) (StandsBefore-members_by f g k es h.1)
  where
    by_value : (o : Option A) (rest : Option (List (List ℕ × A)))
        → IfSome rest (λ read. AllByRecursion (StandsBefore k) read)
        → IfSome (option_and_then (λ a. option_and_then (λ read. Some ((e.0.now, a) ∷ read)) rest) o)
        (λ read. AllByRecursion (StandsBefore k) read)
    by_value None rest all = tt
    by_value (Some a) None all = tt
    by_value (Some a) (Some read) all = (h.0, all)

IsRising-members_by : {A V : Type 0} (f : Data → Option A) (g : V → Data) (es : List (Entry V)) → NamesRise es
    → IfSome (members_by f (listed g es)) IsRising
unfolding IsStrictlySortedBy
IsRising-members_by f g [] h = tt
IsRising-members_by {A} f g (e ∷ es) h = by_value (f (g e.1.now)) (members_by f (listed g es))
    (StandsBefore-members_by f g e.0.now es h.0) (IsRising-members_by f g es h.1)
  where
    by_value : (o : Option A) (rest : Option (List (List ℕ × A)))
        → IfSome rest (λ read. AllByRecursion (StandsBefore e.0.now) read) → IfSome rest IsRising
        → IfSome (option_and_then (λ a. option_and_then (λ read. Some ((e.0.now, a) ∷ read)) rest) o) IsRising
    by_value None rest first rising = tt
    by_value (Some a) None first rising = tt
    by_value (Some a) (Some read) first rising = (first, rising)

-- an object has each name once, so the map has the object's members in order
pub read_into-nil : {A V : Type 0} (f : Data → Option A) (g : V → Data) (es : List (Entry V)) → NamesRise es
    → read_into f g [] es ≡ members_by f (listed g es)
read_into-nil {A} f g es h = by_read (members_by f (listed g es)) (IsRising-members_by f g es h)
  where
    by_read : (o : Option (List (List ℕ × A))) → IfSome o IsRising → option_map (insert_all bytes_eq []) o ≡ o
    by_read None rising = refl
    by_read (Some read) rising = ap Some (insert_all-rising read rising)
