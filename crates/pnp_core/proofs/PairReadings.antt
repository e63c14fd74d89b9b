-- Pairs of a JSON array, read one after the other and put into a map.
use Rattle.std.proofs.Common.{
  ◌≡◌,
  ◌<◌,
  ◌+◌,
  ℕ,
  length,
  get_or,
  drop,
  List,
  [],
  ◌∷◌,
  map,
  Option,
  Some,
  None,
  bytes_eq,
  refl,
  ap,
}
use Rattle.std.proofs.lemmas.List.{drop_more}
use Rattle.std.specs.Prelude.{option_map, option_and_then, unwrap_or}
use Rattle.indexmap.specs.IndexMap.{insert_entry, insert_all}
use Rattle.serde_json.specs.Data.{Data}
use Rattle.serde_json.specs.View.{items_of}
use Rattle.json_reading.specs.Reading.{items_by}
use Rattle.pnp_core.specs.ManifestReading.{named}

-- what is read so far, and what is read of the rest put into it
abbrev pub read_pairs : {A V : Type 0} → (Data → Option (List ℕ × A)) → (V → Data) → List (List ℕ × A) → List V
    → Option (List (List ℕ × A))
read_pairs f g made vs = option_map (insert_all bytes_eq made) (items_by f (items_of (map g vs)))

pub read_pairs-member : {A V : Type 0} (f : Data → Option (List ℕ × A)) (g : V → Data) (made : List (List ℕ × A))
    (vs : List V) (i : ℕ) (v : V) (name : List ℕ) (a : A) → i < length vs → v ≡ get_or vs i v → f (g v) ≡ Some (name, a)
    → read_pairs f g made (drop i vs) ≡ read_pairs f g (insert_entry bytes_eq made name a) (drop (i + 1) vs)
read_pairs-member {A} f g made vs i v name a lt is reads =
    rw (drop_more vs i v lt, ← is, reads) (by_rest (items_by f (items_of (map g (drop (i + 1) vs)))))
  where
    by_rest : (o : Option (List (List ℕ × A)))
        → option_map (insert_all bytes_eq made) (option_and_then (λ rest. Some ((name, a) ∷ rest)) o) ≡ option_map
        (insert_all bytes_eq (insert_entry bytes_eq made name a)) o
    by_rest None = refl
    by_rest (Some rest) = refl

pub read_pairs-none : {A V : Type 0} (f : Data → Option (List ℕ × A)) (g : V → Data) (made : List (List ℕ × A))
    (vs : List V) (i : ℕ) (v : V) → i < length vs → v ≡ get_or vs i v → f (g v) ≡ None
    → read_pairs f g made (drop i vs) ≡ None
read_pairs-none f g made vs i v lt is reads = rw (drop_more vs i v lt, ← is, reads) refl

-- what is read of pairs whose name may be null
abbrev pub read_named : {A V : Type 0} → (Data → Option (Option (List ℕ) × A)) → (V → Data) → List (List ℕ × A) → List V
    → Option (List (List ℕ × A))
read_named f g made vs =
    option_map (λ rest. insert_all bytes_eq made (map named rest)) (items_by f (items_of (map g vs)))

-- a pair that is read is put into what is read so far
pub read_named-first : {A V : Type 0} (f : Data → Option (Option (List ℕ) × A)) (g : V → Data)
    (made : List (List ℕ × A)) (v : V) (vs : List V) (row : List ℕ × A)
    → option_map named (f (g v)) ≡ Some row → read_named f g made (v ∷ vs) ≡ read_named f g
    (insert_entry bytes_eq made row.0 row.1) vs
read_named-first {A} f g made v vs row reads = by_row (f (g v)) reads (items_by f (items_of (map g vs)))
  where
    by_row : (o : Option (Option (List ℕ) × A)) → option_map named o ≡ Some row
        → (r : Option (List (Option (List ℕ) × A)))
        → option_map (λ rest. insert_all bytes_eq made (map named rest))
        (option_and_then (λ p. option_and_then (λ rest. Some (p ∷ rest)) r) o) ≡ option_map
        (λ rest. insert_all bytes_eq (insert_entry bytes_eq made row.0 row.1) (map named rest)) r
    by_row None e r = absurd (cc)
    by_row (Some p) e None = refl
    by_row (Some p) e (Some rest) = let same : named p ≡ row = cc in
        ap (λ q. Some (insert_all bytes_eq (insert_entry bytes_eq made q.0 q.1) (map named rest))) same

pub read_named-refused : {A V : Type 0} (f : Data → Option (Option (List ℕ) × A)) (g : V → Data)
    (made : List (List ℕ × A)) (v : V) (vs : List V)
    → option_map named (f (g v)) ≡ None → read_named f g made (v ∷ vs) ≡ None
read_named-refused {A} f g made v vs reads = by_row (f (g v)) reads
  where
    by_row : (o : Option (Option (List ℕ) × A)) → option_map named o ≡ None
        → option_map (λ rest. insert_all bytes_eq made (map named rest))
        (option_and_then (λ p. option_and_then (λ rest. Some (p ∷ rest)) (items_by f (items_of (map g vs)))) o) ≡ None
    by_row None e = refl
    by_row (Some p) e = absurd (cc)

pub read_named-member : {A V : Type 0} (f : Data → Option (Option (List ℕ) × A)) (g : V → Data)
    (made : List (List ℕ × A)) (vs : List V) (i : ℕ) (v : V) (name : Option (List ℕ)) (a : A) → i < length vs
    → v ≡ get_or vs i v → f (g v) ≡ Some (name, a)
    → read_named f g made (drop i vs) ≡ read_named f g (insert_entry bytes_eq made (unwrap_or name []) a)
    (drop (i + 1) vs)
read_named-member f g made vs i v name a lt is reads =
    rw (drop_more vs i v lt, ← is) (read_named-first f g made v (drop (i + 1) vs) (named (name, a))
    (ap (option_map named) reads))

pub read_named-none : {A V : Type 0} (f : Data → Option (Option (List ℕ) × A)) (g : V → Data) (made : List (List ℕ × A))
    (vs : List V) (i : ℕ) (v : V) → i < length vs → v ≡ get_or vs i v → f (g v) ≡ None
    → read_named f g made (drop i vs) ≡ None
read_named-none f g made vs i v lt is reads =
    rw (drop_more vs i v lt, ← is) (read_named-refused f g made v (drop (i + 1) vs) (ap (option_map named) reads))
