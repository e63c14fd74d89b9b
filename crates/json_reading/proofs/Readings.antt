-- Lists of JSON values, read one member after the other.
use Rattle.std.proofs.Common.{
  ◌≡◌,
  ◌≢◌,
  ◌<◌,
  ◌+◌,
  ℕ,
  List,
  [],
  ◌∷◌,
  ◌++◌,
  length,
  get_or,
  drop,
  refl,
  sym,
  ap,
  append_assoc,
  Option,
  Some,
  None,
}
use Rattle.std.specs.Prelude.{map, option_map, option_and_then, Result, Ok, Err, IsErrAnd}
use Rattle.json_reading.specs.declared.error.FromJsonError.{FromJsonError}
use Rattle.json_reading.specs.declared.error.FromJsonError.TheVariants.{OtherKind, NoMemory}
use Rattle.std.proofs.lemmas.List.{drop_more}
use Rattle.serde_json.specs.Data.{Data}
use Rattle.serde_json.specs.View.{items_of}
use Rattle.sugar_path.specs.Front.{◌>>=◌}
use Rattle.json_reading.specs.Reading.{ReadsAs, two_by, items_by}

-- a list of other than two members is no pair
pub two_by-other : {A B V : Type 0} (f : Data → Option A) (g : Data → Option B) (h : V → Data) (vs : List V)
    → length vs ≢ 2 → two_by f g (items_of (map h vs)) ≡ None
two_by-other f g h [] other = refl
two_by-other f g h (a ∷ []) other = refl
two_by-other f g h (a ∷ b ∷ []) other = absurd (other refl)
two_by-other f g h (a ∷ b ∷ c ∷ vs) other = refl

-- what is read so far, and behind it what is read of the rest
abbrev pub read_on : {A V : Type 0} → (Data → Option A) → (V → Data) → List A → List V → Option (List A)
read_on f g made vs = option_map (λ rest. made ++ rest) (items_by f (items_of (map g vs)))

pub read_on-nil : {A V : Type 0} (f : Data → Option A) (g : V → Data) (vs : List V)
    → read_on f g [] vs ≡ items_by f (items_of (map g vs))
read_on-nil {A} f g vs = by_read (items_by f (items_of (map g vs)))
  where
    by_read : (o : Option (List A)) → option_map (λ rest. [] ++ rest) o ≡ o
    by_read None = refl
    by_read (Some xs) = refl

pub read_on-member : {A V : Type 0} (f : Data → Option A) (g : V → Data) (made : List A) (vs : List V) (i : ℕ) (v : V)
    (a : A) → i < length vs → v ≡ get_or vs i v → f (g v) ≡ Some a
    → read_on f g made (drop i vs) ≡ read_on f g (made ++ a ∷ []) (drop (i + 1) vs)
read_on-member {A} f g made vs i v a lt is reads =
    rw (drop_more vs i v lt, ← is, reads) (by_read (items_by f (items_of (map g (drop (i + 1) vs)))))
  where
    by_read : (o : Option (List A)) → option_map (λ rest. made ++ rest) (option_and_then (λ rest. Some (a ∷ rest)) o) ≡
        option_map (λ rest. (made ++ a ∷ []) ++ rest) o
    by_read None = refl
    by_read (Some xs) = ap Some (sym (append_assoc made (a ∷ []) xs))

pub read_on-none : {A V : Type 0} (f : Data → Option A) (g : V → Data) (made : List A) (vs : List V) (i : ℕ) (v : V)
    → i < length vs → v ≡ get_or vs i v → f (g v) ≡ None → read_on f g made (drop i vs) ≡ None
read_on-none f g made vs i v lt is reads = rw (drop_more vs i v lt, ← is, reads) refl

-- a field that isn't read ends the reading
pub reads_stops : {A B : Type 0} (e : FromJsonError) (k : A → Option B) (r : Result B FromJsonError) (o : Option A)
    → IsErrAnd r (λ x. x ≡ e) → ReadsAs {A = A} (Err e) o → ReadsAs r (o >>= k)
reads_stops e k (Ok b) o is h = elim is [ ]
reads_stops {A} {B} e k (Err x) o is h = rw is (by_error e h)
  where
    by_error : (e : FromJsonError) → ReadsAs {A = A} (Err e) o → ReadsAs {A = B} (Err e) (o >>= k)
    by_error OtherKind h = rw h refl
    by_error NoMemory h = tt

-- a field that is read leads to the rest
pub reads_then : {A B : Type 0} {a : A} (k : A → Option B) (r : Result B FromJsonError) (o : Option A) → o ≡ Some a
    → ReadsAs r (k a) → ReadsAs r (o >>= k)
reads_then k r o read rest = rw read rest

pub some_then : {A B : Type 0} {a : A} {b : B} (k : A → Option B) (o : Option A) → o ≡ Some a → k a ≡ Some b
    → (o >>= k) ≡ Some b
some_then k o read rest = rw read rest
