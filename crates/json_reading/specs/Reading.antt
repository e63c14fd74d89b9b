-- What a JSON value (RFC 8259) reads as: a reader takes a value to what it says, and to nothing where the value is of
-- another kind. A `do` here is over readings: it goes on with what a reading gives, and gives nothing where one of them
-- doesn't read.
use Rattle.std.specs.Prelude.{◌≡◌, ℕ, List, [], ◌∷◌, Option, Some, None, Result, Ok, Err, option_map}
pub use Rattle.sugar_path.specs.Front.{◌>>=◌}
use Rattle.serde_json.specs.Data.{
  Data,
  null,
  boolean,
  number,
  string,
  array,
  object,
  Items,
  no_items,
  item,
  Members,
  no_members,
  member,
}
use Rattle.serde_json.specs.Find.{get, as_array, as_object}
use Rattle.json_reading.specs.declared.error.FromJsonError.{FromJsonError}
use Rattle.json_reading.specs.declared.error.FromJsonError.TheVariants.{OtherKind, NoMemory}

-- a call answers what is read, and refuses where nothing is
abbrev pub ReadsAs : {A : Type 0} → Result A FromJsonError → Option A → Type 0
ReadsAs (Ok a) o = o ≡ Some a
ReadsAs (Err OtherKind) o = o ≡ None
ReadsAs (Err NoMemory) o = Unit {0}

-- each item of a list, read in order
abbrev pub items_by : {A : Type 0} → (Data → Option A) → Items → Option (List A)
items_by f no_items = Some []
items_by f (item d ds) = do
  a ← f d
  rest ← items_by f ds
  Some (a ∷ rest)

-- a list, each of its items read
abbrev pub list_by : {A : Type 0} → (Data → Option A) → Data → Option (List A)
list_by f d = as_array d >>= items_by f

-- exactly two items, read
abbrev pub two_by : {A B : Type 0} → (Data → Option A) → (Data → Option B) → Items → Option (A × B)
two_by f g no_items = None
two_by f g (item a no_items) = None
two_by f g (item a (item b no_items)) = do
  first ← f a
  second ← g b
  Some (first, second)
two_by f g (item a (item b (item c rest))) = None

-- a list of exactly two items, read
abbrev pub pair_by : {A B : Type 0} → (Data → Option A) → (Data → Option B) → Data → Option (A × B)
pair_by f g d = as_array d >>= two_by f g

-- each member of an object, read in order under its name
abbrev pub members_by : {A : Type 0} → (Data → Option A) → Members → Option (List (List ℕ × A))
members_by f no_members = Some []
members_by f (member name d ms) = do
  a ← f d
  rest ← members_by f ms
  Some ((name, a) ∷ rest)

-- the members of an object in the byte order of their names, each with what it reads as
abbrev pub object_by : {A : Type 0} → (Data → Option A) → Data → Option (List (List ℕ × A))
object_by f d = as_object d >>= members_by f

-- a value that may be null
abbrev pub nullable_by : {A : Type 0} → (Data → Option A) → Data → Option (Option A)
nullable_by f null = Some None
nullable_by f (boolean b) = option_map Some (f (boolean b))
nullable_by f (number n) = option_map Some (f (number n))
nullable_by f (string s) = option_map Some (f (string s))
nullable_by f (array ds) = option_map Some (f (array ds))
nullable_by f (object ms) = option_map Some (f (object ms))

-- the member of an object that has to be there
abbrev pub field_by : {A : Type 0} → List ℕ → (Data → Option A) → Data → Option A
field_by key f d = get key d >>= f

-- a value that may be absent, and what stands for it then
abbrev pub present_or : {A : Type 0} → A → (Data → Option A) → Option Data → Option A
present_or absent f None = Some absent
present_or absent f (Some d) = f d

-- the member of an object, and what stands for it where it is absent. A value that isn't an object has no member
abbrev pub field_or : {A : Type 0} → List ℕ → A → (Data → Option A) → Data → Option A
field_or key absent f d = present_or absent f (get key d)

-- the member of an object, where it has one
abbrev pub optional_by : {A : Type 0} → List ℕ → (Data → Option A) → Data → Option (Option A)
optional_by key f d = field_or key None (λ v. option_map Some (f v)) d
