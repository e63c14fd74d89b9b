-- What `exports` answers, in the words of its keys and values: which key decides, and where a target stands.
use Rattle.std.specs.Prelude.{◌≡◌, ◌≢◌, ◌⊎◌, ℕ, true, false, List, [], ◌∷◌, ◌++◌, Option, Some, None, option_and_then}
use Rattle.std.specs.Option.{option_or}
use Rattle.serde_json.specs.Data.{
  Data,
  null,
  boolean,
  number,
  string,
  array,
  object,
  Items,
  no_items,
  item,
  Members,
  no_members,
  member,
}
use Rattle.serde_json.specs.Find.{get_member}
use Rattle.star_texts.specs.Star.{has_star, around_only_star}
use Rattle.package_exports.specs.Exported.{target, Fit, is_before, first_fit, by_fit, deciding, completed, exported}

-- An object has a member with this key and this value.
abbrev pub HasMember : List ℕ → Data → Members → Type 0
HasMember key d no_members = ⊥
HasMember key d (member k e ms) = ((key ≡ k) × (d ≡ e)) ⊎ HasMember key d ms

-- A key fits a subpath: it has an only `*`, and the subpath is the key with a rest that isn't empty in place of that.
pub record Fits (subpath : List ℕ) (f : Fit) : Type 0 where
  pub behind : List ℕ
  pub around : around_only_star f.key ≡ Some (f.before, behind)
  pub subpath_is : subpath ≡ f.before ++ (f.rest ++ behind)
  pub some : f.rest ≢ []

-- Which key with a `*` decides: it is one of `exports` and fits, and no key of `exports` that fits is before it. Where
-- none decides, none fits.
pub record KeyDecides : Type 0 where
  pub stands : (subpath : List ℕ) (ms : Members) (f : Fit) → first_fit subpath ms ≡ Some f → HasMember f.key f.value ms
  pub fits : (subpath : List ℕ) (ms : Members) (f : Fit) → first_fit subpath ms ≡ Some f → Fits subpath f
  pub first : (subpath : List ℕ) (ms : Members) (f g : Fit) → first_fit subpath ms ≡ Some f
      → HasMember g.key g.value ms → Fits subpath g → is_before g f ≡ false
  pub none : (subpath : List ℕ) (ms : Members) (g : Fit) → first_fit subpath ms ≡ None
      → HasMember g.key g.value ms → Fits subpath g → ⊥

-- A text stands in a value: it is the value, or it stands in a member of it, at any depth.
abbrev mutual
  pub StandsIn : List ℕ → Data → Type 0
  StandsIn text null = ⊥
  StandsIn text (boolean b) = ⊥
  StandsIn text (number n) = ⊥
  StandsIn text (string s) = text ≡ s
  StandsIn text (array ds) = StandsInItems text ds
  StandsIn text (object ms) = StandsInMembers text ms

  pub StandsInItems : List ℕ → Items → Type 0
  StandsInItems text no_items = ⊥
  StandsInItems text (item d ds) = StandsIn text d ⊎ StandsInItems text ds

  pub StandsInMembers : List ℕ → Members → Type 0
  StandsInMembers text no_members = ⊥
  StandsInMembers text (member key d ms) = StandsIn text d ⊎ StandsInMembers text ms

-- the first of conditions under which an object has a member with a target
abbrev pub under_first : List (List ℕ) → List (List ℕ) → Members → Option (List ℕ)
under_first all [] ms = None
under_first all (condition ∷ conditions) ms =
    option_or (option_and_then (target all) (get_member condition ms)) (under_first all conditions ms)

-- A target stands in the value that it is of. An object's is that of its member under the first condition, in the order
-- given, that has a target.
pub record TargetStands : Type 0 where
  pub stands : (conditions : List (List ℕ)) (d : Data) (text : List ℕ) → target conditions d ≡ Some text
      → StandsIn text d
  pub by_condition : (conditions : List (List ℕ)) (ms : Members) →
      target conditions (object ms) ≡ under_first conditions conditions ms

-- A subpath without `*` that is a key of `exports` is decided by that key, and any other subpath by the first key with
-- a `*` that fits.
pub record OwnKeyDecides : Type 0 where
  pub own : (exports : Members) (subpath : List ℕ) (d : Data) → has_star subpath ≡ false
      → get_member subpath exports ≡ Some d
      → deciding exports subpath ≡ Some (record { value = d; rest = None })
  pub other : (exports : Members) (subpath : List ℕ) → has_star subpath ≡ false → get_member subpath exports ≡ None
      → deciding exports subpath ≡ by_fit (first_fit subpath exports)
  pub starred : (exports : Members) (subpath : List ℕ) → has_star subpath ≡ true
      → deciding exports subpath ≡ by_fit (first_fit subpath exports)

-- A key decides a subpath as its own, where no `*` stands for anything, or as one that fits.
abbrev pub IsDecidedBy : List ℕ → List ℕ → Data → Option (List ℕ) → Type 0
IsDecidedBy subpath key value None = key ≡ subpath
IsDecidedBy subpath key value (Some rest) =
    (f : Fit) × (f.key ≡ key) × (f.value ≡ value) × (f.rest ≡ rest) × Fits subpath f

-- A file stands in `exports` under a key that decides: it is a text of that key's value, completed by what the key's
-- `*` stands for.
pub record IsExported (exports : Members) (subpath file : List ℕ) : Type 0 where
  pub key : List ℕ
  pub value : Data
  pub rest : Option (List ℕ)
  pub text : List ℕ
  pub has : HasMember key value exports
  pub decides : IsDecidedBy subpath key value rest
  pub stands : StandsIn text value
  pub file_is : file ≡ completed rest text

-- What `exports` answers stands in it, under the key that decides.
pub record ExportedStands : Type 0 where
  pub stands : (exports : Members) (subpath : List ℕ) (conditions : List (List ℕ)) (file : List ℕ)
      → exported exports subpath conditions ≡ Some file → IsExported exports subpath file
