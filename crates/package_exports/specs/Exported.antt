-- Which file of a package a subpath means by the field `exports` of Node's packages. Conditions are taken in the order
-- in which they are given, and `default` counts only where it is given; Node takes an object's members in the object's
-- order, and always counts `default`.
use Rattle.std.specs.Prelude.{
  ℕ,
  ◌==◌,
  Bool,
  if◌then◌else◌,
  nat_eq,
  nat_lt,
  bytes_eq,
  length,
  List,
  [],
  ◌∷◌,
  codes,
  Option,
  Some,
  None,
  option_map,
  option_and_then,
}
use Rattle.std.specs.List.{starts_with}
use Rattle.std.specs.Option.{option_or}
use Rattle.serde_json.specs.Data.{
  Data,
  null,
  boolean,
  number,
  string,
  array,
  object,
  Items,
  no_items,
  item,
  Members,
  no_members,
  member,
}
use Rattle.serde_json.specs.Find.{get_member}
use Rattle.star_texts.specs.Star.{has_star, around_only_star, rest_between, replaced}

-- ---- the target of a value

-- Only a text that begins with `./` names a file of the package.
abbrev pub file_target : List ℕ → Option (List ℕ)
file_target text = if starts_with nat_eq text (codes "./") then Some text else None

-- the target under a condition, among those of an object's members
abbrev pub under : List ℕ → List (List ℕ × Option (List ℕ)) → Option (List ℕ)
under condition [] = None
under condition (t ∷ ts) = if bytes_eq condition t.0 then t.1 else under condition ts

-- the target under the first condition that has one
abbrev pub by_conditions : List (List ℕ) → List (List ℕ × Option (List ℕ)) → Option (List ℕ)
by_conditions [] ts = None
by_conditions (condition ∷ conditions) ts = option_or (under condition ts) (by_conditions conditions ts)

-- A text is its own target, a list has that of its first member that has one, and an object that under the first
-- condition, in the project's order, that has one. Any other value has none.
abbrev mutual
  pub target : List (List ℕ) → Data → Option (List ℕ)
  target conditions null = None
  target conditions (boolean b) = None
  target conditions (number n) = None
  target conditions (string text) = file_target text
  target conditions (array ds) = first_target conditions ds
  target conditions (object ms) = by_conditions conditions (targets conditions ms)

  pub first_target : List (List ℕ) → Items → Option (List ℕ)
  first_target conditions no_items = None
  first_target conditions (item d ds) = option_or (target conditions d) (first_target conditions ds)

  -- the target of each member
  pub targets : List (List ℕ) → Members → List (List ℕ × Option (List ℕ))
  targets conditions no_members = []
  targets conditions (member key d ms) = (key, target conditions d) ∷ targets conditions ms

-- ---- the key that decides

-- A key with an only `*` that fits a subpath: what stands before the `*`, and what the `*` stands for.
pub record Fit : Type 0 where
  pub key : List ℕ
  pub before : List ℕ
  pub rest : List ℕ
  pub value : Data

-- A `*` stands for something.
abbrev pub some_rest : List ℕ → Option (List ℕ)
some_rest [] = None
some_rest (c ∷ cs) = Some (c ∷ cs)

abbrev pub fit_around : List ℕ → List ℕ → Data → List ℕ × List ℕ → Option Fit
fit_around subpath key value parts =
    option_map (λ rest. record { key = key; before = parts.0; rest = rest; value = value })
    (option_and_then some_rest (rest_between subpath parts.0 parts.1))

-- how a key of `exports` fits a subpath
abbrev pub fit_of : List ℕ → List ℕ → Data → Option Fit
fit_of subpath key value = option_and_then (fit_around subpath key value) (around_only_star key)

-- Of two keys that fit, the one with the longer text before its `*` is before the other, and of two with texts of one
-- length there the longer key.
abbrev pub is_before : Fit → Fit → Bool
is_before f g =
    if length f.before == length g.before then nat_lt (length g.key) (length f.key)
    else nat_lt (length g.before) (length f.before)

abbrev pub first_of : Option Fit → Option Fit → Option Fit
first_of None other = other
first_of (Some f) None = Some f
first_of (Some f) (Some g) = if is_before g f then Some g else Some f

-- of the keys that fit, the one that no other is before
abbrev pub first_fit : List ℕ → Members → Option Fit
first_fit subpath no_members = None
first_fit subpath (member key d ms) = first_of (fit_of subpath key d) (first_fit subpath ms)

-- what decides a subpath: a value of `exports`, and what the `*` of its key stands for, where it has one
pub record Decided : Type 0 where
  pub value : Data
  pub rest : Option (List ℕ)

abbrev pub by_own_key : Option Data → Option Decided
by_own_key found = option_map (λ d. record { value = d; rest = None }) found

abbrev pub by_fit : Option Fit → Option Decided
by_fit found = option_map (λ f. record { value = f.value; rest = Some f.rest }) found

-- A subpath without `*` is decided by its own key where `exports` has that; else the key with a `*` decides that fits
-- and that no other is before.
abbrev pub deciding : Members → List ℕ → Option Decided
deciding exports subpath =
    if has_star subpath then by_fit (first_fit subpath exports)
    else option_or (by_own_key (get_member subpath exports)) (by_fit (first_fit subpath exports))

-- ---- the file

-- a target with what a `*` stands for in place of each of its own
abbrev pub completed : Option (List ℕ) → List ℕ → List ℕ
completed None text = text
completed (Some rest) text = replaced text rest

-- the target of the value that decides
abbrev pub target_of : List (List ℕ) → Decided → Option (List ℕ)
target_of conditions d = option_map (completed d.rest) (target conditions d.value)

-- which file a subpath means under conditions
abbrev pub exported : Members → List ℕ → List (List ℕ) → Option (List ℕ)
exported exports subpath conditions = option_and_then (target_of conditions) (deciding exports subpath)
