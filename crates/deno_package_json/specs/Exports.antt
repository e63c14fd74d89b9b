-- The exports of a package (the field `exports` of Node's packages): an object whose keys are subpaths, each of which
-- begins with `.`.
use Rattle.std.specs.Prelude.{
  ◌==◌,
  ◌||◌,
  ◌&&◌,
  ℕ,
  Bool,
  false,
  not,
  List,
  [],
  ◌∷◌,
  Option,
  Some,
  None,
  codes,
  option_and_then,
  option_map,
  unwrap_or,
  if◌then◌else◌,
}
use Rattle.serde_json.specs.Data.{Data, null, boolean, number, string, array, object, Members, no_members, member}
use Rattle.serde_json.specs.Find.{get, as_object}

abbrev pub is_subpath : List ℕ → Bool
is_subpath [] = false
is_subpath (c ∷ rest) = c == 46

-- some key begins with `.`
abbrev pub has_subpath : Members → Bool
has_subpath no_members = false
has_subpath (member key d ms) = is_subpath key || has_subpath ms

-- some key doesn't begin with `.`, so it is a condition
abbrev pub has_condition : Members → Bool
has_condition no_members = false
has_condition (member key d ms) = not (is_subpath key) || has_condition ms

-- a value as the exports of the package's main entry
abbrev pub main_entry : Data → Members
main_entry d = member (codes ".") d no_members

-- a text, a list and an object of conditions are the main entry's; an object of subpaths, and one without keys, stays;
-- others are no exports
abbrev pub exports_of : Data → Option Members
exports_of null = None
exports_of (boolean b) = None
exports_of (number n) = None
exports_of (string s) = Some (main_entry (string s))
exports_of (array ds) = Some (main_entry (array ds))
exports_of (object ms) = Some (if has_condition ms then main_entry (object ms) else ms)

abbrev pub exports_in : Data → Option Members
exports_in d = option_and_then exports_of (get (codes "exports") d)

-- `exports` is an object with keys of both kinds
abbrev pub has_mixed_exports : Data → Bool
has_mixed_exports d = unwrap_or (option_map (λ ms. has_subpath ms && has_condition ms)
    (option_and_then as_object (get (codes "exports") d))) false
