-- The fields of a package.json, each as its value in the JSON says it. A value that isn't an object has no fields.
use Rattle.std.specs.Prelude.{
  ◌||◌,
  ℕ,
  List,
  [],
  ◌∷◌,
  Option,
  Some,
  None,
  codes,
  decimal,
  bytes_eq,
  if◌then◌else◌,
  option_map,
  option_and_then,
  unwrap_or,
}
use Rattle.std.specs.Fmt.{signed_decimal}
use Rattle.std.specs.Option.{option_or}
use Rattle.serde_json.specs.Data.{
  Num,
  unsigned,
  negative,
  float,
  Data,
  null,
  boolean,
  number,
  string,
  array,
  object,
  Items,
  no_items,
  item,
  Members,
  no_members,
  member,
}
use Rattle.serde_json.specs.Find.{get, as_str, as_array, as_object}
use Rattle.deno_package_json.specs.Package.{Table}

-- a whole number in decimal
abbrev pub whole_number : Num → Option (List ℕ)
whole_number (unsigned n) = Some (decimal n)
whole_number (negative z) = Some (signed_decimal z)
whole_number (float x) = None

-- what counts as text: a text, or a whole number
abbrev pub text_of : Data → Option (List ℕ)
text_of null = None
text_of (boolean b) = None
text_of (number n) = whole_number n
text_of (string s) = Some s
text_of (array ds) = None
text_of (object ms) = None

-- the text of a field; a value of another kind counts as absent
abbrev pub text_under : List ℕ → Data → Option (List ℕ)
text_under name d = option_and_then text_of (get name d)

-- what comes before more, where there is something
abbrev pub before : {A : Type 0} → Option A → List A → List A
before None rest = rest
before (Some x) rest = x ∷ rest

-- the values that count as text, by their names
abbrev pub table_of : Members → Table
table_of no_members = []
table_of (member name d ms) = before (option_map (λ text. (name, text)) (text_of d)) (table_of ms)

abbrev pub table_under : List ℕ → Data → Option Table
table_under name d = option_map table_of (option_and_then as_object (get name d))

-- the members that count as text
abbrev pub texts_of : Items → List (List ℕ)
texts_of no_items = []
texts_of (item d ds) = before (text_of d) (texts_of ds)

abbrev pub texts_under : List ℕ → Data → Option (List (List ℕ))
texts_under name d = option_map texts_of (option_and_then as_array (get name d))

-- `module` or `commonjs`, and for every other text `none`
abbrev pub known_type : List ℕ → List ℕ
known_type text = if bytes_eq text (codes "module") || bytes_eq text (codes "commonjs") then text else codes "none"

-- the type of a package's modules, which is `none` where `type` is no text
abbrev pub typ_in : Data → List ℕ
typ_in d = unwrap_or (option_map known_type (option_and_then as_str (get (codes "type") d))) (codes "none")

-- `typings` where that field is there, of whatever kind, else `types`
abbrev pub types_in : Data → Option (List ℕ)
types_in d = option_and_then text_of (option_or (get (codes "typings") d) (get (codes "types") d))

abbrev pub imports_in : Data → Option Members
imports_in d = option_and_then as_object (get (codes "imports") d)
