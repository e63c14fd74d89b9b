-- The entry that a package.json names, as bundlers read its fields `module`, `main` and `browser`.
use Rattle.std.specs.Prelude.{
  ℕ,
  Bool,
  true,
  false,
  not,
  ◌&&◌,
  ◌||◌,
  if◌then◌else◌,
  List,
  [],
  ◌∷◌,
  codes,
  nat_eq,
  bytes_eq,
  drop,
  Option,
  Some,
  None,
  option_and_then,
}
use Rattle.std.specs.Option.{option_or}
use Rattle.std.specs.List.{list_all, starts_with}
use Rattle.serde_json.specs.Data.{Data, null, boolean, number, string, array, object, Members, no_members, member}
use Rattle.serde_json.specs.Find.{get, as_str}
use Rattle.serde_json.specs.Written.{has_float}
use Rattle.json_reading.specs.Bytes.{json_of}
use Rattle.swc_loader.specs.declared.target.TargetEnv.{TargetEnv}
use Rattle.swc_loader.specs.declared.target.TargetEnv.TheVariants.{Browser, Node}
use Rattle.swc_loader.specs.declared.entry.PackageEntry.{PackageEntry}
use Rattle.swc_loader.specs.declared.entry.PackageEntry.TheVariants.{Malformed, Missing, At}
use Rattle.swc_loader.specs.Conventions.{Conventions}

abbrev pub is_object : Data → Bool
is_object null = false
is_object (boolean b) = false
is_object (number n) = false
is_object (string s) = false
is_object (array ds) = false
is_object (object ms) = true

-- a member that is missing, null or a text
abbrev pub is_text_or_nothing : Option Data → Bool
is_text_or_nothing None = true
is_text_or_nothing (Some null) = true
is_text_or_nothing (Some (boolean b)) = false
is_text_or_nothing (Some (number n)) = false
is_text_or_nothing (Some (string s)) = true
is_text_or_nothing (Some (array ds)) = false
is_text_or_nothing (Some (object ms)) = false

-- a value of a browser map: a text or a truth value
abbrev pub is_rule_value : Data → Bool
is_rule_value null = false
is_rule_value (boolean b) = true
is_rule_value (number n) = false
is_rule_value (string s) = true
is_rule_value (array ds) = false
is_rule_value (object ms) = false

abbrev pub are_rule_values : Members → Bool
are_rule_values no_members = true
are_rule_values (member k d ms) = is_rule_value d && are_rule_values ms

-- `browser` is missing, null, a text, or an object of texts and truth values
abbrev pub is_browser_field : Option Data → Bool
is_browser_field None = true
is_browser_field (Some null) = true
is_browser_field (Some (boolean b)) = false
is_browser_field (Some (number n)) = false
is_browser_field (Some (string s)) = true
is_browser_field (Some (array ds)) = false
is_browser_field (Some (object ms)) = are_rule_values ms

-- an object without floats, of which the fields that are read are of their kinds
abbrev pub is_strict : Conventions → Data → Bool
is_strict c d =
    not (has_float d) && list_all (λ field. is_text_or_nothing (get field d)) c.main_fields &&
    is_browser_field (get (codes "browser") d)

-- A package.json that can be read is an object, without floats and with fields of their kinds unless these don't count.
-- Every other one is malformed.
abbrev pub is_readable : Conventions → Data → Bool
is_readable c d = is_object d && (c.lenient_packages || is_strict c d)

-- the text of a field, where it has one
abbrev pub text_at : List ℕ → Data → Option (List ℕ)
text_at field d = option_and_then as_str (get field d)

-- a text, where it may be an entry: an empty one may not be one
abbrev pub if_entry : Conventions → Option (List ℕ) → Option (List ℕ)
if_entry c None = None
if_entry c (Some text) = if c.empty_entries || not (bytes_eq text []) then Some text else None

-- the entry text of the first of these fields that has one
abbrev pub first_text : Conventions → List (List ℕ) → Data → Option (List ℕ)
first_text c [] d = None
first_text c (field ∷ fields) d = option_or (if_entry c (text_at field d)) (first_text c fields d)

-- the entry text: for a browser a textual `browser` goes before the main fields
abbrev pub entry_text : Conventions → TargetEnv → Data → Option (List ℕ)
entry_text c Browser d = first_text c (codes "browser" ∷ c.main_fields) d
entry_text c Node d = first_text c c.main_fields d

abbrev pub named_by : Option (List ℕ) → PackageEntry
named_by None = Missing
named_by (Some text) = At text

abbrev pub if_readable : Conventions → Data → Option Data
if_readable c d = if is_readable c d then Some d else None

-- the byte order mark in front of a text
abbrev pub mark : List ℕ
mark = 239 ∷ 187 ∷ 191 ∷ []

-- the bytes of a package.json that are read: where the mark is passed over, those behind it
abbrev pub read_bytes : Conventions → List ℕ → List ℕ
read_bytes c bytes = if c.byte_order_mark && starts_with nat_eq bytes mark then drop 3 bytes else bytes

-- the package.json that bytes are: none where they are no JSON or are malformed, or where the file can't be read
abbrev pub package_in : Conventions → Option (List ℕ) → Option Data
package_in c content =
    option_and_then (if_readable c) (option_and_then (λ bytes. json_of (read_bytes c bytes)) content)

abbrev pub entry_in : Conventions → TargetEnv → Option Data → PackageEntry
entry_in c env None = Malformed
entry_in c env (Some d) = named_by (entry_text c env d)

-- the entry that the bytes of a package.json name
abbrev pub entry : Conventions → TargetEnv → Option (List ℕ) → PackageEntry
entry c env content = entry_in c env (package_in c content)
