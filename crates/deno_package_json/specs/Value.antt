-- A package as the JSON that its file could hold.
use Rattle.std.specs.Prelude.{ℕ, List, [], ◌∷◌, Option, codes, fold, map, option_map, unwrap_or}
use Rattle.serde_json.specs.Data.{Data, null, string, array, object, Members, no_members, put}
use Rattle.serde_json.specs.View.{items_of}
use Rattle.deno_package_json.specs.Package.{Package, Table}

-- fields by name
abbrev pub Fields : Type 0
Fields = List (List ℕ × Data)

-- fields put into an object
abbrev pub with_fields : Members → Fields → Members
with_fields ms fields = fold (λ found field. put field.0 field.1 found) ms fields

-- what isn't there is null
abbrev pub or_null : {A : Type 0} → (A → Data) → Option A → Data
or_null f o = unwrap_or (option_map f o) null

abbrev pub table_value : Table → Data
table_value table = object (fold (λ found entry. put entry.0 (string entry.1) found) no_members table)

abbrev pub texts_value : List (List ℕ) → Data
texts_value texts = array (items_of (map string texts))

-- the fields that are kept as JSON
abbrev pub json_fields : Package → Fields
json_fields p =
    (codes "exports", or_null object p.exports)
    ∷ (codes "imports", or_null object p.imports)
    ∷ (codes "bin", unwrap_or p.bin null)
    ∷ []

-- the fields that are texts
abbrev pub text_fields : Package → Fields
text_fields p =
    (codes "main", or_null string p.main)
    ∷ (codes "module", or_null string p.module)
    ∷ (codes "name", or_null string p.name)
    ∷ (codes "version", or_null string p.version)
    ∷ (codes "type", string p.typ)
    ∷ (codes "types", or_null string p.types)
    ∷ []

-- the fields that are tables and lists of texts
abbrev pub table_fields : Package → Fields
table_fields p =
    (codes "dependencies", or_null table_value p.dependencies)
    ∷ (codes "devDependencies", or_null table_value p.dev_dependencies)
    ∷ (codes "scripts", or_null table_value p.scripts)
    ∷ (codes "workspaces", or_null texts_value p.workspaces)
    ∷ []

-- the thirteen fields; the path is none of them
abbrev pub value_of : Package → Data
value_of p =
    object (with_fields (with_fields (with_fields no_members (json_fields p)) (text_fields p)) (table_fields p))
