-- The lines of imports: for each the compact text of a JSON object.
use Rattle.std.specs.Prelude.{ℕ, List, [], ◌∷◌, ◌++◌, codes, flat_map}
use Rattle.serde_json.specs.Data.{Data, boolean, number, string, object, no_members, member, unsigned}
use Rattle.serde_json.specs.Written.{compact_text}
use Rattle.es_imports.specs.declared.imports.Import.{Import}
use Rattle.es_imports.specs.declared.imports.ImportKind.{ImportKind}
use Rattle.es_imports.specs.declared.imports.ImportKind.TheVariants.{Static, Export, Dynamic, Require, ImportEquals}

-- the form by which something is imported, in a word
abbrev pub kind_name : ImportKind → List ℕ
kind_name Static = codes "Static"
kind_name Export = codes "Export"
kind_name Dynamic = codes "Dynamic"
kind_name Require = codes "Require"
kind_name ImportEquals = codes "ImportEquals"

-- an import: its form, how many bytes stand before its literal, what that means, and whether types alone are imported
abbrev pub import_value : Import → Data
import_value import = object
    (member (codes "kind") (string (kind_name import.kind))
    (member (codes "place") (number (unsigned import.place))
    (member (codes "specifier") (string import.specifier)
    (member (codes "type") (boolean import.is_type) no_members))))

-- the line of an import
unfoldable pub import_line : Import → List ℕ
import_line import = compact_text (import_value import) ++ 10 ∷ []

abbrev pub import_lines : List Import → List ℕ
import_lines imports = flat_map import_line imports
