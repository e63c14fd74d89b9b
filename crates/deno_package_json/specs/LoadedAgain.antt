-- A package that is written as JSON, and loaded from that again. A load gives back what it gave before, but for a `bin`
-- that was absent: it is written as null, and a `bin` that is null is there.
use Rattle.std.specs.Prelude.{◌≡◌, false, Option, None, Some, Ok, option_map, unwrap_or}
use Rattle.std.specs.Cmp.Lexicographic.{slice_cmp}
use Rattle.std.specs.List.Sorted.{IsStrictlySortedBy}
use Rattle.std.specs.Map.{keys_of}
use Rattle.std.specs.Ordering.{nat_cmp}
use Rattle.serde_json.specs.Data.{null}
use Rattle.serde_json.specs.Read.{read}
use Rattle.serde_json.specs.Written.{compact_text, has_float}
use Rattle.deno_package_json.specs.Exports.{has_condition}
use Rattle.deno_package_json.specs.Fields.{known_type}
use Rattle.deno_package_json.specs.Loading.{from_text, from_value}
use Rattle.deno_package_json.specs.Package.{Package, Table}
use Rattle.deno_package_json.specs.Value.{value_of}

-- the names of a table are in the order of their bytes, each once
abbrev pub IsOrdered : Table → Type 0
IsOrdered table = IsStrictlySortedBy (slice_cmp nat_cmp) (keys_of table)

-- a table that isn't there has no names out of order
abbrev pub IsOrderedIfThere : Option Table → Type 0
IsOrderedIfThere None = Unit {0}
IsOrderedIfThere (Some table) = IsOrdered table

-- the tables of a package, each in order
pub record HasOrderedTables (p : Package) : Type 0 where
  pub dependencies : IsOrderedIfThere p.dependencies
  pub dev_dependencies : IsOrderedIfThere p.dev_dependencies
  pub scripts : IsOrderedIfThere p.scripts

-- what is the case of each package that a load answers
pub record IsAsLoaded (p : Package) : Type 0 where
  -- the type is `module`, `commonjs` or `none`
  pub typ : known_type p.typ ≡ p.typ
  -- each key of the exports is a subpath
  pub subpaths : unwrap_or (option_map has_condition p.exports) false ≡ false
  pub tables : HasOrderedTables p
  -- no number is a float
  pub whole : has_float (value_of p) ≡ false

-- what a package is once it was written and loaded: an absent `bin` is null
abbrev pub loaded_again : Package → Package
loaded_again p = record p { bin = Some (unwrap_or p.bin null) }

-- the JSON of a loaded package is loaded as the package
abbrev pub LoadsAgain : Type 0
LoadsAgain = (p : Package) → IsAsLoaded p → from_value p.path (value_of p) ≡ Ok (loaded_again p)

-- so is the text that is written for that JSON, where it reads back. It does at up to 127 levels; `exports` that are an
-- object of conditions are loaded as those of the main entry, one level deeper than they were read, so a text of 127
-- levels can give a package whose own text doesn't read
abbrev pub TextLoadsAgain : Type 0
TextLoadsAgain = (p : Package) → IsAsLoaded p → read (compact_text (value_of p)) ≡ Some (value_of p)
    → from_text p.path (compact_text (value_of p)) ≡ Ok (loaded_again p)
