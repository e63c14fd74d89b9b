-- What a package.json says, field by field.
use Rattle.std.specs.Prelude.{ℕ, List, Option, None, option_map, codes}
use Rattle.serde_json.specs.Data.{Data, Members}
use Rattle.serde_json.specs.View.{view, members_view}
use Rattle.deno_package_json.specs.declared.package_json.PackageJson.{PackageJson}

-- texts by name, in the map's order
abbrev pub Table : Type 0
Table = List (List ℕ × List ℕ)

-- a package.json: the path of its file, and its fields
pub record Package : Type 0 where
  pub path : List ℕ
  pub exports : Option Members
  pub imports : Option Members
  pub bin : Option Data
  pub main : Option (List ℕ)
  pub «module» : Option (List ℕ)
  pub name : Option (List ℕ)
  pub version : Option (List ℕ)
  pub typ : List ℕ
  pub types : Option (List ℕ)
  pub dependencies : Option Table
  pub dev_dependencies : Option Table
  pub scripts : Option Table
  pub workspaces : Option (List (List ℕ))

-- a value of the code, as what it says
abbrev pub package_of : PackageJson → Package
package_of p = record {
  path = p.path;
  exports = option_map (λ members. members_view members.entries) p.exports;
  imports = option_map (λ members. members_view members.entries) p.imports;
  bin = option_map view p.bin;
  main = p.main;
  «module» = p.module;
  name = p.name;
  version = p.version;
  typ = p.typ;
  types = p.types;
  dependencies = option_map (λ table. table.entries) p.dependencies;
  dev_dependencies = option_map (λ table. table.entries) p.dev_dependencies;
  scripts = option_map (λ table. table.entries) p.scripts;
  workspaces = p.workspaces;
}

-- the package of a file that says nothing
abbrev pub empty_package : List ℕ → Package
empty_package path = record {
  path = path;
  exports = None;
  imports = None;
  bin = None;
  main = None;
  «module» = None;
  name = None;
  version = None;
  typ = codes "none";
  types = None;
  dependencies = None;
  dev_dependencies = None;
  scripts = None;
  workspaces = None;
}
