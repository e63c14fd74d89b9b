-- A project of any size: packages p1, p2 and so on, each of which binds the next one.
use Rattle.std.specs.Prelude.{
  ℕ,
  ◌+◌,
  ◌<◌,
  nat_lt,
  ◌==◌,
  true,
  false,
  if◌then◌else◌,
  List,
  [],
  ◌∷◌,
  ◌++◌,
  codes,
  decimal,
  map,
  flat_map,
  None,
}
use Rattle.std.specs.List.{range_with_len}
use Rattle.std.specs.FinMap as finite
use Rattle.sugar_path.specs.Path.{path_in}
use Rattle.tree_core.specs.Tree.{Files}
use Rattle.tree_core.specs.Memory.{with_file}
use Rattle.swc_loader.specs.Settings.{settings_of}
use Rattle.swc_loader.specs.declared.resolution.FileName.TheVariants.{Real}
use Rattle.swc_loader.specs.declared.target.TargetEnv.TheVariants.{Node}
use Rattle.resolve_stack.specs.Settings.{ProjectSettings}
use Rattle.document_core.specs.declared.given.GivenRequest.{GivenRequest}

-- the numbers of a project's packages: 1 to its size
abbrev pub numbers : ℕ → List ℕ
numbers size = range_with_len 1 size

abbrev pub package_name : ℕ → List ℕ
package_name k = codes "p" ++ decimal k

-- a package and its reference, as a manifest lists what is bound
abbrev pub binding : ℕ → List ℕ
binding k = codes "[\"p" ++ decimal k ++ codes "\",\"npm:1.0.0\"]"

-- what a package binds: the next one, and the last package nothing
abbrev pub bindings : ℕ → ℕ → List ℕ
bindings size k = if nat_lt k size then binding (k + 1) else []

-- a package's row up to its location, behind another row
abbrev pub row_front : ℕ → List ℕ
row_front k = codes ",[\"p" ++ decimal k ++ codes "\",[[\"npm:1.0.0\","

-- its location
abbrev pub row_place : ℕ → List ℕ
row_place k = codes "{\"packageLocation\":\"./p/" ++ decimal k ++ codes "/\",\"packageDependencies\":["

-- the row of a package
abbrev pub package_row : ℕ → ℕ → List ℕ
package_row size k = row_front k ++ row_place k ++ bindings size k ++ codes "]}]]]"

-- the manifest up to the packages' rows: no roots, no fallback, no pattern, no exclusions, no pool, and the top level
-- binds p1
unfoldable pub manifest_front : List ℕ
manifest_front =
    codes "const RAW_RUNTIME_STATE =\n'{\"dependencyTreeRoots\":[],\"enableTopLevelFallback\":false,\"ignorePatternData\":null,\"fallbackExclusionList\":[],\"fallbackPool\":[],\"packageRegistryData\":[[null,[[null,{\"packageLocation\":\"./\",\"packageDependencies\":[[\"p1\",\"npm:1.0.0\"]]}]]]"

unfoldable pub manifest_end : List ℕ
manifest_end = codes "]}';\n"

-- the text of the manifest
abbrev pub manifest_text : ℕ → List ℕ
manifest_text size = manifest_front ++ flat_map (package_row size) (numbers size) ++ manifest_end

-- the file of a package
abbrev pub package_file : ℕ → List ℕ
package_file k = codes "/g/p/" ++ decimal k ++ codes "/index.js"

-- a file at a path, which is its canonical name too
abbrev pub with_text : Files → List ℕ → List ℕ → Files
with_text t path text = with_file t path (record { content = text; canonical = path })

-- a tree with the empty files of packages put in, in order
abbrev pub with_packages : Files → List ℕ → Files
with_packages t [] = t
with_packages t (k ∷ ks) = with_packages (with_text t (package_file k) []) ks

-- the files beside those of the packages: the manifest, and an empty one at the top level
unfoldable pub top_files : ℕ → Files
top_files size =
    with_text (with_text finite.empty (codes "/g/.pnp.cjs") (manifest_text size)) (codes "/g/a.js") []

-- the tree of the project's files
abbrev pub generated_tree : ℕ → Files
generated_tree size = with_packages (top_files size) (numbers size)

-- what asks for a package: the file of the one before it, and for the first the file at the top level
abbrev pub asking_file : ℕ → List ℕ
asking_file k = if k == 0 then codes "/g/a.js" else package_file k

abbrev pub package_request : ℕ → ℕ → GivenRequest
package_request from k = record { importer = Real (asking_file from); specifier = package_name k }

-- the requests: for each package from the file before it, and for p1 from the last one
abbrev pub generated_requests : ℕ → List GivenRequest
generated_requests size =
    map (λ k. package_request k (k + 1)) (range_with_len 0 size) ++ package_request size 1 ∷ []

-- the project: its working folder is /g, its target Node, and the other settings are the usual ones
unfoldable pub generated_settings : ProjectSettings
generated_settings = record {
  node = settings_of (path_in (codes "/g")) Node [] false true;
  mapping = None;
  lock = None;
  conditions = None;
}
