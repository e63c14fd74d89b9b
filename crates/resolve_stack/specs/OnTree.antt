-- What the order comes to on a tree, and which questions it puts, as plain functions of the tree: the laws by which a
-- reader checks the plans.
-- A `do` here is over what is told of rows: it goes on with what a row gives, and ends by the first that ends the
-- order.
use Rattle.std.specs.Prelude.{◌≡◌, if◌then◌else◌, ℕ, Bool, true, false, List, [], Option, Some, None, Result, Ok, Err}
use Rattle.serde_json.specs.Data.{Members}
use Rattle.sugar_path.specs.Path.{Path, clean, text_of}
use Rattle.tree_core.specs.Tree.{Files}
use Rattle.tree_core.specs.Asks.{widened}
use Rattle.tree_core.specs.Rows.{Going, end_of, or_refused}
use Rattle.tree_core.specs.Told.{Told, told, unasked, made, file_on, read_on}
use Rattle.tree_core.specs.Told as told_of
use Rattle.tree_core.specs.ToldRows.{◌>>=◌}
use Rattle.package_exports.specs.Exported.{exported}
use Rattle.pnp_core.specs.declared.manifest.PackageLocator.{PackageLocator}
use Rattle.pnp_core.specs.Manifest.{Contents}
use Rattle.pnp_core.specs.Owner.{owner}
use Rattle.pnp_core.specs.OnTree.{nearest_on, loaded_on}
use Rattle.swc_loader.specs.declared.resolution.FileName.{FileName}
use Rattle.swc_loader.specs.declared.resolution.Resolution.{Resolution}
use Rattle.swc_loader.specs.declared.resolution.Via.{Via}
use Rattle.swc_loader.specs.declared.located.Placed.{Placed}
use Rattle.swc_loader.specs.declared.located.Placed.TheVariants.{File, Ignored}
use Rattle.swc_loader.specs.BrowserRulesOnTree.{ruled_file_on}
use Rattle.swc_loader.specs.Candidates.{is_closed}
use Rattle.swc_loader.specs.Search.{package_file}
use Rattle.swc_loader.specs.Specifier.{is_bare}
use Rattle.swc_loader.specs.Spelling.{custom}
use Rattle.swc_loader.specs.LocatedOnTree.{located_on}
use Rattle.swc_loader.specs.NodeRows.{target_or_answer}
use Rattle.swc_loader.specs.NodeOnTree.{node_on, search_on, before_on, answer_on}
use Rattle.resolver_core.specs.declared.refusal.TsRefusal.{TsRefusal}
use Rattle.resolver_core.specs.declared.refusal.TsRefusal.TheVariants.{Inner}
use Rattle.resolver_core.specs.Mapping.{Mapping, mapped}
use Rattle.resolver_core.specs.MappingOnTree.{Tells, mapped_on}
use Rattle.lock_checks.specs.OnTree.{location_on}
use Rattle.resolve_stack.specs.declared.verdict.JoinRefusal.{JoinRefusal}
use Rattle.resolve_stack.specs.declared.verdict.JoinRefusal.TheVariants.{NotExported, NotFound}
use Rattle.resolve_stack.specs.declared.verdict.Verdict.{Verdict}
use Rattle.resolve_stack.specs.Exports.{export_key, exports_in_content, file_or_not_found, target_text}
use Rattle.resolve_stack.specs.Settings.{ProjectSettings, path_of}
use Rattle.resolve_stack.specs.Request.{Request, asked_for}
use Rattle.resolve_stack.specs.Rows.{of_node, bare_base, readable, identifier_of, bound_of, of_fault, folder_of}
use Rattle.resolve_stack.specs.Rows.{exported_file, contained, via_of, is_told_relative}
use Rattle.resolve_stack.specs.Order.{join}
use Rattle.resolve_stack.specs.Verdict.{verdict_of, verdict}

-- a row, as it is told of a tree
abbrev pub RowOn : Type 0 → Type 0
RowOn A = Told (Going A Resolution JoinRefusal)

-- a row that asks nothing and may refuse
abbrev pub decided_on : {A : Type 0} → Result A JoinRefusal → RowOn A
decided_on result = unasked (or_refused result)

-- a row by a search that may refuse
abbrev pub refuses_on : {A : Type 0} → Told (Result A JoinRefusal) → RowOn A
refuses_on search = made or_refused search

-- a row that ends the order by a search
abbrev pub ends_on : {A : Type 0} → Told (Result Resolution JoinRefusal) → RowOn A
ends_on search = made (λ result. Err result) search

-- the node rows of the whole request
abbrev pub node_rows_on : Files → ProjectSettings → Request → Told (Result Resolution JoinRefusal)
node_rows_on t project request =
    made (widened of_node) (node_on t project.node request.importer request.specifier)

abbrev pub or_node_rows_on : {A : Type 0} → Files → ProjectSettings → Request → Option A → RowOn A
or_node_rows_on t project request None = ends_on (node_rows_on t project request)
or_node_rows_on t project request (Some a) = unasked (Ok a)

-- the manifest in the nearest manifest file
abbrev pub manifest_in_on : Files → ProjectSettings → Request → Option Path → RowOn Contents
manifest_in_on t project request None = ends_on (node_rows_on t project request)
manifest_in_on t project request (Some file) = refuses_on (made (readable file) (loaded_on t file))

-- which of the places for a manifest is there, and then the bytes of the first that is
abbrev pub manifest_on : Files → ProjectSettings → Request → List ℕ → RowOn Contents
manifest_on t project request base =
    told_of.◌>>=◌ (nearest_on t (path_of project base)) (manifest_in_on t project request)

-- the owner of the importer
abbrev pub owner_on : Files → ProjectSettings → Request → Contents → List ℕ → RowOn PackageLocator
owner_on t project request manifest base =
    or_node_rows_on t project request (owner manifest (path_of project base))

-- a bare target goes on, and any other is searched as the node rows do
abbrev pub bare_target_on : Files → ProjectSettings → List ℕ → List ℕ → RowOn (List ℕ)
bare_target_on t project base target =
    if is_bare target
    then unasked (Ok target)
    else ends_on (made (widened of_node) (search_on t project.node base target))

-- the location of the bound package, or the first check that refuses the binding
abbrev pub checked_on : Files → ProjectSettings → Contents → PackageLocator → List ℕ → PackageLocator →
    Told (Result (List ℕ) JoinRefusal)
checked_on t project manifest asking name bound =
    made (widened (of_fault bound)) (location_on t project.lock manifest asking name bound)

-- the exports of the package at a location, if its package.json is a file
abbrev pub exports_if_there_on : Files → Path → Bool → Told (Result (Option Members) JoinRefusal)
exports_if_there_on t package_json true = made (exports_in_content package_json) (read_on t package_json)
exports_if_there_on t package_json false = unasked (Ok None)

-- whether its package.json is a file, and then its bytes
abbrev pub exports_on : Files → Path → Told (Result (Option Members) JoinRefusal)
exports_on t location =
    told_of.◌>>=◌ (file_on t (package_file location)) (exports_if_there_on t (package_file location))

-- the file that a text means by itself: a closed text whose path is a file
abbrev pub closed_file_on : Files → List ℕ → Told (Result (Option Path) JoinRefusal)
closed_file_on t text =
    if is_closed text
    then made (λ there. file_or_not_found text there) (file_on t (clean [] text))
    else unasked (Err (NotFound text))

-- the file of a target
abbrev pub target_file_on : Files → Path → List ℕ → Option (List ℕ) → Told (Result (Option Path) JoinRefusal)
target_file_on t location key None = unasked (Err (NotExported (text_of location) key))
target_file_on t location key (Some target) = closed_file_on t (target_text location target)

-- the file that exports mean by a key
abbrev pub file_by_exports_on : Files → List (List ℕ) → Path → List ℕ → Option Members →
    Told (Result (Option Path) JoinRefusal)
file_by_exports_on t conditions location key None = unasked (Ok None)
file_by_exports_on t conditions location key (Some exports) =
    target_file_on t location key (exported exports key conditions)

abbrev pub file_under_on : Files → Option (List (List ℕ)) → Path → List ℕ → Told (Result (Option Path) JoinRefusal)
file_under_on t None location key = unasked (Ok None)
file_under_on t (Some conditions) location key =
    exports_on t location >>= file_by_exports_on t conditions location key

-- the file that the exports at a location mean by a subpath
abbrev pub exported_on : Files → ProjectSettings → Path → Option (List ℕ) → Told (Result (Option Path) JoinRefusal)
exported_on t project location subpath = file_under_on t project.conditions location (export_key location subpath)

-- the file that exports mean, or else what is found at a location, by the rules for it
abbrev pub placed_on : Files → ProjectSettings → Path → Option (List ℕ) → Option Path → Told (Result Placed JoinRefusal)
placed_on t project folder subpath None = made (widened of_node) (located_on t project.node folder subpath)
placed_on t project folder subpath (Some f) = made (λ placed. Ok placed) (ruled_file_on t project.node f)

abbrev pub found_or_name : Placed → Going (Path × Bool) Resolution JoinRefusal
found_or_name (File f rewritten) = Ok (f, rewritten)
found_or_name (Ignored name) = Err (Ok (custom name))

-- the answer of a file that was found through a row
abbrev pub through_on : Files → ProjectSettings → Via → Path → Bool → Told (Result Resolution JoinRefusal)
through_on t project via f rewritten =
    made (λ answer. Ok answer) (answer_on t project.node (Some via) f (is_told_relative project f rewritten))

-- the rows of the order
abbrev pub rows_on : Files → ProjectSettings → Request → RowOn Resolution
rows_on t project request = do
  base ← or_node_rows_on t project request (bare_base request)
  manifest ← manifest_on t project request base
  owner ← owner_on t project request manifest base
  target ← made target_or_answer (before_on t project.node (path_of project base) request.specifier)
  named ← bare_target_on t project base target
  identifier ← decided_on (identifier_of named)
  locator ← decided_on (bound_of manifest owner (path_of project base) named identifier.0)
  location ← refuses_on (checked_on t project manifest owner identifier.0 locator)
  folder ← decided_on (folder_of location)
  exported ← refuses_on (exported_on t project folder identifier.1)
  placed ← refuses_on (placed_on t project folder identifier.1 exported)
  found ← unasked (found_or_name placed)
  file ← decided_on (contained folder found.0)
  refuses_on (through_on t project (via_of locator folder) file found.1)

-- the order's answer or refusal
abbrev pub join_on : Files → ProjectSettings → Request → Told (Result Resolution JoinRefusal)
join_on t project request = made end_of (rows_on t project request)

-- the order, on each tree
pub record JoinOnTree : Type 0 where
  pub tells : (t : Files) (project : ProjectSettings) (request : Request) →
      told t (join project request) ≡ join_on t project request

-- the file that exports mean by a subpath, on each tree
pub record ExportedOnTree : Type 0 where
  pub tells : (t : Files) (project : ProjectSettings) (location : Path) (subpath : Option (List ℕ)) →
      told t (exported_file project location subpath) ≡ exported_on t project location subpath

-- what the join tells by a base and a specifier
abbrev pub join_tells : Files → ProjectSettings → Tells JoinRefusal
join_tells t project base s = join_on t project (asked_for base s)

-- what an order tells behind a mapping
abbrev pub behind_mapping_on : {X : Type 0} → Option Mapping → Tells X → FileName → List ℕ →
    Told (Result Resolution (TsRefusal X))
behind_mapping_on None inner base s = made (widened Inner) (inner base s)
behind_mapping_on (Some mapping) inner base s = mapped_on inner (mapped mapping base s)

-- what the order of a project tells
abbrev pub project_on : Files → ProjectSettings → Request → Told (Result Resolution (TsRefusal JoinRefusal))
project_on t project request =
    behind_mapping_on project.mapping (join_tells t project) request.importer request.specifier

-- how a request ends on a tree
abbrev pub verdict_on : Files → ProjectSettings → Request → Told Verdict
verdict_on t project request = made verdict_of (project_on t project request)

-- the verdict, on each tree
pub record VerdictOnTree : Type 0 where
  pub tells : (t : Files) (project : ProjectSettings) (request : Request) →
      told t (verdict project request) ≡ verdict_on t project request
