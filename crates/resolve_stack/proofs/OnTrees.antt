-- The plans of the order tell of a tree what the laws say.
use Rattle.std.proofs.Common.{◌≡◌, ℕ, Bool, true, false, cond, List, [], Option, Some, None, Ok, Err, refl, ap, ◌∙◌}
use Rattle.serde_json.specs.Data.{Members}
use Rattle.sugar_path.specs.Path.{Path, clean, text_of}
use Rattle.tree_core.specs.Tree.{Files}
use Rattle.tree_core.specs.Plan.{Done, answer, file, read}
use Rattle.tree_core.specs.Asks.{raised, widened}
use Rattle.tree_core.specs.Rows.{Row, end_of, or_refused, ends_by, never_refuses}
use Rattle.tree_core.specs.Told.{Told, told, unasked, made, file_on, read_on}
use Rattle.tree_core.proofs.Tellings.{told-done, told-by, told-refusing, told-goes_on, told-made, told-raised}
use Rattle.tree_core.proofs.Tellings.{told-order, told-refuses_by, told-ends_by, told-never_refuses, told-file}
use Rattle.tree_core.proofs.Tellings.{told-read, told-if}
use Rattle.pnp_core.specs.Nearest.{nearest}
use Rattle.pnp_core.specs.Loading.{loading}
use Rattle.pnp_core.specs.OnTree.{loaded_on}
use Rattle.pnp_core.proofs.OnTrees.{nearest_on_tree, loaded_on_tree}
use Rattle.pnp_core.specs.declared.manifest.PackageLocator.{PackageLocator}
use Rattle.pnp_core.specs.Manifest.{Contents}
use Rattle.lock_checks.specs.Checks.{checked_location}
use Rattle.lock_checks.proofs.OnTrees.{location_on_tree}
use Rattle.package_exports.specs.Exported.{exported}
use Rattle.swc_loader.specs.declared.resolution.FileName.{FileName}
use Rattle.swc_loader.specs.declared.resolution.Via.{Via}
use Rattle.swc_loader.specs.declared.located.Placed.{Placed}
use Rattle.swc_loader.specs.declared.located.Placed.TheVariants.{File, Ignored}
use Rattle.swc_loader.specs.Candidates.{is_closed}
use Rattle.swc_loader.specs.Search.{package_file}
use Rattle.swc_loader.specs.Specifier.{is_bare}
use Rattle.swc_loader.specs.BrowserRules.{ruled_file}
use Rattle.swc_loader.specs.Located.{resolve_at}
use Rattle.swc_loader.specs.Spelling.{answered}
use Rattle.swc_loader.specs.NodeRows.{before_search, target_before_search, target_or_answer, search}
use Rattle.swc_loader.specs.NodeOnTree.{before_on}
use Rattle.swc_loader.specs.Settings.{NodeSettings}
use Rattle.swc_loader.specs.declared.resolution.Resolution.{Resolution}
use Rattle.swc_loader.specs.NodeOrder.{node}
use Rattle.swc_loader.proofs.NodeLaws.{node_on_tree, search_on_tree, before_search_on_tree, told-answered}
use Rattle.swc_loader.proofs.BrowserLaws.{told-ruled_file}
use Rattle.swc_loader.proofs.Locations.{located_on_tree}
use Rattle.resolver_core.specs.declared.refusal.TsRefusal.TheVariants.{Inner}
use Rattle.resolver_core.specs.Mapping.{Mapping, mapped}
use Rattle.resolver_core.specs.MappingOnTree.{Tells, tells_on, mapped_on}
use Rattle.resolver_core.proofs.MappingLaws.{mapping_on_tree}
use Rattle.resolve_stack.specs.declared.verdict.JoinRefusal.{JoinRefusal}
use Rattle.resolve_stack.specs.declared.verdict.JoinRefusal.TheVariants.{NotFound}
use Rattle.resolve_stack.specs.Settings.{ProjectSettings, path_of}
use Rattle.resolve_stack.specs.Request.{Request, asked_for}
use Rattle.resolve_stack.specs.Exports.{export_key, exports_in_content, exports_in, exports_at, file_or_not_found}
use Rattle.resolve_stack.specs.Exports.{file_at, closed_file, target_file, target_text, file_by_exports, file_under}
use Rattle.resolve_stack.specs.Rows.{bare_base, of_node, node_rows_of, or_node_rows, readable, read_manifest}
use Rattle.resolve_stack.specs.Rows.{manifest_in, nearest_manifest, bare_target, of_fault, checked_row, exported_file}
use Rattle.resolve_stack.specs.Rows.{found_at, unless_ignored, answered_through, is_told_relative}
use Rattle.resolve_stack.specs.Order.{join_rows, join, join_order}
use Rattle.resolve_stack.specs.Verdict.{verdict_of, behind_mapping, project_order, verdict}
use Rattle.resolve_stack.specs.OnTree.{node_rows_on, or_node_rows_on, manifest_in_on, manifest_on, bare_target_on}
use Rattle.resolve_stack.specs.OnTree.{checked_on, exports_if_there_on, exports_on, closed_file_on, target_file_on}
use Rattle.resolve_stack.specs.OnTree.{file_by_exports_on, file_under_on, exported_on, placed_on, found_or_name}
use Rattle.resolve_stack.specs.OnTree.{through_on, rows_on, join_on, join_tells, behind_mapping_on, verdict_on}
use Rattle.resolve_stack.specs.OnTree.{ExportedOnTree, JoinOnTree, VerdictOnTree}

told-node_rows : (t : Files) (project : ProjectSettings) (request : Request) →
    told t (node_rows_of project request) ≡ node_rows_on t project request
told-node_rows t project request =
    told-raised t of_node (node project.node request.importer request.specifier)
    ∙ ap (made (widened of_node)) (node_on_tree.tells t project.node request.importer request.specifier)

told-ends : {A : Type 0} (t : Files) (project : ProjectSettings) (request : Request) →
    told t (ends_by {A = A} (node_rows_of project request)) ≡ made (λ r. Err r) (node_rows_on t project request)
told-ends t project request =
    told-ends_by t (node_rows_of project request) ∙ ap (made (λ r. Err r)) (told-node_rows t project request)

told-or_node_rows : {A : Type 0} (t : Files) (project : ProjectSettings) (request : Request) (o : Option A) →
    told t (or_node_rows project request o) ≡ or_node_rows_on t project request o
told-or_node_rows t project request None = told-ends t project request
told-or_node_rows t project request (Some a) = told-done t _

pub told-read_manifest : (t : Files) (file : Path) →
    told t (read_manifest file) ≡ made (readable file) (loaded_on t file)
unfolding read_manifest
told-read_manifest t file =
    told-made t (loading file) (readable file) ∙ ap (made (readable file)) (loaded_on_tree.tells t file)

told-manifest_in : (t : Files) (project : ProjectSettings) (request : Request) (file : Option Path) →
    told t (manifest_in project request file) ≡ manifest_in_on t project request file
told-manifest_in t project request None = told-ends t project request
told-manifest_in t project request (Some file) =
    told-refuses_by t (read_manifest file) ∙ ap (made or_refused) (told-read_manifest t file)

told-manifest : (t : Files) (project : ProjectSettings) (request : Request) (base : List ℕ) →
    told t (nearest_manifest project request base) ≡ manifest_on t project request base
unfolding nearest_manifest
told-manifest t project request base =
    told-by t (nearest (path_of project base)) (manifest_in project request)
    (nearest_on_tree.tells t (path_of project base)) (told-manifest_in t project request)

told-target : (t : Files) (s : NodeSettings) (importer : Path) (specifier : List ℕ) →
    told t (target_before_search {X = JoinRefusal} s importer specifier)
    ≡ made target_or_answer (before_on t s importer specifier)
unfolding target_before_search
told-target t s importer specifier =
    told-made t (before_search s importer specifier) target_or_answer
    ∙ ap (made target_or_answer) (before_search_on_tree.tells t s importer specifier)

told-bare : (t : Files) (project : ProjectSettings) (base target : List ℕ) →
    told t (bare_target project base target) ≡ bare_target_on t project base target
told-bare t project base target =
    told-if t (is_bare target) _ _ (told-done t _)
    (told-ends_by t (raised of_node (search project.node base target))
    ∙ ap (made (λ r. Err r)) (told-raised t of_node (search project.node base target)
    ∙ ap (made (widened of_node)) (search_on_tree.tells t project.node base target)))

told-checked : (t : Files) (project : ProjectSettings) (manifest : Contents) (asking : PackageLocator) (name : List ℕ)
    (bound : PackageLocator) →
    told t (checked_row project manifest asking name bound) ≡ checked_on t project manifest asking name bound
told-checked t project manifest asking name bound =
    told-raised t (of_fault bound) (checked_location project.lock manifest asking name bound)
    ∙ ap (made (widened (of_fault bound))) (location_on_tree.tells t project.lock manifest asking name bound)

told-exports_in : (t : Files) (package_json : Path) →
    told t (exports_in package_json) ≡ made (exports_in_content package_json) (read_on t package_json)
unfolding exports_in
told-exports_in t package_json =
    told-made t (read package_json) (exports_in_content package_json)
    ∙ ap (made (exports_in_content package_json)) (told-read t package_json)

told-exports_at : (t : Files) (location : Path) → told t (exports_at location) ≡ exports_on t location
unfolding exports_at
told-exports_at t location = told-by t (file (package_file location)) _ (told-file t (package_file location)) by_test
  where
    by_test : (there : Bool) →
        told t (cond there (exports_in (package_file location)) (Done (Ok None)))
        ≡ exports_if_there_on t (package_file location) there
    by_test true = told-exports_in t (package_file location)
    by_test false = told-done t _

told-file_at : (t : Files) (text : List ℕ) →
    told t (file_at text) ≡ made (file_or_not_found text) (file_on t (clean [] text))
unfolding file_at
told-file_at t text =
    told-made t (file (clean [] text)) (file_or_not_found text)
    ∙ ap (made (file_or_not_found text)) (told-file t (clean [] text))

told-closed : (t : Files) (text : List ℕ) → told t (closed_file text) ≡ closed_file_on t text
told-closed t text = told-if t (is_closed text) _ _ (told-file_at t text) (told-done t _)

told-target_file : (t : Files) (location : Path) (key : List ℕ) (target : Option (List ℕ)) →
    told t (target_file location key target) ≡ target_file_on t location key target
told-target_file t location key None = told-done t _
told-target_file t location key (Some target) = told-closed t (target_text location target)

told-by_exports : (t : Files) (conditions : List (List ℕ)) (location : Path) (key : List ℕ) (exports : Option Members)
    → told t (file_by_exports conditions location key exports) ≡ file_by_exports_on t conditions location key exports
told-by_exports t conditions location key None = told-done t _
told-by_exports t conditions location key (Some exports) =
    told-target_file t location key (exported exports key conditions)

told-under : (t : Files) (conditions : Option (List (List ℕ))) (location : Path) (key : List ℕ) →
    told t (file_under conditions location key) ≡ file_under_on t conditions location key
told-under t None location key = told-done t _
told-under t (Some conditions) location key =
    told-refusing t (exports_at location) (file_by_exports conditions location key) (told-exports_at t location)
    (told-by_exports t conditions location key)

told-exported : (t : Files) (project : ProjectSettings) (location : Path) (subpath : Option (List ℕ)) →
    told t (exported_file project location subpath) ≡ exported_on t project location subpath
told-exported t project location subpath = told-under t project.conditions location (export_key location subpath)

told-found_at : (t : Files) (project : ProjectSettings) (folder : Path) (subpath : Option (List ℕ))
    (exported : Option Path) →
    told t (found_at project folder subpath exported) ≡ placed_on t project folder subpath exported
told-found_at t project folder subpath None =
    told-raised t of_node (resolve_at project.node folder subpath)
    ∙ ap (made (widened of_node)) (located_on_tree.tells t project.node folder subpath)
told-found_at t project folder subpath (Some f) =
    told-never_refuses t (ruled_file project.node f)
    ∙ ap (made (λ placed. Ok placed)) (told-ruled_file t project.node f)

told-unless_ignored : (t : Files) (placed : Placed) → told t (unless_ignored placed) ≡ unasked (found_or_name placed)
told-unless_ignored t (File f rewritten) = told-done t _
told-unless_ignored t (Ignored name) = told-done t _

told-through : (t : Files) (project : ProjectSettings) (via : Via) (f : Path) (rewritten : Bool) →
    told t (answered_through project via f rewritten) ≡ through_on t project via f rewritten
told-through t project via f rewritten =
    told-never_refuses t (answered project.node (Some via) f (is_told_relative project f rewritten))
    ∙ ap (made (λ answer. Ok answer)) (told-answered t project.node (Some via) f
    (is_told_relative project f rewritten))

told-rows : (t : Files) (project : ProjectSettings) (request : Request) →
    told t (join_rows project request) ≡ rows_on t project request
told-rows t project request =
    told-refusing t _ _ (told-or_node_rows t project request (bare_base request)) (λ base.
    told-refusing t _ _ (told-manifest t project request base) (λ manifest.
    told-refusing t _ _ (told-or_node_rows t project request _) (λ owner.
    told-refusing t _ _ (told-target t project.node (path_of project base) request.specifier) (λ target.
    told-refusing t _ _ (told-bare t project base target) (λ named.
    told-goes_on t _ _ (λ identifier. told-goes_on t _ _ (λ locator.
    told-refusing t _ _ (told-refuses_by t (checked_row project manifest owner identifier.0 locator)
    ∙ ap (made or_refused) (told-checked t project manifest owner identifier.0 locator))
    (λ location. told-goes_on t _ _ (λ folder.
    told-refusing t _ _ (told-refuses_by t (exported_file project folder identifier.1)
    ∙ ap (made or_refused) (told-exported t project folder identifier.1)) (λ exported.
    told-refusing t _ _ (told-refuses_by t (found_at project folder identifier.1 exported)
    ∙ ap (made or_refused) (told-found_at t project folder identifier.1 exported)) (λ placed.
    told-refusing t _ _ (told-unless_ignored t placed) (λ found.
    told-goes_on t _ _ (λ file.
    told-refuses_by t (answered_through project _ file found.1)
    ∙ ap (made or_refused) (told-through t project _ file found.1))))))))))))))

pub told-join : (t : Files) (project : ProjectSettings) (request : Request) →
    told t (join project request) ≡ join_on t project request
unfolding join
told-join t project request = told-order t (join_rows project request) ∙ ap (made end_of) (told-rows t project request)

pub answer-join : (t : Files) (project : ProjectSettings) (request : Request) →
    answer t (join project request) ≡ (join_on t project request).result
answer-join t project request = ap (λ tells. tells.result) (told-join t project request)

-- what the join tells, by each base and specifier
join-tells : (t : Files) (project : ProjectSettings) → tells_on t (join_order project) ≡ join_tells t project
join-tells t project = λ i base s. told-join t project (asked_for base s) i

told-behind : (t : Files) (project : ProjectSettings) (o : Option Mapping) (base : FileName) (s : List ℕ) →
    told t (behind_mapping o (join_order project) base s) ≡ behind_mapping_on o (join_tells t project) base s
told-behind t project None base s =
    told-raised t Inner (join project (asked_for base s))
    ∙ ap (made (widened Inner)) (told-join t project (asked_for base s))
told-behind t project (Some m) base s =
    (mapping_on_tree JoinRefusal).tells t (join_order project) m base s
    ∙ ap (λ (inner : Tells JoinRefusal). mapped_on inner (mapped m base s)) (join-tells t project)

pub told-verdict : (t : Files) (project : ProjectSettings) (request : Request) →
    told t (verdict project request) ≡ verdict_on t project request
unfolding verdict
told-verdict t project request =
    told-made t (project_order project request) verdict_of
    ∙ ap (made verdict_of) (told-behind t project project.mapping request.importer request.specifier)

pub join_on_tree : JoinOnTree
join_on_tree = record { tells = told-join }

pub exported_on_tree : ExportedOnTree
exported_on_tree = record { tells = told-exported }

pub verdict_on_tree : VerdictOnTree
verdict_on_tree = record { tells = told-verdict }
