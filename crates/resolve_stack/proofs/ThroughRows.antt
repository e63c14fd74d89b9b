-- An answer of the order was found through the row that binds the name asked for.
use Rattle.std.proofs.Common.{◌≡◌, ℕ, Bool, true, false, cond, List, Option, Some, None, ok_or, Result, Ok, Err, refl}
use Rattle.std.proofs.Common.{sym, ap, ◌∙◌, subst, ◌⊎◌, inl, inr}
use Rattle.std.specs.Option.{option_or}
use Rattle.sugar_path.specs.Path.{Path, below, text_of}
use Rattle.tree_core.specs.Tree.{Files}
use Rattle.tree_core.specs.Plan.{answer}
use Rattle.tree_core.specs.Asks.{widened}
use Rattle.tree_core.proofs.RowLaws.{answer-made, answer-raised}
use Rattle.tree_core.specs.Rows.{Going, end_of, or_refused}
use Rattle.tree_core.specs.Told.{Told, unasked, made, where_ok, ◌>>=?◌}
use Rattle.pnp_core.specs.declared.error.HydrationCause.{HydrationCause}
use Rattle.pnp_core.specs.declared.manifest.PackageLocator.{PackageLocator}
use Rattle.pnp_core.specs.declared.manifest.Binding.{Binding}
use Rattle.pnp_core.specs.declared.manifest.Binding.TheVariants.{Bound, MissingPeer, Undeclared}
use Rattle.pnp_core.specs.BareIdentifier.{split_bare}
use Rattle.pnp_core.specs.Manifest.{Contents, location_of}
use Rattle.pnp_core.specs.Owner.{owner}
use Rattle.pnp_core.specs.Binding.{bind}
use Rattle.pnp_core.specs.PhysicalPlace.{physical_place}
use Rattle.pnp_core.specs.OnTree.{nearest_on, loaded_on}
use Rattle.swc_loader.specs.declared.resolution.FileName.{FileName}
use Rattle.swc_loader.specs.declared.resolution.FileName.TheVariants.{Real, Custom, Anon}
use Rattle.swc_loader.specs.declared.resolution.Found.{Found}
use Rattle.swc_loader.specs.declared.resolution.Resolution.{Resolution}
use Rattle.swc_loader.specs.declared.located.Placed.{Placed}
use Rattle.swc_loader.specs.declared.located.Placed.TheVariants.{File, Ignored}
use Rattle.swc_loader.specs.declared.refusal.NodeRefusal.{NodeRefusal}
use Rattle.swc_loader.specs.declared.before.Before.{Before}
use Rattle.swc_loader.specs.declared.before.Before.TheVariants.{Decided, Target}
use Rattle.swc_loader.specs.Specifier.{is_bare}
use Rattle.swc_loader.specs.Settings.{NodeSettings, alias_of}
use Rattle.swc_loader.specs.Spelling.{custom}
use Rattle.swc_loader.specs.NodeRows.{core_module_for, decided_or_target, target_or_answer}
use Rattle.swc_loader.specs.NodeOnTree.{ruled_specifier_on, before_on, search_on, node_on}
use Rattle.resolver_core.specs.declared.refusal.TsRefusal.{TsRefusal}
use Rattle.resolver_core.specs.declared.refusal.TsRefusal.TheVariants.{Inner}
use Rattle.resolver_core.specs.Mapping.{Mapping, mapped}
use Rattle.resolver_core.specs.MappingOnTree.{tells_on, mapped_on, tries_in, IsFirstAnswer, IsUncheckedAnswer}
use Rattle.resolver_core.proofs.FirstAnswers.{first_answer_decides}
use Rattle.resolver_core.proofs.MappingLaws.{mapping_on_tree}
use Rattle.yarn_lock_parser.specs.Lock.{Lock}
use Rattle.lock_checks.specs.declared.fault.EdgeFault.TheVariants.{NotInRegistry}
use Rattle.lock_checks.specs.Checks.{registered}
use Rattle.lock_checks.specs.OnTree.{check_on, location_on}
use Rattle.lock_checks.proofs.LockedBindings.{passes_as_locked}
use Rattle.resolve_stack.specs.declared.verdict.JoinRefusal.{JoinRefusal}
use Rattle.resolve_stack.specs.declared.verdict.JoinRefusal.TheVariants.{BadSpecifier, Archive, Outside}
use Rattle.resolve_stack.specs.declared.verdict.Verdict.{Verdict}
use Rattle.resolve_stack.specs.Settings.{ProjectSettings, path_of}
use Rattle.resolve_stack.specs.Request.{Request, asked_for}
use Rattle.resolve_stack.specs.Order.{join, join_order}
use Rattle.resolve_stack.specs.Rows.{of_node, bare_from, bare_base, readable, identifier_of, bound_or_refused}
use Rattle.resolve_stack.specs.Rows.{bound_of, of_fault, folder_of, contained, via_of}
use Rattle.resolve_stack.specs.OnTree.{RowOn, decided_on, refuses_on, ends_on, or_node_rows_on, manifest_in_on}
use Rattle.resolve_stack.specs.OnTree.{manifest_on, owner_on, bare_target_on, checked_on, exported_on, placed_on}
use Rattle.resolve_stack.specs.OnTree.{found_or_name, through_on, join_on}
use Rattle.resolve_stack.specs.Verdict.{verdict_of, behind_mapping, project_order, verdict}
use Rattle.resolve_stack.specs.Through.{IsHeldBy, ThroughRow, IsFoundFrom, IsFoundByTry, IsFoundBehind, IsFound}
use Rattle.resolve_stack.proofs.OnTrees.{answer-join}
use Rattle.resolve_stack.proofs.Plain.{IsPlain, IsPlainResult, IsPlainBefore, node-plain, search-plain, before-plain}

-- how an order ended is found as it says
abbrev IsFoundEnd : Files → ProjectSettings → Request → Result Resolution JoinRefusal → Type 0
IsFoundEnd t project request (Ok resolution) = IsFoundFrom t project request resolution.found
IsFoundEnd t project request (Err refusal) = Unit {0}

-- a row that goes on, or ends the order as it should
goes : {A : Type 0} (t : Files) (project : ProjectSettings) (request : Request) (g : Going A Resolution JoinRefusal)
    (f : A → RowOn Resolution) → ((e : Result Resolution JoinRefusal) → g ≡ Err e → IsFoundEnd t project request e) →
    ((a : A) → g ≡ Ok a → IsFoundEnd t project request (end_of (f a).result)) →
    IsFoundEnd t project request (end_of (where_ok f g).result)
goes t project request (Ok a) f ends next = next a refl
goes t project request (Err e) f ends next = ends e refl

abbrev ends_as : {A : Type 0} → Going A Resolution JoinRefusal → Result Resolution JoinRefusal → Type 0
ends_as g e = g ≡ Err e

plain_found : (t : Files) (project : ProjectSettings) (request : Request) (o : Option Found) → IsPlain o →
    IsFoundFrom t project request o
plain_found t project request None plain = tt
plain_found t project request (Some found) plain = rw plain tt

-- the node rows end the order without a row of a manifest
node_end : (t : Files) (project : ProjectSettings) (request : Request) (r : Result Resolution NodeRefusal) →
    IsPlainResult r → (e : Result Resolution JoinRefusal) → widened of_node r ≡ e → IsFoundEnd t project request e
node_end t project request r plain e is = let P : Result Resolution JoinRefusal → Type 0 =
    IsFoundEnd t project request in subst P is (by_result r plain)
  where
    by_result : (r : Result Resolution NodeRefusal) → IsPlainResult r → IsFoundEnd t project request (widened of_node r)
    by_result (Ok resolution) plain = plain_found t project request resolution.found plain
    by_result (Err refusal) plain = tt

-- a step that refuses ends the order so
refused_end : {A : Type 0} (t : Files) (project : ProjectSettings) (request : Request) (d : Result A JoinRefusal)
    (e : Result Resolution JoinRefusal) → or_refused d ≡ Err e → IsFoundEnd t project request e
refused_end t project request (Ok a) e is = cc
refused_end t project request (Err x) (Ok resolution) is = cc
refused_end t project request (Err x) (Err y) is = tt

unrefused : {A : Type 0} (d : Result A JoinRefusal) (a : A) → or_refused {R = Resolution} d ≡ Ok a → d ≡ Ok a
unrefused (Ok b) a is = let same : b ≡ a = cc in ap Ok same
unrefused (Err x) a is = cc

or_node_end : {A : Type 0} (t : Files) (project : ProjectSettings) (request : Request) (o : Option A)
    (e : Result Resolution JoinRefusal) → (or_node_rows_on t project request o).result ≡ Err e →
    IsFoundEnd t project request e
or_node_end t project request (Some a) e is = cc
or_node_end t project request None e is =
    let same : widened of_node (node_on t project.node request.importer request.specifier).result ≡ e = cc in
    node_end t project request (node_on t project.node request.importer request.specifier).result
    (node-plain t project.node request.importer request.specifier) e same

or_node_value : {A : Type 0} (t : Files) (project : ProjectSettings) (request : Request) (o : Option A) (a : A) →
    (or_node_rows_on t project request o).result ≡ Ok a → o ≡ Some a
or_node_value t project request (Some b) a is = let same : b ≡ a = cc in ap Some same
or_node_value t project request None a is = cc

-- what asks is the path of a bare specifier's base
from_base : (from : FileName) (specifier base : List ℕ) → bare_from from specifier ≡ Some base → from ≡ Real base
from_base (Real text) specifier base is = by_test (is_bare specifier) is
  where
    by_test : (b : Bool) → cond {A = Option (List ℕ)} b (Some text) None ≡ Some base → Real text ≡ Real base
    by_test true is = let same : text ≡ base = cc in ap Real same
    by_test false is = cc
from_base (Custom name) specifier base is = cc
from_base Anon specifier base is = cc

there : {A X : Type 0} (o : Option A) (x : X) (a : A) → ok_or o x ≡ Ok a → o ≡ Some a
there (Some b) x a h = let same : b ≡ a = cc in ap Some same
there None x a h = cc

-- a test that passed
passed : {A X : Type 0} (b : Bool) (a a' : A) (x : X) → cond b (Ok a) (Err x) ≡ Ok a' → (b ≡ true) × (a ≡ a')
passed true a a' x h = (refl, cc)
passed false a a' x h = cc

read_of : (file : Path) (r : Result Contents HydrationCause) (m : Contents) → readable file r ≡ Ok m → r ≡ Ok m
read_of file (Ok contents) m h = let same : contents ≡ m = cc in ap Ok same
read_of file (Err cause) m h = cc

record Read (t : Files) (p : Path) (m : Contents) : Type 0 where
  manifest : Path
  nearest : (nearest_on t p).result ≡ Some manifest
  reads : (loaded_on t manifest).result ≡ Ok m

read_from : (t : Files) (project : ProjectSettings) (request : Request) (base : List ℕ) (m : Contents) →
    (manifest_on t project request base).result ≡ Ok m → Read t (path_of project base) m
read_from t project request base m h = by_near (nearest_on t (path_of project base)).result refl h
  where
    by_near : (near : Option Path) → (nearest_on t (path_of project base)).result ≡ near →
        (manifest_in_on t project request near).result ≡ Ok m → Read t (path_of project base) m
    by_near None is h = cc
    by_near (Some file) is h =
        let read = unrefused (readable file (loaded_on t file).result) m h in
        record { manifest = file; nearest = is; reads = read_of file (loaded_on t file).result m read }

manifest_end : (t : Files) (project : ProjectSettings) (request : Request) (base : List ℕ)
    (e : Result Resolution JoinRefusal) → (manifest_on t project request base).result ≡ Err e →
    IsFoundEnd t project request e
manifest_end t project request base e h = by_near (nearest_on t (path_of project base)).result h
  where
    by_near : (near : Option Path) → (manifest_in_on t project request near).result ≡ Err e →
        IsFoundEnd t project request e
    by_near None h =
        let same : widened of_node (node_on t project.node request.importer request.specifier).result ≡ e = cc in
        node_end t project request (node_on t project.node request.importer request.specifier).result
        (node-plain t project.node request.importer request.specifier) e same
    by_near (Some file) h = refused_end t project request (readable file (loaded_on t file).result) e h

-- a target that is searched is the specifier's alias
aliased : (t : Files) (s : NodeSettings) (importer : Path) (specifier target : List ℕ) →
    target_or_answer {X = JoinRefusal} (before_on t s importer specifier).result ≡ Ok target →
    alias_of s specifier ≡ target
aliased t s importer specifier target h =
    by_decided (option_or (ruled_specifier_on t s importer specifier).result
    (core_module_for s.target s.conventions specifier)) h
  where
    by_decided : (o : Option Resolution) →
        target_or_answer {X = JoinRefusal} (decided_or_target s specifier o) ≡ Ok target → alias_of s specifier ≡ target
    by_decided (Some resolution) h = cc
    by_decided None h = cc

before_end : (t : Files) (project : ProjectSettings) (request : Request) (importer : Path)
    (e : Result Resolution JoinRefusal) →
    target_or_answer (before_on t project.node importer request.specifier).result ≡ Err e →
    IsFoundEnd t project request e
before_end t project request importer e h =
    by_before (before_on t project.node importer request.specifier).result
    (before-plain t project.node importer request.specifier) h
  where
    by_before : (b : Before) → IsPlainBefore b → target_or_answer b ≡ Err e → IsFoundEnd t project request e
    by_before (Target target) plain h = cc
    by_before (Decided resolution) plain h =
        let ended : Result Resolution JoinRefusal = Ok resolution in
        let same : ended ≡ e = cc in
        let P : Result Resolution JoinRefusal → Type 0 = IsFoundEnd t project request in
        subst P same (plain_found t project request resolution.found plain)

bare_end : (t : Files) (project : ProjectSettings) (request : Request) (base target : List ℕ)
    (e : Result Resolution JoinRefusal) → (bare_target_on t project base target).result ≡ Err e →
    IsFoundEnd t project request e
bare_end t project request base target e h = by_test (is_bare target) h
  where
    by_test : (b : Bool) →
        (cond {A = RowOn (List ℕ)} b (unasked (Ok target))
        (ends_on (made (widened of_node) (search_on t project.node base target)))).result ≡ Err e →
        IsFoundEnd t project request e
    by_test true h = cc
    by_test false h =
        let same : widened of_node (search_on t project.node base target).result ≡ e = cc in
        node_end t project request (search_on t project.node base target).result
        (search-plain t project.node base target) e same

bare_value : (t : Files) (project : ProjectSettings) (base target named : List ℕ) →
    (bare_target_on t project base target).result ≡ Ok named → target ≡ named
bare_value t project base target named h = by_test (is_bare target) h
  where
    by_test : (b : Bool) →
        (cond {A = RowOn (List ℕ)} b (unasked (Ok target))
        (ends_on (made (widened of_node) (search_on t project.node base target)))).result ≡ Ok named →
        target ≡ named
    by_test true h = cc
    by_test false h = cc

ignored_end : (t : Files) (project : ProjectSettings) (request : Request) (placed : Placed)
    (e : Result Resolution JoinRefusal) → found_or_name placed ≡ Err e → IsFoundEnd t project request e
ignored_end t project request (File f rewritten) e h = cc
ignored_end t project request (Ignored name) e h =
    let ended : Result Resolution JoinRefusal = Ok (custom name) in
    let same : ended ≡ e = cc in
    let P : Result Resolution JoinRefusal → Type 0 = IsFoundEnd t project request in
    subst P same tt

bound_by : (m : Contents) (o : PackageLocator) (importer : Path) (target name : List ℕ) (b : PackageLocator) →
    bound_of m o importer target name ≡ Ok b → bind m o name ≡ Bound b
bound_by m o importer target name b h = by_binding (bind m o name) h
  where
    by_binding : (binding : Binding) → bound_or_refused m o importer target name binding ≡ Ok b → binding ≡ Bound b
    by_binding (Bound locator) h = let same : locator ≡ b = cc in ap Bound same
    by_binding MissingPeer h = cc
    by_binding Undeclared h = cc

-- the rows behind the folder of the bound package, on a tree
abbrev behind_file : Files → ProjectSettings → PackageLocator → Path → Path × Bool → RowOn Resolution
behind_file t project bound folder found =
    decided_on (contained folder found.0) >>=? λ file. refuses_on
    (through_on t project (via_of bound folder) file found.1)

abbrev behind_placed : Files → ProjectSettings → PackageLocator → Path → Placed → RowOn Resolution
behind_placed t project bound folder placed = unasked (found_or_name placed) >>=? behind_file t project bound folder

abbrev behind_exports : Files → ProjectSettings → PackageLocator → Path → Option (List ℕ) → Option Path →
    RowOn Resolution
behind_exports t project bound folder subpath exported =
    refuses_on (placed_on t project folder subpath exported) >>=? behind_placed t project bound folder

abbrev behind_folder : Files → ProjectSettings → PackageLocator → Path → Option (List ℕ) → RowOn Resolution
behind_folder t project bound folder subpath =
    refuses_on (exported_on t project folder subpath) >>=? behind_exports t project bound folder subpath

folder_end : (t : Files) (project : ProjectSettings) (request : Request) (bound : PackageLocator) (folder : Path)
    (subpath : Option (List ℕ)) →
    ((f : Path) → below f folder ≡ true → ThroughRow t project request (text_of f) (via_of bound folder)) →
    IsFoundEnd t project request (end_of (behind_folder t project bound folder subpath).result)
folder_end t project request bound folder subpath through =
    goes t project request (or_refused (exported_on t project folder subpath).result)
    (behind_exports t project bound folder subpath)
    (refused_end t project request (exported_on t project folder subpath).result) (λ exported is_exported.
    goes t project request (or_refused (placed_on t project folder subpath exported).result)
    (behind_placed t project bound folder) (refused_end t project request
    (placed_on t project folder subpath exported).result) (λ placed is_placed.
    goes t project request (found_or_name placed) (behind_file t project bound folder)
    (ignored_end t project request placed) (λ found is_found.
    goes t project request (or_refused (contained folder found.0))
    (λ file. refuses_on (through_on t project (via_of bound folder) file found.1))
    (refused_end t project request (contained folder found.0)) (λ file within.
    let inside = passed (below found.0 folder) found.0 file (Outside (text_of found.0) (text_of folder))
    (unrefused (contained folder found.0) file within) in
    through file (ap (λ f. below f folder) (sym inside.1) ∙ inside.0)))))

-- the rows behind the binding, on a tree
abbrev behind_location : Files → ProjectSettings → PackageLocator → Option (List ℕ) → List ℕ → RowOn Resolution
behind_location t project locator subpath location =
    decided_on (folder_of location) >>=? λ folder. behind_folder t project locator folder subpath

abbrev behind_binding : Files → ProjectSettings → Contents → PackageLocator → List ℕ → PackageLocator →
    Option (List ℕ) → RowOn Resolution
behind_binding t project manifest asking name locator subpath =
    refuses_on (checked_on t project manifest asking name locator) >>=? behind_location t project locator subpath

abbrev ThroughBound : Files → ProjectSettings → Request → Contents → PackageLocator → List ℕ → PackageLocator → Type 0
ThroughBound t project request manifest asking name bound = (location : List ℕ) (folder f : Path) →
    location_of manifest bound ≡ Some location → IsHeldBy t project.lock manifest asking name bound →
    physical_place location ≡ Some folder → below f folder ≡ true →
    ThroughRow t project request (text_of f) (via_of bound folder)

-- what passes the checks has passed them before the order's own words for refusals
unwidened : {A X Y : Type 0} (f : X → Y) (r : Result A X) (a : A) → widened f r ≡ Ok a → r ≡ Ok a
unwidened f (Ok b) a h = let same : b ≡ a = cc in ap Ok same
unwidened f (Err x) a h = cc

-- a first result, where what is made behind it is its own value
first_value : {A X : Type 0} (first : Result A X) (check : Told (Result (Unit {0}) X)) (a : A) →
    (where_ok (λ b. check >>=? λ passed. unasked (Ok b)) first).result ≡ Ok a → first ≡ Ok a
first_value {A = A} {X = X} (Ok b) check a h = ap Ok (by_check check.result h)
  where
    by_check : (r : Result (Unit {0}) X) →
        (where_ok {A = Unit {0}} {B = A} {X = X} (λ passed. unasked (Ok b)) r).result ≡ Ok a → b ≡ a
    by_check (Ok passed) h = cc
    by_check (Err x) h = cc
first_value (Err x) check a h = cc

-- a location that the checks let through is that of the row, and the lock holds the binding
row_behind : (t : Files) (project : ProjectSettings) (manifest : Contents) (asking : PackageLocator) (name : List ℕ)
    (bound : PackageLocator) (location : List ℕ) →
    (checked_on t project manifest asking name bound).result ≡ Ok location →
    location_of manifest bound ≡ Some location
row_behind t project manifest asking name bound location h =
    there (location_of manifest bound) NotInRegistry location
    (first_value (registered manifest bound) (check_on t project.lock manifest asking name bound) location
    (unwidened (of_fault bound) (location_on t project.lock manifest asking name bound).result location h))

held_behind : (t : Files) (project : ProjectSettings) (manifest : Contents) (asking : PackageLocator) (name : List ℕ)
    (bound : PackageLocator) (location : List ℕ) →
    (checked_on t project manifest asking name bound).result ≡ Ok location →
    IsHeldBy t project.lock manifest asking name bound
held_behind t project manifest asking name bound location h =
    by_lock project.lock (unwidened (of_fault bound) (location_on t project.lock manifest asking name bound).result
    location h)
  where
    by_lock : (lock : Option Lock) → (location_on t lock manifest asking name bound).result ≡ Ok location →
        IsHeldBy t lock manifest asking name bound
    by_lock None passes = tt
    by_lock (Some lock) passes = λ other. passes_as_locked t lock manifest asking name bound location passes other

binding_end : (t : Files) (project : ProjectSettings) (request : Request) (manifest : Contents)
    (asking : PackageLocator) (name : List ℕ) (locator : PackageLocator) (subpath : Option (List ℕ)) →
    ThroughBound t project request manifest asking name locator →
    IsFoundEnd t project request (end_of (behind_binding t project manifest asking name locator subpath).result)
binding_end t project request manifest asking name locator subpath through =
    goes t project request (or_refused (checked_on t project manifest asking name locator).result)
    (behind_location t project locator subpath)
    (refused_end t project request (checked_on t project manifest asking name locator).result)
    (λ location checked.
    goes t project request (or_refused (folder_of location))
    (λ folder. behind_folder t project locator folder subpath)
    (refused_end t project request (folder_of location)) (λ folder place.
    let passes = unrefused (checked_on t project manifest asking name locator).result location checked in
    folder_end t project request locator folder subpath (λ f within. through location folder f
    (row_behind t project manifest asking name locator location passes)
    (held_behind t project manifest asking name locator location passes)
    (there (physical_place location) (Archive location) folder (unrefused (folder_of location) folder place)) within)))

-- the rows behind a bare target, on a tree
abbrev behind_identifier : Files → ProjectSettings → List ℕ → Contents → PackageLocator → List ℕ →
    List ℕ × Option (List ℕ) → RowOn Resolution
behind_identifier t project base manifest asking named identifier =
    decided_on (bound_of manifest asking (path_of project base) named identifier.0)
    >>=? λ locator. behind_binding t project manifest asking identifier.0 locator identifier.1

abbrev behind_target : Files → ProjectSettings → List ℕ → Contents → PackageLocator → List ℕ → RowOn Resolution
behind_target t project base manifest asking named =
    decided_on (identifier_of named) >>=? behind_identifier t project base manifest asking named

target_end : (t : Files) (project : ProjectSettings) (request : Request) (base : List ℕ) (manifest : Contents)
    (asking : PackageLocator) (named : List ℕ) →
    ((identifier : List ℕ × Option (List ℕ)) (locator : PackageLocator) → split_bare named ≡ Some identifier →
    bind manifest asking identifier.0 ≡ Bound locator →
    ThroughBound t project request manifest asking identifier.0 locator) →
    IsFoundEnd t project request (end_of (behind_target t project base manifest asking named).result)
target_end t project request base manifest asking named through =
    goes t project request (or_refused (identifier_of named)) (behind_identifier t project base manifest asking named)
    (refused_end t project request (identifier_of named)) (λ identifier split.
    goes t project request (or_refused (bound_of manifest asking (path_of project base) named identifier.0))
    (λ locator. behind_binding t project manifest asking identifier.0 locator identifier.1)
    (refused_end t project request (bound_of manifest asking (path_of project base) named identifier.0))
    (λ locator binds.
    binding_end t project request manifest asking identifier.0 locator identifier.1
    (through identifier locator (there (split_bare named) (BadSpecifier named) identifier
    (unrefused (identifier_of named) identifier split))
    (bound_by manifest asking (path_of project base) named identifier.0 locator
    (unrefused (bound_of manifest asking (path_of project base) named identifier.0) locator binds)))))

-- the rows behind the owner, the manifest and the importer, on a tree
abbrev behind_owner : Files → ProjectSettings → Request → List ℕ → Contents → PackageLocator → RowOn Resolution
behind_owner t project request base manifest asking =
    made target_or_answer (before_on t project.node (path_of project base) request.specifier)
    >>=? λ target. bare_target_on t project base target >>=? behind_target t project base manifest asking

abbrev behind_manifest : Files → ProjectSettings → Request → List ℕ → Contents → RowOn Resolution
behind_manifest t project request base manifest =
    owner_on t project request manifest base >>=? behind_owner t project request base manifest

abbrev behind_base : Files → ProjectSettings → Request → List ℕ → RowOn Resolution
behind_base t project request base = manifest_on t project request base >>=? behind_manifest t project request base

-- what the rows gave, one after the other
pub found_end : (t : Files) (project : ProjectSettings) (request : Request) →
    IsFoundEnd t project request (join_on t project request).result
found_end t project request =
    goes t project request (or_node_rows_on t project request (bare_base request)).result
    (behind_base t project request) (or_node_end t project request (bare_base request)) (λ base from.
    goes t project request (manifest_on t project request base).result (behind_manifest t project request base)
    (manifest_end t project request base) (λ manifest read.
    goes t project request (owner_on t project request manifest base).result
    (behind_owner t project request base manifest)
    (or_node_end t project request (owner manifest (path_of project base))) (λ asking owns.
    goes t project request (target_or_answer (before_on t project.node (path_of project base)
    request.specifier).result) (λ target. bare_target_on t project base target
    >>=? behind_target t project base manifest asking) (before_end t project request (path_of project base))
    (λ target alias.
    goes t project request (bare_target_on t project base target).result
    (behind_target t project base manifest asking) (bare_end t project request base target) (λ named bare.
    let reading = read_from t project request base manifest read in
    target_end t project request base manifest asking named
    (λ identifier locator split binds location folder f row held place within. record {
      importer = base;
      manifest = reading.manifest;
      contents = manifest;
      asking = asking;
      name = identifier.0;
      subpath = identifier.1;
      location = location;
      folder = folder;
      from = from_base request.importer request.specifier base
          (or_node_value t project request (bare_base request) base from);
      nearest = reading.nearest;
      reads = reading.reads;
      owns = or_node_value t project request (owner manifest (path_of project base)) asking owns;
      names = ap split_bare (aliased t project.node (path_of project base) request.specifier target alias
          ∙ bare_value t project base target named bare) ∙ split;
      binds = binds;
      row = row;
      locked = held;
      place = place;
      told = refl;
      lies = record { path = f; folder = folder; file_is = refl; location_is = refl; within = within };
    }))))))

-- what the join answers was found as it says
found_by_join : (t : Files) (project : ProjectSettings) (request : Request) (r : Resolution) →
    answer t (join project request) ≡ Ok r → IsFoundFrom t project request r.found
found_by_join t project request r is =
    let P : Result Resolution JoinRefusal → Type 0 = IsFoundEnd t project request in
    subst P (sym (answer-join t project request) ∙ is) (found_end t project request)

-- what is made of the first inner answer was found by that inner request
found_by_try : (t : Files) (project : ProjectSettings) (m : Mapping) (request : Request) (r : Resolution) →
    IsFirstAnswer (tells_on t (join_order project)) (tries_in (mapped m request.importer request.specifier)) r →
    IsFoundByTry t project m request r
found_by_try t project m request r first = record {
  first = first;
  found =
      let by = asked_for first.by.base first.by.specifier in
      let P : Option Found → Type 0 = IsFoundFrom t project by in
      subst P (sym first.same_file) (found_by_join t project by first.answer first.answered);
}

-- what a project's order answers was found as it says
abbrev IsFoundResult : Files → ProjectSettings → Option Mapping → Request →
    Result Resolution (TsRefusal JoinRefusal) → Type 0
IsFoundResult t project o request (Ok r) = IsFoundBehind t project o request r
IsFoundResult t project o request (Err x) = Unit {0}

found_behind : (t : Files) (project : ProjectSettings) (o : Option Mapping) (request : Request) →
    IsFoundResult t project o request (answer t (behind_mapping o (join_order project) request.importer
    request.specifier))
found_behind t project None request =
    let P : Result Resolution (TsRefusal JoinRefusal) → Type 0 = IsFoundResult t project None request in
    subst P (sym (answer-raised t Inner (join project request))) (by_result (answer t (join project request)) refl)
  where
    by_result : (o : Result Resolution JoinRefusal) → answer t (join project request) ≡ o →
        IsFoundResult t project None request (widened Inner o)
    by_result (Ok r) is = found_by_join t project request r is
    by_result (Err x) is = tt
found_behind t project (Some m) request =
    let P : Result Resolution (TsRefusal JoinRefusal) → Type 0 = IsFoundResult t project (Some m) request in
    subst P (sym (ap (λ tells. tells.result) ((mapping_on_tree JoinRefusal).tells t (join_order project) m
    request.importer request.specifier))) (by_result
    (mapped_on (tells_on t (join_order project)) (mapped m request.importer request.specifier)).result refl)
  where
    by_first : (r : Resolution) →
        IsUncheckedAnswer (tells_on t (join_order project)) (mapped m request.importer request.specifier) r
        ⊎ IsFirstAnswer (tells_on t (join_order project)) (tries_in (mapped m request.importer request.specifier))
        r → IsFoundBehind t project (Some m) request r
    by_first r (inl unchecked) = inl unchecked.no_file
    by_first r (inr first) = inr (found_by_try t project m request r first)

    by_result : (o : Result Resolution (TsRefusal JoinRefusal)) →
        (mapped_on (tells_on t (join_order project)) (mapped m request.importer request.specifier)).result ≡ o →
        IsFoundResult t project (Some m) request o
    by_result (Ok r) is =
        by_first r ((first_answer_decides JoinRefusal).decides (tells_on t (join_order project)) m request.importer
        request.specifier r is)
    by_result (Err x) is = tt

-- the verdict of the order was found as it says
pub found : (t : Files) (project : ProjectSettings) (request : Request) →
    IsFound t project request (answer t (verdict project request))
unfolding verdict
found t project request =
    let P : Verdict → Type 0 = IsFound t project request in
    subst P (sym (answer-made t (project_order project request) verdict_of))
    (by_result (answer t (project_order project request)) (found_behind t project project.mapping request))
  where
    by_result : (o : Result Resolution (TsRefusal JoinRefusal)) → IsFoundResult t project project.mapping request o →
        IsFound t project request (verdict_of o)
    by_result (Ok r) is = is
    by_result (Err x) is = tt
