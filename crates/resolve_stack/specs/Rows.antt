-- The rows of the order of search, as docs/ORDER.md lists the join rows. A row gives what the next one goes on with,
-- or ends the order.
-- A `do` here is over plans: a plan puts its questions, and the next one goes on by what it came to.
use Rattle.std.specs.Prelude.{ℕ, Bool, ◌&&◌, if◌then◌else◌, List, Option, Some, None, ok_or, Result, Ok, Err}
use Rattle.sugar_path.specs.Path.{Path, text_of, below}
use Rattle.tree_core.specs.Asks.{raised}
use Rattle.tree_core.specs.Plan.{Plan, Done, ◌>>=◌}
use Rattle.tree_core.specs.Rows.{Row, ends_by, refuses_by, never_refuses}
use Rattle.pnp_core.specs.declared.manifest.PackageLocator.{PackageLocator}
use Rattle.pnp_core.specs.declared.manifest.Binding.{Binding}
use Rattle.pnp_core.specs.declared.manifest.Binding.TheVariants.{Bound, MissingPeer, Undeclared}
use Rattle.pnp_core.specs.declared.error.HydrationCause.{HydrationCause}
use Rattle.pnp_core.specs.BareIdentifier.{split_bare}
use Rattle.pnp_core.specs.Manifest.{Contents}
use Rattle.pnp_core.specs.Owner.{owner}
use Rattle.pnp_core.specs.Binding.{bind}
use Rattle.pnp_core.specs.Loading.{loading}
use Rattle.pnp_core.specs.Nearest.{nearest}
use Rattle.pnp_core.specs.PhysicalPlace.{physical_place}
use Rattle.pnp_core.specs.Wording.{missing_peer, undeclared}
use Rattle.swc_loader.specs.declared.resolution.FileName.{FileName}
use Rattle.swc_loader.specs.declared.resolution.FileName.TheVariants.{Real, Custom, Anon}
use Rattle.swc_loader.specs.declared.resolution.Resolution.{Resolution}
use Rattle.swc_loader.specs.declared.resolution.Via.{Via}
use Rattle.swc_loader.specs.declared.refusal.NodeRefusal.{NodeRefusal}
use Rattle.swc_loader.specs.declared.refusal.NodeRefusal.TheVariants as node_refusal
use Rattle.swc_loader.specs.declared.located.Placed.{Placed}
use Rattle.swc_loader.specs.declared.located.Placed.TheVariants.{File, Ignored}
use Rattle.swc_loader.specs.Specifier.{is_bare}
use Rattle.swc_loader.specs.Spelling.{custom, answered}
use Rattle.swc_loader.specs.NodeRows.{search}
use Rattle.swc_loader.specs.NodeOrder.{node}
use Rattle.swc_loader.specs.Located.{resolve_at}
use Rattle.swc_loader.specs.BrowserRules.{ruled_file}
use Rattle.lock_checks.specs.declared.fault.EdgeFault.{EdgeFault}
use Rattle.lock_checks.specs.declared.fault.EdgeFault.TheVariants as edge_fault
use Rattle.lock_checks.specs.Checks.{checked_location}
use Rattle.resolve_stack.specs.declared.verdict.JoinRefusal.{JoinRefusal}
use Rattle.resolve_stack.specs.declared.verdict.JoinRefusal.TheVariants.{BadSpecifier, FailedManifestHydration}
use Rattle.resolve_stack.specs.declared.verdict.JoinRefusal.TheVariants.{UndeclaredDependency, MissingPeerDependency}
use Rattle.resolve_stack.specs.declared.verdict.JoinRefusal.TheVariants.{NotInRegistry, NotLocked, MalformedPackage}
use Rattle.resolve_stack.specs.declared.verdict.JoinRefusal.TheVariants.{OutOfRange, Archive, Outside, NotFound}
use Rattle.resolve_stack.specs.declared.verdict.JoinRefusal.TheVariants.{BaseNotAFile}
use Rattle.resolve_stack.specs.Settings.{ProjectSettings, path_of}
use Rattle.resolve_stack.specs.Request.{Request}
use Rattle.resolve_stack.specs.Exports.{export_key, file_under}

-- a refusal of the search for Node's modules, as the order's
abbrev pub of_node : NodeRefusal → JoinRefusal
of_node (node_refusal.NotFound text) = NotFound text
of_node node_refusal.BaseNotAFile = BaseNotAFile
of_node (node_refusal.MalformedPackage path) = MalformedPackage path

-- the node rows of the whole request
abbrev pub node_rows_of : ProjectSettings → Request → Plan (Result Resolution JoinRefusal)
node_rows_of project request = raised of_node (node project.node request.importer request.specifier)

-- Where there is nothing to go on with, the node rows end the order.
abbrev pub or_node_rows : {A : Type 0} → ProjectSettings → Request → Option A → Row A Resolution JoinRefusal
or_node_rows project request None = ends_by (node_rows_of project request)
or_node_rows project request (Some a) = Done (Ok a)

-- Join row 0: the path that a bare specifier is asked from, as it was written
abbrev pub bare_from : FileName → List ℕ → Option (List ℕ)
bare_from (Real base) specifier = if is_bare specifier then Some base else None
bare_from (Custom name) specifier = None
bare_from Anon specifier = None

abbrev pub bare_base : Request → Option (List ℕ)
bare_base request = bare_from request.importer request.specifier

-- A manifest that can't be read is refused with its cause.
abbrev pub readable : Path → Result Contents HydrationCause → Result Contents JoinRefusal
readable file (Ok manifest) = Ok manifest
readable file (Err cause) = Err (FailedManifestHydration cause (text_of file))

unfoldable pub read_manifest : Path → Plan (Result Contents JoinRefusal)
read_manifest file = do
  read ← loading file
  Done (readable file read)

-- the manifest in the nearest manifest file; without one the node rows hold
abbrev pub manifest_in : ProjectSettings → Request → Option Path → Row Contents Resolution JoinRefusal
manifest_in project request None = ends_by (node_rows_of project request)
manifest_in project request (Some file) = refuses_by (read_manifest file)

-- Join row 1: the manifest that is nearest to the importer
unfoldable pub nearest_manifest : ProjectSettings → Request → List ℕ → Row Contents Resolution JoinRefusal
nearest_manifest project request base = do
  found ← nearest (path_of project base)
  manifest_in project request found

-- Join row 2: the owner of the importer; without one the node rows hold
abbrev pub owner_of : ProjectSettings → Request → Contents → List ℕ → Row PackageLocator Resolution JoinRefusal
owner_of project request manifest base =
    or_node_rows project request (owner manifest (path_of project base))

-- Join row 4: a target that isn't bare is searched as the node rows do
abbrev pub bare_target : ProjectSettings → List ℕ → List ℕ → Row (List ℕ) Resolution JoinRefusal
bare_target project base target =
    if is_bare target
    then Done (Ok target)
    else ends_by (raised of_node (search project.node base target))

-- Join row 5: the package name and the subpath. A scope alone names no package.
abbrev pub identifier_of : List ℕ → Result (List ℕ × Option (List ℕ)) JoinRefusal
identifier_of target = ok_or (split_bare target) (BadSpecifier target)

-- what the name is bound to; where nothing binds it, whether it is a peer that nobody provides, or isn't declared
abbrev pub bound_or_refused : Contents → PackageLocator → Path → List ℕ → List ℕ → Binding →
    Result PackageLocator JoinRefusal
bound_or_refused manifest asking importer target name (Bound locator) = Ok locator
bound_or_refused manifest asking importer target name MissingPeer =
    Err (MissingPeerDependency (missing_peer manifest asking target name (text_of importer)))
bound_or_refused manifest asking importer target name Undeclared =
    Err (UndeclaredDependency (undeclared manifest asking target name (text_of importer)))

-- Join row 6: the binding of the name by the owner's row, or by a fallback that is allowed
abbrev pub bound_of : Contents → PackageLocator → Path → List ℕ → List ℕ → Result PackageLocator JoinRefusal
bound_of manifest asking importer target name =
    bound_or_refused manifest asking importer target name (bind manifest asking name)

-- why a check refuses the binding to a package, as the order's refusal
abbrev pub of_fault : PackageLocator → EdgeFault → JoinRefusal
of_fault bound edge_fault.NotInRegistry = NotInRegistry bound.name bound.reference
of_fault bound edge_fault.NotLocked = NotLocked bound.name bound.reference
of_fault bound (edge_fault.MalformedPackage path) = MalformedPackage path
of_fault bound (edge_fault.OutOfRange range version) = OutOfRange range version

-- Join rows 7 and 8: the location of the bound package's row, where the lock, if there is one, allows the binding of
-- the name
abbrev pub checked_row : ProjectSettings → Contents → PackageLocator → List ℕ → PackageLocator →
    Plan (Result (List ℕ) JoinRefusal)
checked_row project manifest asking name bound =
    raised (of_fault bound) (checked_location project.lock manifest asking name bound)

-- Join row 9: the physical place of the location; one inside an archive is refused as the row says it.
abbrev pub folder_of : List ℕ → Result Path JoinRefusal
folder_of location = ok_or (physical_place location) (Archive location)

-- The end of join row 11: a file, and whether a rule for browsers led to it. One that a rule hides ends the order by
-- its name.
abbrev pub unless_ignored : Placed → Row (Path × Bool) Resolution JoinRefusal
unless_ignored (File f rewritten) = Done (Ok (f, rewritten))
unless_ignored (Ignored name) = Done (Err (Ok (custom name)))

-- Join row 10, where conditions are given: the file that the package's exports mean by the subpath, and none where it
-- has no exports
abbrev pub exported_file : ProjectSettings → Path → Option (List ℕ) → Plan (Result (Option Path) JoinRefusal)
exported_file project folder subpath = file_under project.conditions folder (export_key folder subpath)

-- Join rows 10 and 11: the file that exports mean, or else what is found at the location, by the rules for it
abbrev pub found_at : ProjectSettings → Path → Option (List ℕ) → Option Path → Plan (Result Placed JoinRefusal)
found_at project folder subpath None = raised of_node (resolve_at project.node folder subpath)
found_at project folder subpath (Some f) = never_refuses (ruled_file project.node f)

-- Join row 12: a file that isn't below the location is refused.
abbrev pub contained : Path → Path → Result Path JoinRefusal
contained folder f = if below f folder then Ok f else Err (Outside (text_of f) (text_of folder))

-- the row through which a file is found
abbrev pub via_of : PackageLocator → Path → Via
via_of bound location = record { name = bound.name; reference = bound.reference; location = text_of location }

-- where links are preserved, a file that a rule led to is told from the working folder, if it lies below it
abbrev pub is_told_relative : ProjectSettings → Path → Bool → Bool
is_told_relative project f rewritten = rewritten && below f project.node.cwd

-- Join row 13: the answer is the file, with the row through which it was found.
abbrev pub answered_through : ProjectSettings → Via → Path → Bool → Plan (Result Resolution JoinRefusal)
answered_through project via f rewritten =
    never_refuses (answered project.node (Some via) f (is_told_relative project f rewritten))
