-- The order where manifests are known beforehand. No public clause of a free call names it: it comes to what the order
-- comes to.
-- A `do` here is over plans: a plan puts its questions, and the next one goes on by what it came to. By `>>=?` a
-- refusal ends them all.
use Rattle.std.specs.Prelude.{◌≡◌, ℕ, Bool, false, IsTrue, if◌then◌else◌, bytes_eq, List, [], ◌∷◌, Option, Some, None}
use Rattle.std.specs.Prelude.{Result, Ok}
use Rattle.std.specs.FinMap.{get}
use Rattle.std.specs.List.{AllByRecursion}
use Rattle.sugar_path.specs.Path.{Path, path_eq}
use Rattle.tree_core.specs.Tree.{Files}
use Rattle.tree_core.specs.Plan.{Plan, Done, read, ◌>>=◌, ◌>>=?◌}
use Rattle.tree_core.specs.Rows.{Row, order, ends_by, refuses_by}
use Rattle.pnp_core.specs.Manifest.{Contents}
use Rattle.pnp_core.specs.ManifestReading.{reading}
use Rattle.pnp_core.specs.Nearest.{nearest}
use Rattle.pnp_core.specs.OnTree.{loaded_on}
use Rattle.pnp_core.specs.Owner.{IsReady}
use Rattle.swc_loader.specs.declared.resolution.Resolution.{Resolution}
use Rattle.resolver_core.specs.declared.refusal.TsRefusal.{TsRefusal}
use Rattle.resolver_core.specs.Mapping.{Order}
use Rattle.resolve_stack.specs.declared.verdict.JoinRefusal.{JoinRefusal}
use Rattle.resolve_stack.specs.declared.verdict.Verdict.{Verdict}
use Rattle.resolve_stack.specs.Settings.{ProjectSettings, path_of}
use Rattle.resolve_stack.specs.Request.{Request, asked_for}
use Rattle.resolve_stack.specs.Rows.{or_node_rows, node_rows_of, bare_base, readable}
use Rattle.resolve_stack.specs.OrderParts.{manifest_rows}
use Rattle.resolve_stack.specs.Verdict.{behind_mapping, verdict_of}

-- a manifest that was read: the path and the bytes of its file, and what they say
pub record ReadManifest : Type 0 where
  pub path : Path
  pub bytes : List ℕ
  pub manifest : Contents

-- The manifest is the reading of its bytes at its path.
pub record IsReadFrom (read : ReadManifest) : Type 0 where
  pub says : reading (Some read.bytes) read.path ≡ Ok read.manifest
  pub ready : IsReady read.manifest

-- the manifest that is known at a path
abbrev pub known_at : List ReadManifest → Path → Option Contents
known_at [] p = None
known_at (k ∷ known) p = if path_eq k.path p then Some k.manifest else known_at known p

-- a known manifest, or what the bytes of the file say
abbrev pub known_or_read : Option Contents → Path → Option (List ℕ) → Result Contents JoinRefusal
known_or_read (Some manifest) file content = Ok manifest
known_or_read None file content = readable file (reading content file)

-- The manifest in a file: its bytes are asked for, also where the manifest is known.
unfoldable pub read_by : List ReadManifest → Path → Plan (Result Contents JoinRefusal)
read_by known file = do
  content ← read file
  Done (known_or_read (known_at known file) file content)

abbrev pub manifest_in_by : List ReadManifest → ProjectSettings → Request → Option Path →
    Row Contents Resolution JoinRefusal
manifest_in_by known project request None = ends_by (node_rows_of project request)
manifest_in_by known project request (Some file) = refuses_by (read_by known file)

-- the manifest that is nearest to the importer
unfoldable pub nearest_manifest_by : List ReadManifest → ProjectSettings → Request → List ℕ →
    Row Contents Resolution JoinRefusal
nearest_manifest_by known project request base = do
  found ← nearest (path_of project base)
  manifest_in_by known project request found

-- the join's order of search
unfoldable pub join_by : List ReadManifest → ProjectSettings → Request → Plan (Result Resolution JoinRefusal)
join_by known project request = order
    (or_node_rows project request (bare_base request) >>=? λ base.
    nearest_manifest_by known project request base >>=? λ manifest.
    manifest_rows project request base manifest)

abbrev pub join_order_by : List ReadManifest → ProjectSettings → Order JoinRefusal
join_order_by known project base specifier = join_by known project (asked_for base specifier)

-- the order of a project
abbrev pub project_order_by : List ReadManifest → ProjectSettings → Request →
    Plan (Result Resolution (TsRefusal JoinRefusal))
project_order_by known project request =
    behind_mapping project.mapping (join_order_by known project) request.importer request.specifier

-- the verdict of a request of a project
unfoldable pub verdict_by : List ReadManifest → ProjectSettings → Request → Plan Verdict
verdict_by known project request = do
  result ← project_order_by known project request
  Done (verdict_of result)

-- what the join hangs on where manifests are known
pub record KnownSettings : Type 0 where
  pub project : ProjectSettings
  pub known : List ReadManifest

-- on a tree each file has the manifest that is known of it
abbrev pub AreKnownOn : Files → List ReadManifest → Type 0
AreKnownOn t known = AllByRecursion (λ k. (loaded_on t k.path).result ≡ Ok k.manifest) known

-- what is known on a tree stays known there
abbrev pub StaysKnown : List ReadManifest → List ReadManifest → Type 0
StaysKnown before now = (t : Files) → AreKnownOn t before → AreKnownOn t now

-- two trees have the same files beside a path
abbrev pub IsSameBeside : Files → Files → List ℕ → Type 0
IsSameBeside t u path = (p : List ℕ) → bytes_eq path p ≡ false → get u p ≡ get t p

-- They are known on a tree that is stood for.
pub record AreKnown (stands_for : Files → Bool) (known : List ReadManifest) : Type 0 where
  pub tree : Files
  pub stands : IsTrue (stands_for tree)
  pub loaded : AreKnownOn tree known

-- Where manifests are known, they are so on a tree that is stood for.
abbrev pub AreRight : (Files → Bool) → List ReadManifest → Type 0
AreRight stands_for [] = Unit {0}
AreRight stands_for (k ∷ known) = AreKnown stands_for (k ∷ known)
