-- On a tree on which manifests are known, the order that knows them comes to what the order comes to.
use Rattle.std.proofs.Common.{◌≡◌, ℕ, Bool, true, false, cond, List, [], ◌∷◌, Option, Some, None, Result, refl, sym}
use Rattle.std.proofs.Common.{ap, ◌∙◌, subst}
use Rattle.sugar_path.specs.Path.{Path, path_eq}
use Rattle.sugar_path.specs.PathEq.{path_eq-Decides}
use Rattle.tree_core.specs.Tree.{Files}
use Rattle.tree_core.specs.First.{content_of}
use Rattle.tree_core.specs.Plan.{Plan, Done, answer, asked, read, ◌>>=◌, ◌>>=?◌}
use Rattle.tree_core.specs.Told.{told}
use Rattle.tree_core.proofs.Tellings.{told-is}
use Rattle.tree_core.specs.Asks.{Asking, Asks, AgreeWith}
use Rattle.tree_core.specs.Rows.{order, refuses_by}
use Rattle.tree_core.specs.declared.tree.ReadError.{ReadError}
use Rattle.pnp_core.specs.Loading.{loading}
use Rattle.pnp_core.specs.OnTree.{loaded_on}
use Rattle.pnp_core.specs.Nearest.{nearest}
use Rattle.swc_loader.specs.declared.resolution.FileName.{FileName}
use Rattle.resolver_core.specs.Mapping.{Order, Mapping, mapping_order, mapped}
use Rattle.resolver_core.specs.MappingOnTree.{mapped_on}
use Rattle.resolver_core.proofs.MappingLaws.{mapping_on_tree}
use Rattle.resolve_stack.specs.declared.verdict.Verdict.{Verdict}
use Rattle.resolve_stack.specs.Settings.{ProjectSettings, path_of}
use Rattle.resolve_stack.specs.Request.{Request, asked_for}
use Rattle.resolve_stack.specs.Rows.{or_node_rows, bare_base, readable, read_manifest, manifest_in, nearest_manifest}
use Rattle.resolve_stack.specs.OrderParts.{manifest_rows}
use Rattle.resolve_stack.specs.Order.{join, join_order}
use Rattle.resolve_stack.specs.Verdict.{verdict, verdict_of, behind_mapping}
use Rattle.resolve_stack.specs.Known.{ReadManifest, known_at, known_or_read, read_by, manifest_in_by}
use Rattle.resolve_stack.specs.Known.{nearest_manifest_by, join_by, join_order_by, verdict_by, AreKnownOn, AreRight}
use Rattle.resolve_stack.proofs.OnTrees.{told-read_manifest}
use Rattle.resolve_stack.proofs.AlikePlans.{Alike, alike_self, alike_then, alike_on_ok, asks_alike}

-- what is known of a file is what it says
known-says : (t : Files) (known : List ReadManifest) (file : Path) → AreKnownOn t known →
    known_or_read (known_at known file) file (content_of t file) ≡ readable file (loaded_on t file).result
known-says t [] file h = refl
known-says t (k ∷ known) file h = by_test (path_eq k.path file) refl (known-says t known file h.1)
  where
    by_test : (b : Bool) → path_eq k.path file ≡ b →
        known_or_read (known_at known file) file (content_of t file) ≡ readable file (loaded_on t file).result →
        known_or_read (cond b (Some k.manifest) (known_at known file)) file (content_of t file)
        ≡ readable file (loaded_on t file).result
    by_test true same rest =
        ap (readable file) (sym (ap (λ p. (loaded_on t p).result) (sym ((path_eq-Decides k.path file).0 same)) ∙ h.0))
    by_test false other rest = rest

answer-read_by : (t : Files) (known : List ReadManifest) (file : Path) →
    answer t (read_by known file) ≡ known_or_read (known_at known file) file (content_of t file)
unfolding read_by answer read ◌>>=◌
answer-read_by t known file = refl

asked-read_by : (t : Files) (known : List ReadManifest) (file : Path) →
    asked t (read_by known file) ≡ (loaded_on t file).questions
unfolding read_by asked read ◌>>=◌
asked-read_by t known file = refl

reading_alike : (t : Files) (known : List ReadManifest) (file : Path) → AreKnownOn t known →
    Alike t (read_by known file) (read_manifest file)
reading_alike t known file h = record {
  answers = answer-read_by t known file ∙ known-says t known file h
      ∙ sym (ap (λ tells. tells.result) (told-read_manifest t file));
  asks = asked-read_by t known file ∙ sym (ap (λ tells. tells.questions) (told-read_manifest t file));
}

manifest_in_alike : (t : Files) (known : List ReadManifest) (project : ProjectSettings) (request : Request)
    (found : Option Path) → AreKnownOn t known →
    Alike t (manifest_in_by known project request found) (manifest_in project request found)
unfolding refuses_by
manifest_in_alike t known project request None h = alike_self
manifest_in_alike t known project request (Some file) h =
    alike_then _ _ (reading_alike t known file h) (λ r. alike_self)

nearest_alike : (t : Files) (known : List ReadManifest) (project : ProjectSettings) (request : Request)
    (base : List ℕ) → AreKnownOn t known →
    Alike t (nearest_manifest_by known project request base) (nearest_manifest project request base)
unfolding nearest_manifest_by nearest_manifest
nearest_alike t known project request base h =
    alike_then _ _ alike_self (λ found. manifest_in_alike t known project request found h)

join_alike : (t : Files) (known : List ReadManifest) (project : ProjectSettings) (request : Request) →
    AreKnownOn t known → Alike t (join_by known project request) (join project request)
unfolding join_by join order
join_alike t known project request h =
    alike_then _ _
    (alike_on_ok _ _ alike_self (λ base.
    alike_on_ok _ _ (nearest_alike t known project request base h) (λ manifest. alike_self)))
    (λ going. alike_self)

mapping_alike : {X : Type 0} (t : Files) (p q : Order X) (m : Mapping) (base : FileName) (s : List ℕ) →
    ((b : FileName) (s : List ℕ) → Alike t (p b s) (q b s)) →
    Alike t (mapping_order p m base s) (mapping_order q m base s)
mapping_alike {X = X} t p q m base s alike =
    let same : told t (mapping_order p m base s) ≡ told t (mapping_order q m base s) =
    (mapping_on_tree X).tells t p m base s
    ∙ (λ i. mapped_on (λ b s. told-is (alike b s).answers (alike b s).asks i) (mapped m base s))
    ∙ sym ((mapping_on_tree X).tells t q m base s) in
    record { answers = ap (λ tells. tells.result) same; asks = ap (λ tells. tells.questions) same }

behind_alike : {X : Type 0} (t : Files) (p q : Order X) (o : Option Mapping) (base : FileName) (s : List ℕ) →
    ((b : FileName) (s : List ℕ) → Alike t (p b s) (q b s)) →
    Alike t (behind_mapping o p base s) (behind_mapping o q base s)
behind_alike t p q None base s alike = alike_then _ _ (alike base s) (λ r. alike_self)
behind_alike t p q (Some m) base s alike = mapping_alike t p q m base s alike

pub verdict_alike : (t : Files) (known : List ReadManifest) (project : ProjectSettings) (request : Request) →
    AreKnownOn t known → Alike t (verdict_by known project request) (verdict project request)
unfolding verdict_by verdict
verdict_alike t known project request h =
    alike_then _ _
    (behind_alike t (join_order_by known project) (join_order project) project.mapping request.importer
    request.specifier
    (λ base s. join_alike t known project (asked_for base s) h))
    (λ r. alike_self)

-- Where nothing is known, the two are one.
read_same : (file : Path) → read_by [] file ≡ read_manifest file
unfolding read_by read_manifest loading read ◌>>=◌
read_same file = refl

manifest_in_same : (project : ProjectSettings) (request : Request) (found : Option Path) →
    manifest_in_by [] project request found ≡ manifest_in project request found
manifest_in_same project request None = refl
manifest_in_same project request (Some file) = ap (λ p. refuses_by p) (read_same file)

nearest_same : (project : ProjectSettings) (request : Request) (base : List ℕ) →
    nearest_manifest_by [] project request base ≡ nearest_manifest project request base
unfolding nearest_manifest_by nearest_manifest
nearest_same project request base =
    λ i. nearest (path_of project base) >>= λ found. manifest_in_same project request found i

pub join_same : (project : ProjectSettings) (request : Request) → join_by [] project request ≡ join project request
unfolding join_by join
join_same project request =
    λ i. order (or_node_rows project request (bare_base request) >>=? λ base.
    nearest_same project request base i >>=? λ manifest. manifest_rows project request base manifest)

pub verdict_same : (project : ProjectSettings) (request : Request) →
    verdict_by [] project request ≡ verdict project request
unfolding verdict_by verdict
verdict_same project request =
    λ i. behind_mapping project.mapping (λ base s. join_same project (asked_for base s) i) request.importer
    request.specifier >>= λ result. Done (verdict_of result)

-- A call by the order that knows manifests of a tree that is stood for is one by the order.
pub asks_known : {old new : Asking} {r : Result Verdict ReadError} (known : List ReadManifest)
    (project : ProjectSettings) (request : Request) → AreRight old.tree.stands_for known →
    AgreeWith old.tree.stands_for old.trail → AgreeWith old.tree.stands_for new.trail →
    Asks old new r (verdict_by known project request) → Asks old new r (verdict project request)
asks_known {old = old} {new = new} {r = r} [] project request right before now h = let P : Plan Verdict → Type 0 =
    λ plan. Asks old new r plan in subst P (verdict_same project request) h
asks_known (k ∷ known) project request right before now h =
    asks_alike right.tree (before right.tree right.stands) (now right.tree right.stands)
    (verdict_alike right.tree (k ∷ known) project request right.loaded) h
