-- What asking for the edges of a graph leaves in a session.
use Rattle.std.proofs.Common.{
  ◌≡◌,
  ◌≤◌,
  ◌&&◌,
  ℕ,
  Bool,
  true,
  false,
  bytes_eq,
  ◌||◌,
  List,
  [],
  ◌∷◌,
  ◌++◌,
  length,
  map,
  Option,
  Some,
  None,
  is_some,
  refl,
  sym,
  ap,
  ◌∙◌,
  subst,
}
use Rattle.std.specs.List.{flat_map, list_any, AllByRecursion, IsDistinct}
use Rattle.std.proofs.lemmas.List.Elements.{All-from_recursion, recursion_from_All}
use Rattle.std.proofs.lemmas.Slice.Eq.{bytes_eq-Decides}
use Rattle.std.proofs.lemmas.Map.Keys.{IsDistinct-head, IsDistinct-tail}
use Rattle.tree_core.specs.Tree.{Files}
use Rattle.swc_loader.specs.declared.resolution.FileName.{FileName}
use Rattle.swc_loader.specs.declared.resolution.FileName.TheVariants.{Real, Custom, Anon}
use Rattle.resolver_core.specs.Caching.{name_eq}
use Rattle.resolve_stack.specs.Settings.{ProjectSettings}
use Rattle.session_core.specs.declared.latest.Entry.{Entry}
use Rattle.session_core.specs.Entries.{kept_for, same_request}
use Rattle.session_core.specs.Session.{Session, IsSession, entry_on, outcome_on, asked_by, after_ask}
use Rattle.import_graph.specs.declared.graph.Graph.{Graph}
use Rattle.import_graph.specs.Graph.{edge_on, files_reached, graph_on, imported, node_on}
use Rattle.import_graph.specs.GraphState.{IsAsked, IsSameBut, after_asks, requests_at, requests_of}
use Rattle.import_graph.proofs.Graphs.{once-distinct, reached_once}
use Rattle.import_graph.proofs.Again as again
use Rattle.import_graph.proofs.Runs as runs

abbrev Key : Type 0
Key = FileName × List ℕ

abbrev key_of : Entry → Key
key_of e = (e.importer, e.specifier)

abbrev same_key : Key → Key → Bool
same_key a b = name_eq a.0 b.0 && bytes_eq a.1 b.1

name-is : (a b : FileName) → name_eq a b ≡ true → a ≡ b
name-is (Real a) (Real b) h = ap Real ((bytes_eq-Decides a b).0 h)
name-is (Real a) (Custom b) h = cc
name-is (Real a) Anon h = cc
name-is (Custom a) (Real b) h = cc
name-is (Custom a) (Custom b) h = ap Custom ((bytes_eq-Decides a b).0 h)
name-is (Custom a) Anon h = cc
name-is Anon (Real b) h = cc
name-is Anon (Custom b) h = cc
name-is Anon Anon h = refl

name-itself : (a : FileName) → name_eq a a ≡ true
name-itself (Real a) = (bytes_eq-Decides a a).1 refl
name-itself (Custom a) = (bytes_eq-Decides a a).1 refl
name-itself Anon = refl

both : (a b : Bool) → (a && b) ≡ true → (a ≡ true) × (b ≡ true)
both true b h = (refl, h)
both false b h = cc

exact : (a b : Key) → same_key a b ≡ true → a ≡ b
exact a b h =
    let parts = both (name_eq a.0 b.0) (bytes_eq a.1 b.1) h in
    ap (λ (n : FileName). (n, a.1)) (name-is a.0 b.0 parts.0)
    ∙ ap (λ (s : List ℕ). (b.0, s)) ((bytes_eq-Decides a.1 b.1).0 parts.1)

itself : (a : Key) → same_key a a ≡ true
itself a = rw (name-itself a.0) ((bytes_eq-Decides a.1 a.1).1 refl)

abbrev made : Files → ProjectSettings → Key → Entry
made t project k = entry_on t project k.0 k.1

-- ---- the session stays the same but for what is kept and the count of questions
pub same-refl : (s : Session) → IsSameBut s s
same-refl s = record { project = refl; files = refl; capacity = refl }

pub same-then : (a b c : Session) → IsSameBut a b → IsSameBut b c → IsSameBut a c
same-then a b c first second = record {
  project = second.project ∙ first.project;
  files = second.files ∙ first.files;
  capacity = second.capacity ∙ first.capacity;
}

same-by : (s : Session) (importer : FileName) (specifier : List ℕ) (o : Option Entry)
    → IsSameBut s (asked_by s importer specifier o)
same-by s importer specifier (Some e) = record { project = refl; files = refl; capacity = refl }
same-by s importer specifier None = record { project = refl; files = refl; capacity = refl }

pub same-ask : (s : Session) (importer : FileName) (specifier : List ℕ) → IsSameBut s (after_ask s importer specifier)
same-ask s importer specifier = same-by s importer specifier (kept_for importer specifier s.kept)

pub same-asks : (s : Session) (requests : List Key) → IsSameBut s (after_asks s requests)
same-asks s [] = same-refl s
same-asks s (r ∷ requests) = same-then s (after_ask s r.0 r.1) (after_asks s (r ∷ requests)) (same-ask s r.0 r.1)
    (same-asks (after_ask s r.0 r.1) requests)

pub asks-append : (s : Session) (first second : List Key)
    → after_asks s (first ++ second) ≡ after_asks (after_asks s first) second
asks-append s [] second = refl
asks-append s (r ∷ first) second = asks-append (after_ask s r.0 r.1) first second

-- ---- what is kept then
abbrev run_by : Files → ProjectSettings → ℕ → List Entry → List Key → List Entry
run_by t project = runs.used_all key_of same_key exact itself (made t project) (λ k. refl)

abbrev run_from : Session → List Key → List Entry
run_from s = run_by s.tree.files s.project s.capacity s.kept

kept-run : (s : Session) (requests : List Key) → (after_asks s requests).kept ≡ run_from s requests
kept-run s [] = refl
kept-run s (r ∷ requests) = by_found (kept_for r.0 r.1 s.kept) (λ u. kept-run u requests)
  where
    by_found : (o : Option Entry) → ((u : Session) → (after_asks u requests).kept ≡ run_from u requests)
        → (after_asks (asked_by s r.0 r.1 o) requests).kept ≡ runs.used_all key_of same_key exact itself
        (made s.tree.files s.project) (λ k. refl) s.capacity
        (runs.used_by key_of same_key exact itself (made s.tree.files s.project) (λ k. refl) s.capacity s.kept r o)
        requests
    by_found (Some e) rest = rest (asked_by s r.0 r.1 (Some e))
    by_found None rest = rest (asked_by s r.0 r.1 None)

-- what a session keeps is of different requests, each outcome the one that is made for its request
apart-kept : (t : Files) (project : ProjectSettings) (kept : List Entry) → IsDistinct same_request kept
    → again.AreApart key_of same_key exact itself (made t project) (λ k. refl) kept
apart-kept t project [] distinct = tt
apart-kept t project (e ∷ kept) distinct = (
  none kept (IsDistinct-head same_request e kept distinct),
  apart-kept t project kept (IsDistinct-tail same_request e kept distinct),
)
  where
    none : (es : List Entry) → AllByRecursion (λ other. same_request e other ≡ false) es
        → list_any (λ other. same_key other (key_of e)) (map key_of es) ≡ false
    none [] all = refl
    none (other ∷ es) all =
        ap (λ b. b || list_any (λ other. same_key other (key_of e)) (map key_of es)) all.0 ∙ none es all.1

made-kept : (t : Files) (project : ProjectSettings) (kept : List Entry)
    → AllByRecursion (λ e. e.outcome ≡ outcome_on t project e.importer e.specifier) kept
    → again.AreMade key_of same_key exact itself (made t project) (λ k. refl) kept
made-kept t project [] right = tt
made-kept t project (e ∷ kept) right = (one e right.0, made-kept t project kept right.1)
  where
    one : (other : Entry) → other.outcome ≡ outcome_on t project other.importer other.specifier
        → made t project (key_of other) ≡ other
    one other is = ap (λ o. record other { outcome = o }) (sym is)

-- what is kept stays when requests, each another, are asked again
kept-again : (s u : Session) (requests : List Key) → IsSession s → IsSameBut s u → IsDistinct same_key requests
    → u.kept ≡ (after_asks s requests).kept → u.kept ≡ (after_asks u requests).kept
kept-again s u requests held same new left =
    let is : u.kept ≡ run_from s requests = left ∙ kept-run s requests in
    sym (
    kept-run u requests
    ∙ ap (λ t. run_by t u.project u.capacity u.kept requests) same.files
    ∙ ap (λ p. run_by s.tree.files p u.capacity u.kept requests) same.project
    ∙ ap (λ n. run_by s.tree.files s.project n u.kept requests) same.capacity
    ∙ ap (λ kept. run_by s.tree.files s.project s.capacity kept requests) is
    ∙ again.used-again key_of same_key exact itself (made s.tree.files s.project) (λ k. refl) s.capacity s.kept requests
    held.some held.few
    (apart-kept s.tree.files s.project s.kept held.apart) (made-kept s.tree.files s.project s.kept
    (recursion_from_All _ s.kept held.right)) (again.new-keys key_of same_key exact itself
    (made s.tree.files s.project) (λ k. refl) requests new)
    ∙ sym is)

abbrev are_kept : List Entry → List Key → Type 0
are_kept kept requests = AllByRecursion (λ r. is_some (kept_for r.0 r.1 kept) ≡ true) requests

-- where all that is asked for is kept, no question is put
unasked-run : (s : Session) (requests : List Key) → are_kept s.kept requests
    → (after_asks s requests).tree.questions ≡ s.tree.questions
unasked-run s [] kept = refl
unasked-run s (r ∷ requests) kept =
    by_found (kept_for r.0 r.1 s.kept) kept.0 (more requests kept.1) (λ u. unasked-run u requests)
  where
    more : (rs : List Key) → are_kept s.kept rs
        → are_kept (runs.used key_of same_key exact itself (made s.tree.files s.project) (λ k. refl) s.capacity s.kept
        r) rs
    more [] all = tt
    more (q ∷ rs) all = (
      runs.stays-kept key_of same_key exact itself (made s.tree.files s.project) (λ k. refl)
          s.capacity s.kept r q kept.0 all.0,
      more rs all.1,
    )

    by_found : (o : Option Entry) → is_some o ≡ true
        → are_kept (runs.used_by key_of same_key exact itself (made s.tree.files s.project) (λ k. refl) s.capacity
        s.kept r o) requests
        → ((u : Session) → are_kept u.kept requests → (after_asks u requests).tree.questions ≡ u.tree.questions)
        → (after_asks (asked_by s r.0 r.1 o) requests).tree.questions ≡ s.tree.questions
    by_found (Some e) there all rest = rest (asked_by s r.0 r.1 (Some e)) all
    by_found None there all rest = cc

-- ---- the requests of a graph
map-map : {A B C : Type 0} (f : B → C) (g : A → B) (xs : List A) → map f (map g xs) ≡ map (λ x. f (g x)) xs
map-map f g [] = refl
map-map f g (x ∷ xs) = ap (λ ys. f (g x) ∷ ys) (map-map f g xs)

abbrev request : List ℕ → List ℕ → Key
request file text = (Real file, text)

pub requests-at : (imports : List ℕ → List (List ℕ)) (t : Files) (project : ProjectSettings) (file : List ℕ)
    → requests_at (node_on imports t project file) ≡ map (request file) (imported imports t file)
requests-at imports t project file =
    map-map (λ e. (Real file, e.specifier)) (edge_on t project file) (imported imports t file)

requests-are : (imports : List ℕ → List (List ℕ)) (t : Files) (project : ProjectSettings) (files : List (List ℕ))
    → flat_map requests_at (map (node_on imports t project) files) ≡ flat_map
    (λ file. map (request file) (imported imports t file)) files
requests-are imports t project [] = refl
requests-are imports t project (file ∷ files) =
    ap (λ rs. rs ++ flat_map requests_at (map (node_on imports t project) files)) (requests-at imports t project file)
    ∙ ap (λ rs. map (request file) (imported imports t file) ++ rs) (requests-are imports t project files)

pub requests-new : (imports : List ℕ → List (List ℕ)) (t : Files) (project : ProjectSettings) (entries : List (List ℕ))
    → IsDistinct same_key (requests_of (graph_on imports t project entries))
requests-new imports t project entries =
    subst (IsDistinct same_key) (sym (requests-are imports t project (files_reached imports t project entries)))
    (runs.distinct-all-pairs key_of same_key exact itself (made t project) (λ k. refl) request (λ a b c d. refl)
    (imported imports t) (files_reached imports t project entries) (λ file. once-distinct _)
    (reached_once imports t project entries))

pub graph-asked : (imports : List ℕ → List (List ℕ)) (s u : Session) (entries : List (List ℕ)) (g : Graph)
    → g ≡ graph_on imports s.tree.files s.project entries → u ≡ after_asks s (requests_of g) → IsAsked g s u
graph-asked imports s u entries g is asked = rw asked (record {
  same = same-asks s (requests_of g);
  left = refl;
  kept = λ few. All-from_recursion _ (requests_of g) (subst (λ (kept : List Entry). are_kept kept (requests_of g))
      (sym (kept-run s (requests_of g)))
      (runs.all-kept key_of same_key exact itself (made s.tree.files s.project) (λ k. refl) s.capacity s.kept
      (requests_of g)
      (runs.new-distinct key_of same_key exact itself (made s.tree.files s.project) (λ k. refl) (requests_of g)
      (rw is (requests-new imports s.tree.files s.project entries))) few));
  unasked = λ kept. unasked-run s (requests_of g) (recursion_from_All _ (requests_of g) kept);
})

-- a graph whose edges were asked for stays so
pub asked-again : (g : Graph) (s u : Session) → IsSession s → IsDistinct same_key (requests_of g) → IsAsked g s u
    → IsAsked g u u
asked-again g s u held new asked = record {
  same = same-refl u;
  left = kept-again s u (requests_of g) held asked.same new asked.left;
  kept = λ few. asked.kept (subst (λ (n : ℕ). length (requests_of g) ≤ n) asked.same.capacity few);
  unasked = λ kept. refl;
}
