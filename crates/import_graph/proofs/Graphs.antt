-- Graphs: the files that are reached, and what the requests of their edges leave in a session.
use Rattle.std.proofs.Common.{
  ◌≡◌,
  ◌+◌,
  ◌-◌,
  ℕ,
  suc,
  Bool,
  false,
  bytes_eq,
  List,
  [],
  ◌∷◌,
  length,
  filter,
  Option,
  Some,
  None,
  is_some,
  refl,
  ◌∙◌,
  subst,
  arith,
}
use Rattle.std.specs.List.{list_any, IsDistinct}
use Rattle.std.specs.FinMap as finite
use Rattle.std.specs.Ordering.{nat_cmp, eq_by_cmp}
use Rattle.std.specs.Cmp.Lexicographic.{slice_cmp}
use Rattle.std.proofs.lemmas.Map.Text.{is_eq-slice_cmp}
use Rattle.tree_core.specs.Tree.{Files, is_file}
use Rattle.resolve_stack.specs.Settings.{ProjectSettings}
use Rattle.import_graph.specs.Levels.{among, once, level_at}
use Rattle.import_graph.specs.Graph.{files_reached, first_files, leads_to}
use Rattle.import_graph.specs.GraphLaws.{LevelsEnd, ReachedByWalks, ReachedOnce}
use Rattle.import_graph.proofs.Repeats.{distinct-all, once-is}
use Rattle.import_graph.proofs.Levels.{ended-then, levels-distinct, levels-end}
use Rattle.import_graph.proofs.Walks.{reached-by-walks}

-- ---- files that aren't in a tree lead nowhere
same-tests : {X : Type 0} (p q : X → Bool) (xs : List X) → ((x : X) → p x ≡ q x) → list_any p xs ≡ list_any q xs
same-tests p q [] same = refl
same-tests p q (x ∷ xs) same = rw (same x, same-tests p q xs same) refl

none-there : {X : Type 0} (o : Option X) → is_some o ≡ false → o ≡ None
none-there None h = refl
none-there (Some x) h = cc

pub absent : (t : Files) (file : List ℕ) → among file (finite.keys t) ≡ false → finite.get t file ≡ None
absent t file out = none-there (finite.get t file) (finite.contains_key-keys t file
    ∙ same-tests (eq_by_cmp (slice_cmp nat_cmp) file) (bytes_eq file) (finite.keys t) (is_eq-slice_cmp file) ∙ out)

pub leads-nowhere : (imports : List ℕ → List (List ℕ)) (t : Files) (project : ProjectSettings) (file : List ℕ)
    → among file (finite.keys t) ≡ false → leads_to imports t project file ≡ []
leads-nowhere imports t project file out = rw (absent t file out) refl

-- ---- the files that are reached
pub once-distinct : (texts : List (List ℕ)) → IsDistinct bytes_eq (once texts)
unfolding IsDistinct
once-distinct texts = subst (IsDistinct bytes_eq) (once-is texts) (distinct-all [] texts tt)

pub reached_by_walks : ReachedByWalks
unfolding files_reached
reached_by_walks = λ imports t project entries file. reached-by-walks (leads_to imports t project)
    (first_files t entries) (finite.keys t) (leads-nowhere imports t project)
    (once-distinct (filter (is_file t) entries)) file

pub reached_once : ReachedOnce
unfolding files_reached
reached_once = λ imports t project entries. levels-distinct (leads_to imports t project) (first_files t entries)
    (length (finite.keys t)) (once-distinct (filter (is_file t) entries))

pub levels_end : LevelsEnd
levels_end = λ imports t project entries k more.
    let n : ℕ = suc (length (finite.keys t)) in
    let m : k - n + n ≡ k = omega (arith, more) in
    let last = levels-end (leads_to imports t project) (first_files t entries) (finite.keys t)
    (leads-nowhere imports t project) (once-distinct (filter (is_file t) entries)) in
    subst (λ (j : ℕ). (level_at (leads_to imports t project) (first_files t entries) j).files ≡ []) m
    (ended-then (leads_to imports t project) (first_files t entries) n (k - n) last).0
