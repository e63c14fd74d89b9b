-- Whatever is asked and edited, a session stays right.
use Rattle.std.proofs.Common.{◌≡◌, ◌-◌, ℕ, Bool, true, false, not, cond, List, [], ◌∷◌, take, filter, All, Option}
use Rattle.std.proofs.Common.{Some, None, refl, sym, ◌∙◌, subst, arith}
use Rattle.std.specs.List.{AllByRecursion}
use Rattle.std.proofs.lemmas.List.Elements.{All-from_recursion, recursion_from_All}
use Rattle.tree_core.specs.declared.memory.PutError.{PutError}
use Rattle.tree_core.specs.declared.tree.TreeFile.{TreeFile}
use Rattle.tree_core.specs.Tree.{Files, is_file}
use Rattle.tree_core.specs.Memory.{refusal}
use Rattle.swc_loader.specs.declared.resolution.FileName.{FileName}
use Rattle.resolve_stack.specs.Settings.{ProjectSettings}
use Rattle.session_core.specs.declared.latest.Entry.{Entry}
use Rattle.session_core.specs.Entries.{is_for, same_request, kept_for, is_touched, untouched}
use Rattle.session_core.specs.Session.{Session, IsSession, outcome_on, entry_on, asked_by, after_put, after_remove}
use Rattle.session_core.specs.Session.{Step, Ask, Put, Remove, put_unless, after_step, after_steps}
use Rattle.session_core.proofs.Lists.{find-passes, all-find, find-none, all-filter, filter-fails, all-take}
use Rattle.session_core.proofs.Lists.{distinct-filter, distinct-take, length-filter-le, length-others, length-cut}
use Rattle.session_core.proofs.Requests.{apart-first, is_for-itself}
use Rattle.session_core.proofs.Replies.{SameBut, same_but-put, same_but-remove, outcome-same}

-- an entry has its request's outcome on a tree
abbrev pub IsOn : Files → ProjectSettings → Entry → Type 0
IsOn t project e = e.outcome ≡ outcome_on t project e.importer e.specifier

-- what an edit leaves is right after it
right-edited : (t u : Files) (project : ProjectSettings) (path : List ℕ) (kept : List Entry) → SameBut t u path →
    AllByRecursion (IsOn t project) kept → AllByRecursion (IsOn u project) (untouched path kept)
right-edited t u project path [] same all = tt
right-edited t u project path (e ∷ kept) same all =
    by_test (is_touched path e) refl (right-edited t u project path kept same all.1)
  where
    by_test : (b : Bool) → is_touched path e ≡ b → AllByRecursion (IsOn u project) (untouched path kept) →
        AllByRecursion (IsOn u project) (cond (not b) (e ∷ untouched path kept) (untouched path kept))
    by_test true touched rest = rest
    by_test false left rest =
        (all.0 ∙ sym (outcome-same t u path project e.importer e.specifier same (rw all.0 at left)), rest)

pub right-left : (t u : Files) (project : ProjectSettings) (path : List ℕ) (kept now : List Entry) →
    SameBut t u path → now ≡ untouched path kept → All (IsOn t project) kept → All (IsOn u project) now
right-left t u project path kept now same left all =
    All-from_recursion (IsOn u project) now (rw left
    (right-edited t u project path kept same (recursion_from_All (IsOn t project) kept all)))

pub right-same : (t u : Files) (project : ProjectSettings) (kept : List Entry) → u ≡ t → All (IsOn t project) kept →
    All (IsOn u project) kept
right-same t u project kept same all = let P : Files → Type 0 = λ f. All (IsOn f project) kept in subst P (sym same) all

edited : (s u : Session) (path : List ℕ) → SameBut s.tree.files u.tree.files path → u.project ≡ s.project →
    u.capacity ≡ s.capacity → u.kept ≡ untouched path s.kept → IsSession s → IsSession u
edited s u path same project capacity kept h = record {
  right = All-from_recursion (IsOn u.tree.files u.project) u.kept
      (rw (kept, project) (right-edited s.tree.files u.tree.files s.project path s.kept same
      (recursion_from_All (IsOn s.tree.files s.project) s.kept h.right)));
  apart = rw kept (distinct-filter same_request (λ e. not (is_touched path e)) s.kept h.apart);
  few = let le = length-filter-le (λ e. not (is_touched path e)) s.kept in let few = h.few in
      rw (kept, capacity) (omega arith);
  some = rw capacity h.some;
}

asked : (s : Session) (importer : FileName) (specifier : List ℕ) (o : Option Entry) →
    kept_for importer specifier s.kept ≡ o → IsSession s → IsSession (asked_by s importer specifier o)
asked s importer specifier (Some e) is h =
    let all = recursion_from_All (IsOn s.tree.files s.project) s.kept h.right in
    let test = is_for importer specifier in
    record {
      right = All-from_recursion (IsOn s.tree.files s.project) (e ∷ filter (λ f. not (test f)) s.kept) (
        all-find test (IsOn s.tree.files s.project) s.kept e all is,
        all-filter (λ f. not (test f)) (IsOn s.tree.files s.project) s.kept all,
      );
      apart = apart-first importer specifier e (filter (λ f. not (test f)) s.kept) (find-passes test s.kept e is)
          (filter-fails test s.kept) (distinct-filter same_request (λ f. not (test f)) s.kept h.apart);
      few = let le = length-others test s.kept e is in let few = h.few in omega arith;
      some = h.some;
    }
asked s importer specifier None is h =
    let all = recursion_from_All (IsOn s.tree.files s.project) s.kept h.right in
    let e = entry_on s.tree.files s.project importer specifier in
    record {
      right = All-from_recursion (IsOn s.tree.files s.project) (e ∷ take (s.capacity - 1) s.kept)
          (refl, all-take (IsOn s.tree.files s.project) (s.capacity - 1) s.kept all);
      apart = apart-first importer specifier e (take (s.capacity - 1) s.kept) (is_for-itself e)
          (all-take (λ f. is_for importer specifier f ≡ false) (s.capacity - 1) s.kept
          (find-none (is_for importer specifier) s.kept is))
          (distinct-take same_request (s.capacity - 1) s.kept h.apart);
      few = let le = length-cut (s.capacity - 1) s.kept in let some = h.some in omega arith;
      some = h.some;
    }

put : (s : Session) (path : List ℕ) (file : TreeFile) (o : Option PutError) → IsSession s →
    IsSession (put_unless s path file o)
put s path file None h = edited s (after_put s path file) path (same_but-put s.tree.files path file) refl refl refl h
put s path file (Some error) h = h

removed : (s : Session) (path : List ℕ) (b : Bool) → IsSession s → IsSession (cond b (after_remove s path) s)
removed s path true h = edited s (after_remove s path) path (same_but-remove s.tree.files path) refl refl refl h
removed s path false h = h

pub session-step : (s : Session) (step : Step) → IsSession s → IsSession (after_step s step)
session-step s (Ask importer specifier) h = asked s importer specifier (kept_for importer specifier s.kept) refl h
session-step s (Put path file) h = put s path file (refusal s.tree.files path file.canonical) h
session-step s (Remove path) h = removed s path (is_file s.tree.files path) h

pub session-steps : (s : Session) (steps : List Step) → IsSession s → IsSession (after_steps s steps)
session-steps s [] h = h
session-steps s (step ∷ steps) h = session-steps (after_step s step) steps (session-step s step h)
