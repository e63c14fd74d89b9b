-- What an ask leaves, and which outcome stands in front then.
use Rattle.std.proofs.Common.{append-nil, ◌≡◌, ◌-◌, ℕ, Bool, false, not, List, [], length, map, arith, Option, Some}
use Rattle.std.proofs.Common.{None, is_some, Result, Ok, Err, OnOk, OnErr, All, refl, sym, ap, ◌∙◌, subst}
use Rattle.std.specs.Prelude.{slice_get}
use Rattle.std.specs.List.{AllByRecursion}
use Rattle.std.proofs.lemmas.List.Elements.{All-from_recursion, recursion_from_All}
use Rattle.tree_core.specs.Plan.{asked}
use Rattle.tree_core.specs.Tree.{Files, recorded, put_times}
use Rattle.tree_core.specs.Memory.{Memory}
use Rattle.swc_loader.specs.declared.resolution.FileName.{FileName}
use Rattle.resolve_stack.specs.declared.verdict.Outcome.{Outcome}
use Rattle.resolve_stack.specs.ImportFault.{StarvedAt}
use Rattle.resolve_stack.specs.Outcomes.{request_outcome}
use Rattle.resolve_stack.specs.Request.{Request, asked_for}
use Rattle.resolve_stack.specs.Settings.{ProjectSettings}
use Rattle.resolve_stack.specs.Verdict.{verdict}
use Rattle.session_core.specs.declared.latest.Entry.{Entry}
use Rattle.session_core.specs.Entries.{is_for, kept_for, moved_first, put_first}
use Rattle.session_core.specs.Session.{Session, IsRight, outcome_on, asked_by, after_ask}
use Rattle.session_core.specs.Asked.{IsStarved}
use Rattle.session_core.proofs.Lists.{find-passes, all-find, all-filter, all-take}
use Rattle.session_core.proofs.Requests.{importer-is, specifier-is}
use Rattle.session_core.proofs.Sessions.{IsOn}

pub not-kept : (b : Bool) (o : Option Entry) → b ≡ is_some o → b ≡ false → o ≡ None
not-kept b None is none = refl
not-kept b (Some e) is none = cc

moved-right : (t : Files) (project : ProjectSettings) (importer : FileName) (specifier : List ℕ) (kept : List Entry)
    (o : Option Entry) → kept_for importer specifier kept ≡ o → AllByRecursion (IsOn t project) kept →
    AllByRecursion (IsOn t project) (moved_first importer specifier kept o)
moved-right t project importer specifier kept None is all = all
moved-right t project importer specifier kept (Some e) is all = (
  all-find (is_for importer specifier) (IsOn t project) kept e all is,
  all-filter (λ f. not (is_for importer specifier f)) (IsOn t project) kept all,
)

-- an entry that moves to the front stays right, and so do the others
pub right-moved : (t : Files) (project : ProjectSettings) (importer : FileName) (specifier : List ℕ)
    (kept now : List Entry) → All (IsOn t project) kept →
    now ≡ moved_first importer specifier kept (kept_for importer specifier kept) → All (IsOn t project) now
right-moved t project importer specifier kept now all is =
    All-from_recursion (IsOn t project) now (rw is
    (moved-right t project importer specifier kept (kept_for importer specifier kept) refl
    (recursion_from_All (IsOn t project) kept all)))

-- with a new one in front that is right
pub right-put : {A E : Type 0} (r : Result A E) (t u : Files) (project : ProjectSettings) (capacity : ℕ) (e : Entry)
    (kept now : List Entry) → u ≡ t → IsOn t project e → OnOk r (now ≡ put_first capacity e kept) →
    OnErr r (now ≡ kept) → All (IsOn t project) kept → All (IsOn u project) now
right-put (Ok _) t u project capacity e kept now same on ok err all =
    let P : Files → Type 0 = λ f. All (IsOn f project) now in
    subst P (sym same) (All-from_recursion (IsOn t project) now
    (rw ok (on, all-take (IsOn t project) (capacity - 1) kept (recursion_from_All (IsOn t project) kept all))))
right-put (Err _) t u project capacity e kept now same on ok err all =
    let P : Files → Type 0 = λ f. All (IsOn f project) now in
    subst P (sym same) (rw err all)

-- A request that was asked to its end was asked each of its different questions once.
pub asked_whole : (t : Files) (project : ProjectSettings) (request : Request) (o : Outcome) (before now : ℕ) →
    o ≡ request_outcome t project request → now ≡ put_times (length o.trail) before →
    StarvedAt t before now (verdict project request)
unfolding request_outcome
asked_whole t project request o before now is put = record {
  put = asked t (verdict project request);
  left = [];
  in_order = sym (append-nil (asked t (verdict project request)));
  counted = record {
    times = length (recorded t [] (asked t (verdict project request)));
    enough = omega arith;
    few = omega arith;
    counted = put ∙ ap (λ (x : Outcome). put_times (length x.trail) before) is;
  };
}

-- out of memory
pub starved : (s : Session) (importer : FileName) (specifier : List ℕ) (tree : Memory) (capacity : ℕ)
    (kept : List Entry) → tree.files ≡ s.tree.files → capacity ≡ s.capacity → kept ≡ s.kept →
    StarvedAt s.tree.files s.tree.questions tree.questions (verdict s.project (asked_for importer specifier)) →
    IsStarved importer specifier s (record
    { project = s.project; tree = tree; capacity = capacity; kept = kept })
starved s importer specifier tree capacity kept files same_capacity same_kept asked = record {
  questions = tree.questions;
  same =
      ap (λ (f : Files). record {
        project = s.project;
        tree =
            record { files = f; questions = tree.questions };
        capacity = capacity;
        kept = kept;
      }) files
      ∙ ap (λ (n : ℕ). record {
        project = s.project;
        tree =
            record { files = s.tree.files; questions = tree.questions };
        capacity = n;
        kept = kept;
      }) same_capacity
      ∙ ap (λ (es : List Entry). record {
        project = s.project;
        tree =
            record { files = s.tree.files; questions = tree.questions };
        capacity = s.capacity;
        kept = es;
      }) same_kept;
  asked = asked;
}

pub on_err : {A E : Type 0} (r : Result A E) (P : Type 0) → P → OnErr r P
on_err (Ok _) P h = tt
on_err (Err _) P h = h

pub on_err-then : {A E : Type 0} (r : Result A E) (P Q : Type 0) → (P → Q) → OnErr r P → OnErr r Q
on_err-then (Ok _) P Q f h = tt
on_err-then (Err _) P Q f h = f h

first-is : (s : Session) (importer : FileName) (specifier : List ℕ) (o : Option Entry) →
    kept_for importer specifier s.kept ≡ o → IsRight s → (first : Outcome) →
    slice_get (map (λ e. e.outcome) (asked_by s importer specifier o).kept) 0 ≡ Some first →
    first ≡ outcome_on s.tree.files s.project importer specifier
first-is s importer specifier (Some e) is right first at =
    let test = is_for importer specifier in
    let pass = find-passes test s.kept e is in
    let on : e.outcome ≡ outcome_on s.tree.files s.project e.importer e.specifier =
    all-find test (IsOn s.tree.files s.project) s.kept e
    (recursion_from_All (IsOn s.tree.files s.project) s.kept right) is in
    let front : e.outcome ≡ first = cc in
    sym front ∙ on ∙ ap (λ i. outcome_on s.tree.files s.project i e.specifier) (importer-is importer specifier e pass)
    ∙ ap (outcome_on s.tree.files s.project importer) (specifier-is importer specifier e pass)
first-is s importer specifier None is right first at = cc

-- After an ask the request's outcome stands in front.
pub asked-first : (s u : Session) (importer : FileName) (specifier : List ℕ) (first : Outcome) → IsRight s →
    u ≡ after_ask s importer specifier → slice_get (map (λ e. e.outcome) u.kept) 0 ≡ Some first →
    first ≡ outcome_on s.tree.files s.project importer specifier
asked-first s u importer specifier first right after at =
    first-is s importer specifier (kept_for importer specifier s.kept) refl right first
    (ap (λ (x : Session). slice_get (map (λ e. e.outcome) x.kept) 0) (sym after) ∙ at)

-- after an ask something is kept
pub asked-some : (s u : Session) (importer : FileName) (specifier : List ℕ) → u ≡ after_ask s importer specifier →
    u.kept ≡ [] → ⊥
asked-some s u importer specifier after none =
    by_kept (kept_for importer specifier s.kept) (ap (λ (x : Session). x.kept) (sym after) ∙ none)
  where
    by_kept : (o : Option Entry) → (asked_by s importer specifier o).kept ≡ [] → ⊥
    by_kept (Some e) h = cc
    by_kept None h = cc
