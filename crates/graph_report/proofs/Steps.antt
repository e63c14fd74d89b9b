-- The lines of steps don't hang on how many questions the tree was asked before.
use Rattle.std.specs.Prelude.{IfNone, MatchResult, OnErr, OnOk, OnSome}
use Rattle.std.proofs.Common.{
  ◌≡◌,
  ℕ,
  Bool,
  true,
  false,
  cond,
  is_some,
  List,
  [],
  ◌∷◌,
  ◌++◌,
  Option,
  Some,
  None,
  Result,
  Ok,
  Err,
  refl,
  sym,
  ap,
  ◌∙◌,
}
use Rattle.swc_loader.specs.declared.resolution.FileName.{FileName}
use Rattle.tree_core.specs.Tree.{is_file}
use Rattle.session_core.specs.Session.{Session, after_ask, after_remove}
use Rattle.session_core.specs.Session as session
use Rattle.session_report.specs.Lines.{counting, taken}
use Rattle.session_report.specs.declared.step.Step.TheVariants as edit
use Rattle.session_report.proofs.Questions.{stepped, line-counting}
use Rattle.import_graph.specs.GraphState.{
  GraphState,
  LeavesAsked,
  LeavesSame,
  after_asks,
  graph_of,
  requests_of,
  with_session,
}
use Rattle.import_graph.proofs.Asked.{same-asks}
use Rattle.graph_report.specs.declared.step.GraphStep.{GraphStep}
use Rattle.graph_report.specs.declared.step.GraphStep.TheVariants.{Graph, Put, Remove}
use Rattle.graph_report.specs.Lines.{LeavesAfter, after_step, counted, step_line, step_lines}

asked : (requests : List (FileName × List ℕ)) (s : Session) (n : ℕ) → (m : ℕ)
    × (after_asks (counting s n) requests ≡ counting (after_asks s requests) m)
asked [] s n = (n, refl)
asked (r ∷ requests) s n =
    let first = stepped s n (session.Ask r.0 r.1) in
    let rest = asked requests (after_ask s r.0 r.1) first.0 in
    (rest.0, ap (λ u. after_asks u requests) first.1 ∙ rest.1)

step-counted : (imports : List ℕ → List (List ℕ)) (s : GraphState) (n : ℕ) (step : GraphStep) → (m : ℕ)
    × (after_step imports (counted s n) step ≡ counted (after_step imports s step) m)
step-counted imports s n Graph =
    let all = asked (requests_of (graph_of imports s)) s.session n in (all.0, ap (with_session s) all.1)
step-counted imports s n (Put file) =
    let one = stepped s.session n (taken (edit.Put file)) in (one.0, ap (with_session s) one.1)
step-counted imports s n (Remove path) =
    let one = stepped s.session n (taken (edit.Remove path)) in (one.0, ap (with_session s) one.1)

line-counted : (imports : List ℕ → List (List ℕ)) (s : GraphState) (n : ℕ) (step : GraphStep)
    → step_line imports (counted s n) step ≡ step_line imports s step
line-counted imports s n Graph = refl
line-counted imports s n (Put file) = line-counting s.session n (edit.Put file)
line-counted imports s n (Remove path) = line-counting s.session n (edit.Remove path)

pub lines-counted : (imports : List ℕ → List (List ℕ)) (steps : List GraphStep) (s : GraphState) (n : ℕ)
    → step_lines imports (counted s n) steps ≡ step_lines imports s steps
lines-counted imports [] s n = refl
lines-counted imports (step ∷ steps) s n =
    let next = step-counted imports s n step in
    ap (λ line. line ++ step_lines imports (after_step imports (counted s n) step) steps)
    (line-counted imports s n step)
    ∙ ap (λ u. step_line imports s step ++ step_lines imports u steps) next.1
    ∙ ap (λ rest. step_line imports s step ++ rest) (lines-counted imports steps (after_step imports s step) next.0)

-- the lines of the steps behind one
pub lines-left : (imports : List ℕ → List (List ℕ)) (s u : GraphState) (step : GraphStep) (steps : List GraphStep)
    → LeavesAfter imports step s u → step_lines imports u steps ≡ step_lines imports (after_step imports s step) steps
lines-left imports s u step steps left =
    ap (λ v. step_lines imports v steps) left
    ∙ lines-counted imports steps (after_step imports s step) u.session.tree.questions

-- ---- what each step leaves
session-by : (u v : Session) → u.project ≡ v.project → u.tree.files ≡ v.tree.files → u.capacity ≡ v.capacity
    → u.kept ≡ v.kept → u ≡ counting v u.tree.questions
session-by u v project files capacity kept =
    ap (λ p. record u { project = p }) project
    ∙ ap (λ t. record u { project = v.project; tree = record { files = t; questions = u.tree.questions } }) files
    ∙ ap (λ n. record {
      project = v.project;
      tree = record { files = v.tree.files; questions = u.tree.questions };
      capacity = n;
      kept = u.kept;
    }) capacity
    ∙ ap (λ es. record {
      project = v.project;
      tree = record { files = v.tree.files; questions = u.tree.questions };
      capacity = v.capacity;
      kept = es;
    }) kept

pub graph-left : (imports : List ℕ → List (List ℕ)) (s u : GraphState) → LeavesAsked imports s u
    → LeavesAfter imports Graph s u
graph-left imports s u left =
    let requests = requests_of (graph_of imports s) in
    let same = same-asks s.session requests in
    ap (λ e. record { session = u.session; entries = e }) left.entries
    ∙ ap (with_session s) (session-by u.session (after_asks s.session requests)
    (left.asked.same.project ∙ sym same.project) (left.asked.same.files ∙ sym same.files)
    (left.asked.same.capacity ∙ sym same.capacity) left.asked.left)

-- what asking for the graph leaves, where a line is made of it
pub asked-left : {A B E F : Type 0} (imports : List ℕ → List (List ℕ)) (r : Result A E) (asked : Result B F) (b : B)
    (s u : GraphState) → asked ≡ Ok b → MatchResult asked (λ _. LeavesAsked imports s u) (λ _. LeavesSame s u)
    → OnOk r (LeavesAfter imports Graph s u)
asked-left imports (Ok a) (Ok other) b s u was held = graph-left imports s u held
asked-left imports (Ok a) (Err e) b s u was held = cc
asked-left imports (Err e) asked b s u was held = tt

same-counted : (s u : GraphState) → u ≡ s → u ≡ counted s u.session.tree.questions
same-counted s u is = is ∙ ap (counted s) (sym (ap (λ v. v.session.tree.questions) is))

pub edit-left : (s u : GraphState) (after : Session) → u.entries ≡ s.entries → u.session ≡ after
    → u ≡ counted (with_session s after) u.session.tree.questions
edit-left s u after entries is =
    same-counted (with_session s after) u (ap (λ e. record { session = u.session; entries = e }) entries
    ∙ ap (with_session s) is)

-- what a call leaves of a graph session that changes its session alone
pub session-ok : {A E : Type 0} (s u : GraphState) (after : Session) (r : Result A E)
    → OnOk r (u ≡ with_session s after) → OnOk r (u.session ≡ after)
session-ok s u after (Ok a) is = ap (λ v. v.session) is
session-ok s u after (Err e) is = tt

pub session-err : {A E : Type 0} (s u : GraphState) (r : Result A E) → OnErr r (u ≡ s) → OnErr r (u.session ≡ s.session)
session-err s u (Ok a) is = tt
session-err s u (Err e) is = ap (λ v. v.session) is

pub entries-kept : {A E : Type 0} (s u : GraphState) (after : Session) (r : Result A E)
    → OnOk r (u ≡ with_session s after) → OnErr r (u ≡ s) → u.entries ≡ s.entries
entries-kept s u after (Ok a) is same = ap (λ v. v.entries) is
entries-kept s u after (Err e) is same = ap (λ v. v.entries) same

-- what a put leaves, where it may come to nothing
pub put-leaves : {A E : Type 0} (s u : GraphState) (after : Session) (r : Result A E) → u.entries ≡ s.entries
    → OnOk r (u.session ≡ after) → OnOk r (u ≡ counted (with_session s after) u.session.tree.questions)
put-leaves s u after (Ok a) entries is = edit-left s u after entries is
put-leaves s u after (Err e) entries is = tt

-- what a removal leaves, where there is such a file and where there is none
left : (s u : GraphState) (path : List ℕ) (dropped : Option ℕ) (b : Bool) → is_some dropped ≡ b
    → OnSome dropped (u ≡ with_session s (after_remove s.session path)) → IfNone dropped (u ≡ s)
    → u ≡ counted (with_session s (cond b (after_remove s.session path) s.session)) u.session.tree.questions
left s u path (Some n) true was gone absent = same-counted (with_session s (after_remove s.session path)) u gone
left s u path (Some n) false was gone absent = cc
left s u path None true was gone absent = cc
left s u path None false was gone absent = same-counted s u absent

pub removal-leaves : {A E : Type 0} (imports : List ℕ → List (List ℕ)) (r : Result A E) (s u : GraphState)
    (path : List ℕ) (dropped : Option ℕ)
    → is_some dropped ≡ is_file s.session.tree.files path
    → OnSome dropped (u ≡ with_session s (after_remove s.session path)) → IfNone dropped (u ≡ s)
    → OnOk r (LeavesAfter imports (Remove path) s u)
removal-leaves imports (Ok a) s u path dropped was gone absent =
    left s u path dropped (is_file s.session.tree.files path) was gone absent
removal-leaves imports (Err e) s u path dropped was gone absent = tt
