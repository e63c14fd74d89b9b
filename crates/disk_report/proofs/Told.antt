-- Outcomes of requests over a tree, one after the other, and what is told of them.
use Rattle.std.proofs.Common.{
  ◌≡◌,
  ◌≢◌,
  ◌<◌,
  ◌≤◌,
  ◌+◌,
  ℕ,
  Bool,
  IsTrue,
  List,
  [],
  ◌∷◌,
  ◌++◌,
  drop,
  get_or,
  length,
  map,
  Option,
  Some,
  None,
  Result,
  Ok,
  Err,
  IfErr,
  string_bytes,
  refl,
  sym,
  ap,
  ◌∙◌,
  subst,
  arith,
  append_assoc,
  append-nil,
}
use Rattle.std.specs.Prelude.{flat_map, IfOk, IsErrAnd, IsOkAnd, String}
use Rattle.std.specs.declared.alloc.Global.{Global}
use Rattle.std.specs.List.{AllByRecursion}
use Rattle.std.specs.Option.{option_or}
use Rattle.std.proofs.lemmas.Grind.{flat_map-append}
use Rattle.std.proofs.lemmas.List.{drop-map, drop_more, length-drop, map-append}
use Rattle.tree_core.specs.Asks.{AgreeWith, Settles}
use Rattle.tree_core.specs.Plan.{answer}
use Rattle.tree_core.specs.Question.{reply_in}
use Rattle.tree_core.specs.Tree.{Agrees, Files, reply}
use Rattle.tree_core.specs.declared.question.Question.{Question}
use Rattle.tree_core.specs.declared.question.Reply.{Reply}
use Rattle.swc_loader.specs.declared.resolution.FileName.{FileName}
use Rattle.swc_loader.specs.declared.resolution.FileName.TheVariants.{Real}
use Rattle.resolve_stack.specs.Outcomes.{request_outcome}
use Rattle.resolve_stack.specs.Request.{asked_for}
use Rattle.resolve_stack.specs.Settings.{ProjectSettings}
use Rattle.resolve_stack.specs.declared.verdict.Outcome.{Outcome}
use Rattle.trail_bundle.specs.Adding.{IsAdded, IsConflict, IsRefusedBy, request_for}
use Rattle.trail_bundle.specs.Bundle.{AreReplies, Bundle}
use Rattle.trail_bundle.specs.BundleText.{bundle_text}
use Rattle.trail_bundle.specs.FirstReplies.{replies_in}
use Rattle.trail_bundle.specs.Laws.{AreAmong}
use Rattle.trail_bundle.specs.declared.bundle_error.BundleError.{BundleError}
use Rattle.trail_bundle.specs.declared.bundle_error.BundleError.TheVariants as bundle_error
use Rattle.trail_bundle.proofs.FirstReplies.{reply-append, reply-first, same_replies}
use Rattle.trail_bundle.proofs.TrailLaws.{among_added, outcome_decided}
use Rattle.disk_report.specs.Asked.{Asked}
use Rattle.disk_report.specs.DiskRequest.{project_of}
use Rattle.disk_report.specs.Errors.{of_bundle}
use Rattle.disk_report.specs.Forms.{told_as}
use Rattle.disk_report.specs.Outcomes.{
  AllDecide,
  Answered,
  AnswersInTwoWays,
  AreAnswered,
  AreDecided,
  IsBundleBy,
  IsDecided,
  IsOfBundle,
  IsTold,
  bundle_by,
  outcomes_on,
  plan_of,
  text_by,
  trails_of,
}
use Rattle.disk_report.specs.declared.error.DiskError.{DiskError}
use Rattle.disk_report.specs.declared.error.DiskError.TheVariants.{Refused, TreeFault, TwoReplies, NoMemory}
use Rattle.disk_report.specs.declared.forms.DiskForm.{DiskForm}
use Rattle.disk_report.specs.declared.forms.DiskForm.TheVariants as form
use Rattle.disk_report.specs.declared.forms.OutcomeForm.{OutcomeForm}

-- what holds of each holds of one more
all_push : {A : Type 0} (P : A → Type 0) (xs : List A) (x : A) → AllByRecursion P xs → P x
    → AllByRecursion P (xs ++ x ∷ [])
all_push P [] x all one = (one, tt)
all_push P (y ∷ ys) x all one = (all.0, all_push P ys x all.1 one)

-- what holds of each, in other words
all_more : {A : Type 0} {P Q : A → Type 0} (xs : List A) → ((x : A) → P x → Q x) → AllByRecursion P xs
    → AllByRecursion Q xs
all_more [] more all = tt
all_more (x ∷ xs) more all = (more x all.0, all_more xs more all.1)

-- nothing is answered yet
pub none_answered : {stands_for : Files → Bool} {project : ProjectSettings} {importer : FileName}
    {Fact : List Answered → Type 0} (specifiers : List (List ℕ)) → Fact []
    → AreAnswered stands_for project importer specifiers specifiers Fact
none_answered specifiers fact = record { answered = []; in_order = refl; decided = tt; fact = fact }

-- the next specifier is answered
pub one_answered : {stands_for : Files → Bool} {project : ProjectSettings} {importer : FileName}
    {P Q : List Answered → Type 0} (specifiers left more : List (List ℕ)) (a : Answered)
    → AreAnswered stands_for project importer specifiers left P → left ≡ a.specifier ∷ more
    → IsDecided stands_for project importer a
    → ((answered : List Answered) → P answered → Q (answered ++ a ∷ []))
    → AreAnswered stands_for project importer specifiers more Q
one_answered {stands_for} {project} {importer} specifiers left more a so_far next decided fact = record {
  answered = so_far.answered ++ a ∷ [];
  in_order =
      ap (λ l. l ++ more) (map-append (λ (a : Answered). a.specifier) so_far.answered (a ∷ []))
      ∙ append_assoc (map (λ (a : Answered). a.specifier) so_far.answered) (a.specifier ∷ []) more
      ∙ ap (λ l. map (λ (a : Answered). a.specifier) so_far.answered ++ l) (sym next) ∙ so_far.in_order;
  decided = all_push (IsDecided stands_for project importer) so_far.answered a so_far.decided decided;
  fact = fact so_far.answered so_far.fact;
}

-- the words that are left behind the next one
pub next_word : (words : List (String Global)) (i : ℕ) (w : String Global) → i < length words → w ≡ get_or words i w
    → drop i (map string_bytes words) ≡ string_bytes w ∷ drop (i + 1) (map string_bytes words)
next_word words i w inside is =
    drop-map string_bytes i words ∙ ap (map string_bytes) (drop_more words i w inside)
    ∙ ap (λ x. string_bytes x ∷ map string_bytes (drop (i + 1) words)) (sym is)
    ∙ ap (λ l. string_bytes w ∷ l) (sym (drop-map string_bytes (i + 1) words))

nothing : {A : Type 0} (rest : List A) → length rest ≡ 0 → rest ≡ []
nothing [] h = refl
nothing (x ∷ rest) h = absurd (omega arith)

-- no word is left
pub no_word : (words : List (String Global)) (i : ℕ) → length words ≤ i → drop i (map string_bytes words) ≡ []
no_word words i past =
    let left : length (drop i words) ≡ 0 = length-drop i words ∙ omega arith in
    drop-map string_bytes i words ∙ ap (map string_bytes) (nothing (drop i words) left)

-- all specifiers are answered
pub all_answered : {stands_for : Files → Bool} {project : ProjectSettings} {importer : FileName}
    {Fact : List Answered → Type 0} (specifiers left : List (List ℕ))
    → AreAnswered stands_for project importer specifiers left Fact → left ≡ []
    → AreAnswered stands_for project importer specifiers [] Fact
all_answered {stands_for} {project} {importer} {Fact} specifiers left so_far none =
    subst (λ l. AreAnswered stands_for project importer specifiers l Fact) none so_far

-- an outcome over a tree that is stood for is the one on it
on_tree : {stands_for : Files → Bool} {project : ProjectSettings} {importer : FileName} (a : Answered) (t : Files)
    → IsDecided stands_for project importer a → IsTrue (stands_for t)
    → a ≡ record { specifier = a.specifier; outcome = request_outcome t project (asked_for importer a.specifier) }
unfolding request_outcome
on_tree a t decided stands =
    let agrees = decided.agree t stands in
    let verdict = decided.settled.verdict t agrees in
    let trail = decided.settled.trail t agrees in
    λ i. record { specifier = a.specifier; outcome = record { verdict = verdict i; trail = trail i } }

all_on_tree : (stands_for : Files → Bool) (project : ProjectSettings) (importer : FileName) (answered : List Answered)
    (t : Files) → AreDecided stands_for project importer answered → IsTrue (stands_for t)
    → answered ≡ outcomes_on t project importer (map (λ a. a.specifier) answered)
all_on_tree stands_for project importer [] t decided stands = refl
all_on_tree stands_for project importer (a ∷ answered) t decided stands =
    let one = on_tree a t decided.0 stands in
    let all = all_on_tree stands_for project importer answered t decided.1 stands in
    λ i. one i ∷ all i

-- a text that is told of outcomes is told of the requests
pub told_by : {stands_for : Files → Bool} (request : Asked) (project : ProjectSettings) (Fact : List ℕ → Type 0)
    → project_of request ≡ Ok project
    → (a : AreAnswered stands_for project (Real request.importer) request.specifiers []
    (λ answered. Fact (text_by request.form (Real request.importer) answered)))
    → (request.form ≡ form.Bundle
    → AllDecide (bundle_by (Real request.importer) a.answered).replies project (Real request.importer) a.answered)
    → IsTold stands_for request Fact
told_by request project Fact accepted a bundled =
    let all = sym (append-nil (map (λ (x : Answered). x.specifier) a.answered)) ∙ a.in_order in
    record {
      project = project;
      accepted = accepted;
      answered = a.answered;
      in_order = all;
      decided = a.decided;
      fact = a.fact;
      on = λ t stands. subst (λ xs. Fact (text_by request.form (Real request.importer) xs))
          (all_on_tree _ project (Real request.importer) a.answered t a.decided stands
          ∙ ap (outcomes_on t project (Real request.importer)) all) a.fact;
      bundled = bundled;
    }

-- of the lines of outcomes
pub lines_told : {stands_for : Files → Bool} (request : Asked) (project : ProjectSettings) (importer : FileName)
    (specifiers : List (List ℕ)) (each : OutcomeForm) (text : List ℕ) → project_of request ≡ Ok project
    → importer ≡ Real request.importer → specifiers ≡ request.specifiers → request.form ≡ form.Outcomes each
    → AreAnswered stands_for project importer specifiers []
    (λ answered. text ≡ flat_map (λ a. told_as each importer a.specifier a.outcome) answered)
    → IsTold stands_for request (λ told. text ≡ told)
lines_told {stands_for} request project importer specifiers each text accepted asks wanted is a =
    let Lines : FileName → List Answered → Type 0 =
    λ importer answered. text ≡ flat_map (λ a. told_as each importer a.specifier a.outcome) answered in
    let b : AreAnswered stands_for project (Real request.importer) request.specifiers []
    (Lines (Real request.importer)) =
    subst (λ s. AreAnswered stands_for project (Real request.importer) s [] (Lines (Real request.importer))) wanted
    (subst (λ n. AreAnswered stands_for project n specifiers [] (Lines n)) asks a) in
    told_by request project (λ told. text ≡ told) accepted (record {
      answered = b.answered;
      in_order = b.in_order;
      decided = b.decided;
      fact = b.fact ∙ ap (λ f. text_by f (Real request.importer) b.answered) (sym is);
    }) (λ other. cc)

-- the trails with one more
trails-push : (answered : List Answered) (a : Answered)
    → trails_of (answered ++ a ∷ []) ≡ trails_of answered ++ a.outcome.trail
trails-push answered a =
    flat_map-append (λ (a : Answered). a.outcome.trail) answered (a ∷ [])
    ∙ ap (λ l. trails_of answered ++ l) (append-nil a.outcome.trail)

-- no outcome is in the bundle yet
pub none_bundled : (importer : FileName) (b : Bundle) → b ≡ record { requests = []; replies = [] }
    → AreReplies b.replies → IsBundleBy b importer []
none_bundled importer b is are =
    let replies = same_replies b.replies [] are (λ q. ap (λ (x : Bundle). reply_in x.replies q) is) in
    let requests = ap (λ (x : Bundle). x.requests) is in
    record { is = λ i. record { requests = requests i; replies = replies i }; among = tt }

-- one more outcome is
pub one_bundled : (importer : FileName) (answered : List Answered) (a : Answered) (old new : Bundle)
    → AreReplies new.replies → IsAdded (request_for importer a.specifier) a.outcome.trail old new
    → IsBundleBy old importer answered → IsBundleBy new importer (answered ++ a ∷ [])
one_bundled importer answered a old new are added held =
    let request = request_for importer a.specifier in
    let both = among_added request a.outcome.trail old new added in
    let requests =
    added.requests ∙ ap (λ (b : Bundle). b.requests ++ request ∷ []) held.is
    ∙ sym (map-append (λ (x : Answered). request_for importer x.specifier) answered (a ∷ [])) in
    let replies = same_replies new.replies (trails_of (answered ++ a ∷ [])) are (λ q.
    added.replies q
    ∙ ap (λ (b : Bundle). option_or (reply_in b.replies q) (reply_in a.outcome.trail q)) held.is
    ∙ ap (λ o. option_or o (reply_in a.outcome.trail q)) (reply-first (trails_of answered) q)
    ∙ sym (reply-append (trails_of answered) a.outcome.trail q)
    ∙ ap (λ l. reply_in l q) (sym (trails-push answered a))) in
    record {
      is = λ i. record { requests = requests i; replies = replies i };
      among = all_push (λ (x : Answered). AreAmong x.outcome.trail new.replies) answered a
          (all_more {P = λ (x : Answered). AreAmong x.outcome.trail old.replies} answered
          (λ x among q r is. both.1 q r (among q r is)) held.among)
          both.0;
    }

-- replies that have all trails decide all verdicts
all_decide : (stands_for : Files → Bool) (project : ProjectSettings) (importer : FileName)
    (replies : List (Question × Reply)) (answered : List Answered) → AreDecided stands_for project importer answered
    → AllByRecursion (λ a. AreAmong a.outcome.trail replies) answered
    → (t : Files) → Agrees t replies
    → AllByRecursion (λ a. a.outcome.verdict ≡ answer t (plan_of project importer a.specifier)) answered
all_decide stands_for project importer replies [] decided among t agrees = tt
all_decide stands_for project importer replies (a ∷ answered) decided among t agrees = (
  outcome_decided project (request_for importer a.specifier) a.outcome.verdict a.outcome.trail replies
      decided.0.settled among.0 t agrees,
  all_decide stands_for project importer replies answered decided.1 among.1 t agrees,
)

-- the text of the bundle of outcomes is told of the requests
pub bundle_told : {stands_for : Files → Bool} (request : Asked) (project : ProjectSettings) (importer : FileName)
    (specifiers : List (List ℕ)) (b : Bundle) (text : List ℕ) → project_of request ≡ Ok project
    → importer ≡ Real request.importer → specifiers ≡ request.specifiers → request.form ≡ form.Bundle
    → AreAnswered stands_for project importer specifiers [] (IsBundleBy b importer)
    → text ≡ bundle_text b → IsTold stands_for request (λ told. text ≡ told)
bundle_told {stands_for} request project importer specifiers b text accepted asks wanted is a written =
    let c : AreAnswered stands_for project (Real request.importer) request.specifiers []
    (IsBundleBy b (Real request.importer)) =
    subst (λ s. AreAnswered stands_for project (Real request.importer) s [] (IsBundleBy b (Real request.importer)))
    wanted
    (subst (λ n. AreAnswered stands_for project n specifiers [] (IsBundleBy b n)) asks a) in
    let among = subst (λ (x : Bundle). AllByRecursion (λ a. AreAmong a.outcome.trail x.replies) c.answered)
    c.fact.is c.fact.among in
    told_by request project (λ told. text ≡ told) accepted (record {
      answered = c.answered;
      in_order = c.in_order;
      decided = c.decided;
      fact = written ∙ ap bundle_text c.fact.is
          ∙ ap (λ f. text_by f (Real request.importer) c.answered) (sym is);
    }) (λ _ t agrees. all_decide stands_for project (Real request.importer)
    (bundle_by (Real request.importer) c.answered).replies c.answered c.decided among t agrees)

-- a tree that agrees with two trails agrees with both as one
agrees_both : (t : Files) (xs ys : List (Question × Reply)) → Agrees t xs → Agrees t ys → Agrees t (xs ++ ys)
agrees_both t xs ys first second q r is = by_first (reply_in xs q) refl (sym (reply-append xs ys q) ∙ is)
  where
    by_first : (o : Option Reply) → reply_in xs q ≡ o → option_or o (reply_in ys q) ≡ Some r → r ≡ reply t q
    by_first None none found = second q r found
    by_first (Some x) held found = first q r (held ∙ found)

all_agree : (stands_for : Files → Bool) (project : ProjectSettings) (importer : FileName) (answered : List Answered)
    (t : Files) → AreDecided stands_for project importer answered → IsTrue (stands_for t)
    → Agrees t (trails_of answered)
all_agree stands_for project importer [] t decided stands = λ q r is. cc
all_agree stands_for project importer (a ∷ answered) t decided stands =
    agrees_both t a.outcome.trail (trails_of answered) (decided.0.agree t stands)
    (all_agree stands_for project importer answered t decided.1 stands)

-- one more outcome is in conflict with the bundle
pub in_two_ways : {stands_for : Files → Bool} {project : ProjectSettings} {importer : FileName}
    (specifiers left later : List (List ℕ)) (a : Answered) (b : Bundle) (q : Question) (kept given : Reply)
    → AreAnswered stands_for project importer specifiers left (IsBundleBy b importer) → left ≡ a.specifier ∷ later
    → IsDecided stands_for project importer a → IsConflict q kept given b.replies a.outcome.trail
    → AnswersInTwoWays stands_for project importer specifiers
in_two_ways {stands_for} {project} {importer} specifiers left later a b q kept given so_far next decided conflict =
    let first = subst (λ (x : Bundle). IsConflict q kept given x.replies a.outcome.trail) so_far.fact.is conflict in
    record {
      before = so_far.answered;
      next = a;
      later = later;
      in_order = ap (λ l. map (λ (a : Answered). a.specifier) so_far.answered ++ l) (sym next) ∙ so_far.in_order;
      decided = so_far.decided;
      next_decided = decided;
      question = q;
      kept = kept;
      given = given;
      conflict = first;
      none = λ t stands. first.here.differ
          (all_agree stands_for project importer so_far.answered t so_far.decided stands q kept
          (sym (reply-first (trails_of so_far.answered) q) ∙ first.here.of_kept)
          ∙ sym (decided.agree t stands q given first.here.of_trail));
    }

-- what is told of one more outcome stands behind the lines
pub lines_push : (importer : FileName) (each : OutcomeForm) (a : Answered) (lines told next : List ℕ)
    → told ≡ told_as each importer a.specifier a.outcome → next ≡ lines ++ told → (answered : List Answered)
    → lines ≡ flat_map (λ (x : Answered). told_as each importer x.specifier x.outcome) answered
    → next ≡ flat_map (λ (x : Answered). told_as each importer x.specifier x.outcome) (answered ++ a ∷ [])
lines_push importer each a lines told next is put answered so_far =
    let tell : Answered → List ℕ = λ x. told_as each importer x.specifier x.outcome in
    put ∙ ap (λ l. l ++ told) so_far ∙ ap (λ l. flat_map tell answered ++ l) (is ∙ sym (append-nil (tell a)))
    ∙ sym (flat_map-append tell answered (a ∷ []))

-- an error of adding one more outcome to a bundle
pub add_refused : {A : Type 0} {stands_for : Files → Bool} {project : ProjectSettings} {importer : FileName}
    (specifiers left later : List (List ℕ)) (a : Answered) (b : Bundle) (e : BundleError) (result : Result A DiskError)
    → IsErrAnd result (λ raised. raised ≡ of_bundle e)
    → AreAnswered stands_for project importer specifiers left (IsBundleBy b importer) → left ≡ a.specifier ∷ later
    → IsDecided stands_for project importer a → IsRefusedBy e b.replies a.outcome.trail
    → IfErr result (IsOfBundle stands_for project importer specifiers)
add_refused specifiers left later a b e (Ok x) raised so_far next decided refused = tt
add_refused {stands_for = stands_for} {project = project} {importer = importer} specifiers left later a b
    (bundle_error.Conflict question kept given) (Err other) raised so_far next decided refused =
    subst (IsOfBundle stands_for project importer specifiers) (sym raised)
    (in_two_ways specifiers left later a b question kept given so_far next decided refused)
add_refused {stands_for = stands_for} {project = project} {importer = importer} specifiers left later a b
    bundle_error.NoMemory (Err other) raised so_far next decided refused =
    subst (IsOfBundle stands_for project importer specifiers) (sym raised) tt

-- what holds of an answer, in other words
pub if_ok_more : {A E : Type 0} {P Q : A → Type 0} (result : Result A E) → ((a : A) → P a → Q a) → IfOk result P
    → IfOk result Q
if_ok_more (Ok a) more holds = more a holds
if_ok_more (Err e) more holds = tt

-- what follows of the text holds of the requests
pub told_with : {stands_for : Files → Bool} {request : Asked} {P Q : List ℕ → Type 0}
    → ((text : List ℕ) → P text → Q text) → IsTold stands_for request P → IsTold stands_for request Q
told_with more o = record {
  project = o.project;
  accepted = o.accepted;
  answered = o.answered;
  in_order = o.in_order;
  decided = o.decided;
  fact = more _ o.fact;
  on = λ t stands. more _ (o.on t stands);
  bundled = o.bundled;
}
