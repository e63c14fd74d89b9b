-- What a replay of requests comes to, from the replays of each.
use Rattle.std.proofs.Common.{
  ◌≡◌,
  ◌<◌,
  ◌≤◌,
  ◌+◌,
  ℕ,
  drop,
  get_or,
  true,
  cond,
  ◌&&◌,
  is_none,
  is_some,
  List,
  [],
  ◌∷◌,
  ◌++◌,
  map,
  Option,
  Some,
  None,
  Result,
  Ok,
  Err,
  length,
  refl,
  sym,
  ap,
  ◌∙◌,
  subst,
  arith,
  append_assoc,
  append-nil,
  length-append,
}
use Rattle.std.specs.Prelude.{IfErr, IsErrAnd}
use Rattle.std.proofs.lemmas.List.{drop_more, length-drop}
use Rattle.std.specs.List.{AllByRecursion, list_all}
use Rattle.replay_core.specs.Agreeing.{agrees_with}
use Rattle.replay_core.specs.Replaying.{IsReplayedAnswer, Replays, first_unrecorded}
use Rattle.replay_core.specs.ReplayingParts.{ended, questions_of}
use Rattle.replay_core.specs.declared.replaying.ReplayError.{ReplayError}
use Rattle.replay_core.specs.declared.replaying.ReplayError.TheVariants as one
use Rattle.replay_core.proofs.AgreeingTests.{agrees_with-passes}
use Rattle.replay_core.proofs.Replays.{OnAgreeing, replays}
use Rattle.resolve_stack.specs.Settings.{ProjectSettings}
use Rattle.resolve_stack.specs.declared.verdict.Outcome.{Outcome}
use Rattle.resolve_stack.specs.declared.verdict.Verdict.{Verdict}
use Rattle.tree_core.specs.Asks.{AgreeWith, Asking, Settles}
use Rattle.tree_core.specs.Plan.{Plan, answer, asked}
use Rattle.tree_core.specs.Question.{reply_in}
use Rattle.tree_core.specs.Tree.{Agrees, Files, TreeState, reply}
use Rattle.tree_core.specs.declared.question.Question.{Question}
use Rattle.tree_core.specs.declared.question.Reply.{Reply}
use Rattle.trail_bundle.specs.declared.replay_error.BundleReplayError.{BundleReplayError}
use Rattle.trail_bundle.specs.declared.replay_error.BundleReplayError.TheVariants.{NotRecorded, NoMemory}
use Rattle.trail_bundle.specs.declared.request.BundleRequest.{BundleRequest}
use Rattle.trail_bundle.specs.Replaying.{
  AllStandIn,
  AreReplayed,
  IsHeld,
  IsNotRecorded,
  StandsIn,
  request_plan,
  verdicts_on,
}
use Rattle.trail_bundle.specs.ReplayingParts.{numbered}

all_recorded : (trail put : List (Question × Reply)) → list_all (λ step. is_some (reply_in trail step.0)) put ≡ true
    → is_none (first_unrecorded trail (questions_of put)) ≡ true
all_recorded trail [] h = refl
all_recorded trail (s ∷ put) h = by_reply (reply_in trail s.0) (all_recorded trail put) h
  where
    by_reply : (o : Option Reply) → (list_all (λ step. is_some (reply_in trail step.0)) put ≡ true
        → is_none (first_unrecorded trail (questions_of put)) ≡ true)
        → is_some o && list_all (λ step. is_some (reply_in trail step.0)) put ≡ true
        → is_none (cond (is_none o) (Some s.0) (first_unrecorded trail (questions_of put))) ≡ true
    by_reply None more h = cc
    by_reply (Some r) more h = more h

-- where a trail has all questions of the trail that settles a verdict, the verdict is replayed
whole_replay : {A : Type 0} (trail put : List (Question × Reply)) (a : A) (plan : Plan A) → Settles a put plan
    → AgreeWith (agrees_with trail) put → list_all (λ step. is_some (reply_in trail step.0)) put ≡ true
    → IsReplayedAnswer a trail plan
whole_replay {A = A} trail put a plan settled agree all =
    let tree : TreeState = record { stands_for = agrees_with trail; faults = 0; questions = 0; told = None } in
    let old : Asking = record { name = 0; tree = tree; trail = [] } in
    let new : Asking = record { name = 0; tree = tree; trail = put } in
    let on : OnAgreeing trail old new (Ok a) plan = record {
      empty = refl;
      answers = λ t agrees.
          let here = agree t (agrees_with-passes trail t agrees) in
          (settled.verdict t here, settled.trail t here);
    } in
    replays trail None old new (Ok a) plan (Ok a) on refl (ended_so (first_unrecorded trail (questions_of put))
    (all_recorded trail put all))
  where
    ended_so : (o : Option Question) → is_none o ≡ true → let answered : Result A ReplayError =
        Ok a in ended trail o None (Ok a) ≡ answered
    ended_so None is = refl
    ended_so (Some q) is = cc

pub held_replay : (trail : List (Question × Reply)) (o : Outcome) (v : Verdict) (plan : Plan Verdict) → (v ≡ o.verdict)
    × (list_all (λ step. is_some (reply_in trail step.0)) o.trail ≡ true) → Settles o.verdict o.trail plan
    → AgreeWith (agrees_with trail) o.trail → IsReplayedAnswer v trail plan
held_replay trail o v plan held settled agree =
    subst (λ v. IsReplayedAnswer v trail plan) (sym held.0) (whole_replay trail o.trail o.verdict plan settled agree
    held.1)

-- the requests so far were replayed
pub record Replayed (verdicts : List Verdict) (replies : List (Question × Reply)) (project : ProjectSettings)
    (requests rest : List BundleRequest) : Type 0 where
  pub before : List BundleRequest
  pub in_order : requests ≡ before ++ rest
  pub replayed : AreReplayed verdicts replies project before
  pub long : length verdicts ≡ length before

pub none_yet : (replies : List (Question × Reply)) (project : ProjectSettings) (requests : List BundleRequest)
    → Replayed [] replies project requests requests
none_yet replies project requests = record {
  before = [];
  in_order = refl;
  replayed = record { verdicts = λ t agrees. refl; held = tt };
  long = refl;
}

held_push : (P : BundleRequest → Type 0) (before : List BundleRequest) (r : BundleRequest) → AllByRecursion P before
    → P r → AllByRecursion P (before ++ r ∷ [])
held_push P [] r all here = (here, tt)
held_push P (s ∷ before) r all here = (all.0, held_push P before r all.1 here)

map_push : {A B : Type 0} (f : A → B) (xs : List A) (y : A) → map f (xs ++ y ∷ []) ≡ map f xs ++ f y ∷ []
map_push f [] y = refl
map_push f (x ∷ xs) y = ap (λ l. f x ∷ l) (map_push f xs y)

pub one_more : (verdicts : List Verdict) (v : Verdict) (replies : List (Question × Reply)) (project : ProjectSettings)
    (requests rest more : List BundleRequest) (r : BundleRequest) → Replayed verdicts replies project requests rest
    → rest ≡ r ∷ more
    → IsReplayedAnswer v replies (request_plan project r) → Replayed (verdicts ++ v ∷ []) replies project requests more
one_more verdicts v replies project requests rest more r so_far next here = record {
  before = so_far.before ++ r ∷ [];
  in_order = so_far.in_order ∙ ap (λ l. so_far.before ++ l) next ∙ sym (append_assoc so_far.before (r ∷ []) more);
  replayed = record {
    verdicts = λ t agrees.
        ap (λ l. l ++ v ∷ []) (so_far.replayed.verdicts t agrees)
        ∙ ap (λ w. verdicts_on t project so_far.before ++ w ∷ []) (here.answers t agrees)
        ∙ sym (map_push (λ r. answer t (request_plan project r)) so_far.before r);
    held = held_push (IsHeld replies project) so_far.before r so_far.replayed.held here.recorded;
  };
  long = length-append verdicts (v ∷ []) ∙ ap (λ n. n + 1) so_far.long ∙ sym (length-append so_far.before (r ∷ []));
}

-- the next request of those that are left
pub next_item : (requests : List BundleRequest) (i : ℕ) (r : BundleRequest) → i < length requests
    → r ≡ get_or requests i r → drop i requests ≡ r ∷ drop (i + 1) requests
next_item requests i r inside is = drop_more requests i r inside ∙ ap (λ x. x ∷ drop (i + 1) requests) (sym is)

pub none_left : (requests : List BundleRequest) (i : ℕ) → length requests ≤ i → length (drop i requests) ≡ 0
none_left requests i past = length-drop i requests ∙ omega arith

-- its verdict stands behind the others
pub pushed : (verdicts new : List Verdict) (v : Verdict) (replies : List (Question × Reply)) (project : ProjectSettings)
    (requests rest more : List BundleRequest) (r : BundleRequest) (number : ℕ) (one_result : Result Verdict ReplayError)
    → Replayed verdicts replies project requests rest → rest ≡ r ∷ more
    → Replays one_result replies (request_plan project r) → Ok v ≡ numbered number one_result → new ≡ verdicts
    ++ v ∷ [] → Replayed new replies project requests more
pushed verdicts new v replies project requests rest more r number (Ok w) so_far next replay is after =
    let same : w ≡ v = cc in
    subst (λ l. Replayed l replies project requests more) (sym after)
    (one_more verdicts v replies project requests rest more r so_far next
    (subst (λ v. IsReplayedAnswer v replies (request_plan project r)) same replay))
pushed verdicts new v replies project requests rest more r number (Err (one.NotRecorded q)) so_far next replay is
    after = cc
pushed verdicts new v replies project requests rest more r number (Err one.NoMemory) so_far next replay is after = cc

nothing : (rest : List BundleRequest) → length rest ≡ 0 → rest ≡ []
nothing [] h = refl
nothing (r ∷ rest) h = absurd (omega arith)

pub all_replayed : (verdicts : List Verdict) (replies : List (Question × Reply)) (project : ProjectSettings)
    (requests rest : List BundleRequest) → Replayed verdicts replies project requests rest → length rest ≡ 0
    → AreReplayed verdicts replies project requests
all_replayed verdicts replies project requests rest so_far none =
    let all : so_far.before ≡ requests =
    sym (so_far.in_order ∙ ap (λ l. so_far.before ++ l) (nothing rest none) ∙ append-nil so_far.before) in
    subst (AreReplayed verdicts replies project) all so_far.replayed

-- a request that isn't replayed
pub not_replayed : (verdicts : List Verdict) (replies : List (Question × Reply)) (project : ProjectSettings)
    (requests rest more : List BundleRequest) (r : BundleRequest) (number : ℕ) (one_result : Result Verdict ReplayError)
    (e : BundleReplayError)
    → Replayed verdicts replies project requests rest → rest ≡ r ∷ more → number ≡ length verdicts
    → Replays one_result replies (request_plan project r) → Err e ≡ numbered number one_result
    → IsNotRecorded e replies project requests
not_replayed verdicts replies project requests rest more r number (Ok v) e so_far next counted replay is = cc
not_replayed verdicts replies project requests rest more r number (Err (one.NotRecorded q)) e so_far next counted replay
    is =
    let told : e ≡ NotRecorded number q = cc in
    subst (λ e. IsNotRecorded e replies project requests) (sym told) (record {
      before = so_far.before;
      request = r;
      later = more;
      in_order = so_far.in_order ∙ ap (λ l. so_far.before ++ l) next;
      number_is = counted ∙ so_far.long;
      missing = replay;
      earlier = so_far.replayed.held;
    })
not_replayed verdicts replies project requests rest more r number (Err one.NoMemory) e so_far next counted replay is =
    let told : e ≡ NoMemory = cc in subst (λ e. IsNotRecorded e replies project requests) (sym told) tt

pub refused_so : {A : Type 0} (result : Result A BundleReplayError) (e : BundleReplayError)
    (replies : List (Question × Reply)) (project : ProjectSettings) (requests : List BundleRequest)
    → IsErrAnd result (λ x. x ≡ e) → IsNotRecorded e replies project requests
    → IfErr result (λ x. IsNotRecorded x replies project requests)
refused_so (Ok a) e replies project requests is h = elim is [ ]
refused_so (Err x) e replies project requests is h = subst (λ x. IsNotRecorded x replies project requests) (sym is) h

-- where each question of a plan stands, none is missing
none_missing : (replies : List (Question × Reply)) (t : Files) (qs : List Question) (q : Question)
    → AllByRecursion (λ q. reply_in replies q ≡ Some (reply t q)) qs → first_unrecorded replies qs ≡ Some q → ⊥
none_missing replies t [] q stands is = cc
none_missing replies t (p ∷ qs) q stands is =
    none_missing replies t qs q stands.1 (sym (ap (λ o. cond (is_none o) (Some p) (first_unrecorded replies qs))
    stands.0) ∙ is)

one_of : (P : BundleRequest → Type 0) (before : List BundleRequest) (r : BundleRequest) (later : List BundleRequest)
    → AllByRecursion P (before ++ r ∷ later) → P r
one_of P [] r later all = all.0
one_of P (s ∷ before) r later all = one_of P before r later all.1

no_refusal : (e : BundleReplayError) (replies : List (Question × Reply)) (project : ProjectSettings)
    (requests : List BundleRequest) (t : Files) → IsNotRecorded e replies project requests → Agrees t replies
    → AllStandIn replies t project requests → e ≡ NoMemory
no_refusal (NotRecorded number q) replies project requests t missed agrees stand =
    let here = one_of (λ r. StandsIn replies t (request_plan project r)) missed.before missed.request missed.later
    (subst (AllByRecursion (λ r. StandsIn replies t (request_plan project r))) missed.in_order stand) in
    absurd (none_missing replies t (asked t (request_plan project missed.request)) q here
    (missed.missing.first t agrees))
no_refusal NoMemory replies project requests t missed agrees stand = refl

pub never_refused : {A : Type 0} (result : Result A BundleReplayError) (replies : List (Question × Reply))
    (project : ProjectSettings) (requests : List BundleRequest)
    → IfErr result (λ e. IsNotRecorded e replies project requests)
    → (t : Files) → Agrees t replies → AllStandIn replies t project requests → IfErr result (λ e. e ≡ NoMemory)
never_refused (Ok a) replies project requests refused t agrees stand = tt
never_refused (Err e) replies project requests refused t agrees stand =
    no_refusal e replies project requests t refused agrees stand
