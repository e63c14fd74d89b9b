-- The bundle of requests, one after the other.
use Rattle.std.specs.FinMap as finite
use Rattle.std.proofs.Common.{
  ◌≡◌,
  ◌≤◌,
  ◌<◌,
  ◌+◌,
  ℕ,
  drop,
  get_or,
  List,
  [],
  ◌∷◌,
  ◌++◌,
  map,
  Result,
  Ok,
  Err,
  length,
  refl,
  sym,
  ap,
  ◌∙◌,
  arith,
  append_assoc,
  append-nil,
}
use Rattle.std.specs.Option.{option_or}
use Rattle.std.proofs.lemmas.Grind.{flat_map-append}
use Rattle.std.proofs.lemmas.List.{drop_more, length-drop, map-append}
use Rattle.tree_core.specs.Question.{reply_in}
use Rattle.tree_core.specs.Tree.{Files}
use Rattle.tree_core.specs.declared.question.Question.{Question}
use Rattle.tree_core.specs.declared.question.Reply.{Reply}
use Rattle.resolve_stack.specs.Settings.{ProjectSettings}
use Rattle.document_core.specs.Cause.{◌>>=◌, Meets}
use Rattle.document_core.specs.Document.{Given, document, fields_in, project_in, put_files, settings_in}
use Rattle.document_core.specs.Outcomes.{outcome_on}
use Rattle.document_core.specs.declared.cause.Cause.{Cause}
use Rattle.document_core.specs.declared.cause.DocumentError.{DocumentError}
use Rattle.document_core.specs.declared.cause.DocumentError.TheVariants.{Refused}
use Rattle.document_core.specs.declared.cause.DocumentError.TheVariants as ended
use Rattle.document_core.specs.declared.fields.Document.{Document}
use Rattle.document_core.specs.declared.given.GivenRequest.{GivenRequest}
use Rattle.trail_bundle.specs.Adding.{IsAdded, request_for}
use Rattle.trail_bundle.specs.Bundle.{AreReplies, Bundle}
use Rattle.trail_bundle.specs.BundleText.{bundle_text}
use Rattle.trail_bundle.specs.FirstReplies.{replies_in}
use Rattle.trail_bundle.proofs.FirstReplies.{reply-append, same_replies}
use Rattle.bundle_report.specs.Bundling.{bundle_on, bundle_report, text_by, trails_on}

-- the requests so far were bundled
pub record Bundled (b : Bundle) (t : Files) (project : ProjectSettings) (given rest : List GivenRequest) : Type 0 where
  pub before : List GivenRequest
  pub in_order : given ≡ before ++ rest
  pub requests : b.requests ≡ map (λ r. request_for r.importer r.specifier) before
  pub replies : (q : Question) → reply_in b.replies q ≡ reply_in (trails_on t project before) q

pub none_yet : (t : Files) (project : ProjectSettings) (given : List GivenRequest)
    → Bundled (record { requests = []; replies = [] }) t project given given
none_yet t project given = record { before = []; in_order = refl; requests = refl; replies = λ q. refl }

trails-push : (t : Files) (project : ProjectSettings) (before : List GivenRequest) (r : GivenRequest)
    → trails_on t project (before ++ r ∷ []) ≡ trails_on t project before ++ (outcome_on t project r).trail
trails-push t project before r =
    flat_map-append (λ r. (outcome_on t project r).trail) before (r ∷ [])
    ∙ ap (λ l. trails_on t project before ++ l) (append-nil (outcome_on t project r).trail)

pub one_bundled : (b new : Bundle) (t : Files) (project : ProjectSettings) (given rest more : List GivenRequest)
    (r : GivenRequest) → Bundled b t project given rest → rest ≡ r ∷ more
    → IsAdded (request_for r.importer r.specifier) (outcome_on t project r).trail b new
    → Bundled new t project given more
one_bundled b new t project given rest more r so_far next added = record {
  before = so_far.before ++ r ∷ [];
  in_order = so_far.in_order ∙ ap (λ l. so_far.before ++ l) next ∙ sym (append_assoc so_far.before (r ∷ []) more);
  requests =
      added.requests ∙ ap (λ l. l ++ request_for r.importer r.specifier ∷ []) so_far.requests
      ∙ sym (map-append (λ (r : GivenRequest). request_for r.importer r.specifier) so_far.before (r ∷ []));
  replies = λ q.
      added.replies q ∙ ap (λ o. option_or o (reply_in (outcome_on t project r).trail q)) (so_far.replies q)
      ∙ sym (reply-append (trails_on t project so_far.before) (outcome_on t project r).trail q)
      ∙ ap (λ l. reply_in l q) (sym (trails-push t project so_far.before r));
}

-- the next request of those that are left
pub next_given : (given : List GivenRequest) (i : ℕ) (r : GivenRequest) → i < length given → r ≡ get_or given i r
    → drop i given ≡ r ∷ drop (i + 1) given
next_given given i r inside is = drop_more given i r inside ∙ ap (λ x. x ∷ drop (i + 1) given) (sym is)

nothing : (rest : List GivenRequest) → length rest ≡ 0 → rest ≡ []
nothing [] h = refl
nothing (r ∷ rest) h = absurd (omega arith)

pub all_bundled : (b : Bundle) (t : Files) (project : ProjectSettings) (given : List GivenRequest) (i : ℕ)
    → Bundled b t project given (drop i given) → length given ≤ i → AreReplies b.replies → b ≡ bundle_on t project given
all_bundled b t project given i so_far past are =
    let left : length (drop i given) ≡ 0 = length-drop i given ∙ omega arith in
    let all : so_far.before ≡ given =
    sym (so_far.in_order ∙ ap (λ l. so_far.before ++ l) (nothing (drop i given) left) ∙ append-nil so_far.before) in
    let requests = so_far.requests ∙ ap (map (λ (r : GivenRequest). request_for r.importer r.specifier)) all in
    let replies = same_replies b.replies (trails_on t project so_far.before) are so_far.replies
    ∙ ap (λ l. replies_in (trails_on t project l)) all in
    λ i. record { requests = requests i; replies = replies i }

-- the text in a project that is refused
pub text_refused : (t : Files) (given : List GivenRequest) (made : Result ProjectSettings Cause) (e : DocumentError)
    → Meets {A = ProjectSettings} (Err e) made → Meets {A = List ℕ} (Err e) (text_by t given made)
text_refused t given made (Refused cause) h = rw h refl
text_refused t given made ended.NoMemory h = tt

pub text_told : (t : Files) (given : List GivenRequest) (made : Result ProjectSettings Cause)
    (project : ProjectSettings) (b : Bundle) (text : List ℕ) → made ≡ Ok project → b ≡ bundle_on t project given
    → text ≡ bundle_text b → text_by t given made ≡ Ok text
text_told t given made project b text is bundled written = rw is (ap Ok (sym (written ∙ ap bundle_text bundled)))

-- the report on a document whose fields are refused, and on one of whose files is
pub report_stopped : (bytes : List ℕ) (e : DocumentError) → Meets {A = Document} (Err e) (fields_in bytes)
    → Meets {A = List ℕ} (Err e) (bundle_report bytes)
unfolding bundle_report document
report_stopped bytes (Refused cause) found = rw found refl
report_stopped bytes ended.NoMemory found = tt

pub report_untreed : (bytes : List ℕ) (fields : Document) (e : DocumentError) → fields_in bytes ≡ Ok fields
    → Meets {A = Files} (Err e) (put_files finite.empty fields.files) → Meets {A = List ℕ} (Err e) (bundle_report bytes)
unfolding bundle_report document
report_untreed bytes fields (Refused cause) read found = rw (read, found) refl
report_untreed bytes fields ended.NoMemory read found = tt

-- the report by a document's settings, on the tree of its files
pub report_by : (bytes : List ℕ) (fields : Document) (t : Files) (result : Result (List ℕ) DocumentError)
    → fields_in bytes ≡ Ok fields → put_files finite.empty fields.files ≡ Ok t
    → Meets result (text_by t fields.requests (project_in (settings_in fields.settings fields.lock)))
    → Meets result (bundle_report bytes)
unfolding bundle_report document
report_by bytes fields t result read filed text =
    rw (read, filed) (by_project (project_in (settings_in fields.settings fields.lock)) text)
  where
    given_by : ProjectSettings → Result Given Cause
    given_by project = Ok (record { files = t; project = project; requests = fields.requests })

    text_given : Given → Result (List ℕ) Cause
    text_given given = Ok (bundle_text (bundle_on given.files given.project given.requests))

    by_project : (made : Result ProjectSettings Cause) → Meets result (text_by t fields.requests made)
        → Meets result ((made >>= given_by) >>= text_given)
    by_project (Ok project) told = told
    by_project (Err cause) told = told
