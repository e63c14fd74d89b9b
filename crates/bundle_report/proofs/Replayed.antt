-- What a replay document comes to, from what its parts come to.
use Rattle.std.proofs.Common.{◌≡◌, ℕ, List, Result, Ok, Err, IsErrAnd, inl, inr, refl, sym, subst}
use Rattle.std.specs.Result.{result_map_both}
use Rattle.document_core.specs.Cause.{Meets}
use Rattle.document_core.specs.Document.{project_in, settings_in}
use Rattle.document_core.specs.declared.cause.Cause.{Cause}
use Rattle.document_core.specs.declared.cause.DocumentError.{DocumentError}
use Rattle.document_core.specs.declared.cause.DocumentError.TheVariants.{Refused, NoMemory}
use Rattle.trail_bundle.specs.Bundle.{Bundle, IsBundle}
use Rattle.trail_bundle.specs.BundleText.{bundle_text}
use Rattle.bundle_report.specs.Given.{fields_in}
use Rattle.bundle_report.specs.Replaying.{Answers, IsReplayOf, IsReplayReport, IsReplayedIn}
use Rattle.bundle_report.specs.ReplayingParts.{TellsLine}
use Rattle.bundle_report.specs.declared.document.ReplayDocument.{ReplayDocument}

-- an error that was raised, where a text was to come
raised_text : {A : Type 0} (f : A → List ℕ) (result : Result A DocumentError) (e : DocumentError)
    (IsTold : Result (List ℕ) Cause → Type 0) → IsErrAnd result (λ raised. raised ≡ e) → Answers (Err e) IsTold
    → Answers (result_map_both f (λ x. x) result) IsTold
raised_text f (Ok a) e IsTold raised told = elim raised [ ]
raised_text f (Err other) e IsTold raised told = subst (λ x. Answers (Err x) IsTold) (sym raised) told

-- a document whose fields are refused
pub fields_refused : {A : Type 0} (f : A → List ℕ) (result : Result A DocumentError) (e : DocumentError)
    (bytes : List ℕ) → IsErrAnd result (λ raised. raised ≡ e)
    → Meets {A = ReplayDocument} (Err e) (fields_in bytes)
    → Answers (result_map_both f (λ x. x) result) (λ told. IsReplayReport told bytes)
fields_refused f result e bytes raised found =
    raised_text f result e (λ told. IsReplayReport told bytes) raised (by_error e found)
  where
    by_error : (e : DocumentError) → Meets {A = ReplayDocument} (Err e) (fields_in bytes)
        → Answers (Err e) (λ told. IsReplayReport told bytes)
    by_error (Refused cause) found = rw found refl
    by_error NoMemory found = tt

-- one whose text is no bundle's
pub text_refused : {A : Type 0} (f : A → List ℕ) (result : Result A DocumentError) (e : DocumentError)
    (bytes : List ℕ) (d : ReplayDocument) → IsErrAnd result (λ raised. raised ≡ e)
    → fields_in bytes ≡ Ok d → TellsLine e d.bundle
    → Answers (result_map_both f (λ x. x) result) (λ told. IsReplayReport told bytes)
text_refused f result e bytes d raised read wrong =
    raised_text f result e (λ told. IsReplayReport told bytes) raised (by_error e wrong)
  where
    by_error : (e : DocumentError) → TellsLine e d.bundle → Answers (Err e) (λ told. IsReplayReport told bytes)
    by_error (Refused cause) wrong = rw read (inl wrong)
    by_error NoMemory wrong = tt

-- one whose text is a bundle's
told_of : (d : ReplayDocument) (b : Bundle) (told : Result (List ℕ) Cause) → IsBundle b → d.bundle ≡ bundle_text b
    → IsReplayedIn told b (project_in (settings_in d.settings d.lock)) → IsReplayOf told d
told_of d b told valid is holds = record { bundle = b; is_bundle = valid; is_text = is; holds = holds }

pub replay_told : (result : Result (List ℕ) DocumentError) (bytes : List ℕ) (d : ReplayDocument) (b : Bundle)
    → fields_in bytes ≡ Ok d → IsBundle b → d.bundle ≡ bundle_text b
    → Answers result (λ told. IsReplayedIn told b (project_in (settings_in d.settings d.lock)))
    → Answers result (λ told. IsReplayReport told bytes)
replay_told (Ok text) bytes d b read valid is told = rw read (told_of d b (Ok text) valid is told)
replay_told (Err (Refused cause)) bytes d b read valid is told = rw read (inr (told_of d b (Err cause) valid is told))
replay_told (Err NoMemory) bytes d b read valid is told = tt
