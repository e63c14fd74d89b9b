-- What a sink that was empty holds after a run that wrote its text whole.
use Rattle.std.proofs.Common.{◌≡◌, refl, ℕ, List, [], Option, Some, Result, Ok, Err, IsOkAnd, IsErrAnd}
use Rattle.document_core.specs.CauseLine.{cause_line}
use Rattle.document_core.specs.declared.cause.Cause.{Cause}
use Rattle.cli_core.specs.Report.{report_of}
use Rattle.cli_core.specs.declared.document_kind.DocumentKind.{DocumentKind}
use Rattle.cli_core.specs.Run.{Finishes, reply_as, reply_for}

pub holds_report : (kind : DocumentKind) (bytes before held : List ℕ) (left : Option (List ℕ)) → before ≡ []
    → IsOkAnd (report_of kind bytes) (λ text. Finishes bytes text left (Some before) (Some held))
    → held ≡ (reply_for kind bytes).1
holds_report kind bytes before held left empty h = by_report (report_of kind bytes) h
  where
    by_report : (r : Result (List ℕ) Cause) → IsOkAnd r (λ text. Finishes bytes text left (Some before) (Some held))
        → held ≡ (reply_as r).1
    by_report (Ok text) h = let w = rw empty at (h.written before refl) in cc
    by_report (Err cause) h = elim h [ ]

pub holds_cause : (kind : DocumentKind) (bytes before held : List ℕ) (left : Option (List ℕ)) → before ≡ []
    → IsErrAnd (report_of kind bytes) (λ cause. Finishes bytes (cause_line cause) left (Some before) (Some held))
    → held ≡ (reply_for kind bytes).1
holds_cause kind bytes before held left empty h = by_report (report_of kind bytes) h
  where
    by_report : (r : Result (List ℕ) Cause) → IsErrAnd r (λ cause. Finishes bytes (cause_line cause) left (Some before)
        (Some held)) → held ≡ (reply_as r).1
    by_report (Ok text) h = elim h [ ]
    by_report (Err cause) h = let w = rw empty at (h.written before refl) in cc
