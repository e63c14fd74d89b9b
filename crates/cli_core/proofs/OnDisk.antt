-- How requests over the disk end, by whether their project is accepted.
use Rattle.std.proofs.Common.{◌≡◌, List, ℕ, Result, Ok, Err, IsOk, is_ok, inl, inr, refl, ap, ◌∙◌, subst}
use Rattle.std.specs.Prelude.{IsOkAnd}
use Rattle.swc_loader.specs.declared.resolution.FileName.TheVariants.{Real}
use Rattle.tree_core.specs.Tree.{Rose, TreeState}
use Rattle.document_core.specs.declared.cause.Cause.{Cause}
use Rattle.disk_report.specs.Asked.{Asked}
use Rattle.disk_report.specs.DiskRequest.{project_of}
use Rattle.disk_report.specs.Outcomes.{AnswersInTwoWays, IsTold}
use Rattle.disk_report.specs.declared.forms.DiskForm.TheVariants.{Bundle}
use Rattle.disk_report.proofs.Told.{told_with}
use Rattle.cli_core.specs.OnDisk.{AsksDisk, TellsCause, TellsOutcomes}
use Rattle.cli_core.specs.Streams.{Appends, SinkState}
use Rattle.cli_core.specs.Writing.{AppendsFront}
use Rattle.cli_core.specs.declared.status.Status.{Status}
use Rattle.cli_core.specs.declared.status.Status.TheVariants.{Done, WriteFault, NoMemory, TreeFault, TwoReplies}

not_ok : {A E : Type 0} {e : E} (r : Result A E) → r ≡ Err e → IsOk r → ⊥
not_ok r refused accepted = let no = rw refused at accepted in cc

ok_and : {A E : Type 0} (P : A → Type 0) (r : Result A E) → IsOkAnd r P → IsOk r
ok_and P (Ok a) holds = refl
ok_and P (Err e) holds = elim holds [ ]

same_cause : {A E : Type 0} {e other : E} (r : Result A E) → r ≡ Err e → r ≡ Err other → e ≡ other
same_cause r refused found = cc

-- the project is refused for this cause
pub asks_by_cause : {status : Status} {sink_old sink_new : SinkState} {disk_old disk_new : TreeState} (request : Asked)
    (cause : Cause) → project_of request ≡ Err cause
    → TellsCause cause status sink_old sink_new disk_old disk_new
    → AsksDisk request status sink_old sink_new disk_old disk_new
asks_by_cause request cause is told = record {
  refused = λ other found. rw (← same_cause _ is found) told;
  accepted = λ ok. absurd (not_ok _ is ok);
}

-- the project is accepted
by_project : {status : Status} {sink_old sink_new : SinkState} {disk_old disk_new : TreeState} (request : Asked)
    → IsOk (project_of request)
    → TellsOutcomes request status sink_old sink_new disk_old disk_new
    → AsksDisk request status sink_old sink_new disk_old disk_new
by_project request ok told = record {
  refused = λ cause found. absurd (not_ok _ found ok);
  accepted = λ _. told;
}

-- the disk failed
pub asks_disk_fault : {sink_old sink_new : SinkState} {disk_old disk_new : TreeState} (request : Asked)
    → IsOk (project_of request)
    → Rose disk_old.faults disk_new.faults → AsksDisk request TreeFault sink_old sink_new disk_old disk_new
asks_disk_fault request ok rose = by_project request ok (record {
  done = λ other. cc;
  cut = λ other. cc;
  in_conflict = λ other. cc;
  complete = λ steady _. absurd (steady rose);
  ends = inr (inr (inr (inl refl)));
})

-- the disk gave two replies to one question
pub asks_in_conflict : {sink_old sink_new : SinkState} {disk_old disk_new : TreeState} (request : Asked)
    → (request.form ≡ Bundle) × IsOkAnd (project_of request)
    (λ project. AnswersInTwoWays disk_old.stands_for project (Real request.importer) request.specifiers)
    → AsksDisk request TwoReplies sink_old sink_new disk_old disk_new
asks_in_conflict request conflict = by_project request (ok_and _ (project_of request) conflict.1) (record {
  done = λ other. cc;
  cut = λ other. cc;
  in_conflict = λ _. conflict;
  complete = λ _ _. inr (inr refl);
  ends = inr (inr (inr (inr refl)));
})

-- what is told was written
pub asks_whole : {sink_old sink_new : SinkState} {disk_old disk_new : TreeState} (request : Asked) (text line : List ℕ)
    → IsTold disk_old.stands_for request (λ told. line ≡ told)
    → text ≡ line → Appends text sink_old.written sink_new.written
    → AsksDisk request Done sink_old sink_new disk_old disk_new
asks_whole {sink_old = sink_old} {sink_new = sink_new} request text line outcome is written =
    let W : List ℕ → Type 0 = λ text. Appends text sink_old.written sink_new.written in
    by_project request (ap is_ok outcome.accepted) (record {
      done = λ _. told_with (λ told same. subst W (is ∙ same) written) outcome;
      cut = λ other. cc;
      in_conflict = λ other. cc;
      complete = λ _ _. inl refl;
      ends = inl refl;
    })

-- a first part of what is told was written, and the sink failed
pub asks_cut : {sink_old sink_new : SinkState} {disk_old disk_new : TreeState} (request : Asked) (text line : List ℕ)
    → IsTold disk_old.stands_for request (λ told. line ≡ told)
    → text ≡ line → AppendsFront text sink_old.written sink_new.written → Rose sink_old.faults sink_new.faults
    → AsksDisk request WriteFault sink_old sink_new disk_old disk_new
asks_cut {sink_old = sink_old} {sink_new = sink_new} request text line outcome is written rose =
    let W : List ℕ → Type 0 = λ text. AppendsFront text sink_old.written sink_new.written in
    by_project request (ap is_ok outcome.accepted) (record {
      done = λ other. cc;
      cut = λ _. told_with (λ told same. subst W (is ∙ same) written) outcome;
      in_conflict = λ other. cc;
      complete = λ _ steady. absurd (steady rose);
      ends = inr (inl refl);
    })

-- no memory was found
pub asks_starved : {sink_old sink_new : SinkState} {disk_old disk_new : TreeState} (request : Asked)
    → ((cause : Cause) → project_of request ≡ Err cause → disk_new ≡ disk_old)
    → AsksDisk request NoMemory sink_old sink_new disk_old disk_new
asks_starved request unasked = record {
  refused = λ cause found. record {
    refused = λ other. cc;
    cut = λ other. cc;
    ends = inr (inr refl);
    unasked = unasked cause found;
  };
  accepted = λ _. record {
    done = λ other. cc;
    cut = λ other. cc;
    in_conflict = λ other. cc;
    complete = λ _ _. inr (inl refl);
    ends = inr (inr (inl refl));
  };
}
