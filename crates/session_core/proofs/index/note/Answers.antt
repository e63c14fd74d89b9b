use Rattle.session_core.specs.Index.{note_of}
use Rattle.session_core.proofs.Indexes.{kept-inserted}
use Rattle.std.proofs.Common.{◌∙◌}
use Rattle.session_core.proofs.index.note.Goals as goal

pub returns-clause-kept : goal.returns-clause-kept
returns-clause-kept c =
    record { stays = λ hash n h. c.in_ok-insert.ensures.updates.0 (note_of hash n) ∙ kept-inserted _ _ h }
