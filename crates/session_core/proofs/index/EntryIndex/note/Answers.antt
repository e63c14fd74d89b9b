use Rattle.session_core.proofs.Indexes.{entry-kept}
use Rattle.session_core.proofs.index.EntryIndex.note.Goals as goal

pub returns-in_err-note-clause-kept : goal.returns-in_err-note-clause-kept
returns-in_err-note-clause-kept c = λ n e h.
    entry-kept c.self.inside.noted.keys c.note.new.noted.keys n e
    (λ hash noted. c.note.ensures.kept.stays hash n noted) (rw (← c.self.view_is) at h)

pub returns-clause-kept : goal.returns-clause-kept
returns-clause-kept c = λ n e h.
    entry-kept c.self.inside.noted.keys c.note_paths.new.noted.keys n e
    (λ hash noted. c.note_paths.ensures.kept.stays hash n (c.note.ensures.kept.stays hash n noted))
    (rw (← c.self.view_is) at h)
