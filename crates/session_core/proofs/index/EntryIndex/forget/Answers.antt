use Rattle.session_core.proofs.Indexes.{entry-kept}
use Rattle.session_core.proofs.index.EntryIndex.forget.Goals as goal

pub returns : goal.returns
returns c = record {
  kept = λ n e apart h.
      entry-kept c.self.inside.noted.keys c.forget_paths.new.noted.keys n e
      (λ hash noted. c.forget_paths.ensures.stays hash n apart (c.forget.ensures.stays hash n apart noted))
      (rw (← c.self.view_is) at h);
}
