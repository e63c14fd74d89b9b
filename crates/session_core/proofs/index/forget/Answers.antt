use Rattle.std.proofs.Common.{◌∙◌}
use Rattle.session_core.specs.Index.{note_of}
use Rattle.session_core.proofs.Indexes.{noted-apart}
use Rattle.session_core.proofs.index.forget.Goals as goal

pub returns : goal.returns
returns c = record {
  stays =
      λ hash n apart h. c.remove-there.ensures.updates.2 (note_of hash n)
      (noted-apart c.args.hash c.args.number n hash apart) ∙ h;
}
