use Rattle.std.proofs.Common.{refl}
use Rattle.session_core.specs.SessionView.{state_of}
use Rattle.session_core.proofs.Asked.{asked-first}
use Rattle.session_core.proofs.session.Session.ask_at.Goals as goal

pub returns : goal.returns
returns c = (
  (refl, λ _. tt, c.in_ok-bring_first.ensures.ok),
  (
    asked-first (state_of c.args.self.now) (state_of c.bring_first.new.self) c.args.importer.now c.args.specifier.now
        c.first.result.now c.args.self.now.right c.in_ok-bring_first.ensures.ok c.first.ensures,
    λ _. refl,
  ),
)
