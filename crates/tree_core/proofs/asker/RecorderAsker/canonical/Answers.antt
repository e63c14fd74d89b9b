use Rattle.std.proofs.Common.{refl}
use Rattle.tree_core.specs.Plan.{canon, name}
use Rattle.tree_core.specs.declared.question.Reply.TheVariants.{Name}
use Rattle.tree_core.proofs.Asking.{asks_recorded}
use Rattle.tree_core.proofs.asker.RecorderAsker.canonical.Goals as goal

pub returns : goal.returns
unfolding canon
returns g c = rw (← c.as_str.ensures.text) (asks_recorded name Name (λ _. refl) c.canonical.ensures.recorded)
