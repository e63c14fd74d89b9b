use Rattle.std.proofs.Common.{refl}
use Rattle.tree_core.specs.Plan.{exists, flag}
use Rattle.tree_core.specs.declared.question.Reply.TheVariants.{Flag}
use Rattle.tree_core.proofs.Asking.{asks_recorded}
use Rattle.tree_core.proofs.asker.RecorderAsker.exists.Goals as goal

pub returns : goal.returns
unfolding exists
returns g c = rw (← c.as_str.ensures.text) (asks_recorded flag Flag (λ _. refl) c.exists.ensures.recorded)
