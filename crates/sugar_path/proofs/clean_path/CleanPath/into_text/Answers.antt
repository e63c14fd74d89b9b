use Rattle.std.proofs.Common.{arith, ap, sym, ◌∙◌}
use Rattle.std.proofs.lemmas.Grind.{common_steps}
use Rattle.sugar_path.specs.Path.{text_of}
use Rattle.sugar_path.proofs.clean_path.CleanPath.into_text.Goals as goal

pub returns-clause-text : goal.returns-clause-text
returns-clause-text c = grind (arith, common_steps)

pub returns-clause-clean : goal.returns-clause-clean
returns-clause-clean c = (_, c.self.invariant.names, returns-clause-text c ∙ ap text_of (sym c.self.view_is))
