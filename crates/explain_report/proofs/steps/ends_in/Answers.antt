use Rattle.std.proofs.lemmas.Str.Pattern.{ends_text}
use Rattle.explain_report.proofs.steps.ends_in.Goals as goal

pub returns : goal.returns
returns c = ends_text _ c.args.name.now c.args.path.now c.ends_with.ensures.cases
