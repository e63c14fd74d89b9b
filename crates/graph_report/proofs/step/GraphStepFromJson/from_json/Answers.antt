use Rattle.graph_report.specs.Given.{step_of}
use Rattle.graph_report.proofs.step.GraphStepFromJson.from_json.Goals as goal

pub returns : goal.returns
unfolding step_of
returns g c = rw (c.member.ensures, c.member-2.ensures, c.member-3.ensures) at c.step_in.ensures
