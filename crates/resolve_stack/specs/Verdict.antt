-- How a request ends: the answer of the project's order or its refusal.
-- A `do` here is over plans: a plan puts its questions, and the next one goes on by what it came to.
use Rattle.std.specs.Prelude.{Option, Some, None, Result, Ok, Err}
use Rattle.tree_core.specs.Asks.{raised}
use Rattle.tree_core.specs.Plan.{Plan, Done, ◌>>=◌}
use Rattle.swc_loader.specs.declared.resolution.Resolution.{Resolution}
use Rattle.resolver_core.specs.declared.refusal.TsRefusal.{TsRefusal}
use Rattle.resolver_core.specs.declared.refusal.TsRefusal.TheVariants.{Inner}
use Rattle.resolver_core.specs.Mapping.{Order, Mapping, mapping_order}
use Rattle.resolve_stack.specs.declared.verdict.JoinRefusal.{JoinRefusal}
use Rattle.resolve_stack.specs.declared.verdict.Verdict.{Verdict}
use Rattle.resolve_stack.specs.declared.verdict.Verdict.TheVariants.{Answered, Refused}
use Rattle.resolve_stack.specs.Settings.{ProjectSettings}
use Rattle.resolve_stack.specs.Request.{Request}
use Rattle.resolve_stack.specs.Order.{join_order}

abbrev pub verdict_of : Result Resolution (TsRefusal JoinRefusal) → Verdict
verdict_of (Ok resolution) = Answered resolution
verdict_of (Err refusal) = Refused refusal

-- an order behind a mapping; without one the order itself, whose refusals are inner ones
abbrev pub behind_mapping : {X : Type 0} → Option Mapping → Order X → Order (TsRefusal X)
behind_mapping None inner base s = raised Inner (inner base s)
behind_mapping (Some mapping) inner base s = mapping_order inner mapping base s

-- the order of a project: the join, behind the mapping where it has one
abbrev pub project_order : ProjectSettings → Request → Plan (Result Resolution (TsRefusal JoinRefusal))
project_order project request =
    behind_mapping project.mapping (join_order project) request.importer request.specifier

-- the verdict of a request of a project
unfoldable pub verdict : ProjectSettings → Request → Plan Verdict
verdict project request = do
  result ← project_order project request
  Done (verdict_of result)
