-- The forms in which outcomes are told.
use Rattle.std.specs.Prelude.{ℕ, true, false, List}
use Rattle.swc_loader.specs.declared.resolution.FileName.{FileName}
use Rattle.resolve_stack.specs.declared.verdict.Outcome.{Outcome}
use Rattle.report_core.specs.Lines.{outcome_line}
use Rattle.explain_report.specs.Explained.{explained}
use Rattle.disk_report.specs.declared.forms.OutcomeForm.{OutcomeForm}
use Rattle.disk_report.specs.declared.forms.OutcomeForm.TheVariants.{Line, LineWithTrail, Text}

-- what is told of an outcome: its line, with its trail or without, or the text for people
abbrev pub told_as : OutcomeForm → FileName → List ℕ → Outcome → List ℕ
told_as Line importer specifier outcome = outcome_line false outcome
told_as LineWithTrail importer specifier outcome = outcome_line true outcome
told_as Text importer specifier outcome = explained importer specifier outcome
