-- The forms in which outcomes are told, as words name them.
use Rattle.std.specs.Prelude.{ℕ, List, codes, bytes_eq, Option, Some, None, if◌then◌else◌}
use Rattle.disk_report.specs.declared.forms.OutcomeForm.{OutcomeForm}
use Rattle.disk_report.specs.declared.forms.OutcomeForm.TheVariants.{LineWithTrail, Text}

-- the form that a word names
abbrev pub form_of : List ℕ → Option OutcomeForm
form_of word =
    if bytes_eq word (codes "--trail") then Some LineWithTrail
    else if bytes_eq word (codes "--explain") then Some Text
    else None
