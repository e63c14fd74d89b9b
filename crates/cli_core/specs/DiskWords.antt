-- Which words ask for requests over the disk: `disk`, options, a working folder, a target, an importer and specifiers.
use Rattle.std.specs.Prelude.{
  ℕ,
  List,
  [],
  ◌∷◌,
  codes,
  bytes_eq,
  Option,
  Some,
  None,
  option_and_then,
  option_map,
  if◌then◌else◌,
}
use Rattle.std.specs.Option.{unwrap_or}
use Rattle.swc_loader.specs.declared.target.TargetEnv.{TargetEnv}
use Rattle.swc_loader.specs.declared.target.TargetEnv.TheVariants.{Browser, Node}
use Rattle.disk_report.specs.Asked.{Asked}
use Rattle.disk_report.specs.declared.forms.DiskForm.{DiskForm}
use Rattle.disk_report.specs.declared.forms.DiskForm.TheVariants.{Outcomes, Bundle}
use Rattle.disk_report.specs.declared.forms.OutcomeForm.TheVariants.{Line}
use Rattle.cli_core.specs.Forms.{form_of}
use Rattle.cli_core.specs.declared.disk_words.DiskOptions.{DiskOptions}

-- the target that a word names
abbrev pub target_of : List ℕ → Option TargetEnv
target_of word =
    if bytes_eq word (codes "browser") then Some Browser
    else if bytes_eq word (codes "node") then Some Node
    else None

-- the form that a word names
abbrev pub disk_form_of : List ℕ → Option DiskForm
disk_form_of word =
    if bytes_eq word (codes "--bundle") then Some Bundle
    else option_map Outcomes (form_of word)

-- no word said anything yet
abbrev pub no_options : DiskOptions
no_options = record { form = None }

abbrev pub form_unless : Option DiskForm → DiskForm → Option DiskOptions
form_unless None form = Some (record { form = Some form })
form_unless (Some other) form = None

-- options with a form, which is said once
abbrev pub with_form : DiskOptions → DiskForm → Option DiskOptions
with_form options form = form_unless options.form form

-- the options that words begin with, and the words behind them; none where an option is said twice
abbrev pub options_in : DiskOptions → List (List ℕ) → Option (DiskOptions × List (List ℕ))
options_in options [] = Some (options, [])
options_in options (word ∷ words) = elim (disk_form_of word) as (λ _. Option (DiskOptions × List (List ℕ))) [
  | None ↦ Some (options, word ∷ words)
  | Some form ↦ option_and_then (λ more. options_in more words) (with_form options form)
]

-- the requests of a project, of what asks, and of at least one specifier; they are told by lines, where no form is said
abbrev pub request_by : DiskOptions → List (List ℕ) → Option Asked
request_by options (cwd ∷ target ∷ importer ∷ specifier ∷ specifiers) = option_map (λ env. record {
  cwd = cwd;
  target = env;
  importer = importer;
  specifiers = specifier ∷ specifiers;
  form = unwrap_or options.form (Outcomes Line);
}) (target_of target)
request_by options _ = None

-- the requests that words ask for
abbrev pub disk_request_in : List (List ℕ) → Option Asked
disk_request_in [] = None
disk_request_in (word ∷ words) =
    if bytes_eq word (codes "disk") then option_and_then (λ found. request_by found.0 found.1)
    (options_in no_options words)
    else None
