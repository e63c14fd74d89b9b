-- Which words are which command.
use Rattle.std.specs.Prelude.{
  ℕ,
  ◌+◌,
  ◌-◌,
  ◌*◌,
  Bool,
  true,
  false,
  ◌&&◌,
  nat_le,
  List,
  [],
  ◌∷◌,
  map,
  codes,
  bytes_eq,
  Option,
  Some,
  None,
  option_map,
  String,
  string_bytes,
  if◌then◌else◌,
}
use Rattle.std.specs.Str.{all_ascii_digits}
use Rattle.std.specs.declared.alloc.Global.{Global}
use Rattle.disk_report.specs.declared.forms.OutcomeForm.TheVariants.{Line}
use Rattle.cli_core.specs.DiskWords.{disk_request_in}
use Rattle.cli_core.specs.Forms.{form_of}
use Rattle.cli_core.specs.declared.command.Command.{Command}
use Rattle.cli_core.specs.declared.command.Command.TheVariants.{Report, Replay, Imports, Generate, Disk}
use Rattle.cli_core.specs.declared.document_kind.DocumentKind.TheVariants.{Requests, Steps, Graphs, Audit, Bundle}
use Rattle.cli_core.specs.declared.command.TheConstants.{LARGEST}

-- the first byte is a digit above 0
abbrev pub begins_above_zero : List ℕ → Bool
begins_above_zero [] = false
begins_above_zero (c ∷ cs) = nat_le 49 c && nat_le c 57

-- the number that digits give behind a number
abbrev pub number_after : ℕ → List ℕ → ℕ
number_after n [] = n
number_after n (c ∷ cs) = number_after (10 * n + (c - 48)) cs

-- the size that a word gives: a number from 1 to the largest one, without sign and without a zero in front
unfoldable pub size_of : List ℕ → Option ℕ
size_of word =
    if begins_above_zero word && (all_ascii_digits word && nat_le (number_after 0 word) LARGEST) then Some
    (number_after 0 word)
    else None

-- one word: `resolve`, `session`, `graph`, `audit`, `bundle`, `replay` or `imports`
abbrev pub command_of_one : List ℕ → Option Command
command_of_one word =
    if bytes_eq word (codes "resolve") then Some (Report (Requests Line))
    else if bytes_eq word (codes "session") then Some (Report Steps)
    else if bytes_eq word (codes "graph") then Some (Report Graphs)
    else if bytes_eq word (codes "audit") then Some (Report Audit)
    else if bytes_eq word (codes "bundle") then Some (Report Bundle)
    else if bytes_eq word (codes "replay") then Some Replay
    else if bytes_eq word (codes "imports") then Some (Imports false)
    else None

-- the command that reads elements of JSX behind `imports`
abbrev pub imports_with : List ℕ → Option Command
imports_with word = if bytes_eq word (codes "--jsx") then Some (Imports true) else None

-- two words: `resolve` and a form, `generate` and a size, or `imports` and `--jsx`
abbrev pub command_of_two : List ℕ → List ℕ → Option Command
command_of_two word next =
    if bytes_eq word (codes "resolve") then option_map (λ form. Report (Requests form)) (form_of next)
    else if bytes_eq word (codes "generate") then option_map Generate (size_of next)
    else if bytes_eq word (codes "imports") then imports_with next
    else None

abbrev pub command_in : List (List ℕ) → Option Command
command_in [] = None
command_in (word ∷ []) = command_of_one word
command_in (word ∷ next ∷ []) = command_of_two word next
command_in (word ∷ next ∷ third ∷ words) =
    option_map Disk (disk_request_in (word ∷ next ∷ third ∷ words))

-- the command that words ask for, with what they say of it
abbrev pub asked : List (String Global) → Option Command
asked words = command_in (map string_bytes words)
