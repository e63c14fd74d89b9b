-- What is wrong with words that are no command.
use Rattle.std.specs.Prelude.{ℕ, List, [], ◌∷◌, codes, bytes_eq, nat_eq, length, Option, Some, None, option_and_then}
use Rattle.std.specs.Prelude.{if◌then◌else◌}
use Rattle.std.specs.Option.{option_or}
use Rattle.std.specs.Str.{chars}
use Rattle.strsim.specs.Edits.{levenshtein_row}
use Rattle.command_help.specs.Topics.{command_named}
use Rattle.command_help.specs.declared.topic.Topic.{Topic}
use Rattle.command_help.specs.declared.wrong.WrongWords.{WrongWords}
use Rattle.command_help.specs.declared.wrong.WrongWords.TheVariants as wrong

-- the names of the commands, in the order in which help tells them
abbrev pub command_names : List (List ℕ)
command_names =
    codes "resolve" ∷ codes "session" ∷ codes "graph" ∷ codes "audit" ∷ codes "bundle" ∷
    codes "replay" ∷ codes "imports" ∷ codes "generate" ∷ codes "disk" ∷ []

-- the least number of characters that are inserted, deleted or replaced on the way from one text to the other
abbrev pub edits_between : List ℕ → List ℕ → ℕ
edits_between from to =
    levenshtein_row nat_eq (chars from) (chars to) (length (chars to))

-- the first of the names that is so many edits away
abbrev pub first_at : ℕ → List ℕ → List (List ℕ) → Option (List ℕ)
first_at edits word [] = None
first_at edits word (name ∷ names) =
    if nat_eq (edits_between word name) edits then Some name else first_at edits word names

-- the command whose name is nearest, one or two edits away; of equally near ones the first
abbrev pub nearest_command : List ℕ → Option Topic
nearest_command word =
    option_and_then command_named
    (option_or (first_at 1 word command_names) (first_at 2 word command_names))

-- the word that is to name a command: the first, or the one behind `help`
abbrev pub command_word : List (List ℕ) → List ℕ
command_word [] = []
command_word (word ∷ []) = word
command_word (word ∷ next ∷ words) = if bytes_eq word (codes "help") then next else word

abbrev pub wrong_about : List ℕ → Option Topic → WrongWords
wrong_about word None = wrong.NoCommand (nearest_command word)
wrong_about word (Some topic) = wrong.BadUse topic

-- a command whose name is there is used wrongly, and of any other name the nearest command is told
abbrev pub wrong_words : List (List ℕ) → WrongWords
wrong_words words = wrong_about (command_word words) (command_named (command_word words))
