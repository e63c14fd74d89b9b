-- Which words ask for help, and about what.
use Rattle.std.specs.Prelude.{ℕ, ◌||◌, List, [], ◌∷◌, codes, bytes_eq, Option, Some, None, if◌then◌else◌}
use Rattle.command_help.specs.declared.topic.Topic.{Topic}
use Rattle.command_help.specs.declared.topic.Topic.TheVariants as topic

-- the command of a name
abbrev pub command_named : List ℕ → Option Topic
command_named word =
    if bytes_eq word (codes "resolve") then Some topic.Resolve
    else if bytes_eq word (codes "session") then Some topic.Session
    else if bytes_eq word (codes "graph") then Some topic.Graph
    else if bytes_eq word (codes "audit") then Some topic.Audit
    else if bytes_eq word (codes "bundle") then Some topic.Bundle
    else if bytes_eq word (codes "replay") then Some topic.Replay
    else if bytes_eq word (codes "imports") then Some topic.Imports
    else if bytes_eq word (codes "generate") then Some topic.Generate
    else if bytes_eq word (codes "disk") then Some topic.Disk
    else None

-- one word asks about the program or its version
abbrev pub topic_of_one : List ℕ → Option Topic
topic_of_one word =
    if bytes_eq word (codes "help") || bytes_eq word (codes "--help") then Some topic.Program
    else if bytes_eq word (codes "--version") then Some topic.Version
    else None

-- `help COMMAND` and `COMMAND --help` ask about a command
abbrev pub topic_of_two : List ℕ → List ℕ → Option Topic
topic_of_two word next =
    if bytes_eq word (codes "help") then command_named next
    else if bytes_eq next (codes "--help") then command_named word
    else None

-- what the words behind the program's name ask help about; no words ask about the program
abbrev pub topic_of : List (List ℕ) → Option Topic
topic_of [] = Some topic.Program
topic_of (word ∷ []) = topic_of_one word
topic_of (word ∷ next ∷ []) = topic_of_two word next
topic_of (word ∷ next ∷ third ∷ words) = None
