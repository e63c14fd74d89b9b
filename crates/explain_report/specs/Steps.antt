-- The questions of a trail for people.
use Rattle.std.specs.Prelude.{ℕ, Bool, true, false, ◌++◌, List, [], ◌∷◌, codes, bytes_eq, nat_eq, if◌then◌else◌, Some}
use Rattle.std.specs.Prelude.{None}
use Rattle.std.specs.List.{ends_with}
use Rattle.tree_core.specs.declared.question.Question.{Question}
use Rattle.tree_core.specs.declared.question.Question.TheVariants as question
use Rattle.tree_core.specs.declared.question.Reply.{Reply}
use Rattle.tree_core.specs.declared.question.Reply.TheVariants as reply
use Rattle.tree_core.specs.Question.{path_asked}

-- the step of the search that puts a question, told by its kind and its path
abbrev pub step_of : Question → List ℕ
step_of (question.File p) =
    if ends_with nat_eq p (codes "/package.json") then codes "package.json" else codes "file candidates"
step_of (question.Dir p) = codes "walk"
step_of (question.Exists p) = codes "nearest manifest"
step_of (question.Read p) =
    if ends_with nat_eq p (codes "/.pnp.cjs") then codes "manifest" else codes "package.json"
step_of (question.Canon p) = codes "spelling"

abbrev pub flag_told : Question → Bool → List ℕ
flag_told (question.File p) true = codes "a file"
flag_told (question.File p) false = codes "no file"
flag_told (question.Dir p) true = codes "a folder"
flag_told (question.Dir p) false = codes "no folder"
flag_told _ true = codes "there"
flag_told _ false = codes "nothing"

-- what was there
abbrev pub there : Question → Reply → List ℕ
there q (reply.Flag is_there) = flag_told q is_there
there q (reply.Bytes (Some bytes)) = codes "read"
there q (reply.Bytes None) = codes "nothing to read"
there q (reply.Name (Some name)) = name
there q (reply.Name None) = codes "no canonical name"

-- the heading of a step, where another one stood before
abbrev pub heading : List ℕ → List ℕ → List ℕ
heading before now = if bytes_eq before now then [] else codes "  " ++ now ++ codes "\n"

-- a question with what was there
abbrev pub asked_line : Question → Reply → List ℕ
asked_line q r = codes "    " ++ path_asked q ++ codes ": " ++ there q r ++ codes "\n"

-- the questions in order behind those of a step, a heading before each run of one step
abbrev pub steps_text : List ℕ → List (Question × Reply) → List ℕ
steps_text before [] = []
steps_text before ((q, r) ∷ trail) =
    heading before (step_of q) ++ asked_line q r ++ steps_text (step_of q) trail
