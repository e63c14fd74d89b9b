-- Questions by their kind and path.
use Rattle.std.specs.Prelude.{ℕ, List}
use Rattle.tree_core.specs.declared.question.Question.{Question}
use Rattle.tree_core.specs.declared.question.Question.TheVariants.{File, Dir, Exists, Read, Canon}
use Rattle.tree_core.specs.declared.question.QuestionKind.{QuestionKind}
use Rattle.tree_core.specs.declared.question.QuestionKind.TheVariants as kind

-- what a question asks
abbrev pub kind_of : Question → QuestionKind
kind_of (File _) = kind.File
kind_of (Dir _) = kind.Dir
kind_of (Exists _) = kind.Exists
kind_of (Read _) = kind.Read
kind_of (Canon _) = kind.Canon

-- the question of a kind on a path
abbrev pub question_on : QuestionKind → List ℕ → Question
question_on kind.File p = File p
question_on kind.Dir p = Dir p
question_on kind.Exists p = Exists p
question_on kind.Read p = Read p
question_on kind.Canon p = Canon p

-- the number of a kind
abbrev pub number_of : QuestionKind → ℕ
number_of kind.File = 0
number_of kind.Dir = 1
number_of kind.Exists = 2
number_of kind.Read = 3
number_of kind.Canon = 4
