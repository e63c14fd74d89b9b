-- The first of a list of paths that a tree has, and the questions up to it, as plain functions of the tree.
use Rattle.std.specs.Prelude.{Bool, ◌||◌, if◌then◌else◌, ℕ, List, [], ◌∷◌, Option, Some, None}
use Rattle.tree_core.specs.declared.question.Question.{Question}
use Rattle.tree_core.specs.declared.question.Question.TheVariants.{File, Exists}
use Rattle.sugar_path.specs.Path.{Path, text_of}
use Rattle.tree_core.specs.Tree.{Files, bytes_at, is_file, is_folder}

abbrev pub is_key : Files → Path → Bool
is_key t p = is_file t (text_of p)

-- the first that is a file
abbrev pub first_key : Files → List Path → Option Path
first_key t [] = None
first_key t (p ∷ ps) = if is_key t p then Some p else first_key t ps

-- `File` of each path, up to the first that is a file
abbrev pub up_to_first : Files → List Path → List Question
up_to_first t [] = []
up_to_first t (p ∷ ps) = File (text_of p) ∷ (if is_key t p then [] else up_to_first t ps)

abbrev pub is_there : Files → Path → Bool
is_there t p = is_file t (text_of p) || is_folder t (text_of p)

-- the first that is a file or a folder
abbrev pub first_there : Files → List Path → Option Path
first_there t [] = None
first_there t (p ∷ ps) = if is_there t p then Some p else first_there t ps

-- `Exists` of each path, up to the first that is a file or a folder
abbrev pub up_to_first_there : Files → List Path → List Question
up_to_first_there t [] = []
up_to_first_there t (p ∷ ps) = Exists (text_of p) ∷ (if is_there t p then [] else up_to_first_there t ps)

-- the bytes of a file
abbrev pub content_of : Files → Path → Option (List ℕ)
content_of t p = bytes_at t (text_of p)
