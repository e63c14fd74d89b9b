-- What a search comes to on a tree, with the questions that it puts to it: the form of the laws by which a reader
-- checks the plans. A `do` by this file's `>>=` is over what is told: each line is a search on a tree, and the next one
-- goes on with its result.
use Rattle.std.specs.Prelude.{ℕ, Bool, List, [], ◌∷◌, ◌++◌, Option, Result, Ok, Err, option_map}
use Rattle.std.specs.FinMap.{get}
use Rattle.sugar_path.specs.Path.{Path, text_of}
use Rattle.tree_core.specs.declared.question.Question.{Question}
use Rattle.tree_core.specs.declared.question.Question.TheVariants.{File, Dir, Exists, Read, Canon}
use Rattle.tree_core.specs.Tree.{Files, is_folder}
use Rattle.tree_core.specs.Plan.{Plan, answer, asked}
use Rattle.tree_core.specs.First.{is_key, first_key, up_to_first, is_there, first_there, up_to_first_there, content_of}

-- what a search comes to on a tree, and the questions that it puts to it, in order
pub record Told (A : Type 0) : Type 0 where
  pub result : A
  pub questions : List Question

-- what a plan tells of a tree
abbrev pub told : {A : Type 0} → Files → Plan A → Told A
told t p = record { result = answer t p; questions = asked t p }

-- a value that takes no question
abbrev pub unasked : {A : Type 0} → A → Told A
unasked a = record { result = a; questions = [] }

-- one search, and then the one that its result gives: the questions of both, in order
infixl 10 ◌>>=◌
abbrev pub ◌>>=◌ : {A B : Type 0} → Told A → (A → Told B) → Told B
m >>= next = record { result = (next m.result).result; questions = m.questions ++ (next m.result).questions }

-- what is told with its result made into another, without a further question
abbrev pub made : {A B : Type 0} → (A → B) → Told A → Told B
made f m = record { result = f m.result; questions = m.questions }

-- goes on with the value of an Ok; a refusal stays, and takes no further question
abbrev pub where_ok : {A B X : Type 0} → (A → Told (Result B X)) → Result A X → Told (Result B X)
where_ok next (Ok a) = next a
where_ok next (Err x) = unasked (Err x)

-- one search that may refuse, and then the one that its answer gives
infixl 10 ◌>>=?◌
abbrev pub ◌>>=?◌ : {A B X : Type 0} → Told (Result A X) → (A → Told (Result B X)) → Told (Result B X)
m >>=? next = m >>= where_ok next

-- whether there is a file at a path
abbrev pub file_on : Files → Path → Told Bool
file_on t p = record { result = is_key t p; questions = File (text_of p) ∷ [] }

-- whether there is a folder at a path
abbrev pub folder_there_on : Files → Path → Told Bool
folder_there_on t p = record { result = is_folder t (text_of p); questions = Dir (text_of p) ∷ [] }

-- whether there is a file or a folder at a path
abbrev pub exists_on : Files → Path → Told Bool
exists_on t p = record { result = is_there t p; questions = Exists (text_of p) ∷ [] }

-- the bytes of the file at a path
abbrev pub read_on : Files → Path → Told (Option (List ℕ))
read_on t p = record { result = content_of t p; questions = Read (text_of p) ∷ [] }

-- the canonical name of the file at a path
abbrev pub canon_on : Files → Path → Told (Option (List ℕ))
canon_on t p = record { result = option_map (λ f. f.canonical) (get t (text_of p)); questions = Canon (text_of p) ∷ [] }

-- the first of the paths that is a file
abbrev pub first_file_on : Files → List Path → Told (Option Path)
first_file_on t ps = record { result = first_key t ps; questions = up_to_first t ps }

-- the first of the paths that is a file or a folder
abbrev pub first_existing_on : Files → List Path → Told (Option Path)
first_existing_on t ps = record { result = first_there t ps; questions = up_to_first_there t ps }
