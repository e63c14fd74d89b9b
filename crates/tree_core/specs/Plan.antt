-- A plan: which questions are put to a tree, in what order, and what their replies come to.
-- A `do` here is over plans: each line is a plan, and the next one goes on with its answer.
use Rattle.std.specs.Prelude.{ℕ, Bool, false, if◌then◌else◌, List, [], ◌∷◌, Option, Some, None, Result, Ok, Err}
use Rattle.tree_core.specs.declared.question.Question.{Question}
use Rattle.tree_core.specs.declared.question.Question.TheVariants.{File, Dir, Exists, Read, Canon}
use Rattle.tree_core.specs.declared.question.Reply.{Reply}
use Rattle.tree_core.specs.declared.question.Reply.TheVariants.{Flag, Bytes, Name}
use Rattle.sugar_path.specs.Path.{Path, text_of}
use Rattle.tree_core.specs.Tree.{Files, reply}

-- `Done a` puts no question and answers a; `Ask q next` puts q, and goes on by its reply
pub data Plan (A : Type 0) : Type 0 where
  Done : A → Plan A
  Ask : Question → (Reply → Plan A) → Plan A

-- what a plan answers on a tree
unfoldable pub answer : {A : Type 0} → Files → Plan A → A
answer t (Done a) = a
answer t (Ask q next) = answer t (next (reply t q))

-- the questions that it puts to that tree, in order
unfoldable pub asked : {A : Type 0} → Files → Plan A → List Question
asked t (Done a) = []
asked t (Ask q next) = q ∷ asked t (next (reply t q))

-- The `>>=` of a `do` over plans: one plan, and then the plan that its answer gives.
infixl 10 ◌>>=◌
unfoldable pub ◌>>=◌ : {A B : Type 0} → Plan A → (A → Plan B) → Plan B
Done a >>= rest = rest a
Ask q next >>= rest = Ask q (λ r. next r >>= rest)

abbrev pub flag : Reply → Bool
flag (Flag b) = b
flag _ = false

abbrev pub content : Reply → Option (List ℕ)
content (Bytes bytes) = bytes
content _ = None

abbrev pub name : Reply → Option (List ℕ)
name (Name text) = text
name _ = None

-- whether there is a file at a path
unfoldable pub file : Path → Plan Bool
file p = Ask (File (text_of p)) (λ r. Done (flag r))

-- whether there is a folder at a path
unfoldable pub folder_there : Path → Plan Bool
folder_there p = Ask (Dir (text_of p)) (λ r. Done (flag r))

-- whether there is a file or a folder at a path
unfoldable pub exists : Path → Plan Bool
exists p = Ask (Exists (text_of p)) (λ r. Done (flag r))

-- the bytes of the file at a path
unfoldable pub read : Path → Plan (Option (List ℕ))
read p = Ask (Read (text_of p)) (λ r. Done (content r))

-- the canonical name of the file at a path
unfoldable pub canon : Path → Plan (Option (List ℕ))
canon p = Ask (Canon (text_of p)) (λ r. Done (name r))

-- the first of the paths that is a file
abbrev pub first_file : List Path → Plan (Option Path)
first_file [] = Done None
first_file (p ∷ ps) = do
  found ← file p
  if found then Done (Some p) else first_file ps

-- the first of the paths that is a file or a folder
abbrev pub first_existing : List Path → Plan (Option Path)
first_existing [] = Done None
first_existing (p ∷ ps) = do
  found ← exists p
  if found then Done (Some p) else first_existing ps

-- a plan that may refuse, and then the plan that its answer gives
abbrev pub on_ok : {A B X : Type 0} → (A → Plan (Result B X)) → Result A X → Plan (Result B X)
on_ok rest (Ok a) = rest a
on_ok rest (Err x) = Done (Err x)

infixl 10 ◌>>=?◌
abbrev pub ◌>>=?◌ :
    {A B X : Type 0} → Plan (Result A X) → (A → Plan (Result B X)) → Plan (Result B X)
p >>=? rest = p >>= on_ok rest
