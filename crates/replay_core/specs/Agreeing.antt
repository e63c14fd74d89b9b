-- Whether a tree of files agrees with a trail, as a test.
use Rattle.std.specs.Prelude.{ℕ, Bool, true, false, not, List, Option, Some, None, bytes_eq}
use Rattle.std.specs.List.{list_all}
use Rattle.tree_core.specs.declared.question.Question.{Question}
use Rattle.tree_core.specs.declared.question.Reply.{Reply}
use Rattle.tree_core.specs.declared.question.Reply.TheVariants.{Flag, Bytes, Name}
use Rattle.tree_core.specs.Question.{reply_in}
use Rattle.tree_core.specs.Tree.{Files, reply}

abbrev pub same_flag : Bool → Bool → Bool
same_flag true b = b
same_flag false b = not b

abbrev pub same_text : Option (List ℕ) → Option (List ℕ) → Bool
same_text None None = true
same_text (Some a) (Some b) = bytes_eq a b
same_text _ _ = false

abbrev pub same_reply : Reply → Reply → Bool
same_reply (Flag a) (Flag b) = same_flag a b
same_reply (Bytes a) (Bytes b) = same_text a b
same_reply (Name a) (Name b) = same_text a b
same_reply _ _ = false

-- the reply that is recorded, if one is, is this
abbrev pub allows : Option Reply → Reply → Bool
allows None r = true
allows (Some a) r = same_reply a r

-- the tree gives the first reply that is recorded for each question of the trail
abbrev pub agrees_with : List (Question × Reply) → Files → Bool
agrees_with trail t = list_all (λ step. allows (reply_in trail step.0) (reply t step.0)) trail
