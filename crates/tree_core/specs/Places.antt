-- Where the questions of a trail stand, by an index from hashes of questions to first places.
use Rattle.std.specs.Prelude.{◌≡◌, ◌==◌, ℕ, List, ◌++◌, drop, Option, Some, None, is_some, IsTrue, if◌then◌else◌}
use Rattle.std.specs.List.{fold, position, position_from}
use Rattle.std.specs.Hash as fed
use Rattle.std.specs.Hash.FoldHasher as folding
use Rattle.tree_core.specs.declared.question.Question.{Question}
use Rattle.tree_core.specs.declared.question.Reply.{Reply}
use Rattle.tree_core.specs.Question.{path_asked, question_eq, all_fit}
use Rattle.tree_core.specs.QuestionKind.{kind_of, number_of}

-- a hash of a question's kind and path
unfoldable pub hash_of : Question → ℕ
hash_of q =
    folding.finish
    (fold folding.write folding.initial (fed.u8 (number_of (kind_of q)) ++ fed.str (path_asked q)))

-- the first place of a question with a hash
abbrev pub place_with : List (Question × Reply) → ℕ → Option ℕ
place_with steps h = position (λ step. hash_of step.0 == h) steps

-- the first place of a question from a place on
abbrev pub place_from : List (Question × Reply) → ℕ → Question → Option ℕ
place_from steps from q = position_from (λ step. question_eq step.0 q) from (drop from steps)

-- An index with one more hash and its place: a hash that has a place keeps it.
abbrev pub with_place : (ℕ → Option ℕ) → ℕ → ℕ → ℕ → Option ℕ
with_place places hash place h =
    if is_some (places h) then places h else (if hash == h then Some place else None)

-- What a trail keeps: each reply is of its question's kind, and the index has the first place of each hash.
pub record IsKept (steps : List (Question × Reply)) (places : ℕ → Option ℕ) : Type 0 where
  pub fit : IsTrue (all_fit steps)
  pub first : (h : ℕ) → places h ≡ place_with steps h
