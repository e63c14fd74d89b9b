-- One result after the other, and the questions that go with them, for laws in plain functions of the tree. The `>>=`
-- of a `do` over results is that of `sugar_path`.
use Rattle.std.specs.Prelude.{List, [], Result, Ok, Err}
pub use Rattle.sugar_path.specs.Results.{◌>>=◌}
use Rattle.tree_core.specs.declared.question.Question.{Question}

-- the questions that a value gives
abbrev pub asks_after : {A X : Type 0} → Result A X → (A → List Question) → List Question
asks_after (Ok a) questions = questions a
asks_after (Err x) questions = []
