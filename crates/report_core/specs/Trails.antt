-- A trail as a value of JSON: a list of its questions, each with its kind, its path and the reply.
use Rattle.std.specs.Prelude.{List, map}
use Rattle.serde_json.specs.Data.{Data, array}
use Rattle.serde_json.specs.View.{items_of}
use Rattle.tree_core.specs.declared.question.Question.{Question}
use Rattle.tree_core.specs.declared.question.Reply.{Reply}
use Rattle.trail_texts.specs.TrailTexts.{step_value}

abbrev pub trail_value : List (Question × Reply) → Data
trail_value steps = array (items_of (map step_value steps))
