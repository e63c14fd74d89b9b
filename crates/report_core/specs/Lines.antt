-- The lines that are written: for each outcome the compact text of a JSON object.
use Rattle.std.specs.Prelude.{ℕ, Bool, if◌then◌else◌, List, [], ◌∷◌, ◌++◌, codes}
use Rattle.serde_json.specs.Data.{Members, no_members, member}
use Rattle.serde_json.specs.Written.{compact_text}
use Rattle.tree_core.specs.declared.question.Question.{Question}
use Rattle.tree_core.specs.declared.question.Reply.{Reply}
use Rattle.resolve_stack.specs.declared.verdict.Outcome.{Outcome}
use Rattle.resolve_stack.specs.declared.verdict.Verdict.{Verdict}
use Rattle.report_core.specs.Trails.{trail_value}
use Rattle.report_core.specs.Verdicts.{verdict_value}

-- the member by which a line tells a trail
abbrev pub trail_member : List (Question × Reply) → Members
trail_member steps = member (codes "trail") (trail_value steps) no_members

-- the line of a verdict
unfoldable pub verdict_line : Verdict → List ℕ
verdict_line verdict = compact_text (verdict_value no_members verdict) ++ 10 ∷ []

-- the line of a verdict with its trail
unfoldable pub line_with_trail : Outcome → List ℕ
line_with_trail outcome =
    compact_text (verdict_value (trail_member outcome.trail) outcome.verdict) ++ 10 ∷ []

-- the line of an outcome, with its trail where trails are asked for
abbrev pub outcome_line : Bool → Outcome → List ℕ
outcome_line trails outcome =
    if trails then line_with_trail outcome else verdict_line outcome.verdict
