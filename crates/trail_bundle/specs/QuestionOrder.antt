-- The order of questions: by the bytes of their paths, and for one path in the order file, dir, exists, read, canon.
use Rattle.std.specs.Prelude.{ℕ}
use Rattle.std.specs.Ordering.{nat_cmp, on, then_cmp}
use Rattle.std.specs.Cmp.{IsTotalOrder, nat_cmp_total, on_total, then_total}
use Rattle.std.specs.Cmp.Lexicographic.{slice_cmp, on_texts}
use Rattle.std.specs.declared.cmp.Ordering.{Ordering}
use Rattle.tree_core.specs.declared.question.Question.{Question}
use Rattle.tree_core.specs.Question.{path_asked}
use Rattle.tree_core.specs.QuestionKind.{kind_of, number_of}

-- the place of a question among those on its path
abbrev pub rank : Question → ℕ
rank q = number_of (kind_of q)

abbrev pub question_cmp : Question → Question → Ordering
question_cmp = then_cmp (on path_asked (slice_cmp nat_cmp)) (on rank nat_cmp)

pub question_cmp_total : IsTotalOrder question_cmp
question_cmp_total = then_total (on_texts path_asked) (on_total rank nat_cmp_total)
