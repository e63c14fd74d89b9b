-- What the last place of a mark says of the texts around it.
use Rattle.std.proofs.Common.{
  ◌≡◌,
  ◌-◌,
  ◌+◌,
  ℕ,
  true,
  false,
  not,
  cond,
  List,
  [],
  length,
  take,
  drop,
  Some,
  None,
  ap,
  ◌∙◌,
  arith,
}
use Rattle.std.specs.List.{after_last, before_last, list_any, suffix_len}
use Rattle.std.proofs.lemmas.Bool.{false_from_ne_true, not_from_true, not_from_false}
use Rattle.std.proofs.lemmas.List.{get_or_default}
use Rattle.std.proofs.lemmas.List.Folds.{list_any_none, list_any_at}
use Rattle.std.proofs.lemmas.List.Sums.{suffix_len_is}
use Rattle.memchr.specs.Find.{IsLastByte, is_byte}
use Rattle.import_graph.specs.Lines.{behind_last, between_last}

-- how many bytes behind the last mark
behind : (mark : ℕ) (line : List ℕ) (at : ℕ) → IsLastByte (is_byte mark) line (Some at)
    → suffix_len (λ b. not (is_byte mark b)) line ≡ length line - (at + 1)
behind mark line at last =
    let stop : at + 1 - 1 ≡ at = omega arith in
    suffix_len_is (λ b. not (is_byte mark b)) line (at + 1) 0 (omega (arith, last.0.high))
    (λ k low high. not_from_false _ (false_from_ne_true _ (last.0.after k low high)))
    (λ some. rw stop (not_from_true _ last.1))

pub before-some : (mark : ℕ) (line : List ℕ) (at : ℕ) → IsLastByte (is_byte mark) line (Some at)
    → before_last (is_byte mark) line ≡ take at line
before-some mark line at last =
    let n : length line - suffix_len (λ b. not (is_byte mark b)) line - 1 ≡ at =
    omega (arith, behind mark line at last, last.0.high) in
    ap (λ n. take n line) n

pub after-some : (mark : ℕ) (line : List ℕ) (at : ℕ) → IsLastByte (is_byte mark) line (Some at)
    → after_last (is_byte mark) line ≡ drop (at + 1) line
after-some mark line at last =
    let n : length line - suffix_len (λ b. not (is_byte mark b)) line ≡ at + 1 =
    omega (arith, behind mark line at last, last.0.high) in
    ap (λ n. drop n line) n

pub marked : (mark : ℕ) (line : List ℕ) (at : ℕ) → IsLastByte (is_byte mark) line (Some at)
    → list_any (is_byte mark) line ≡ true
marked mark line at last = list_any_at (is_byte mark) line at 0 last.0.high last.1

pub unmarked : (mark : ℕ) (line : List ℕ) → IsLastByte (is_byte mark) line None → list_any (is_byte mark) line ≡ false
unmarked mark line none =
    list_any_none (is_byte mark) line
    (λ k d within. ap (is_byte mark) (get_or_default line k d 0 within)
    ∙ false_from_ne_true _ (none k (omega arith) within))

-- where a line has no mark, nothing stands before the last one
pub before-none : (mark : ℕ) (line : List ℕ) → IsLastByte (is_byte mark) line None
    → before_last (is_byte mark) line ≡ []
before-none mark line none =
    let all : suffix_len (λ b. not (is_byte mark b)) line ≡ length line - 0 =
    suffix_len_is (λ b. not (is_byte mark b)) line 0 0 (omega arith)
    (λ k low high. not_from_false _ (false_from_ne_true _ (none k low high)))
    (λ some. absurd (omega (arith, some))) in
    let n : length line - suffix_len (λ b. not (is_byte mark b)) line - 1 ≡ 0 = omega (arith, all) in
    ap (λ n. take n line) n

-- a line without the mark
pub between-none : (mark : ℕ) (line : List ℕ) → IsLastByte (is_byte mark) line None → between_last mark line ≡ None
between-none mark line none = ap (behind_last mark) (before-none mark line none)

behind-none : (mark : ℕ) (text : List ℕ) → list_any (is_byte mark) text ≡ false → behind_last mark text ≡ None
behind-none mark text e = ap (λ b. cond b (Some (after_last (is_byte mark) text)) None) e

behind-some : (mark : ℕ) (text : List ℕ) → list_any (is_byte mark) text ≡ true
    → behind_last mark text ≡ Some (after_last (is_byte mark) text)
behind-some mark text e = ap (λ b. cond b (Some (after_last (is_byte mark) text)) None) e

-- a line in which no mark stands before the last one
pub between-one : (mark : ℕ) (line : List ℕ) (at : ℕ) → IsLastByte (is_byte mark) line (Some at)
    → IsLastByte (is_byte mark) (take at line) None → between_last mark line ≡ None
between-one mark line at last none = ap (behind_last mark) (before-some mark line at last)
    ∙ behind-none mark (take at line) (unmarked mark (take at line) none)

-- a line in which one stands there
pub between-two : (mark : ℕ) (line : List ℕ) (at opening : ℕ) → IsLastByte (is_byte mark) line (Some at)
    → IsLastByte (is_byte mark) (take at line) (Some opening)
    → between_last mark line ≡ Some (drop (opening + 1) (take at line))
between-two mark line at opening last first =
    ap (behind_last mark) (before-some mark line at last)
    ∙ behind-some mark (take at line) (marked mark (take at line) opening first)
    ∙ ap (λ t. Some t) (after-some mark (take at line) opening first)
