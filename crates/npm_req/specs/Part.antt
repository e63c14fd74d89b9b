-- One part of a range: an operator, spaces, a `v`, and a partial version.
use Rattle.std.specs.Prelude.{◌≡◌, ℕ, List, length, Option, Some, None, Result, Ok, Err, unwrap_or, codes}
use Rattle.npm_req.specs.Comparators.{comparators}
use Rattle.std.specs.Str.{IsUtf8}
use Rattle.sugar_path.specs.Front.{after}
use Rattle.npm_req.specs.Front.{IsEndOf, after_all, is_space}
use Rattle.npm_req.specs.Partial.{partial_of}
use Rattle.npm_req.specs.Word.{after_word, word}
use Rattle.npm_req.specs.declared.comparator.Comparator.{Comparator}
use Rattle.npm_req.specs.declared.comparator.Operator.{Operator}
use Rattle.npm_req.specs.declared.comparator.Operator.TheVariants as op
use Rattle.npm_req.specs.declared.error.Refusal.{Refusal}
use Rattle.npm_req.specs.declared.error.Refusal.TheVariants.{Unexpected, NoMemory}
use Rattle.npm_req.specs.declared.partial.Partial.{Partial}

-- what is read at the front of a text with what follows it, or how many bytes are left where the first part or partial
-- version begins that doesn't read
abbrev pub Reading : Type 0 → Type 0
Reading A = Result (A × List ℕ) ℕ

-- what a mark in front gives, if it is there
abbrev pub behind : {A : Type 0} → Option (List ℕ) → (List ℕ → A) → A → A
behind None found other = other
behind (Some rest) found other = found rest

-- an operator that becomes another one where `=` follows
abbrev pub or_equal : Operator → Operator → List ℕ → Operator × List ℕ
or_equal plain equal t = behind (after (codes "=") t) (λ rest. (equal, rest)) (plain, t)

-- the operator in front and what follows it: `^`, `~` or `~>`, `>` or `>=`, `<` or `<=`, `=`; nothing counts as `=`
abbrev pub operator_of : List ℕ → Operator × List ℕ
operator_of t =
    behind (after (codes "^") t) (λ rest. (op.Caret, rest))
    (behind (after (codes "~") t) (λ rest. (op.Tilde, unwrap_or (after (codes ">") rest) rest))
    (behind (after (codes ">") t) (or_equal op.Above op.AtLeast)
    (behind (after (codes "<") t) (or_equal op.Below op.AtMost)
    (op.Equal, unwrap_or (after (codes "=") t) t))))

-- where the partial version of a part begins, from what follows the operator
abbrev pub after_sign : List ℕ → List ℕ
after_sign t = unwrap_or (after (codes "v") (after_all is_space t)) (after_all is_space t)

-- the part of an operator and a partial version, with what follows it; without a partial version it doesn't read
abbrev pub part_with : List ℕ → Operator → Option Partial → List ℕ → Reading (List Comparator)
part_with t operator None rest = Err (length t)
part_with t operator (Some partial) rest = Ok (comparators operator partial, rest)

-- the comparators of the part in front
unfoldable pub part : List ℕ → Reading (List Comparator)
part t =
    let from = after_sign (operator_of t).1 in part_with t (operator_of t).0 (partial_of (word from)) (after_word from)

-- why nothing was read: memory ran out, or this is where it doesn't read
abbrev pub Refuses : {A : Type 0} → Result A ℕ → Refusal → Type 0
Refuses read (Unexpected left) = read ≡ Err left
Refuses read NoMemory = Unit {0}

-- the place where nothing reads is in the text, and a character begins there
abbrev pub IsInText : List ℕ → Refusal → Type 0
IsInText t (Unexpected left) = (rest : List ℕ) × ((left ≡ length rest) × IsUtf8 rest × IsEndOf rest t)
IsInText t NoMemory = Unit {0}
