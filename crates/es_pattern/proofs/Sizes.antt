-- How long a pattern's program is at most.
use Rattle.std.proofs.Common.{
  ◌≡◌,
  ℕ,
  zero,
  suc,
  ◌+◌,
  ◌*◌,
  ◌≤◌,
  max,
  List,
  [],
  ◌∷◌,
  ◌++◌,
  length,
  Option,
  Some,
  None,
  option_map,
  take,
  ap,
  arith,
  length-append,
}
use Rattle.es_pattern.specs.declared.step.Step.{Step}
use Rattle.es_pattern.specs.declared.step.Step.TheVariants.{Fork, Jump, Back}
use Rattle.es_pattern.specs.declared.step.Direction.{Direction}
use Rattle.es_pattern.specs.declared.step.Direction.TheVariants.{Forward, Backward}
use Rattle.es_pattern.specs.declared.piece.Piece.{Piece}
use Rattle.es_pattern.specs.declared.piece.Piece.TheVariants.{
  Nothing,
  OneOf,
  TextStart,
  TextEnd,
  WordBoundary,
  Sequence,
  Choice,
  Repetition,
  Lookahead,
}
use Rattle.es_pattern.specs.Tree.{Tree}
use Rattle.es_pattern.specs.Limits.{count_of}
use Rattle.es_pattern.specs.Pieces.{top, below, with_piece, with_pieces, tree_of}
use Rattle.es_pattern.specs.Program.{sequence_steps, copies, maybe_steps, repetition_steps}
use Rattle.es_pattern.specs.Size.{AllBounded, most_steps}
use Rattle.es_pattern.specs.Compiled.{top_code, code_below, with_code, codes_from, steps_of, AllParts}
use Rattle.std.specs.Global.{Vec}
use Rattle.es_pattern.proofs.Searching.{the_part}

length-copies : (n : ℕ) (a : List Step) → length (copies n a) ≡ n * length a
length-copies zero a = omega arith
length-copies (suc n) a = omega (arith, length-append (copies n a) a, length-copies n a, suc_times n (length a))
  where
    suc_times : (n m : ℕ) → suc n * m ≡ n * m + m
    suc_times n m = grind arith

-- so many parts, each at most so long
times_most : (n a b : ℕ) → a ≤ b → n * a ≤ n * b
times_most zero a b le = omega arith
times_most (suc n) a b le = omega (arith, times_most n a b le, suc_times n a, suc_times n b, le)
  where
    suc_times : (n m : ℕ) → suc n * m ≡ n * m + m
    suc_times n m = grind arith

more_times : (n m a : ℕ) → n ≤ m → n * a ≤ m * a
more_times zero m a le = omega arith
more_times (suc n) zero a le = absurd (omega (arith, le))
more_times (suc n) (suc m) a le = omega (arith, more_times n m a (omega (arith, le)), suc_times n a, suc_times m a)
  where
    suc_times : (n m : ℕ) → suc n * m ≡ n * m + m
    suc_times n m = grind arith

plus_times : (n m a : ℕ) → (n + m) * a ≡ n * a + m * a
plus_times n m a = grind arith

repetition_size : (least : ℕ) (more : Option ℕ) (a : List Step) (most : ℕ) → length a ≤ most
    → length (repetition_steps least more a) ≤ count_of least (option_map (λ n. least + n) more) * (most + 2)
repetition_size least (Some more) a most le =
    let first = times_most least (length a) (most + 2) (omega (arith, le)) in
    let second = times_most more (length (maybe_steps a)) (most + 2) (omega (arith, le)) in
    let all = more_times (least + more) (max (least + more) 1) (most + 2) (omega arith) in
    omega (
      arith,
      length-append (copies least a) (copies more (maybe_steps a)),
      length-copies least a,
      length-copies more (maybe_steps a),
      first,
      second,
      all,
      plus_times least more (most + 2),
    )
repetition_size zero None a most le =
    let one : 1 * (most + 2) ≡ most + 2 = grind arith in
    omega (arith, length-append a (Back (length a + 1) ∷ []), le, more_times 1 (max 0 1) (most + 2) (omega arith), one)
repetition_size (suc n) None a most le =
    let once : suc n * (most + 2) ≡ n * (most + 2) + (most + 2) = grind arith in
    omega (
      arith,
      length-append (copies n a) (a ++ (Fork 2 ∷ Back (length a + 1) ∷ [])),
      length-append a (Fork 2 ∷ Back (length a + 1) ∷ []),
      length-copies n a,
      times_most n (length a) (most + 2) (omega (arith, le)),
      le,
      more_times (suc n) (max (suc n) 1) (most + 2) (omega arith),
      once,
    )

-- each program is at most so long as its tree says
abbrev AllSized : List (List Step) → List Tree → Type 0
AllSized [] [] = Unit {0}
AllSized [] (t ∷ ts) = ⊥
AllSized (c ∷ cs) [] = ⊥
AllSized (c ∷ cs) (t ∷ ts) = (length c ≤ most_steps t) × AllSized cs ts

sized_top : (cs : List (List Step)) (ts : List Tree) → AllSized cs ts → length (top_code cs) ≤ most_steps (top ts)
sized_top [] [] s = omega arith
sized_top [] (t ∷ ts) s = absurd s
sized_top (c ∷ cs) [] s = absurd s
sized_top (c ∷ cs) (t ∷ ts) s = s.0

sized_below : (cs : List (List Step)) (ts : List Tree) → AllSized cs ts → AllSized (code_below cs) (below ts)
sized_below [] [] s = tt
sized_below [] (t ∷ ts) s = absurd s
sized_below (c ∷ cs) [] s = absurd s
sized_below (c ∷ cs) (t ∷ ts) s = s.1

sized_sequence : (d : Direction) (a b : List Step) (n m : ℕ) → length a ≤ n → length b ≤ m
    → length (sequence_steps d a b) ≤ n + m
sized_sequence Forward a b n m la lb = omega (arith, length-append a b, la, lb)
sized_sequence Backward a b n m la lb = omega (arith, length-append b a, la, lb)

sized_with : (d : Direction) (p : Piece) (number : ℕ) (cs : List (List Step)) (ts : List Tree) → AllSized cs ts
    → AllSized (with_code d p number cs) (with_piece p ts)
sized_with d Nothing number cs ts s = (omega arith, s)
sized_with d (OneOf negated ranges) number cs ts s = (omega arith, s)
sized_with d TextStart number cs ts s = (omega arith, s)
sized_with d TextEnd number cs ts s = (omega arith, s)
sized_with d (WordBoundary negated) number cs ts s = (omega arith, s)
sized_with d Sequence number cs ts s =
    let one = sized_below cs ts s in (
      sized_sequence d (top_code (code_below cs)) (top_code cs) (most_steps (top (below ts))) (most_steps (top ts))
          (sized_top (code_below cs) (below ts) one) (sized_top cs ts s),
      sized_below (code_below cs) (below ts) one,
    )
sized_with d Choice number cs ts s =
    let one = sized_below cs ts s in (
      omega (
        arith,
        length-append (top_code (code_below cs)) (Jump (length (top_code cs) + 1) ∷ top_code cs),
        sized_top (code_below cs) (below ts) one,
        sized_top cs ts s,
      ),
      sized_below (code_below cs) (below ts) one,
    )
sized_with d (Repetition least more) number cs ts s =
    (repetition_size least more (top_code cs) (most_steps (top ts)) (sized_top cs ts s), sized_below cs ts s)
sized_with d (Lookahead negated) number cs ts s = (omega arith, sized_below cs ts s)

sized_from : (d : Direction) (number : ℕ) (ps : List Piece) (cs : List (List Step)) (ts : List Tree) → AllSized cs ts
    → AllSized (codes_from d number ps cs) (with_pieces ps ts)
sized_from d number [] cs ts s = s
sized_from d number (p ∷ ps) cs ts s =
    sized_from d (suc number) ps (with_code d p number cs) (with_piece p ts) (sized_with d p number cs ts s)

-- a program has at most as many steps as the counts of its tree allow
pub steps_bounded : (d : Direction) (pieces : List Piece) → length (steps_of d pieces) ≤ most_steps (tree_of pieces)
steps_bounded d pieces = sized_top (codes_from d 0 pieces []) (with_pieces pieces []) (sized_from d 0 pieces [] [] tt)

pub parts_bounded : (pieces : List Piece) (lookaheads : List (Vec Step)) → AllParts pieces lookaheads
    → AllBounded pieces lookaheads
parts_bounded pieces lookaheads parts number negated steps at there =
    omega (
      arith,
      ap length (the_part pieces lookaheads number negated steps parts at there),
      steps_bounded Backward (take number pieces),
    )
