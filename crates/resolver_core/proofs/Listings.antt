-- The patterns at the places that are kept.
use Rattle.std.proofs.Common.{
  ◌≡◌,
  ℕ,
  ◌+◌,
  Bool,
  true,
  false,
  cond,
  List,
  [],
  ◌∷◌,
  ◌++◌,
  length,
  filter,
  find,
  Option,
  Some,
  None,
  slice_get,
  refl,
  sym,
  ap,
  ◌∙◌,
  arith,
  append_assoc,
  length-append,
  if◌then◌else◌,
}
use Rattle.resolver_core.specs.declared.pattern.Pattern.{Pattern}
use Rattle.std.specs.Option.{option_or}
use Rattle.resolver_core.specs.Lookups.{places_from, that_passes, first_passing}

abbrev with_some : {X : Type 0} → Option X → List X → List X
with_some None xs = xs
with_some (Some x) xs = x ∷ xs

-- the patterns at places
abbrev listed : List Pattern → List ℕ → List Pattern
listed ps [] = []
listed ps (n ∷ ns) = with_some (slice_get ps n) (listed ps ns)

abbrev pub one_more : (Pattern → Bool) → ℕ → Pattern → List ℕ
one_more test n p = if test p then (n ∷ []) else []

-- one more pattern at the end
pub places-push : (test : Pattern → Bool) (n : ℕ) (ps : List Pattern) (p : Pattern)
    → places_from test n (ps ++ p ∷ []) ≡ places_from test n ps ++ one_more test (n + length ps) p
places-push test n [] p = let none : n + length {A = Pattern} [] ≡ n = omega arith in rw none (by_test (test p))
  where
    by_test : (b : Bool) → cond b (n ∷ []) [] ≡ (if b then (n ∷ []) else [])
    by_test true = refl
    by_test false = refl
places-push test n (x ∷ ps) p =
    let next : n + length (x ∷ ps) ≡ n + 1 + length ps = omega arith in
    rw next (by_test (test x) (places-push test (n + 1) ps p))
  where
    by_test : (b : Bool) → places_from test (n + 1) (ps ++ p ∷ []) ≡ places_from test (n + 1) ps
        ++ one_more test (n + 1 + length ps) p
        → cond b (n ∷ places_from test (n + 1) (ps ++ p ∷ [])) (places_from test (n + 1) (ps ++ p ∷ [])) ≡ cond b
        (n ∷ places_from test (n + 1) ps) (places_from test (n + 1) ps) ++ one_more test (n + 1 + length ps) p
    by_test true rest = ap (λ ns. n ∷ ns) rest
    by_test false rest = rest

at-length : {X : Type 0} (xs : List X) (x : X) (ys : List X) → slice_get (xs ++ x ∷ ys) (length xs) ≡ Some x
at-length [] x ys = refl
at-length (y ∷ xs) x ys = at-length xs x ys

-- the patterns at the places where a test holds are those that a filter keeps
listed-behind : (test : Pattern → Bool) (front ps : List Pattern)
    → listed (front ++ ps) (places_from test (length front) ps) ≡ filter test ps
listed-behind test front [] = refl
listed-behind test front (x ∷ ps) = by_test (test x) (rw (append_assoc front (x ∷ []) ps, length-append front (x ∷ []))
    at (listed-behind test (front ++ x ∷ []) ps))
  where
    by_test : (b : Bool) → listed (front ++ x ∷ ps) (places_from test (length front + 1) ps) ≡ filter test ps
        → listed (front ++ x ∷ ps) (cond b (length front ∷ places_from test (length front + 1) ps)
        (places_from test (length front + 1) ps)) ≡ cond b (x ∷ filter test ps) (filter test ps)
    by_test true rest = rw (at-length front x ps) (ap (λ xs. x ∷ xs) rest)
    by_test false rest = rest

listed-places : (test : Pattern → Bool) (ps : List Pattern) → listed ps (places_from test 0 ps) ≡ filter test ps
listed-places test ps = listed-behind test [] ps

-- the pattern at the first of places
abbrev pub at_first : List Pattern → List ℕ → Option Pattern
at_first ps [] = None
at_first ps (n ∷ ns) = slice_get ps n

first-behind : (test : Pattern → Bool) (front ps : List Pattern)
    → at_first (front ++ ps) (places_from test (length front) ps) ≡ find test ps
first-behind test front [] = refl
first-behind test front (x ∷ ps) = by_test (test x) (rw (append_assoc front (x ∷ []) ps, length-append front (x ∷ []))
    at (first-behind test (front ++ x ∷ []) ps))
  where
    by_test : (b : Bool) → at_first (front ++ x ∷ ps) (places_from test (length front + 1) ps) ≡ find test ps
        → at_first (front ++ x ∷ ps) (cond b (length front ∷ places_from test (length front + 1) ps)
        (places_from test (length front + 1) ps)) ≡ cond b (Some x) (find test ps)
    by_test true rest = at-length front x ps
    by_test false rest = rest

-- where no place is kept, nothing is found
pub first-none : (test : Pattern → Bool) (ps : List Pattern) (ns : List ℕ) → ns ≡ places_from test 0 ps
    → slice_get ns 0 ≡ None → find test ps ≡ None
first-none test ps [] is none = sym (rw (← is) at (first-behind test [] ps))
first-none test ps (n ∷ ns) is none = cc

-- the first place is that of the pattern that is found
pub first-some : (test : Pattern → Bool) (ps : List Pattern) (ns : List ℕ) (n : ℕ) → ns ≡ places_from test 0 ps
    → slice_get ns 0 ≡ Some n → slice_get ps n ≡ find test ps
first-some test ps [] n is first = cc
first-some test ps (m ∷ ns) n is first = let same : m ≡ n = cc in rw (← same) (rw (← is) at (first-behind test [] ps))

passing-listed : (test : Pattern → Bool) (ps : List Pattern) (ns : List ℕ)
    → first_passing test ps ns ≡ find test (listed ps ns)
passing-listed test ps [] = refl
passing-listed test ps (n ∷ ns) = rw (passing-listed test ps ns) (by_pattern (slice_get ps n))
  where
    by_pattern : (o : Option Pattern) → option_or (that_passes test o) (find test (listed ps ns)) ≡ find test
        (with_some o (listed ps ns))
    by_pattern None = refl
    by_pattern (Some p) = by_test (test p)
      where
        by_test : (b : Bool) → option_or (if b then Some p else None) (find test (listed ps ns)) ≡ cond b (Some p)
            (find test (listed ps ns))
        by_test true = refl
        by_test false = refl

-- at the places where one test holds the first that passes another is the first that a filter by the one keeps
pub first_passing-places : (test other : Pattern → Bool) (ps : List Pattern)
    → first_passing other ps (places_from test 0 ps) ≡ find other (filter test ps)
first_passing-places test other ps =
    passing-listed other ps (places_from test 0 ps) ∙ ap (λ qs. find other qs) (listed-places test ps)
