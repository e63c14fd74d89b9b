-- The products of what was read are at most that of the whole pattern.
use Rattle.std.proofs.Common.{ℕ, ◌<◌, ◌≤◌, List, [], ◌∷◌, Option, ap, arith}
use Rattle.std.proofs.Math.Nat.{le-mul_of_pos_right}
use Rattle.es_pattern.specs.Tree.{Tree}
use Rattle.es_pattern.specs.Pieces.{top, below}
use Rattle.es_pattern.specs.Grammar.{Reads, alternatives, ends, bar, followed}
use Rattle.es_pattern.specs.Limits.{product_of, count_of}
use Rattle.es_pattern.specs.declared.mode.Open.{Open}
use Rattle.es_pattern.specs.declared.mode.Open.TheVariants.{Group, Ahead}
use Rattle.es_pattern.proofs.Sound.{Suffix, no_suffix, greedy_suffix, lazy_suffix, Closes, InTerm}

alternatives_above : {before terms result : Tree} {text rest : List ℕ}
    → Reads (alternatives before terms result) text rest → (product_of before ≤ product_of result)
    × (product_of terms ≤ product_of result)
alternatives_above ends = (omega arith, omega arith)
alternatives_above (bar r) = let a = alternatives_above r in (omega (arith, a.0), omega (arith, a.0))
alternatives_above (followed t r) = let a = alternatives_above r in (a.0, omega (arith, a.1))

counts : (least : ℕ) (most : Option ℕ) → 0 < count_of least most
counts least most = omega arith

suffix_above : {a t : Tree} {text rest : List ℕ} → Suffix a t text rest → product_of a ≤ product_of t
suffix_above no_suffix = omega arith
suffix_above {a = a} (greedy_suffix {least = least} {most = most} m) =
    le-mul_of_pos_right (product_of a) (counts least most)
suffix_above {a = a} (lazy_suffix {least = least} {most = most} m) =
    le-mul_of_pos_right (product_of a) (counts least most)

closes_above : (gs : List Open) (ts : List Tree) (rest : List ℕ) (g t : Tree) → Closes gs ts rest g t
    → product_of g ≤ product_of t
closes_above [] ts rest g t h = omega (arith, ap product_of h.1)
closes_above (Group ∷ gs) ts rest g t (mid, e, (u, after, suffix, (out, whole, r, more))) =
    let a = suffix_above suffix in
    let b = alternatives_above r in
    let c = closes_above gs (below (below ts)) out whole t more in
    omega (arith, a, b.1, c)
closes_above (Ahead negated ∷ gs) ts rest g t (mid, e, (out, whole, r, more)) =
    let b = alternatives_above r in
    let c = closes_above gs (below (below ts)) out whole t more in
    omega (arith, b.1, c)

-- the terms of the last alternative
pub term_above : (ts : List Tree) (gs : List Open) (rest : List ℕ) (t : Tree) → InTerm ts gs rest t
    → product_of (top ts) ≤ product_of t
term_above ts gs rest t (out, whole, r, more) =
    let b = alternatives_above r in
    let c = closes_above gs (below (below ts)) out whole t more in
    omega (arith, b.1, c)
