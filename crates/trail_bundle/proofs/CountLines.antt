-- The line of the counts: it has no line end, and tells both counts.
use Rattle.std.proofs.Common.{
  ◌≡◌,
  ◌≤◌,
  ◌<◌,
  ◌==◌,
  nat_le,
  not,
  ℕ,
  true,
  List,
  [],
  ◌∷◌,
  ◌++◌,
  refl,
  sym,
  ap,
  ◌∙◌,
  leb-true,
  ◌^◌,
  append_assoc,
  arith,
}
use Rattle.std.specs.Fmt.{decimal}
use Rattle.std.specs.List.{list_all}
use Rattle.std.specs.Prelude.{codes}
use Rattle.std.proofs.lemmas.Bool.{ne_eqb}
use Rattle.std.proofs.lemmas.List.{append_cancel_left}
use Rattle.sugar_path.proofs.Bools.{and_both, and_left, and_right}
use Rattle.trail_bundle.specs.BundleText.{counts_line, ended}
use Rattle.trail_bundle.specs.CountParts.{is_decimal}
use Rattle.trail_bundle.specs.Counts.{count_text}
use Rattle.trail_bundle.specs.Lines.{is_line, lacks}
use Rattle.trail_bundle.proofs.Counts.{count_text-is_count, decimal_is, same-count}
use Rattle.trail_bundle.proofs.FirstLines.{same_parts}
use Rattle.trail_bundle.proofs.LineEnds.{line-append}

-- digits are neither spaces nor line ends
digits-lack : (c : ℕ) → c < 48 → (ds : List ℕ) → list_all is_decimal ds ≡ true → lacks c ds ≡ true
digits-lack c small [] h = refl
digits-lack c small (d ∷ ds) h =
    let low : 48 ≤ d = leb-true 48 d (and_left (nat_le 48 d) _ (and_left (is_decimal d) _ h)) in
    and_both (not (d == c)) _ (ap not (ne_eqb d c (λ e. omega arith)))
    (digits-lack c small ds (and_right (is_decimal d) _ h))

pub count-lacks : (c : ℕ) → c < 48 → (n : ℕ) → lacks c (count_text n) ≡ true
count-lacks c small n =
    digits-lack c small (count_text n) (and_left (list_all is_decimal (count_text n)) _ (count_text-is_count n))

pub line-counts : (r q : ℕ) → is_line (counts_line r q) ≡ true
unfolding counts_line
line-counts r q =
    line-append (codes "trail-bundle 1 ") (count_text r ++ 32 ∷ count_text q) refl
    (line-append (count_text r) (32 ∷ count_text q) (count-lacks 10 (omega arith) r) (count-lacks 10 (omega arith) q))

pub same-counts : (r q m n : ℕ) → counts_line r q ≡ counts_line m n → (r ≡ m) × (q ≡ n)
unfolding counts_line
same-counts r q m n is =
    let told = same_parts 32 (count_text r) (count_text m) (count_text q) (count_text n)
    (count-lacks 32 (omega arith) r) (count-lacks 32 (omega arith) m)
    (append_cancel_left (codes "trail-bundle 1 ") _ _ is) in
    (same-count r m told.0, same-count q n told.1)

-- how the line is written
pub counts-written : (r q : ℕ) → r < 2 ^ 64 → q < 2 ^ 64 → codes "trail-bundle 1 "
    ++ (decimal r ++ 32 ∷ (decimal q ++ 10 ∷ [])) ≡ ended (counts_line r q)
unfolding counts_line
counts-written r q h k =
    let word = codes "trail-bundle 1 " in
    ap (λ a. word ++ (a ++ 32 ∷ (decimal q ++ 10 ∷ []))) (decimal_is r h)
    ∙ ap (λ b. word ++ (count_text r ++ 32 ∷ (b ++ 10 ∷ []))) (decimal_is q k)
    ∙ ap (λ t. word ++ t) (sym (append_assoc (count_text r) (32 ∷ count_text q) (10 ∷ [])))
