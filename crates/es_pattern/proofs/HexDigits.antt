-- How large the number is that hexadecimal digits lead to, and the greatest character that they can lead to.
use Rattle.std.proofs.Common.{
  ◌≡◌,
  ℕ,
  ◌+◌,
  ◌*◌,
  ◌<◌,
  ◌≤◌,
  Bool,
  true,
  false,
  cond,
  List,
  Some,
  None,
  refl,
  sym,
  ap,
  subst,
  ◌∙◌,
  arith,
}
use Rattle.std.specs.Prelude.{nat_lt}
use Rattle.std.proofs.lemmas.Option.{same_Some}
use Rattle.std.proofs.lemmas.Bool.{false≢true, ltb-true}
use Rattle.std.proofs.lemmas.Bool.Decides.{nat_tests}
use Rattle.std.specs.Char.{digit_value}
use Rattle.es_pattern.specs.Escapes.{hex_value, is_surrogate}
use Rattle.es_pattern.specs.Grammar.{Hex}
use Rattle.es_pattern.specs.Reading.{greatest_from, scalar}
use Rattle.es_pattern.proofs.NumberTests.{within_bounds}

-- a hexadecimal digit is less than 16
pub hex_digit : (c d : ℕ) → hex_value c ≡ Some d → d < 16
hex_digit c d e = by_test (nat_lt (digit_value c) 16) refl e
  where
    by_test : (b : Bool) → nat_lt (digit_value c) 16 ≡ b → cond b (Some (digit_value c)) None ≡ Some d → d < 16
    by_test true h g = let same = same_Some (digit_value c) d g in omega (arith, same, ltb-true (digit_value c) 16 h)
    by_test false h g = cc

-- how large the number is that one digit more leads to
one_digit : (v : ℕ) (text rest : List ℕ) (ch : ℕ) → Hex 1 v text rest ch → (v * 16 ≤ ch) × (ch ≤ v * 16 + 15)
one_digit v text rest ch h =
    let small = hex_digit h.0 h.1 h.4 in let last = h.5.1 in (omega (arith, last), omega (arith, last, small))

-- two digits more
pub two_digits_more : (v : ℕ) (text rest : List ℕ) (ch : ℕ) → Hex 2 v text rest ch → (v * 256 ≤ ch)
    × (ch ≤ v * 256 + 255)
two_digits_more v text rest ch h =
    let small = hex_digit h.0 h.1 h.4 in let more = one_digit (v * 16 + h.1) h.2 rest ch h.5 in
    (omega (arith, more), omega (arith, more, small))

-- three digits more
three_digits_more : (v : ℕ) (text rest : List ℕ) (ch : ℕ) → Hex 3 v text rest ch → (v * 4096 ≤ ch)
    × (ch ≤ v * 4096 + 4095)
three_digits_more v text rest ch h =
    let small = hex_digit h.0 h.1 h.4 in let more = two_digits_more (v * 16 + h.1) h.2 rest ch h.5 in
    (omega (arith, more), omega (arith, more, small))

-- four digits more
pub four_digits_more : (v : ℕ) (text rest : List ℕ) (ch : ℕ) → Hex 4 v text rest ch → (v * 65536 ≤ ch)
    × (ch ≤ v * 65536 + 65535)
four_digits_more v text rest ch h =
    let small = hex_digit h.0 h.1 h.4 in let more = three_digits_more (v * 16 + h.1) h.2 rest ch h.5 in
    (omega (arith, more), omega (arith, more, small))

-- a surrogate, by its bounds
surrogate_is : (c : ℕ) → 0xd800 ≤ c → c ≤ 0xdfff → is_surrogate c ≡ true
surrogate_is c low high = grind (arith, nat_tests)

-- below the surrogates is none
no_surrogate_below : (c : ℕ) → c < 0xd800 → is_surrogate c ≡ false
no_surrogate_below c h = grind (arith, nat_tests)

-- a number of two digits is no surrogate
pub two_small : (text rest : List ℕ) (ch : ℕ) → Hex 2 0 text rest ch → is_surrogate ch ≡ false
two_small text rest ch h = no_surrogate_below ch (omega (arith, two_digits_more 0 text rest ch h))

-- a block of numbers is of surrogates alone, or has none
no_surrogate_to : (lowest highest ch : ℕ) → is_surrogate ch ≡ false → (0xd800 ≤ highest → 0xd800 ≤ lowest) → lowest ≤ ch
    → ch ≤ highest → is_surrogate highest ≡ false
no_surrogate_to lowest highest ch none aligned above within = by_test (is_surrogate highest) refl
  where
    by_test : (b : Bool) → is_surrogate highest ≡ b → is_surrogate highest ≡ false
    by_test false e = e
    by_test true e =
        let bounds = within_bounds 0xd800 0xdfff highest e in
        let from : 0xd800 ≤ lowest = aligned bounds.0 in
        absurd (false≢true (sym none ∙ surrogate_is ch (omega (arith, from, above)) (omega (arith, within, bounds.1))))

-- no number of four digits is above the greatest character
in_limit : (v : ℕ) → v < 65536 → nat_lt 0x10ffff v ≡ false
in_limit v lt = grind (arith, nat_tests)

-- a number of four digits that is no surrogate is a character
scalar_some : (v : ℕ) → is_surrogate v ≡ false → v < 65536 → scalar v ≡ Some v
scalar_some v none lt = rw (none, in_limit v lt) refl

-- there is a greatest character that so many digits more lead to, at least as great as the one
abbrev Greatest : ℕ → ℕ → ℕ → Type 0
Greatest v left ch = (g : ℕ) × (greatest_from v left ≡ Some g) × (ch ≤ g)

-- where no digit is left, it is the number's
pub greatest_last : (v ch : ℕ) → is_surrogate ch ≡ false → v < 65536 → v ≡ ch → greatest_from v 0 ≡ Some ch
greatest_last v ch none lt e =
    scalar_some v (subst (λ (x : ℕ). is_surrogate x ≡ false) (sym e) none) lt ∙ ap (λ (x : ℕ). Some x) e

module _ (v : ℕ) (text rest : List ℕ) (ch : ℕ) (none : is_surrogate ch ≡ false) where
  -- where one is left
  pub greatest_with_one : v < 4096 → Hex 1 v text rest ch → Greatest v 1 ch
  greatest_with_one lt h =
      let within = one_digit v text rest ch h in (
        v * 16 + 15,
        scalar_some (v * 16 + 15) (no_surrogate_to (v * 16) (v * 16 + 15) ch none (λ k. omega arith)
            within.0 within.1) (omega (arith, lt)),
        within.1,
      )

  -- where two are left
  pub greatest_with_two : v < 256 → Hex 2 v text rest ch → Greatest v 2 ch
  greatest_with_two lt h =
      let within = two_digits_more v text rest ch h in (
        v * 256 + 255,
        scalar_some (v * 256 + 255) (no_surrogate_to (v * 256) (v * 256 + 255) ch none (λ k. omega arith)
            within.0 within.1) (omega (arith, lt)),
        within.1,
      )

  -- where three are left; the block with surrogates has characters before them
  pub greatest_with_three : v < 16 → Hex 3 v text rest ch → Greatest v 3 ch
  greatest_with_three lt h = by_test (is_surrogate (v * 4096 + 4095)) refl
    where
      within : (v * 4096 ≤ ch) × (ch ≤ v * 4096 + 4095)
      within = three_digits_more v text rest ch h

      by_test : (b : Bool) → is_surrogate (v * 4096 + 4095) ≡ b → Greatest v 3 ch
      by_test true e =
          let bounds = within_bounds 0xd800 0xdfff (v * 4096 + 4095) e in
          (0xd7ff, rw e refl, before (omega (arith, within, bounds)))
        where
          before : ch ≤ 0xdfff → ch ≤ 0xd7ff
          before high = grind (arith, nat_tests)
      by_test false e = (v * 4096 + 4095, rw (e, in_limit (v * 4096 + 4095) (omega (arith, lt))) refl, within.1)
