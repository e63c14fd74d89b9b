-- The size that a word gives, from what its parsing came to.
use Rattle.std.proofs.Common.{
  ◌≡◌,
  ◌≢◌,
  ℕ,
  ◌<◌,
  ◌≤◌,
  ◌^◌,
  Bool,
  true,
  false,
  cond,
  ◌&&◌,
  nat_le,
  List,
  [],
  ◌∷◌,
  length,
  get_or,
  Some,
  None,
  Result,
  Ok,
  Err,
  refl,
  sym,
  ap,
  ◌∙◌,
  subst,
  arith,
  rules,
}
use Rattle.std.proofs.lemmas.Grind.{common_steps}
use Rattle.std.specs.Result.{OkIff}
use Rattle.std.specs.Str.{all_ascii_digits}
use Rattle.std.specs.Str.Parse.{ParsesUnsigned}
use Rattle.std.proofs.lemmas.Str.Parse.{IsNumeralModel, numerals_by_fold, parse_plain}
use Rattle.cli_core.specs.Command.{begins_above_zero, number_after, size_of}
use Rattle.cli_core.specs.declared.command.TheConstants.{LARGEST}

own : IsNumeralModel (λ ds. all_ascii_digits ds ≡ true) (number_after 0)
own = numerals_by_fold _ (search rules) number_after (search rules)

no_plus : (word : List ℕ) → begins_above_zero word ≡ true → get_or word 0 0 ≢ 43
no_plus [] h is = cc
no_plus (c ∷ cs) h is = let five : c ≡ 43 = is in let no = rw five at h in cc

-- a word that doesn't begin with a digit above 0 gives none
pub no_size : (word : List ℕ) → begins_above_zero word ≡ false → size_of word ≡ None
unfolding size_of
no_size word h = rw h refl

nonempty : (word : List ℕ) → begins_above_zero word ≡ true → 0 < length word
nonempty [] h = cc
nonempty (c ∷ cs) h = omega arith

is_le : (m n : ℕ) → m ≤ n → nat_le m n ≡ true
is_le m n h = grind (arith, common_steps)

le_is : (m n : ℕ) → nat_le m n ≡ true → m ≤ n
le_is m n h = grind (arith, common_steps)

by_digits : (word : List ℕ) (d b : Bool) → begins_above_zero word ≡ true → all_ascii_digits word ≡ d
    → nat_le (number_after 0 word) LARGEST ≡ b → size_of word ≡ cond (d && b) (Some (number_after 0 word)) None
unfolding size_of
by_digits word d b h digits small = rw (h, digits, small) refl

large_is : (m n : ℕ) → n < m → nat_le m n ≡ false
large_is m n h = grind (arith, common_steps)

pub size_parsed : {E : Type 0} (word : List ℕ) (n : ℕ) (r : Result ℕ E) → r ≡ Ok n → begins_above_zero word ≡ true
    → n ≤ LARGEST → ParsesUnsigned 16 10 word r → size_of word ≡ Some n
size_parsed {E = E} word n r is h small parsed =
    let P : Result ℕ E → Type 0 = λ x. OkIff x ((all_ascii_digits word ≡ true) × (0 < length word)
    × (number_after 0 word < 2 ^ 16)) (number_after 0 word) in
    let fact = subst P is (parse_plain own 16 word r parsed (no_plus word h)) in
    let value : n ≡ number_after 0 word = fact.1 in
    let within : number_after 0 word ≤ LARGEST = omega (arith, small, value) in
    by_digits word true true h fact.0.0 (is_le _ _ within) ∙ ap Some (sym value)

pub size_too_large : {E : Type 0} (word : List ℕ) (n : ℕ) (r : Result ℕ E) → r ≡ Ok n → begins_above_zero word ≡ true
    → LARGEST < n → ParsesUnsigned 16 10 word r → size_of word ≡ None
size_too_large {E = E} word n r is h large parsed =
    let P : Result ℕ E → Type 0 = λ x. OkIff x ((all_ascii_digits word ≡ true) × (0 < length word)
    × (number_after 0 word < 2 ^ 16)) (number_after 0 word) in
    let fact = subst P is (parse_plain own 16 word r parsed (no_plus word h)) in
    let value : n ≡ number_after 0 word = fact.1 in
    let above : LARGEST < number_after 0 word = omega (arith, large, value) in
    by_digits word true false h fact.0.0 (large_is _ _ above)

pub size_unparsed : {E : Type 0} (word : List ℕ) (e : E) (r : Result ℕ E) → r ≡ Err e → begins_above_zero word ≡ true
    → ParsesUnsigned 16 10 word r → size_of word ≡ None
size_unparsed {E = E} word e r is h parsed =
    let P : Result ℕ E → Type 0 = λ x. OkIff x ((all_ascii_digits word ≡ true) × (0 < length word)
    × (number_after 0 word < 2 ^ 16)) (number_after 0 word) in
    let fact = subst P is (parse_plain own 16 word r parsed (no_plus word h)) in
    by_test (all_ascii_digits word) refl (nat_le (number_after 0 word) LARGEST) refl fact
  where
    by_test : (d : Bool) → all_ascii_digits word ≡ d → (b : Bool) → nat_le (number_after 0 word) LARGEST ≡ b
        → (((all_ascii_digits word ≡ true) × (0 < length word) × (number_after 0 word < 2 ^ 16)) → ⊥)
        → size_of word ≡ None
    by_test false digits b small fact = by_digits word false b h digits small
    by_test true digits false small fact = by_digits word true false h digits small
    by_test true digits true small fact =
        let within = le_is (number_after 0 word) LARGEST small in
        let fits : number_after 0 word < 2 ^ 16 = omega (arith, within) in
        absurd (fact (digits, nonempty word h, fits))

-- what the test of a word's bytes says of the word
pub begins_so : {word bytes : List ℕ} {test b : Bool} → bytes ≡ word → test ≡ begins_above_zero bytes → test ≡ b
    → begins_above_zero word ≡ b
begins_so same tested is = ap begins_above_zero (sym same) ∙ sym tested ∙ is
