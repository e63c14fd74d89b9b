-- Counts as they are written: what `decimal` writes, and digits without a zero in front.
use Rattle.std.proofs.Common.{
  ◌≡◌,
  ◌≤◌,
  ◌<◌,
  ◌+◌,
  ◌*◌,
  ◌/◌,
  ◌%◌,
  ◌^◌,
  ◌==◌,
  nat_lt,
  ℕ,
  zero,
  suc,
  Bool,
  true,
  false,
  cond,
  List,
  [],
  ◌∷◌,
  ◌++◌,
  length,
  refl,
  sym,
  ap,
  ◌∙◌,
  arith,
  append-nil,
  subst,
  min,
  append_assoc,
  lt-ltb,
  ltb-true,
  ltb-false,
  le-ltb,
  leb-true,
  le-leb,
  length-append,
  slice_index,
  eq-eqb,
  nat_le,
  not,
  ◌||◌,
  ◌-◌,
}
use Rattle.std.specs.Fmt.{decimal, digits, digits_onto, digit_glyph}
use Rattle.std.specs.Char.{digit_value}
use Rattle.std.specs.List.{list_all}
use Rattle.std.specs.Str.Parse.{AllDigits, IsNumeral, digits_value, digits_value_after, without_leading_plus}
use Rattle.std.proofs.lemmas.Bool.{ne_eqb, eqb-false}
use Rattle.std.proofs.Math.Nat.{pow-suc}
use Rattle.sugar_path.proofs.Bools.{and_both, and_left, and_right}
use Rattle.trail_bundle.specs.CountParts.{is_decimal, is_count}
use Rattle.trail_bundle.specs.Counts.{last_digits, count_text}

glyph : (d : ℕ) → d < 10 → digit_glyph false d ≡ 48 + d
glyph d h = rw (lt-ltb d 10 h) refl

small : (n : ℕ) → n < 10 → n / 10 ≡ 0
small n h = omega arith

-- what is written from behind is what is written in front
onto : (k n : ℕ) (acc : List ℕ) → digits_onto k 10 false n acc ≡ last_digits k n ++ acc
onto zero n acc = refl
onto (suc k) n acc = by_size (nat_lt n 10) refl (onto k (n / 10) (digit_glyph false (n % 10) ∷ acc))
  where
    by_size : (b : Bool) → nat_lt n 10 ≡ b → digits_onto k 10 false (n / 10) (digit_glyph false (n % 10) ∷ acc) ≡
        last_digits k (n / 10) ++ digit_glyph false (n % 10) ∷ acc
        → cond (n / 10 == 0) (digit_glyph false (n % 10) ∷ acc)
        (digits_onto k 10 false (n / 10) (digit_glyph false (n % 10) ∷ acc)) ≡ cond b ((48 + n) ∷ [])
        (last_digits k (n / 10) ++ (48 + n % 10) ∷ []) ++ acc
    by_size true is more =
        let less : n < 10 = ltb-true n 10 is in
        let own : n % 10 ≡ n = omega arith in
        rw (eq-eqb (n / 10) 0 (small n less), own, glyph n less) refl
    by_size false is more =
        let enough : 10 ≤ n = ltb-false n 10 is in
        rw (ne_eqb (n / 10) 0 (λ h. omega arith))
        ((more ∙ ap (λ d. last_digits k (n / 10) ++ d ∷ acc) (glyph (n % 10) (omega arith)))
        ∙ sym (append_assoc (last_digits k (n / 10)) ((48 + n % 10) ∷ []) acc))

tenth : (k n : ℕ) → n < 10 ^ suc (suc k) → n / 10 < 10 ^ suc k
tenth k n h =
    let p : ℕ = 10 ^ suc k in let whole : 10 ^ suc (suc k) ≡ 10 ^ suc k * 10 = pow-suc 10 (suc k) in omega arith

-- more room changes nothing
pub same_digits : (k m n : ℕ) → n < 10 ^ suc k → n < 10 ^ suc m → last_digits (suc k) n ≡ last_digits (suc m) n
same_digits zero m n h j = rw (lt-ltb n 10 h) refl
same_digits (suc k) zero n h j = rw (lt-ltb n 10 j) refl
same_digits (suc k) (suc m) n h j =
    ap (λ ds. cond (nat_lt n 10) ((48 + n) ∷ []) (ds ++ (48 + n % 10) ∷ []))
    (same_digits k m (n / 10) (tenth k n h) (tenth m n j))

power_above : (k : ℕ) → k < 10 ^ k
power_above zero = omega arith
power_above (suc k) = let whole : 10 ^ suc k ≡ 10 ^ k * 10 = pow-suc 10 k in omega (arith, power_above k)

below_power : (n k : ℕ) → n < k → n < 10 ^ k
below_power n k h = omega (arith, power_above k)

-- what is written for a count that a word holds
pub decimal_is : (n : ℕ) → n < 2 ^ 64 → decimal n ≡ count_text n
unfolding digits count_text
decimal_is n h = onto 64 n [] ∙ append-nil (last_digits 64 n)
    ∙ same_digits 63 n n (omega arith) (below_power n (suc n) (omega arith))

-- one digit more
one_digit_more : (n d : ℕ) → 0 < n → d < 10 → count_text (n * 10 + d) ≡ count_text n ++ (48 + d) ∷ []
unfolding count_text
one_digit_more n d h k =
    let whole : (n * 10 + d) / 10 ≡ n = omega arith in
    let part : (n * 10 + d) % 10 ≡ d = omega arith in
    let more : (m : ℕ) × (n * 10 + d ≡ suc m) = (n * 10 + d - 1, omega arith) in
    rw (le-ltb (n * 10 + d) 10 (omega arith), whole, part)
    (ap (λ ds. ds ++ (48 + d) ∷ []) (ap (λ m. last_digits m n) more.1
    ∙ same_digits more.0 n n (below_power n (suc more.0) (omega (arith, more.1)))
    (below_power n (suc n) (omega arith))))

digit-value : (c : ℕ) → is_decimal c ≡ true → (digit_value c < 10) × (c ≡ 48 + digit_value c)
digit-value c h =
    let low : 48 ≤ c = leb-true 48 c (and_left _ _ h) in
    let high : c ≤ 57 = leb-true c 57 (and_right (nat_le 48 c) _ h) in
    rw (le-ltb c 48 low, lt-ltb c 58 (omega arith)) (omega arith, omega arith)

digits_behind : (n : ℕ) (ds : List ℕ) → 0 < n → list_all is_decimal ds ≡ true
    → count_text (digits_value_after 10 n ds) ≡ count_text n ++ ds
digits_behind n [] h all = sym (append-nil (count_text n))
digits_behind n (c ∷ ds) h all =
    let digit = digit-value c (and_left _ _ all) in
    digits_behind (n * 10 + digit_value c) ds (omega arith) (and_right (is_decimal c) _ all)
    ∙ ap (λ t. t ++ ds) (one_digit_more n (digit_value c) h digit.0 ∙ ap (λ b. count_text n ++ b ∷ []) (sym digit.1))
    ∙ append_assoc (count_text n) (c ∷ []) ds

one_digit : (c : ℕ) → is_decimal c ≡ true → count_text (digit_value c) ≡ c ∷ []
unfolding count_text
one_digit c all =
    let digit = digit-value c all in rw (lt-ltb (digit_value c) 10 digit.0) (ap (λ b. b ∷ []) (sym digit.1))

behind_zero : (v : ℕ) → 0 + v ≡ v
behind_zero v = omega arith

-- a text that is a count is that of its value
pub count-value : (ds : List ℕ) → is_count ds ≡ true → count_text (digits_value 10 ds) ≡ ds
count-value [] h = cc
count-value (c ∷ []) h =
    ap count_text (behind_zero (digit_value c)) ∙ one_digit c (and_left (is_decimal c) _ (and_left _ _ h))
count-value (c ∷ d ∷ ds) h =
    let all = and_left (list_all is_decimal (c ∷ d ∷ ds)) _ h in
    let first = and_left (is_decimal c) _ all in
    let digit = digit-value c first in
    let some = and_right (nat_lt 0 (length (c ∷ d ∷ ds))) _ (and_right (list_all is_decimal (c ∷ d ∷ ds)) _ h) in
    ap (λ v. count_text (digits_value_after 10 v (d ∷ ds))) (behind_zero (digit_value c))
    ∙ digits_behind (digit_value c) (d ∷ ds) (nonzero digit.1 (ne_eqb (length (c ∷ d ∷ ds)) 1 (λ e. omega arith)) some)
    (and_right (is_decimal c) _ all)
    ∙ ap (λ t. t ++ d ∷ ds) (one_digit c first)
  where
    nonzero : c ≡ 48 + digit_value c → (length (c ∷ d ∷ ds) == 1) ≡ false
        → (not (c == 48) || length (c ∷ d ∷ ds) == 1) ≡ true → 0 < digit_value c
    nonzero same longer h = by_test (c == 48) refl (ap (λ b. not (c == 48) || b) (sym longer) ∙ h) same
      where
        by_test : (b : Bool) → (c == 48) ≡ b → (not b || false) ≡ true → c ≡ 48 + digit_value c → 0 < digit_value c
        by_test true is h same = cc
        by_test false is h same = let apart : c ≡ 48 → ⊥ = eqb-false c 48 is in omega arith

digits-append : (n : ℕ) (xs ys : List ℕ) → digits_value_after 10 n (xs ++ ys) ≡ digits_value_after 10
    (digits_value_after 10 n xs) ys
digits-append n [] ys = refl
digits-append n (x ∷ xs) ys = digits-append (n * 10 + digit_value x) xs ys

glyph-value : (d : ℕ) → d < 10 → digit_value (48 + d) ≡ d
glyph-value d h = rw (le-ltb (48 + d) 48 (omega arith), lt-ltb (48 + d) 58 (omega arith)) (omega arith)

one_more-value : (k n : ℕ) (b : Bool) → nat_lt n 10 ≡ b → digits_value 10 (last_digits k (n / 10)) ≡ n / 10
    → digits_value 10 (cond b ((48 + n) ∷ []) (last_digits k (n / 10) ++ (48 + n % 10) ∷ [])) ≡ n
one_more-value k n true is front = behind_zero (digit_value (48 + n)) ∙ glyph-value n (ltb-true n 10 is)
one_more-value k n false is front =
    digits-append 0 (last_digits k (n / 10)) ((48 + n % 10) ∷ [])
    ∙ ap (λ v. v * 10 + digit_value (48 + n % 10)) front
    ∙ ap (λ d. n / 10 * 10 + d) (glyph-value (n % 10) (omega arith))
    ∙ omega arith

last_digits-value : (k n : ℕ) → n < 10 ^ suc k → digits_value 10 (last_digits (suc k) n) ≡ n
last_digits-value zero n h = rw (lt-ltb n 10 h) (behind_zero (digit_value (48 + n)) ∙ glyph-value n h)
last_digits-value (suc k) n h = one_more-value (suc k) n (nat_lt n 10) refl (last_digits-value k (n / 10) (tenth k n h))

-- a count is the value of its text
pub value-count : (n : ℕ) → digits_value 10 (count_text n) ≡ n
unfolding count_text
value-count n = last_digits-value n n (below_power n (suc n) (omega arith))

-- the digits of a count
digits-append_all : (xs ys : List ℕ) → list_all is_decimal xs ≡ true → list_all is_decimal ys ≡ true
    → list_all is_decimal (xs ++ ys) ≡ true
digits-append_all [] ys h k = k
digits-append_all (x ∷ xs) ys h k =
    and_both (is_decimal x) _ (and_left _ _ h) (digits-append_all xs ys (and_right (is_decimal x) _ h) k)

glyph-decimal : (d : ℕ) → d < 10 → is_decimal (48 + d) ≡ true
glyph-decimal d h = and_both _ _ (le-leb 48 (48 + d) (omega arith)) (le-leb (48 + d) 57 (omega arith))

last_digits-all : (k n : ℕ) → list_all is_decimal (last_digits k n) ≡ true
last_digits-all zero n = refl
last_digits-all (suc k) n = by_size (nat_lt n 10) refl (last_digits-all k (n / 10))
  where
    by_size : (b : Bool) → nat_lt n 10 ≡ b → list_all is_decimal (last_digits k (n / 10)) ≡ true
        → list_all is_decimal (cond b ((48 + n) ∷ []) (last_digits k (n / 10) ++ (48 + n % 10) ∷ [])) ≡ true
    by_size true is front = and_both (is_decimal (48 + n)) true (glyph-decimal n (ltb-true n 10 is)) refl
    by_size false is front = digits-append_all (last_digits k (n / 10)) ((48 + n % 10) ∷ []) front
        (and_both (is_decimal (48 + n % 10)) true (glyph-decimal (n % 10) (omega arith)) refl)

-- what may follow in front: some first digit that is no zero
first-append : (xs ys : List ℕ) → 0 < length xs → slice_index (xs ++ ys) 0 ≡ slice_index xs 0
first-append [] ys h = absurd (omega arith)
first-append (x ∷ xs) ys h = refl

record BeginsWell (ds : List ℕ) : Type 0 where
  some : 0 < length ds
  nonzero : (slice_index ds 0 == 48) ≡ false

last_digits-first : (k n : ℕ) → 0 < n → n < 10 ^ suc k → BeginsWell (last_digits (suc k) n)
last_digits-first zero n h less =
    rw (lt-ltb n 10 less) (record { some = omega arith; nonzero = ne_eqb (48 + n) 48 (λ e. omega arith) })
last_digits-first (suc k) n h less =
    by_size (nat_lt n 10) refl (λ enough. last_digits-first k (n / 10) (omega arith) (tenth k n less))
  where
    by_size : (b : Bool) → nat_lt n 10 ≡ b → (10 ≤ n → BeginsWell (last_digits (suc k) (n / 10)))
        → BeginsWell (cond b ((48 + n) ∷ []) (last_digits (suc k) (n / 10) ++ (48 + n % 10) ∷ []))
    by_size true is front = record { some = omega arith; nonzero = ne_eqb (48 + n) 48 (λ e. omega arith) }
    by_size false is front =
        let begun = front (ltb-false n 10 is) in
        let ds = last_digits (suc k) (n / 10) in record {
          some = omega (arith, begun.some, length-append ds ((48 + n % 10) ∷ []));
          nonzero = ap (λ c. c == 48) (first-append ds ((48 + n % 10) ∷ []) begun.some) ∙ begun.nonzero;
        }

pub count_text-is_count : (n : ℕ) → is_count (count_text n) ≡ true
unfolding count_text
count_text-is_count zero = refl
count_text-is_count (suc n) =
    let begun = last_digits-first (suc n) (suc n) (omega arith) (below_power (suc n) (suc (suc n)) (omega arith)) in
    let ds = last_digits (suc (suc n)) (suc n) in
    and_both (list_all is_decimal ds) _ (last_digits-all (suc (suc n)) (suc n))
    (and_both (nat_lt 0 (length ds)) _ (lt-ltb 0 (length ds) begun.some)
    (ap (λ b. not b || length ds == 1) begun.nonzero))

-- a count is a numeral without a sign
numeral : (ds : List ℕ) → list_all is_decimal ds ≡ true → AllDigits 10 ds
numeral [] h = tt
numeral (c ∷ ds) h = ((digit-value c (and_left _ _ h)).0, numeral ds (and_right (is_decimal c) _ h))

unsigned : (ds : List ℕ) → is_count ds ≡ true → without_leading_plus ds ≡ ds
unsigned [] h = cc
unsigned (c ∷ ds) h =
    let low : 48 ≤ c = leb-true 48 c (and_left (nat_le 48 c) _ (and_left (is_decimal c) _ (and_left _ _ h))) in
    rw (ne_eqb c 43 (λ e. omega arith)) refl

pub is_numeral : (ds : List ℕ) → is_count ds ≡ true → IsNumeral 10 ds
is_numeral ds h =
    let some = and_right (list_all is_decimal ds) _ h in
    (ltb-true 0 (length ds) (and_left (nat_lt 0 (length ds)) _ some), numeral ds (and_left _ _ h))

-- what a count is parsed to
pub parsed : (ds : List ℕ) (n : ℕ) → is_count ds ≡ true → n ≡ digits_value 10 (without_leading_plus ds)
    → digits_value 10 (without_leading_plus ds) < 2 ^ 64 → (m : ℕ) × (ds ≡ count_text m) × (n ≡ min m (2 ^ 64 - 1))
parsed ds n h is small =
    let same = unsigned ds h in
    let value : n ≡ digits_value 10 ds = is ∙ ap (digits_value 10) same in
    let less : digits_value 10 ds < 2 ^ 64 = subst (λ t. digits_value 10 t < 2 ^ 64) same small in
    (digits_value 10 ds, sym (count-value ds h), omega arith)

pub unparsed : (ds : List ℕ) → is_count ds ≡ true
    → (IsNumeral 10 (without_leading_plus ds) × (digits_value 10 (without_leading_plus ds) < 2 ^ 64) → ⊥) → (m : ℕ)
    × (ds ≡ count_text m) × (2 ^ 64 - 1 ≡ min m (2 ^ 64 - 1))
unparsed ds h large =
    let same = sym (unsigned ds h) in
    let many : digits_value 10 ds < 2 ^ 64 → ⊥ =
    λ less. large (subst (λ t. IsNumeral 10 t × (digits_value 10 t < 2 ^ 64)) same (is_numeral ds h, less)) in
    (digits_value 10 ds, sym (count-value ds h), omega arith)

-- counts with one text are one
pub same-count : (m n : ℕ) → count_text m ≡ count_text n → m ≡ n
same-count m n is = sym (value-count m) ∙ ap (digits_value 10) is ∙ value-count n
