-- Numbers by their decimal digits.
use Rattle.std.proofs.Common.{
  inl,
  inr,
  ◌≡◌,
  ℕ,
  zero,
  suc,
  ◌+◌,
  ◌-◌,
  ◌*◌,
  ◌<◌,
  ◌≤◌,
  Bool,
  true,
  false,
  cond,
  List,
  [],
  ◌∷◌,
  ◌++◌,
  length,
  get_or,
  take,
  replicate,
  Option,
  Some,
  None,
  refl,
  sym,
  ap,
  subst,
  ◌∙◌,
  arith,
}
use Rattle.std.specs.Prelude.{IsTrue, nat_lt, nat_le, min, max, ◌^◌, ◌&&◌, ◌||◌, option_map, unwrap_or, ◌↔◌, ◌⊎◌}
use Rattle.std.specs.Bool.{then_some}
use Rattle.std.proofs.lemmas.Bool.{cases_lt, false≢true, leb-true, le-ltb, ltb-true, leb-false}
use Rattle.std.proofs.lemmas.Bool.Decides.{nat_tests}
use Rattle.std.proofs.lemmas.List.{length-append, length-replicate, take_all}
use Rattle.std.proofs.lemmas.Option.{same_Some}
use Rattle.es_pattern.specs.declared.braces.Bounds.{Bounds}
use Rattle.es_pattern.specs.Reading.{
  Reading,
  second_bounds,
  pair_bounds,
  bounds_by,
  in_braces_end,
  marked,
  quantified,
  charged,
  overcounts,
}
use Rattle.es_pattern.specs.Limits.{is_above_limit, count_of}
use Rattle.es_pattern.specs.Spans.{IsUpTo}
use Rattle.es_pattern.specs.Escapes.{is_ascii_digit}
use Rattle.es_pattern.specs.Grammar.{number, number_from}
use Rattle.es_pattern.specs.Bounds.{padded, Counts, Bounded}
use Rattle.es_pattern.proofs.NumberTests.{lt_from, within_bounds}

-- a digit's number goes on only over a digit
pub digit_only : (value c : ℕ) (cs : List ℕ) (n : ℕ) → number_from value (c ∷ cs) ≡ Some n → (is_ascii_digit c ≡ true)
    × (number_from (value * 10 + (c - 48)) cs ≡ Some n)
digit_only value c cs n h = by_test (is_ascii_digit c) refl h
  where
    by_test : (b : Bool) → is_ascii_digit c ≡ b → cond b (number_from (value * 10 + (c - 48)) cs) None ≡ Some n
        → (is_ascii_digit c ≡ true) × (number_from (value * 10 + (c - 48)) cs ≡ Some n)
    by_test true e g = (e, g)
    by_test false e g = cc

-- a digit's bounds
pub digit_within : (c : ℕ) → is_ascii_digit c ≡ true → (48 ≤ c) × (c ≤ 57)
digit_within c h = within_bounds 48 57 c h

-- of two numbers of as many digits, the one that began smaller stays smaller
stays_less : (xs ys : List ℕ) (x y n m : ℕ) → length xs ≡ length ys → x < y → number_from x xs ≡ Some n
    → number_from y ys ≡ Some m → n < m
stays_less [] [] x y n m l lt hx hy = let ex : x ≡ n = cc in let ey : y ≡ m = cc in omega (arith, lt, ex, ey)
stays_less [] (d ∷ ys) x y n m l lt hx hy = absurd (omega (arith, l))
stays_less (c ∷ xs) [] x y n m l lt hx hy = absurd (omega (arith, l))
stays_less (c ∷ xs) (d ∷ ys) x y n m l lt hx hy =
    let cx = digit_only x c xs n hx in
    let dy = digit_only y d ys m hy in
    let cb = digit_within c cx.0 in
    let db = digit_within d dy.0 in
    stays_less xs ys (x * 10 + (c - 48)) (y * 10 + (d - 48)) n m (omega (arith, l))
    (omega (arith, lt, cb.1, cb.0, db.0)) cx.1 dy.1

-- the first digit that differs decides
first_decides : (xs ys : List ℕ) (i value n m : ℕ) → length xs ≡ length ys → take i xs ≡ take i ys → i < length xs
    → get_or xs i 0 < get_or ys i 0 → number_from value xs ≡ Some n → number_from value ys ≡ Some m → n < m
first_decides [] ys i value n m l same lt less hx hy = absurd (omega (arith, lt))
first_decides (c ∷ xs) [] i value n m l same lt less hx hy = absurd (omega (arith, l))
first_decides (c ∷ xs) (d ∷ ys) zero value n m l same lt less hx hy =
    let cx = digit_only value c xs n hx in
    let dy = digit_only value d ys m hy in
    let cb = digit_within c cx.0 in
    stays_less xs ys (value * 10 + (c - 48)) (value * 10 + (d - 48)) n m (omega (arith, l)) (omega (arith, less, cb.0))
    cx.1 dy.1
first_decides (c ∷ xs) (d ∷ ys) (suc i) value n m l same lt less hx hy =
    let heads : c ≡ d = cc in
    let tails : take i xs ≡ take i ys = cc in
    let cx = digit_only value c xs n hx in
    let dy = digit_only value d ys m hy in
    first_decides xs ys i (value * 10 + (c - 48)) n m (omega (arith, l)) tails (omega (arith, lt)) less cx.1
    (subst (λ (e : ℕ). number_from (value * 10 + (e - 48)) ys ≡ Some m) (sym heads) dy.1)

-- zeros before digits change nothing
zeros : (k : ℕ) (ds : List ℕ) → number_from 0 (replicate k 48 ++ ds) ≡ number_from 0 ds
zeros zero ds = refl
zeros (suc k) ds = zeros k ds

number_padded : (width : ℕ) (ds : List ℕ) (n : ℕ) → number ds ≡ Some n → number_from 0 (padded width ds) ≡ Some n
number_padded width [] n h = cc
number_padded width (c ∷ ds) n h = zeros (width - length (c ∷ ds)) (c ∷ ds) ∙ h

length_padded : (width : ℕ) (ds : List ℕ) → length ds ≤ width → length (padded width ds) ≡ width
length_padded width ds le = omega (
  arith,
  length-append (replicate (width - length ds) 48) ds,
  length-replicate {A = ℕ} (width - length ds) 48,
  le,
)

-- what the first digits that differ say
pub decided : (width place : ℕ) (least most : List ℕ) (a b : ℕ) → length least ≤ width → length most ≤ width
    → take place (padded width least) ≡ take place (padded width most) → place < width
    → a ≡ get_or (padded width least) place 0 → b ≡ get_or (padded width most) place 0 → (a ≡ b → ⊥) → (n m : ℕ)
    → number least ≡ Some n → number most ≡ Some m → (IsTrue (nat_lt a b) → n ≤ m) × (n ≤ m → IsTrue (nat_lt a b))
decided width place least most a b le_a le_b same lt at_a at_b apart n m hn hm = by_order (cases_lt a b)
  where
    pn : number_from 0 (padded width least) ≡ Some n
    pn = number_padded width least n hn

    pm : number_from 0 (padded width most) ≡ Some m
    pm = number_padded width most m hm

    la : length (padded width least) ≡ width
    la = length_padded width least le_a

    lb : length (padded width most) ≡ width
    lb = length_padded width most le_b

    by_order : (a < b) ⊎ (b ≤ a) → (IsTrue (nat_lt a b) → n ≤ m) × (n ≤ m → IsTrue (nat_lt a b))
    by_order (inl less) =
        let below : n < m = first_decides (padded width least) (padded width most) place 0 n m (la ∙ sym lb) same
        (omega (arith, la, lt)) (omega (arith, at_a, at_b, less)) pn pm in
        (λ t. omega (arith, below), λ le. grind (arith, nat_tests))
    by_order (inr more) =
        let strict : b < a = lt_from b a more (λ e. apart (sym e)) in
        let above : m < n = first_decides (padded width most) (padded width least) place 0 m n (lb ∙ sym la) (sym same)
        (omega (arith, lb, lt)) (omega (arith, at_a, at_b, strict)) pm pn in
        (λ t. absurd (omega (arith, strict, ltb-true a b t)), λ le. absurd (omega (arith, le, above)))

pub same_digits : (width place : ℕ) (least most : List ℕ) → length least ≤ width → length most ≤ width
    → take place (padded width least) ≡ take place (padded width most) → width ≤ place → (n m : ℕ)
    → number least ≡ Some n → number most ≡ Some m → n ≡ m
same_digits width place least most le_a le_b same ge n m hn hm =
    let la = length_padded width least le_a in
    let lb = length_padded width most le_b in
    let pa = take_all place (padded width least) (omega (arith, la, ge)) in
    let pb = take_all place (padded width most) (omega (arith, lb, ge)) in
    let whole : padded width least ≡ padded width most = sym pa ∙ same ∙ pb in
    same_Some n m (sym (number_padded width least n hn) ∙ ap (number_from 0) whole ∙ number_padded width most m hm)

module _ (b : Bool) (count last : ℕ) where
  abbrev pair : Option Bounds
  pair = then_some b (record { least = count; most = Some last })

  pub second_bounded : (least most : List ℕ) → Counts least (Some count) → Counts most (Some last)
      → ((n m : ℕ) → number least ≡ Some n → number most ≡ Some m → IsTrue b ↔ (n ≤ m))
      → Bounded (second_bounds (number least) most) pair
  second_bounded least [] cl cm order = cc (cm.1)
  second_bounded least (c ∷ cs) cl cm order =
      subst (λ (o : Option ℕ). Bounded (pair_bounds o (number (c ∷ cs))) pair) (sym cl.1)
      (subst (λ (o : Option ℕ). Bounded (pair_bounds (Some cl.0) o) pair) (sym cm.1)
      (by_test b (nat_le cl.0 cm.0) refl (order cl.0 cm.0 cl.1 cm.1)))
    where
      by_test : (t u : Bool) → nat_le cl.0 cm.0 ≡ u → (IsTrue t ↔ (cl.0 ≤ cm.0))
          → Bounded (cond u (Some (cl.0, Some cm.0)) None) (then_some t (record { least = count; most = Some last }))
      by_test true true e o = (cl.0, Some cm.0, refl, cl.2, ap (λ (k : ℕ). Some k) cm.2, leb-true cl.0 cm.0 e)
      by_test true false e o = absurd (omega (arith, leb-false cl.0 cm.0 e, o.0 refl))
      by_test false true e o = absurd (false≢true (o.1 (leb-true cl.0 cm.0 e)))
      by_test false false e o = refl

pub one_bounded : (text : List ℕ) (count : ℕ) → Counts text (Some count)
    → Bounded (bounds_by None text) (Some (record { least = count; most = Some count }))
one_bounded text count c =
    (c.0, Some c.0, ap (option_map (λ (k : ℕ). (k, Some k))) c.1, c.2, ap (λ (k : ℕ). Some k) c.2, omega arith)

-- a quantifier in braces whose counts and product are within the limits
pub taken_bounds : (spec : Option (ℕ × Option ℕ)) (b : Bounds) (more : Option ℕ) (after : Bool) (old new : Reading)
    → Bounded spec (Some b) → after ≡ true → unwrap_or b.most b.least ≤ 1000 → b.least ≤ 1000
    → more ≡ option_map (λ most. most - b.least) b.most
    → (product : ℕ) → product ≡ min (old.atom_product * max (unwrap_or b.most b.least) 1) (2 ^ 32 - 1)
    → product ≤ 100000
    → new ≡ quantified b.least (option_map (λ n. b.least + n) more) (charged product old)
    → (overcounts spec after old ≡ false) × (in_braces_end spec after 125 old ≡ Some new)
taken_bounds spec b more after old new h yes_ le_most le_least more_is product product_is product_small new_is = (
  ap (λ (s : Option (ℕ × Option ℕ)). overcounts s after old) h.2 ∙ within,
  ap (λ (s : Option (ℕ × Option ℕ)). in_braces_end s after 125 old) h.2
      ∙ ap (λ (t : Bool). marked t (old.atom_product * count_of h.0 h.1) h.0 h.1 old) yes_
      ∙ ap (λ (r : Reading). Some r) (sym (new_is
      ∙ ap (λ (p : ℕ). quantified b.least (option_map (λ k. b.least + k) more) (charged p old)) whole_product
      ∙ ap (λ (n : ℕ). quantified n (option_map (λ k. b.least + k) more)
      (charged (old.atom_product * count_of h.0 h.1) old)) least_is
      ∙ ap (λ (m : Option ℕ). quantified h.0 m (charged (old.atom_product * count_of h.0 h.1) old)) most_is)),
)
  where
    least_is : b.least ≡ h.0
    least_is = omega (arith, h.3, le_least)

    small_bound : (m : Option ℕ) → b.most ≡ option_map (λ k. min k 1001) m → unwrap_or b.most b.least ≡ unwrap_or m h.0
    small_bound None e = ap (λ (o : Option ℕ). unwrap_or o b.least) e ∙ least_is
    small_bound (Some k) e =
        let small : min k 1001 ≤ 1000 = subst (λ (o : Option ℕ). unwrap_or o b.least ≤ 1000) e le_most in
        let whole : min k 1001 ≡ k = omega (arith, small) in
        ap (λ (o : Option ℕ). unwrap_or o b.least) e ∙ whole

    same_most : unwrap_or b.most b.least ≡ unwrap_or h.1 h.0
    same_most = small_bound h.1 h.4

    whole_product : product ≡ old.atom_product * count_of h.0 h.1
    whole_product =
        let e : old.atom_product * max (unwrap_or b.most b.least) 1 ≡ old.atom_product * count_of h.0 h.1 =
        ap (λ (k : ℕ). old.atom_product * max k 1) same_most in
        omega (arith, product_is, product_small, e)

    within : is_above_limit h.0 h.1 || after && nat_lt 100000 (old.atom_product * count_of h.0 h.1) ≡ false
    within =
        rw (
          le-ltb 1000 h.0 (omega (arith, least_is, le_least)),
          le-ltb 1000 (unwrap_or h.1 h.0) (omega (arith, same_most, le_most)),
          le-ltb 100000 (old.atom_product * count_of h.0 h.1) (omega (arith, whole_product, product_small)),
          yes_,
        )
        refl

    by_bound : (m : Option ℕ) → b.most ≡ option_map (λ k. min k 1001) m → IsUpTo m h.0
        → option_map (λ n. b.least + n) (option_map (λ most. most - b.least) b.most) ≡ m
    by_bound None e u = ap (λ (o : Option ℕ). option_map (λ n. b.least + n) (option_map (λ most. most - b.least) o)) e
    by_bound (Some k) e u =
        let small : min k 1001 ≤ 1000 = subst (λ (o : Option ℕ). unwrap_or o b.least ≤ 1000) e le_most in
        let whole : b.least + (min k 1001 - b.least) ≡ k = omega (arith, small, u, least_is) in
        ap (λ (o : Option ℕ). option_map (λ n. b.least + n) (option_map (λ most. most - b.least) o)) e
        ∙ ap (λ (n : ℕ). Some n) whole

    most_is : option_map (λ k. b.least + k) more ≡ h.1
    most_is = ap (option_map (λ k. b.least + k)) more_is ∙ by_bound h.1 h.4 h.5
