-- The set of bytes that the code escapes is that of the definition.
use Rattle.std.proofs.Common.{
  ◌≡◌,
  ◌<◌,
  ◌≤◌,
  ℕ,
  zero,
  suc,
  Bool,
  true,
  false,
  cond,
  not,
  List,
  [],
  ◌∷◌,
  ◌++◌,
  refl,
  sym,
  ap,
  ◌∙◌,
  arith,
  true≢false,
}
use Rattle.std.specs.Prelude.{◌&&◌, nat_lt}
use Rattle.std.specs.List.{flat_map}
use Rattle.std.proofs.lemmas.Bool.Decides.{nat_tests}
use Rattle.percent_encoding.specs.AsciiSet.{should_percent_encode}
use Rattle.percent_encoding.specs.Percent.{percent_encode, percent_encode_byte, encode_byte}
use Rattle.deno_package_json.specs.FileUrl.{escaped, is_escaped}
use Rattle.deno_package_json.specs.declared.location.TheConstants.{ESCAPED}

same_bool : Bool → Bool → Bool
same_bool true b = b
same_bool false b = not b

-- the test holds of each number below n
all_below : ℕ → (ℕ → Bool) → Bool
all_below zero p = true
all_below (suc n) p = p n && all_below n p

same_bool-is : (a b : Bool) → same_bool a b ≡ true → a ≡ b
unfolding same_bool
same_bool-is true true e = refl
same_bool-is true false e = absurd (true≢false (sym e))
same_bool-is false true e = absurd (true≢false (sym e))
same_bool-is false false e = refl

all_below-each : (n : ℕ) (p : ℕ → Bool) → all_below n p ≡ true → (b : ℕ) → b < n → p b ≡ true
unfolding all_below
all_below-each zero p e b h = absurd (omega arith)
all_below-each (suc n) p e b h = by_test (p n) refl e (λ f l. all_below-each n p f b l)
  where
    by_test : (t : Bool) → p n ≡ t → (t && all_below n p) ≡ true → (all_below n p ≡ true → b < n → p b ≡ true)
        → p b ≡ true
    by_test false is f rest = absurd (true≢false (sym f))
    by_test true is f rest = by_place (nat_lt b n) refl (rest f)
      where
        by_place : (l : Bool) → nat_lt b n ≡ l → (b < n → p b ≡ true) → p b ≡ true
        by_place true l rest = rest (grind (arith, nat_tests))
        by_place false l rest = let at : b ≡ n = grind (arith, nat_tests) in ap p at ∙ is

table : all_below 128 (λ b. same_bool (should_percent_encode ESCAPED b) (is_escaped b)) ≡ true
unfolding should_percent_encode same_bool all_below
table = refl

above : (b : ℕ) → 128 ≤ b → should_percent_encode ESCAPED b ≡ is_escaped b
unfolding should_percent_encode
above b h = grind (arith, nat_tests)

should_percent_encode-is : (b : ℕ) → should_percent_encode ESCAPED b ≡ is_escaped b
should_percent_encode-is b = by_test (nat_lt b 128) refl
  where
    by_test : (l : Bool) → nat_lt b 128 ≡ l → should_percent_encode ESCAPED b ≡ is_escaped b
    by_test true l = same_bool-is _ _ (all_below-each 128 (λ k. same_bool (should_percent_encode ESCAPED k)
        (is_escaped k)) table b (grind (arith, nat_tests)))
    by_test false l = above b (grind (arith, nat_tests))

encode_byte-is : (b : ℕ) → encode_byte ESCAPED b ≡ escaped b
encode_byte-is b = ap (λ t. cond t (percent_encode_byte b) (b ∷ [])) (should_percent_encode-is b)

flat_map-same : (f g : ℕ → List ℕ) → ((b : ℕ) → f b ≡ g b) → (bs : List ℕ) → flat_map f bs ≡ flat_map g bs
flat_map-same f g same [] = refl
flat_map-same f g same (b ∷ bs) = let rest = flat_map-same f g same bs in λ i. same b i ++ rest i

pub percent_encode-escaped : (path : List ℕ) → percent_encode ESCAPED path ≡ flat_map escaped path
unfolding percent_encode
percent_encode-escaped path = flat_map-same (encode_byte ESCAPED) escaped encode_byte-is path
