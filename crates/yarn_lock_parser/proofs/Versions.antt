-- The version's number, and the key's text.
use Rattle.std.proofs.Common.{
  ◌≡◌,
  ◌<◌,
  ◌≤◌,
  ◌⊎◌,
  ◌^◌,
  ℕ,
  true,
  false,
  cond,
  List,
  length,
  refl,
  Some,
  None,
  Result,
  Ok,
  Err,
  arith,
  inl,
  inr,
  ap,
}
use Rattle.std.specs.Prelude.{nat_le}
use Rattle.std.specs.Result.{OkIff, result_ok}
use Rattle.std.specs.Str.{all_ascii_digits}
use Rattle.std.specs.Str.Parse.{digits_value, ParsesUnsigned}
use Rattle.std.proofs.lemmas.Bool.Decides.{leb_tells}
use Rattle.std.proofs.lemmas.Str.Parse.{numerals_by_value, tells_all_ascii_digits, parse_digits, IsNumeralModel}
use Rattle.yarn_lock_parser.specs.Metadata.{version_number}

own : IsNumeralModel (λ ds. all_ascii_digits ds ≡ true) (digits_value 10)
own = numerals_by_value (λ ds. all_ascii_digits ds ≡ true) tells_all_ascii_digits

pub version_number-parsed : {E : Type 0} (ds : List ℕ) (r : Result ℕ E) → ParsesUnsigned 8 10 ds r
    → all_ascii_digits ds ≡ true → 0 < length ds → result_ok r ≡ version_number ds
unfolding version_number
version_number-parsed ds r h digits some =
    by_result r (parse_digits own 8 ds r h digits) (leb_tells (digits_value 10 ds) 255)
  where
    by_result : {E : Type 0} (r : Result ℕ E)
        → OkIff r ((0 < length ds) × (digits_value 10 ds < 2 ^ 8)) (digits_value 10 ds)
        → ((nat_le (digits_value 10 ds) 255 ≡ true) × (digits_value 10 ds ≤ 255))
        ⊎ ((nat_le (digits_value 10 ds) 255 ≡ false) × (255 < digits_value 10 ds))
        → result_ok r ≡ cond (nat_le (digits_value 10 ds) 255) (Some (digits_value 10 ds)) None
    by_result (Ok x) w (inl v) = rw v.0 (ap Some w.1)
    by_result (Ok x) w (inr v) = absurd (omega (arith, w.0.1, v.1))
    by_result (Err e) w (inl v) = absurd (w (some, omega (arith, v.1)))
    by_result (Err e) w (inr v) = rw v.0 refl
