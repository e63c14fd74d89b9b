-- Runs at a text's front.
use Rattle.std.proofs.Common.{
  ◌≡◌,
  ◌<◌,
  ◌≤◌,
  ◌-◌,
  ◌==◌,
  ◌⊎◌,
  ℕ,
  zero,
  suc,
  Bool,
  true,
  false,
  List,
  ◌++◌,
  length,
  get_or,
  refl,
  ap,
  arith,
  inl,
  inr,
  lit<,
  add-one,
  length-append,
}
use Rattle.std.proofs.lemmas.List.{take-append-le}
use Rattle.std.proofs.Math.Seq.{take-length}
use Rattle.std.specs.Prelude.{nat_le, ◌&&◌}
use Rattle.std.specs.List.{prefix_len}
use Rattle.std.specs.Str.{IsUtf8, IsCharBoundary}
use Rattle.std.proofs.lemmas.Bool.Decides.{leb_tells}
use Rattle.std.proofs.lemmas.Str.{
  IsCharBoundary-start,
  IsCharBoundary-end,
  IsCharBoundary-before_ascii,
  IsCharBoundary-after_ascii,
  IsCharBoundary-at_seam,
}
use Rattle.std.proofs.lemmas.List.Sums.{prefix_len_passes, prefix_len_stops, prefix_len-le-length}
use Rattle.yarn_lock_parser.specs.declared.byte_set.ByteSet.{ByteSet}
use Rattle.yarn_lock_parser.specs.declared.byte_set.ByteSet.TheVariants.{
  Blank,
  WhiteSpace,
  Digit,
  Version,
  NotLineEnd,
  NotColon,
  NotAt,
  Descriptor,
  DependencyName,
  Unquoted,
}
use Rattle.yarn_lock_parser.specs.Given.{has}
use Rattle.yarn_lock_parser.specs.Front.{front, IsRest}
use Rattle.sugar_path.proofs.Words.{told_apart}

-- ---- a run

apart : (b c : ℕ) → 128 ≤ b → c < 128 → (b == c) ≡ false
apart b c h k = told_apart b c (λ e. absurd (omega arith))

beyond : (b c : ℕ) → 128 ≤ b → c < 128 → nat_le b c ≡ false
beyond b c h k = by_test (leb_tells b c)
  where
    by_test : ((nat_le b c ≡ true) × (b ≤ c)) ⊎ ((nat_le b c ≡ false) × (c < b)) → nat_le b c ≡ false
    by_test (inl w) = absurd (omega arith)
    by_test (inr w) = w.0

behind : (c b : ℕ) → 128 ≤ b → c < 128 → (c == b) ≡ false
behind c b h k = told_apart c b (λ e. absurd (omega arith))

between : (b lo hi : ℕ) → 128 ≤ b → hi < 128 → (nat_le lo b && nat_le b hi) ≡ false
between b lo hi h k = rw (beyond b hi h k) (by_test (nat_le lo b))
  where
    by_test : (x : Bool) → (x && false) ≡ false
    by_test true = refl
    by_test false = refl

-- a set has all bytes beyond ASCII, or none of them
has-beyond : (set : ByteSet) (b : ℕ) → 128 ≤ b → has set b ≡ has set 255
has-beyond Blank b h = rw (apart b 32 h (lit< tt), apart b 9 h (lit< tt)) refl
has-beyond WhiteSpace b h =
    rw (apart b 32 h (lit< tt), apart b 9 h (lit< tt), apart b 13 h (lit< tt), apart b 10 h (lit< tt)) refl
has-beyond Digit b h = between b 48 57 h (lit< tt)
has-beyond Version b h =
    rw (between b 65 90 h (lit< tt), between b 97 122 h (lit< tt), between b 48 57 h (lit< tt))
    (rw (
      behind 46 b h (lit< tt),
      behind 45 b h (lit< tt),
      behind 43 b h (lit< tt),
      behind 64 b h (lit< tt),
      behind 58 b h (lit< tt),
      behind 47 b h (lit< tt),
      behind 35 b h (lit< tt),
      behind 37 b h (lit< tt),
      behind 33 b h (lit< tt),
      behind 126 b h (lit< tt),
      behind 42 b h (lit< tt),
      behind 39 b h (lit< tt),
      behind 40 b h (lit< tt),
      behind 41 b h (lit< tt),
    ) refl)
has-beyond NotLineEnd b h = rw (apart b 13 h (lit< tt), apart b 10 h (lit< tt)) refl
has-beyond NotColon b h = rw (apart b 58 h (lit< tt)) refl
has-beyond NotAt b h = rw (apart b 64 h (lit< tt)) refl
has-beyond Descriptor b h = rw (apart b 44 h (lit< tt), apart b 34 h (lit< tt), apart b 10 h (lit< tt)) refl
has-beyond DependencyName b h = rw (apart b 58 h (lit< tt), apart b 32 h (lit< tt)) refl
has-beyond Unquoted b h = rw (apart b 34 h (lit< tt), apart b 13 h (lit< tt), apart b 10 h (lit< tt)) refl

-- a text may be cut behind a run
pub cuts : (set : ByteSet) (t : List ℕ) → IsUtf8 t → IsCharBoundary t (prefix_len (has set) t)
cuts set t utf8 = by_set (has set 255) refl (leb_tells (length t) (prefix_len (has set) t))
  where
    before : has set 255 ≡ true → prefix_len (has set) t < length t → get_or t (prefix_len (has set) t) 0 < 128
    before all h = by_byte (leb_tells 128 (get_or t (prefix_len (has set) t) 0))
      where
        by_byte : ((nat_le 128 (get_or t (prefix_len (has set) t) 0) ≡ true)
            × (128 ≤ get_or t (prefix_len (has set) t) 0))
            ⊎ ((nat_le 128 (get_or t (prefix_len (has set) t) 0) ≡ false) × (get_or t (prefix_len (has set) t) 0 < 128))
            → get_or t (prefix_len (has set) t) 0 < 128
        by_byte (inl w) = let stops = prefix_len_stops (has set) t 0 h in let high = has-beyond set _ w.1 in absurd (cc)
        by_byte (inr w) = w.1

    ascii : has set 255 ≡ false → (k : ℕ) → has set k ≡ true → k < 128
    ascii none k e = by_byte (leb_tells 128 k)
      where
        by_byte : ((nat_le 128 k ≡ true) × (128 ≤ k)) ⊎ ((nat_le 128 k ≡ false) × (k < 128)) → k < 128
        by_byte (inl w) = let high = has-beyond set k w.1 in absurd (cc)
        by_byte (inr w) = w.1

    behind_ascii : has set 255 ≡ false → (n : ℕ) → n ≡ prefix_len (has set) t → IsCharBoundary t n
    behind_ascii none zero e = IsCharBoundary-start t utf8
    behind_ascii none (suc m) e =
        let last : m < prefix_len (has set) t = omega arith in
        let within = prefix_len-le-length (has set) t in
        let passes = prefix_len_passes (has set) t m 0 last in
        rw (← add-one m) (IsCharBoundary-after_ascii t m utf8 (omega arith) (ascii none _ passes))

    by_set : (b : Bool) → has set 255 ≡ b → ((nat_le (length t) (prefix_len (has set) t) ≡ true)
        × (length t ≤ prefix_len (has set) t))
        ⊎ ((nat_le (length t) (prefix_len (has set) t) ≡ false) × (prefix_len (has set) t < length t))
        → IsCharBoundary t (prefix_len (has set) t)
    by_set true all (inl w) =
        let within = prefix_len-le-length (has set) t in
        let whole : length t ≡ prefix_len (has set) t = omega arith in rw (← whole) (IsCharBoundary-end t)
    by_set true all (inr w) = IsCharBoundary-before_ascii t _ w.1 (before all w.1)
    by_set false none h = behind_ascii none _ refl

-- ---- a front

pub front-append : (s t : List ℕ) → front (s ++ t) t ≡ s
unfolding front
front-append s t = let le : length s ≤ length s = omega arith in let same : length (s ++ t) - length t ≡ length s =
    omega (arith, length-append s t) in rw (same, take-append-le (length s) s t le, take-length s) refl

pub cuts_at_rest : (t rest : List ℕ) → IsRest t rest → IsUtf8 rest → IsCharBoundary t (length t - length rest)
cuts_at_rest t rest r utf8 =
    let same : length t - length rest ≡ length r.prior = omega (arith, ap length r.is, length-append r.prior rest) in
    rw same (IsCharBoundary-at_seam t r.prior rest r.is utf8)
