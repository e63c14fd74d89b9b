-- What is read of a manifest's text, one character at a time.
use Rattle.std.proofs.Common.{
  ◌≡◌,
  ◌≢◌,
  ◌<◌,
  ◌≤◌,
  ◌+◌,
  ◌-◌,
  ◌/◌,
  ◌==◌,
  ◌⊎◌,
  ℕ,
  zero,
  suc,
  take,
  get_or,
  Bool,
  true,
  false,
  cond,
  List,
  [],
  ◌∷◌,
  ◌++◌,
  length,
  drop,
  append_assoc,
  refl,
  sym,
  ap,
  ◌∙◌,
  Option,
  Some,
  None,
  arith,
  inl,
  inr,
}
use Rattle.std.specs.Prelude.{nat_lt, nat_le}
use Rattle.std.specs.List.{AllByRecursion}
use Rattle.std.proofs.Math.Utf8.{encode, next}
use Rattle.std.proofs.lemmas.Bool.Decides.{eqb_tells, leb_tells}
use Rattle.std.proofs.lemmas.Str.{encode_ascii, length-encode, len_utf8_bounds}
use Rattle.std.proofs.Math.Seq.{drop-cons}
use Rattle.std.proofs.lemmas.List.{take_all, drop_all, append-nil}
use Rattle.memchr.specs.Find.{IsFirstByte, is_byte2}
use Rattle.sugar_path.specs.Front.{after}
use Rattle.sugar_path.proofs.Words.{told_apart}
use Rattle.pnp_core.specs.Payload.{
  is_blank,
  after_blank,
  after_blanks,
  after_constant,
  after_call,
  after_opening,
  after_leftmost,
  quoted,
  kept,
}

-- ---- blanks

pub after_blanks-blank : (s t : List ℕ) → after_blank s ≡ Some t → after_blanks s ≡ after_blanks t
after_blanks-blank [] t e = cc
after_blanks-blank (c ∷ s) t e = by_test (is_blank c) e
  where
    by_test : (b : Bool) → cond b (Some s) None ≡ Some t → cond b (after_blanks s) (c ∷ s) ≡ after_blanks t
    by_test true e = ap after_blanks (let same : s ≡ t = cc in same)
    by_test false e = cc

pub after_blanks-none : (s : List ℕ) → after_blank s ≡ None → after_blanks s ≡ s
after_blanks-none [] e = refl
after_blanks-none (c ∷ s) e = by_test (is_blank c) e
  where
    by_test : (b : Bool) → cond b (Some s) None ≡ None → cond b (after_blanks s) (c ∷ s) ≡ c ∷ s
    by_test true e = cc
    by_test false e = refl

pub after_blank-shorter : (s t : List ℕ) → after_blank s ≡ Some t → length t < length s
after_blank-shorter [] t e = cc
after_blank-shorter (c ∷ s) t e = by_test (is_blank c) e
  where
    by_test : (b : Bool) → cond b (Some s) None ≡ Some t → length t < suc (length s)
    by_test true e = let same : length s ≡ length t = cc in omega arith
    by_test false e = cc

-- ---- characters

-- bytes that are no ASCII character
abbrev IsHigh : List ℕ → Type 0
IsHigh bs = AllByRecursion (λ b. 128 ≤ b) bs

encode-high : (c : ℕ) → 128 ≤ c → IsHigh (encode c)
unfolding encode
encode-high c h = by_tests (nat_lt c 128) (nat_lt c 2048) (nat_lt c 65536)
  where
    by_tests : (x y z : Bool) → IsHigh (cond x (c ∷ []) (cond y ((192 + c / 64) ∷ next c ∷ [])
        (cond z ((224 + c / 4096) ∷ next (c / 64) ∷ next c ∷ [])
        ((240 + c / 262144) ∷ next (c / 4096) ∷ next (c / 64) ∷ next c ∷ []))))
    by_tests true y z = (h, tt)
    by_tests false true z = (omega arith, (omega arith, tt))
    by_tests false false true = (omega arith, (omega arith, (omega arith, tt)))
    by_tests false false false = (omega arith, (omega arith, (omega arith, (omega arith, tt))))

encode-some : (c : ℕ) → encode c ≡ [] → ⊥
encode-some c e =
    let none : length (encode c) ≡ 0 = ap length e in absurd (omega (arith, length-encode c, (len_utf8_bounds c).0))

not_blank : (b : ℕ) → 128 ≤ b → is_blank b ≡ false
not_blank b h = rw (
  told_apart b 32 (λ e. absurd (omega arith)),
  told_apart b 13 (λ e. absurd (omega arith)),
  told_apart b 10 (λ e. absurd (omega arith)),
) refl

pub after_blank-char : (c : ℕ) (t : List ℕ) → after_blank (encode c ++ t) ≡ cond (is_blank c) (Some t) None
after_blank-char c t = by_case (leb_tells 128 c)
  where
    by_bytes : (bs : List ℕ) → (bs ≡ [] → ⊥) → IsHigh bs → after_blank (bs ++ t) ≡ None
    by_bytes [] some high = absurd (some refl)
    by_bytes (b ∷ bs) some high = rw (not_blank b high.0) refl

    by_case : ((nat_le 128 c ≡ true) × (128 ≤ c)) ⊎ ((nat_le 128 c ≡ false) × (c < 128))
        → after_blank (encode c ++ t) ≡ cond (is_blank c) (Some t) None
    by_case (inl w) = rw (not_blank c w.1) (by_bytes (encode c) (encode-some c) (encode-high c w.1))
    by_case (inr w) = rw (encode_ascii c w.1) refl

quoted-high : (bs t : List ℕ) → IsHigh bs → quoted (bs ++ t) ≡ bs ++ quoted t
quoted-high [] t h = refl
quoted-high (b ∷ bs) t h = rw (
  told_apart b 39 (λ e. absurd (omega (arith, h.0))),
  told_apart b 92 (λ e. absurd (omega (arith, h.0))),
) (ap (λ s. b ∷ s) (quoted-high bs t h.1))

-- the character after a backslash stays
pub kept-char : (c : ℕ) (t : List ℕ) → kept (encode c ++ t) ≡ encode c ++ quoted t
kept-char c t = by_case (leb_tells 128 c)
  where
    by_bytes : (bs : List ℕ) → (bs ≡ [] → ⊥) → IsHigh bs → kept (bs ++ t) ≡ bs ++ quoted t
    by_bytes [] some high = absurd (some refl)
    by_bytes (b ∷ bs) some high = ap (λ s. b ∷ s) (quoted-high bs t high.1)

    by_case : ((nat_le 128 c ≡ true) × (128 ≤ c)) ⊎ ((nat_le 128 c ≡ false) × (c < 128))
        → kept (encode c ++ t) ≡ encode c ++ quoted t
    by_case (inl w) = by_bytes (encode c) (encode-some c) (encode-high c w.1)
    by_case (inr w) = rw (encode_ascii c w.1) refl

-- bytes before the first quote or backslash stay
quoted-run : (t : List ℕ) (n : ℕ) → n ≤ length t → ((k : ℕ) → k < n → is_byte2 39 92 (get_or t k 0) ≡ true → ⊥)
    → quoted t ≡ take n t ++ quoted (drop n t)
quoted-run t zero h none = refl
quoted-run [] (suc n) h none = absurd (omega arith)
quoted-run (x ∷ t) (suc n) h none =
    rw (by_tests (x == 39) (x == 92) refl refl) (ap (λ s. x ∷ s)
    (quoted-run t n (omega arith) (λ k less. none (suc k) (omega arith))))
  where
    by_tests : (a b : Bool) → (x == 39) ≡ a → (x == 92) ≡ b → quoted (x ∷ t) ≡ x ∷ quoted t
    by_tests true b e f = absurd (none 0 (omega arith) (rw e refl))
    by_tests false true e f = absurd (none 0 (omega arith) (rw (e, f) refl))
    by_tests false false e f = rw (e, f) refl

-- where a range from the start ends
pub from_start : (n : ℕ) → n - 0 ≡ n
from_start n = omega arith

pub quoted-cut : (t : List ℕ) (n : ℕ) → IsFirstByte (is_byte2 39 92) t (Some n) → quoted t ≡ take n t
    ++ quoted (drop n t)
quoted-cut t n first = quoted-run t n (omega (arith, first.0.high)) (λ k less. first.0.before k (omega arith) less)

pub quoted-whole : (t : List ℕ) → IsFirstByte (is_byte2 39 92) t None → quoted t ≡ t
quoted-whole t none =
    quoted-run t (length t) (omega arith) (λ k less. none k (omega arith) less)
    ∙ rw (take_all (length t) t (omega arith), drop_all (length t) t (omega arith)) (append-nil t)

-- a quote ends it
pub quoted-end : (t : List ℕ) (n : ℕ) → n < length t → get_or t n 0 ≡ 39 → quoted (drop n t) ≡ []
quoted-end t n h quote = rw (drop-cons t n 0, quote) refl

-- a byte that is found and is no quote takes the character behind it
pub quoted-kept : (t : List ℕ) (n : ℕ) → IsFirstByte (is_byte2 39 92) t (Some n) → get_or t n 0 ≢ 39
    → quoted (drop n t) ≡ kept (drop (n + 1) t)
quoted-kept t n first other = by_tests first.0.high (eqb_tells (get_or t n 0) 39) (eqb_tells (get_or t n 0) 92)
  where
    by_tests : n < length t
        → ((get_or t n 0 == 39) ≡ true) × (get_or t n 0 ≡ 39) ⊎ ((get_or t n 0 == 39) ≡ false) × (get_or t n 0 ≢ 39)
        → ((get_or t n 0 == 92) ≡ true) × (get_or t n 0 ≡ 92) ⊎ ((get_or t n 0 == 92) ≡ false) × (get_or t n 0 ≢ 92)
        → quoted (drop n t) ≡ kept (drop (n + 1) t)
    by_tests less (inl w) v = absurd (other w.1)
    by_tests less (inr w) (inl v) = let next : n + 1 ≡ suc n = omega arith in rw (drop-cons t n 0, v.1, next) refl
    by_tests less (inr w) (inr v) = let passes : is_byte2 39 92 (get_or t n 0) ≡ true = first.1 in
        let none : false ≡ true = sym (rw (w.0, v.0) refl) ∙ passes in absurd (cc)

-- a quote and a backslash are ASCII
pub found-ascii : (t : List ℕ) (n : ℕ) → IsFirstByte (is_byte2 39 92) t (Some n) → get_or t n 0 < 128
found-ascii t n first = by_tests (eqb_tells (get_or t n 0) 39) (eqb_tells (get_or t n 0) 92)
  where
    by_tests : ((get_or t n 0 == 39) ≡ true) × (get_or t n 0 ≡ 39) ⊎ ((get_or t n 0 == 39) ≡ false)
        × (get_or t n 0 ≢ 39)
        → ((get_or t n 0 == 92) ≡ true) × (get_or t n 0 ≡ 92) ⊎ ((get_or t n 0 == 92) ≡ false) × (get_or t n 0 ≢ 92)
        → get_or t n 0 < 128
    by_tests (inl w) v = let is = w.1 in omega (arith, is)
    by_tests (inr w) (inl v) = let is = v.1 in omega (arith, is)
    by_tests (inr w) (inr v) = let passes : is_byte2 39 92 (get_or t n 0) ≡ true = first.1 in let none : false ≡ true =
        sym (rw (w.0, v.0) refl) ∙ passes in absurd (cc)

-- what is made is whole where nothing is left
pub quoted-ends : (made t whole : List ℕ) (n : ℕ) → made ++ quoted t ≡ whole → quoted t ≡ take n t ++ quoted (drop n t)
    → quoted (drop n t) ≡ [] → made ++ take n t ≡ whole
quoted-ends made t whole n e cut none =
    ap (λ s. made ++ s) (sym (cut ∙ ap (λ s. take n t ++ s) none ∙ append-nil (take n t))) ∙ e

-- a run, the character behind its escape, and what is left are the whole still
pub quoted-goes_on : (made t whole rest : List ℕ) (n c : ℕ) → made ++ quoted t ≡ whole → quoted t ≡ take n t
    ++ quoted (drop n t)
    → quoted (drop n t) ≡ kept (drop (n + 1) t) → drop (n + 1) t ≡ encode c ++ rest
    → ((made ++ take n t) ++ encode c) ++ quoted rest ≡ whole
quoted-goes_on made t whole rest n c e cut escape step =
    append_assoc (made ++ take n t) (encode c) (quoted rest)
    ∙ append_assoc made (take n t) (encode c ++ quoted rest)
    ∙ ap (λ s. made ++ (take n t ++ s)) (sym (escape ∙ ap kept step ∙ kept-char c rest))
    ∙ ap (λ s. made ++ s) (sym cut)
    ∙ e

opening-high : (b : ℕ) (s : List ℕ) → 128 ≤ b → after_opening (b ∷ s) ≡ None
unfolding after after_constant after_call
opening-high b s h = rw (told_apart b 99 (λ e. absurd (omega arith)), told_apart b 104 (λ e. absurd (omega arith))) refl

leftmost-high : (bs t : List ℕ) → IsHigh bs → after_leftmost (bs ++ t) ≡ after_leftmost t
leftmost-high [] t h = refl
leftmost-high (b ∷ bs) t h = rw (opening-high b (bs ++ t) h.0) (leftmost-high bs t h.1)

-- an opening that is there is the leftmost
pub leftmost-here : (s t : List ℕ) → after_opening s ≡ Some t → after_leftmost s ≡ Some t
unfolding after after_constant after_call
leftmost-here [] t e = cc
leftmost-here (c ∷ s) t e = rw e refl

-- else it is sought behind the first character
pub leftmost-char : (c : ℕ) (t : List ℕ) → after_opening (encode c ++ t) ≡ None
    → after_leftmost (encode c ++ t) ≡ after_leftmost t
leftmost-char c t e = by_case (leb_tells 128 c)
  where
    by_case : ((nat_le 128 c ≡ true) × (128 ≤ c)) ⊎ ((nat_le 128 c ≡ false) × (c < 128))
        → after_leftmost (encode c ++ t) ≡ after_leftmost t
    by_case (inl w) = leftmost-high (encode c) t (encode-high c w.1)
    by_case (inr w) = let none = rw (encode_ascii c w.1) at e in rw (encode_ascii c w.1) (rw none refl)
