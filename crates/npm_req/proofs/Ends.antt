-- What is taken from the ends of a text, one character at a time.
use Rattle.std.proofs.Common.{
  ◌≡◌,
  ◌≢◌,
  ◌<◌,
  ◌==◌,
  ◌||◌,
  ◌⊎◌,
  ℕ,
  suc,
  Bool,
  true,
  false,
  cond,
  List,
  [],
  ◌∷◌,
  ◌++◌,
  length,
  length-append,
  refl,
  sym,
  ap,
  ◌∙◌,
  Option,
  Some,
  None,
  Bor,
  arith,
  inl,
  inr,
}
use Rattle.std.specs.Prelude.{option_map, MatchOption}
use Rattle.std.proofs.lemmas.Bool.Decides.{eqb_tells}
use Rattle.sugar_path.specs.Front.{after}
use Rattle.npm_req.specs.Front.{after_all, before_all, is_space, is_blank}

-- a number is told from another
pub tells_same : (a : ℕ) → (a == a) ≡ true
tells_same a = by_test (eqb_tells a a)
  where
    by_test : ((a == a) ≡ true) × (a ≡ a) ⊎ ((a == a) ≡ false) × (a ≢ a) → (a == a) ≡ true
    by_test (inl w) = w.0
    by_test (inr w) = absurd (w.1 refl)

pub after-strip_prefix : (b : ℕ) (t : List ℕ) (r : Option (Bor (List ℕ)))
    → MatchOption r ((rest : List ℕ) → t ≢ b ∷ rest) (λ x. t ≡ b ∷ x.now) → option_map (λ x. x.now) r ≡ after (b ∷ []) t
unfolding after
after-strip_prefix b t (Some x) h = sym (ap (after (b ∷ [])) h ∙ here)
  where
    here : after (b ∷ []) (b ∷ x.now) ≡ Some x.now
    here = rw (tells_same b) refl
after-strip_prefix b [] None h = refl
after-strip_prefix b (c ∷ cs) None h = by_test (eqb_tells c b)
  where
    by_test : ((c == b) ≡ true) × (c ≡ b) ⊎ ((c == b) ≡ false) × (c ≢ b) → None ≡ cond (c == b) (Some cs) None
    by_test (inl w) = absurd (h cs (ap (λ d. d ∷ cs) w.1))
    by_test (inr w) = rw w.0 refl

-- the bytes in front that pass a test, one at a time
pub after_all-byte : (passes : ℕ → Bool) (b : ℕ) (t rest : List ℕ) → after (b ∷ []) t ≡ Some rest → passes b ≡ true
    → (after_all passes t ≡ after_all passes rest) × (length rest < length t)
unfolding after
after_all-byte passes b [] rest e h = cc
after_all-byte passes b (c ∷ cs) rest e h = by_test (eqb_tells c b) e
  where
    by_test : ((c == b) ≡ true) × (c ≡ b) ⊎ ((c == b) ≡ false) × (c ≢ b) → cond (c == b) (Some cs) None ≡ Some rest
        → (cond (passes c) (after_all passes cs) (c ∷ cs) ≡ after_all passes rest) × (length rest < suc (length cs))
    by_test (inl w) e =
        let found : Some cs ≡ Some rest = rw w.0 at e in
        let same : cs ≡ rest = cc in
        let passed : passes c ≡ true = ap passes w.1 ∙ h in
        (rw passed (ap (after_all passes) same), let len = ap length same in omega arith)
    by_test (inr w) e = let found : None ≡ Some rest = rw w.0 at e in cc

-- a text that begins with no space
pub after_spaces-none : (t : List ℕ) → after (32 ∷ []) t ≡ None → after_all is_space t ≡ t
unfolding after
after_spaces-none [] e = refl
after_spaces-none (c ∷ cs) e = by_test (c == 32) e
  where
    by_test : (b : Bool) → cond b (Some cs) None ≡ None → cond b (after_all is_space cs) (c ∷ cs) ≡ c ∷ cs
    by_test true e = cc
    by_test false e = refl

pub after_blanks-none : (t : List ℕ) → after (32 ∷ []) t ≡ None → after (9 ∷ []) t ≡ None → after_all is_blank t ≡ t
unfolding after
after_blanks-none [] e f = refl
after_blanks-none (c ∷ cs) e f = by_tests (c == 32) (c == 9) e f
  where
    by_tests : (a b : Bool) → cond a (Some cs) None ≡ None → cond b (Some cs) None ≡ None
        → cond (a || b) (after_all is_blank cs) (c ∷ cs) ≡ c ∷ cs
    by_tests true b e f = cc
    by_tests false true e f = cc
    by_tests false false e f = refl

-- a byte that passes at the end goes
pub before_all-byte : (passes : ℕ → Bool) (b : ℕ) (front : List ℕ) → passes b ≡ true
    → before_all passes (front ++ (b ∷ [])) ≡ before_all passes front
before_all-byte passes b [] h = rw h refl
before_all-byte passes b (c ∷ cs) h = rw (before_all-byte passes b cs h) refl

-- a text that ends with a byte that doesn't pass stays
before_all-other : (passes : ℕ → Bool) (b : ℕ) (front : List ℕ) → passes b ≡ false
    → before_all passes (front ++ (b ∷ [])) ≡ front ++ (b ∷ [])
before_all-other passes b [] h = rw h refl
before_all-other passes b (c ∷ []) h = rw h refl
before_all-other passes b (c ∷ d ∷ cs) h = rw (before_all-other passes b (d ∷ cs) h) refl

-- the end of a text
split_last : (c : ℕ) (cs : List ℕ) → (front : List ℕ) × ((b : ℕ) × (c ∷ cs ≡ front ++ (b ∷ [])))
split_last c [] = ([], (c, refl))
split_last c (d ∷ ds) = let behind = split_last d ds in (c ∷ behind.0, (behind.1.0, ap (λ t. c ∷ t) behind.1.1))

pub before_blanks-none : (t : List ℕ) → ((front : List ℕ) → t ≢ front ++ (32 ∷ []))
    → ((front : List ℕ) → t ≢ front ++ (9 ∷ [])) → before_all is_blank t ≡ t
before_blanks-none [] space tab = refl
before_blanks-none (c ∷ cs) space tab = by_last (split_last c cs)
  where
    by_tests : (front : List ℕ) (b : ℕ) → c ∷ cs ≡ front ++ (b ∷ []) → ((b == 32) ≡ true) × (b ≡ 32)
        ⊎ ((b == 32) ≡ false) × (b ≢ 32) → ((b == 9) ≡ true) × (b ≡ 9) ⊎ ((b == 9) ≡ false) × (b ≢ 9)
        → before_all is_blank (c ∷ cs) ≡ c ∷ cs
    by_tests front b e (inl w) v = absurd (space front (e ∙ ap (λ x. front ++ (x ∷ [])) w.1))
    by_tests front b e (inr w) (inl v) = absurd (tab front (e ∙ ap (λ x. front ++ (x ∷ [])) v.1))
    by_tests front b e (inr w) (inr v) =
        ap (before_all is_blank) e ∙ before_all-other is_blank b front (rw (w.0, v.0) refl) ∙ sym e

    by_last : (front : List ℕ) × ((b : ℕ) × (c ∷ cs ≡ front ++ (b ∷ []))) → before_all is_blank (c ∷ cs) ≡ c ∷ cs
    by_last w = by_tests w.0 w.1.0 w.1.1 (eqb_tells w.1.0 32) (eqb_tells w.1.0 9)

pub length-byte : (b : ℕ) (t front : List ℕ) → t ≡ front ++ (b ∷ []) → length front < length t
length-byte b t front e = let len = ap length e in omega (arith, length-append front (b ∷ []))
