-- The first name on the way from a folder to a path, as it stands in the path's text.
use Rattle.std.proofs.Common.{
  ◌≡◌,
  ◌≢◌,
  ◌+◌,
  ◌==◌,
  ◌<◌,
  ℕ,
  zero,
  suc,
  Some,
  None,
  Bool,
  true,
  false,
  not,
  cond,
  List,
  [],
  ◌∷◌,
  ◌++◌,
  length,
  get_or,
  take,
  drop,
  refl,
  sym,
  ap,
  subst,
  ◌∙◌,
  arith,
}
use Rattle.std.specs.List.{position_or_len, before_first}
use Rattle.std.proofs.lemmas.List.{append_cancel_left, take_all}
use Rattle.std.proofs.lemmas.Bool.Decides.{Decides-eqb}
use Rattle.memchr.specs.Find.{IsFirstByte, is_byte}
use Rattle.sugar_path.specs.Path.{Path, IsPath, has_no_slash, is_root, is_absolute, below, steps, text_of}
use Rattle.sugar_path.proofs.Below.{below-tells, below-append, below-child, steps-append}
use Rattle.sugar_path.proofs.Bools.{and_left, and_right}
use Rattle.sugar_path.proofs.Parts.{steps-absolute}
use Rattle.sugar_path.proofs.Paths.{no_slash-name}

abbrev is_slash : ℕ → Bool
is_slash c = c == 47

before_first-name : (n : List ℕ) → has_no_slash n ≡ true → before_first is_slash n ≡ n
before_first-name [] h = refl
before_first-name (c ∷ cs) h = by_test (c == 47) (and_left (not (c == 47)) (has_no_slash cs) h)
    (before_first-name cs (and_right (not (c == 47)) (has_no_slash cs) h))
  where
    by_test : (b : Bool) → not b ≡ true → take (position_or_len is_slash cs) cs ≡ cs
        → take (cond (not b) (1 + position_or_len is_slash cs) 0) (c ∷ cs) ≡ c ∷ cs
    by_test true h rest = cc
    by_test false h rest = let one : 1 + position_or_len is_slash cs ≡ suc (position_or_len is_slash cs) =
        omega arith in rw one (ap (λ s. c ∷ s) rest)

before_first-append : (xs ys : List ℕ) → before_first is_slash (xs ++ 47 ∷ ys) ≡ before_first is_slash xs
before_first-append [] ys = refl
before_first-append (c ∷ xs) ys = by_test (c == 47) (before_first-append xs ys)
  where
    by_test : (b : Bool) → take (position_or_len is_slash (xs ++ 47 ∷ ys)) (xs ++ 47 ∷ ys) ≡ take
        (position_or_len is_slash xs) xs
        → take (cond (not b) (1 + position_or_len is_slash (xs ++ 47 ∷ ys)) 0) (c ∷ (xs ++ 47 ∷ ys)) ≡ take
        (cond (not b) (1 + position_or_len is_slash xs) 0) (c ∷ xs)
    by_test true rest = refl
    by_test false rest =
        let one : 1 + position_or_len is_slash (xs ++ 47 ∷ ys) ≡ suc (position_or_len is_slash (xs ++ 47 ∷ ys)) =
        omega arith in
        let two : 1 + position_or_len is_slash xs ≡ suc (position_or_len is_slash xs) = omega arith in
        rw (one, two) (ap (λ s. c ∷ s) rest)

-- where there is no slash, all stands before the first one
before_first-whole : (n : List ℕ) → position_or_len is_slash n ≡ length n → before_first is_slash n ≡ n
before_first-whole n e = rw e (take_all (length n) n (omega arith))

-- the first slash that is found ends what stands before it
position-found : (t : List ℕ) (n : ℕ) → n < length t → ((k : ℕ) → k < n → is_slash (get_or t k 0) ≡ true → ⊥)
    → is_slash (get_or t n 0) ≡ true → position_or_len is_slash t ≡ n
position-found [] n less lacks hit = absurd (omega arith)
position-found (x ∷ t) zero less lacks hit = rw hit refl
position-found (x ∷ t) (suc n) less lacks hit =
    by_test (x == 47) refl (position-found t n (omega arith) (λ k l. lacks (suc k) (omega arith)) hit)
  where
    by_test : (b : Bool) → (x == 47) ≡ b → position_or_len is_slash t ≡ n
        → cond (not b) (1 + position_or_len is_slash t) 0 ≡ suc n
    by_test true e rest = absurd (lacks 0 (omega arith) e)
    by_test false e rest = omega (arith, rest)

position-none : (t : List ℕ) → ((k : ℕ) → k < length t → is_slash (get_or t k 0) ≡ true → ⊥)
    → position_or_len is_slash t ≡ length t
position-none [] lacks = refl
position-none (x ∷ t) lacks = by_test (x == 47) refl (position-none t (λ k l. lacks (suc k) (omega arith)))
  where
    by_test : (b : Bool) → (x == 47) ≡ b → position_or_len is_slash t ≡ length t
        → cond (not b) (1 + position_or_len is_slash t) 0 ≡ suc (length t)
    by_test true e rest = absurd (lacks 0 (omega arith) e)
    by_test false e rest = omega (arith, rest)

pub before_first-found : (t : List ℕ) (n : ℕ) → IsFirstByte (is_byte 47) t (Some n) → before_first is_slash t ≡ take n t
before_first-found t n first =
    ap (λ k. take k t) (position-found t n first.0.high (λ k less. first.0.before k (omega arith) less) first.1)

pub before_first-none : (t : List ℕ) → IsFirstByte (is_byte 47) t None → before_first is_slash t ≡ t
before_first-none t none = before_first-whole t (position-none t (λ k less. none k (omega arith) less))

-- the name behind the first slash of some steps leads on
leading : (q l : Path) (names : List ℕ) → IsPath q → steps q ≡ 47 ∷ names
    → below (q ++ l) (before_first is_slash names ∷ l) ≡ true
leading [] l names h e = cc
leading (n ∷ []) l names h e =
    let same : n ≡ names = cc in
    rw (← same, before_first-name n (no_slash-name n h.0)) (below-append [] (n ∷ l))
leading (n ∷ m ∷ q) l names h e = by_steps (steps (m ∷ q)) refl (leading (m ∷ q) l)
  where
    by_steps : (s : List ℕ) → steps (m ∷ q) ≡ s
        → ((names' : List ℕ) → IsPath (m ∷ q) → steps (m ∷ q) ≡ 47 ∷ names'
        → below ((m ∷ q) ++ l) (before_first is_slash names' ∷ l) ≡ true)
        → below ((n ∷ m ∷ q) ++ l) (before_first is_slash names ∷ l) ≡ true
    by_steps [] is lead = absurd (let no = rw is at (steps-absolute m q) in cc)
    by_steps (c ∷ rest) is lead =
        let whole : (c ∷ rest) ++ 47 ∷ n ≡ 47 ∷ names = ap (λ s. s ++ 47 ∷ n) (sym is) ∙ e in
        let first : c ≡ 47 = cc in
        let behind : rest ++ 47 ∷ n ≡ names = cc in
        let there = lead rest h.1 (is ∙ ap (λ x. x ∷ rest) first) in
        rw (← behind, before_first-append rest n) (below-child n ((m ∷ q) ++ l) (before_first is_slash rest ∷ l) there)

-- what stands behind the folder's steps in those of a path below it
pub steps-behind : (p l : Path) (t : List ℕ) → below p l ≡ true → steps p ≡ steps l ++ t → (q : Path) × (p ≡ q ++ l)
    × (steps q ≡ t)
steps-behind p l t h e =
    let w = below-tells p l h in
    (w.0, w.1, append_cancel_left (steps l) (steps w.0) t (sym (steps-append w.0 l) ∙ ap steps (sym w.1) ∙ e))

IsPath-front : (q l : Path) → IsPath (q ++ l) → IsPath q
IsPath-front [] l h = tt
IsPath-front (n ∷ q) l h = (h.0, IsPath-front q l h.1)

pub first_name : (p l : Path) (names : List ℕ) → IsPath p → below p l ≡ true → steps p ≡ steps l ++ 47 ∷ names
    → below p (before_first is_slash names ∷ l) ≡ true
first_name p l names path h e =
    let w = steps-behind p l (47 ∷ names) h e in
    let P : Path → Type 0 = IsPath in
    rw w.1 (leading w.0 l names (IsPath-front w.0 l (subst P w.1 path)) w.2)

-- where no slash follows the folder's steps, the path is the folder
pub no_name : (p l : Path) (t : List ℕ) → below p l ≡ true → steps p ≡ steps l ++ t → ((rest : List ℕ) → t ≢ 47 ∷ rest)
    → p ≡ l
no_name p l t h e none = by_names (steps-behind p l t h e).0 (steps-behind p l t h e).1 (steps-behind p l t h e).2
  where
    by_steps : (s : List ℕ) → is_absolute s ≡ true → s ≡ t → ⊥
    by_steps [] a is = cc
    by_steps (c ∷ s) a is = none s (sym is ∙ ap (λ x. x ∷ s) ((Decides-eqb c 47).0 a))

    by_names : (q : Path) → p ≡ q ++ l → steps q ≡ t → p ≡ l
    by_names [] is empty = is
    by_names (n ∷ q) is some = absurd (by_steps (steps (n ∷ q)) (steps-absolute n q) some)

-- the steps of a path below a folder go on behind the folder's
pub steps-begin : (p l : Path) → below p l ≡ true → (t : List ℕ) × (steps p ≡ steps l ++ t)
steps-begin p l h = let w = below-tells p l h in (steps w.0, ap steps w.1 ∙ steps-append w.0 l)

pub text_of-steps : (p : Path) → is_root p ≡ false → text_of p ≡ steps p
text_of-steps [] h = cc
text_of-steps (n ∷ p) h = refl

pub root_below : (p l : Path) → is_root p ≡ true → below p l ≡ true → p ≡ l
root_below [] l h b = by_names (below-tells [] l b).0 (below-tells [] l b).1
  where
    by_names : (q : Path) → [] ≡ q ++ l → [] ≡ l
    by_names [] e = e
    by_names (x ∷ q) e = cc
root_below (n ∷ p) l h b = cc

-- the text of a path behind its folder's steps
pub goes_on : (p l : Path) (text above behind : List ℕ) (n : ℕ) → is_root p ≡ false → text ≡ text_of p → above ≡ steps l
    → text ≡ above ++ drop n text → behind ≡ drop n text → steps p ≡ steps l ++ behind
goes_on p l text above behind n some is above_is parted behind_is =
    sym (text_of-steps p some) ∙ sym is ∙ parted ∙ ap (λ s. above ++ s) (sym behind_is) ∙ ap (λ s. s ++ behind) above_is
