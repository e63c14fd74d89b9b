-- The names in the text of a path with one more name, or one less.
use Rattle.std.proofs.Common.{
  ◌≡◌,
  ◌≢◌,
  ◌==◌,
  ◌&&◌,
  ◌<◌,
  ◌+◌,
  ◌⊎◌,
  inl,
  inr,
  ℕ,
  suc,
  Bool,
  true,
  false,
  not,
  cond,
  List,
  [],
  ◌∷◌,
  ◌++◌,
  length,
  get_or,
  take,
  drop,
  bytes_eq,
  eqb,
  refl,
  sym,
  ap,
  ◌∙◌,
  subst,
  append_assoc,
  append-nil,
  arith,
  length-drop,
  length-append,
}
use Rattle.std.proofs.Math.Seq.{get_or-append_seam}
use Rattle.std.proofs.lemmas.Bool.Decides.{eqb_tells}
use Rattle.std.proofs.lemmas.List.{append_cancel_right, take-append-drop, drop_more, get_or-drop}
use Rattle.sugar_path.specs.Path.{Path, IsName, IsPath, has_no_slash, steps, with_byte, with_bytes, names_in, IsSteps}
use Rattle.sugar_path.proofs.Bools.{and_left, and_right}

pub with_bytes-append : (p : Path) (s t : List ℕ) → with_bytes p (s ++ t) ≡ with_bytes (with_bytes p s) t
with_bytes-append p [] t = refl
with_bytes-append p (c ∷ s) t = with_bytes-append (with_byte p c) s t

with_bytes-name : (m : List ℕ) (p : Path) (n : List ℕ) → has_no_slash n ≡ true → with_bytes (m ∷ p) n ≡ (m ++ n) ∷ p
with_bytes-name m p [] h = ap (λ x. x ∷ p) (sym (append-nil m))
with_bytes-name m p (c ∷ cs) h = by_test (c == 47) (and_left (not (c == 47)) (has_no_slash cs) h)
    (with_bytes-name (m ++ c ∷ []) p cs (and_right (not (c == 47)) (has_no_slash cs) h)
    ∙ ap (λ x. x ∷ p) (append_assoc m (c ∷ []) cs))
  where
    by_test : (b : Bool) → not b ≡ true → with_bytes ((m ++ c ∷ []) ∷ p) cs ≡ (m ++ c ∷ cs) ∷ p
        → with_bytes (cond b ([] ∷ m ∷ p) ((m ++ c ∷ []) ∷ p)) cs ≡ (m ++ c ∷ cs) ∷ p
    by_test true differs same = cc
    by_test false differs same = same

slash-begins : (p : Path) → with_byte p 47 ≡ [] ∷ p
slash-begins [] = refl
slash-begins (n ∷ p) = refl

pub no_slash-name : (n : List ℕ) → IsName n → has_no_slash n ≡ true
no_slash-name n h =
    and_right (not (bytes_eq n []) && not (bytes_eq n (46 ∷ [])) && not (bytes_eq n (46 ∷ 46 ∷ []))) (has_no_slash n) h

names_in-last : (t n : List ℕ) → has_no_slash n ≡ true → names_in (t ++ 47 ∷ n) ≡ n ∷ names_in t
names_in-last t n h =
    with_bytes-append [] t (47 ∷ n) ∙ ap (λ p. with_bytes p n) (slash-begins (names_in t))
    ∙ with_bytes-name [] (names_in t) n h

pub names_in-child : (t n : List ℕ) → IsName n → names_in (t ++ 47 ∷ n) ≡ n ∷ names_in t
names_in-child t n h = names_in-last t n (no_slash-name n h)

-- the text of a path with one more name
pub IsSteps-child : (t n u : List ℕ) → IsSteps t → IsName n → u ≡ t ++ 47 ∷ n → IsSteps u
IsSteps-child t n u h name is = rw is record {
  names = let P : Path → Type 0 = IsPath in subst P (sym (names_in-child t n name)) (name, h.names);
  text = ap (λ s. s ++ 47 ∷ n) h.text ∙ ap steps (sym (names_in-child t n name));
}

-- no slash at any index, as a test
no_slash-at : (n : List ℕ) → ((i : ℕ) → i < length n → get_or n i 0 ≢ 47) → has_no_slash n ≡ true
no_slash-at [] h = refl
no_slash-at (c ∷ cs) h = by_test (eqb_tells c 47) (no_slash-at cs (λ i lt. h (suc i) (omega arith)))
  where
    by_test : ((eqb c 47 ≡ true) × (c ≡ 47)) ⊎ ((eqb c 47 ≡ false) × (c ≢ 47)) → has_no_slash cs ≡ true
        → has_no_slash (c ∷ cs) ≡ true
    by_test (inl w) rest = absurd (h 0 (omega arith) w.1)
    by_test (inr w) rest = rw w.0 rest

-- A text of steps whose last slash is at k is that of the folder, a slash, and the last name.
pub cut-is : (t : List ℕ) (k : ℕ) → k < length t → get_or t k 0 ≡ 47 → t ≡ take k t ++ 47 ∷ drop (k + 1) t
cut-is t k lt is =
    sym (take-append-drop k t) ∙ ap (λ s. take k t ++ s) (drop_more t k 0 lt ∙ ap (λ c. c ∷ drop (k + 1) t) is)

pub no_slash-after : (t : List ℕ) (k : ℕ) → ((i : ℕ) → k < i → i < length t → get_or t i 0 ≢ 47)
    → has_no_slash (drop (k + 1) t) ≡ true
no_slash-after t k h = no_slash-at (drop (k + 1) t) (λ i lt. rw get_or-drop
    (h (k + 1 + i) (omega arith) (omega (arith, length-drop (k + 1) t))))

pub names_in-up : (t : List ℕ) (k : ℕ) → k < length t → get_or t k 0 ≡ 47
    → ((i : ℕ) → k < i → i < length t → get_or t i 0 ≢ 47) → names_in t ≡ drop (k + 1) t ∷ names_in (take k t)
names_in-up t k lt is last =
    ap names_in (cut-is t k lt is) ∙ names_in-last (take k t) (drop (k + 1) t) (no_slash-after t k last)

pub IsSteps-up : (t : List ℕ) (k : ℕ) (u : List ℕ) → IsSteps t → k < length t → get_or t k 0 ≡ 47
    → ((i : ℕ) → k < i → i < length t → get_or t i 0 ≢ 47) → u ≡ take k t → IsSteps u
IsSteps-up t k u h lt is last u_is =
    let names = names_in-up t k lt is last in
    let P : Path → Type 0 = IsPath in
    rw u_is record {
      names = (subst P names h.names).1;
      text = append_cancel_right (take k t) (steps (names_in (take k t))) (47 ∷ drop (k + 1) t)
          (sym (cut-is t k lt is) ∙ h.text ∙ ap steps names);
    }

-- a text of steps with no slash is that of `/`
pub names_in-none : (t : List ℕ) → IsSteps t → ((i : ℕ) → i < length t → get_or t i 0 ≢ 47) → names_in t ≡ []
names_in-none t h none = by_names (names_in t) h.text
  where
    by_names : (p : Path) → t ≡ steps p → p ≡ []
    by_names [] is = refl
    by_names (n ∷ p) is = absurd (none (length (steps p)) (rw is (omega (arith, length-append (steps p) (47 ∷ n))))
        (rw is (get_or-append_seam (steps p) 47 n 0)))

-- the names in the text of a path are the path
pub names_in-steps : (p : Path) → IsPath p → names_in (steps p) ≡ p
names_in-steps [] h = refl
names_in-steps (n ∷ p) h = names_in-child (steps p) n h.0 ∙ ap (λ q. n ∷ q) (names_in-steps p h.1)

pub IsSteps-steps : (p : Path) → IsPath p → IsSteps (steps p)
IsSteps-steps p h = record {
  names = let P : Path → Type 0 = IsPath in subst P (sym (names_in-steps p h)) h;
  text = ap steps (sym (names_in-steps p h));
}
