-- What stands above a path, and the test of a file's path.
use Rattle.std.proofs.Common.{
  ◌≡◌,
  ◌<◌,
  ◌+◌,
  ℕ,
  Bool,
  true,
  false,
  not,
  cond,
  nat_eq,
  IsTrue,
  List,
  [],
  ◌∷◌,
  ◌++◌,
  take,
  drop,
  length,
  get_or,
  bytes_eq,
  refl,
  sym,
  ap,
  ◌∙◌,
  arith,
  append_assoc,
  ◌⊎◌,
  inl,
  inr,
  length-append,
}
use Rattle.std.specs.List.{starts_with}
use Rattle.std.proofs.lemmas.Bool.Decides.{Decides-eqb}
use Rattle.std.proofs.lemmas.Slice.Eq.{bytes_eq-Decides, starts_is}
use Rattle.std.proofs.lemmas.List.{take-append-drop, drop_more}
use Rattle.sugar_path.specs.Path.{IsCleanPath, text_of, path_in}
use Rattle.sugar_path.proofs.Parts.{path_in-text_of, IsPath-path_in}
use Rattle.tree_core.specs.Tree.{is_root_text, stands_above}

-- a clean text is the text of the path that it names, and no other is
pub is_clean-test : (t : List ℕ) → IsCleanPath t → bytes_eq t (text_of (path_in t)) ≡ true
is_clean-test t h = (bytes_eq-Decides t (text_of (path_in t))).1
    (h.2 ∙ ap text_of (sym (path_in-text_of h.0 h.1) ∙ ap path_in (sym h.2)))

pub clean-from_test : (t : List ℕ) → bytes_eq t (text_of (path_in t)) ≡ true → IsCleanPath t
clean-from_test t h = (path_in t, IsPath-path_in t, (bytes_eq-Decides t (text_of (path_in t))).0 h)

pub is_clean-is : (t : List ℕ) (b : Bool) → (IsTrue b → IsCleanPath t) → (IsCleanPath t → IsTrue b)
    → b ≡ bytes_eq t (text_of (path_in t))
is_clean-is t true to from = sym (is_clean-test t (to refl))
is_clean-is t false to from = by_test (bytes_eq t (text_of (path_in t))) (λ h. from (clean-from_test t h))
  where
    by_test : (b : Bool) → (b ≡ true → false ≡ true) → false ≡ b
    by_test true h = h refl
    by_test false h = refl

-- ---- a path that goes on behind another: all that stands above it stands so, but `/`
abbrev pub continues : List ℕ → List ℕ → Bool
continues k p = starts_with nat_eq p (k ++ 47 ∷ [])

pub above-continues : (k p : List ℕ) → is_root_text k ≡ false → stands_above k p ≡ continues k p
above-continues k p apart = ap (λ b. cond b (not (is_root_text p)) (continues k p)) apart

pub continues-from : (k p : List ℕ) → is_root_text k ≡ false → stands_above k p ≡ true → continues k p ≡ true
continues-from k p apart above = sym (above-continues k p apart) ∙ above

pub above-from : (k p : List ℕ) → is_root_text k ≡ false → continues k p ≡ true → stands_above k p ≡ true
above-from k p apart more = above-continues k p apart ∙ more

-- what is above begins the path
pub above-is : (k p : List ℕ) → continues k p ≡ true → (rest : List ℕ) × (p ≡ k ++ 47 ∷ rest)
above-is k p h = (
  drop (length (k ++ 47 ∷ [])) p,
  (starts_is Decides-eqb p (k ++ 47 ∷ []) (continues k p) refl).0 h
      ∙ append_assoc k (47 ∷ []) (drop (length (k ++ 47 ∷ [])) p),
)

pub is-above : (k p rest : List ℕ) → p ≡ k ++ 47 ∷ rest → continues k p ≡ true
is-above k p rest e =
    (starts_is Decides-eqb p (k ++ 47 ∷ []) (continues k p) refl).1 rest (e ∙ sym (append_assoc k (47 ∷ []) rest))

-- what stands above a path stands above all below that
pub above-trans : (a b c : List ℕ) → continues a b ≡ true → continues b c ≡ true → continues a c ≡ true
above-trans a b c h k =
    let first = above-is a b h in
    let second = above-is b c k in
    is-above a c (first.0 ++ 47 ∷ second.0) (second.1 ∙ ap (λ x. x ++ 47 ∷ second.0) first.1
    ∙ append_assoc a (47 ∷ first.0) (47 ∷ second.0))

-- what stands above has fewer bytes
pub above-shorter : (k p : List ℕ) → continues k p ≡ true → length k < length p
above-shorter k p h = let is = above-is k p h in rw is.1 (omega (arith, length-append k (47 ∷ is.0)))

-- of two that begin one path, the shorter stands above the other or is it
pub of_two_above : (a b x y : List ℕ) → a ++ 47 ∷ x ≡ b ++ 47 ∷ y → (a ≡ b)
    ⊎ ((continues a b ≡ true) ⊎ (continues b a ≡ true))
of_two_above [] [] x y e = inl refl
of_two_above [] (d ∷ b) x y e =
    inr (inl (is-above [] (d ∷ b) b (let first : 47 ≡ d = cc in ap (λ n. n ∷ b) (sym first))))
of_two_above (c ∷ a) [] x y e = inr (inr (is-above [] (c ∷ a) a (let first : c ≡ 47 = cc in ap (λ n. n ∷ a) first)))
of_two_above (c ∷ a) (d ∷ b) x y e =
    let heads : c ≡ d = cc in
    let tails : a ++ 47 ∷ x ≡ b ++ 47 ∷ y = cc in
    by_case heads (of_two_above a b x y tails)
  where
    by_case : c ≡ d → (a ≡ b) ⊎ ((continues a b ≡ true) ⊎ (continues b a ≡ true)) → (c ∷ a ≡ d ∷ b)
        ⊎ ((continues (c ∷ a) (d ∷ b) ≡ true) ⊎ (continues (d ∷ b) (c ∷ a) ≡ true))
    by_case same (inl w) = inl (cc)
    by_case same (inr (inl w)) = let is = above-is a b w in
        inr (inl (is-above (c ∷ a) (d ∷ b) is.0 (ap (λ n. n ∷ b) (sym same) ∙ ap (λ t. c ∷ t) is.1)))
    by_case same (inr (inr w)) = let is = above-is b a w in
        inr (inr (is-above (d ∷ b) (c ∷ a) is.0 (ap (λ n. n ∷ a) same ∙ ap (λ t. d ∷ t) is.1)))

-- a path cut at its last slash: the part before it stands above, and all that stands above the path is that part or
-- above it
pub cut-above : (p : List ℕ) (k : ℕ) → k < length p → get_or p k 0 ≡ 47 → continues (take k p) p ≡ true
cut-above p k lt is = is-above (take k p) p (drop (k + 1) p)
    (sym (take-append-drop k p) ∙ ap (λ s. take k p ++ s) (drop_more p k 0 lt ∙ ap (λ c. c ∷ drop (k + 1) p) is))
