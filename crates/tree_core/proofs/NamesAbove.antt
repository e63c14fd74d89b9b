-- A path stands above another where its names are some first ones of the other's.
use Rattle.std.proofs.Common.{
  ◌≡◌,
  ◌≢◌,
  ◌↔◌,
  ◌==◌,
  ◌⊎◌,
  ℕ,
  Bool,
  true,
  false,
  not,
  List,
  [],
  ◌∷◌,
  ◌++◌,
  IsTrue,
  refl,
  sym,
  ap,
  ◌∙◌,
  subst,
  append_assoc,
  inl,
  inr,
}
use Rattle.std.proofs.lemmas.List.{append-nil}
use Rattle.std.proofs.lemmas.Slice.Eq.{bytes_eq-Decides}
use Rattle.sugar_path.specs.Path.{Path, IsPath, has_no_slash, steps, text_of}
use Rattle.sugar_path.proofs.Bools.{and_right}
use Rattle.sugar_path.proofs.Parts.{text_of-injective}
use Rattle.tree_core.specs.Tree.{is_root_text, stands_above}
use Rattle.tree_core.proofs.Above.{continues, continues-from, above-from, above-is, is-above, of_two_above}

-- a path with a name is not `/`
apart : (n : List ℕ) (p : Path) → IsPath (n ∷ p) → is_root_text (steps (n ∷ p)) ≡ false
apart n p named = by_test (is_root_text (steps (n ∷ p))) refl
  where
    by_test : (b : Bool) → is_root_text (steps (n ∷ p)) ≡ b → b ≡ false
    by_test true e = let none : n ∷ p ≡ [] = text_of-injective (n ∷ p) [] named tt
        ((bytes_eq-Decides (steps (n ∷ p)) (47 ∷ [])).0 e) in cc
    by_test false e = refl

-- more names stand behind a slash
goes_on : (p : Path) (n : List ℕ) (more : Path) → continues (steps p) (steps (n ∷ more ++ p)) ≡ true
goes_on p n [] = is-above (steps p) (steps (n ∷ p)) n refl
goes_on p n (m ∷ more) =
    let is = above-is (steps p) (steps (m ∷ more ++ p)) (goes_on p m more) in
    is-above (steps p) (steps (n ∷ m ∷ more ++ p)) (is.0 ++ 47 ∷ n)
    (ap (λ t. t ++ 47 ∷ n) is.1 ∙ append_assoc (steps p) (47 ∷ is.0) (47 ∷ n))

-- a name has no slash
no_slash : (z rest : List ℕ) → has_no_slash (z ++ 47 ∷ rest) ≡ true → ⊥
no_slash [] rest h = cc
no_slash (c ∷ z) rest h = no_slash z rest (and_right (not (c == 47)) _ h)

-- what is behind a front that two texts share
behind : (front a b : List ℕ) → front ++ 47 ∷ a ≡ front ++ 47 ∷ b → a ≡ b
behind [] a b e = cc
behind (c ∷ front) a b e = behind front a b (let tails : front ++ 47 ∷ a ≡ front ++ 47 ∷ b = cc in tails)

not_empty : (a b : List ℕ) → [] ≡ a ++ 47 ∷ b → ⊥
not_empty [] b h = cc
not_empty (c ∷ a) b h = cc

-- two paths are one whose names stand behind slashes alike
steps-same : (q : Path) (n : List ℕ) (p : Path) → IsPath q → IsPath (n ∷ p) → steps q ≡ steps (n ∷ p) → q ≡ n ∷ p
steps-same [] n p names named e =
    let is = above-is (steps p) (steps (n ∷ p)) (goes_on p n []) in
    absurd (not_empty (steps p) is.0 (e ∙ is.1))
steps-same (m ∷ q) n p names named e = text_of-injective (m ∷ q) (n ∷ p) names named e

-- a text that goes on behind a path's is that of more names
names-behind : (n : List ℕ) (p q : Path) → IsPath (n ∷ p) → IsPath q → continues (steps (n ∷ p)) (steps q) ≡ true
    → (more : Path) × (more ≢ []) × (q ≡ more ++ n ∷ p)
names-behind n p [] named names h =
    let is = above-is (steps (n ∷ p)) [] h in absurd (not_empty (steps (n ∷ p)) is.0 is.1)
names-behind n p (m ∷ q) named names h =
    let is = above-is (steps (n ∷ p)) (steps (m ∷ q)) h in
    by_case is.0 is.1 (of_two_above (steps q) (steps (n ∷ p)) m is.0 is.1) (names-behind n p q named names.1)
  where
    by_case : (rest : List ℕ) → steps q ++ 47 ∷ m ≡ steps (n ∷ p) ++ 47 ∷ rest → (steps q ≡ steps (n ∷ p))
        ⊎ ((continues (steps q) (steps (n ∷ p)) ≡ true) ⊎ (continues (steps (n ∷ p)) (steps q) ≡ true))
        → (continues (steps (n ∷ p)) (steps q) ≡ true → (more : Path) × (more ≢ []) × (q ≡ more ++ n ∷ p))
        → (more : Path) × (more ≢ []) × (m ∷ q ≡ more ++ n ∷ p)
    by_case rest e (inl same) deeper = (m ∷ [], λ h. cc, ap (λ (r : Path). m ∷ r) (steps-same q n p names.1 named same))
    by_case rest e (inr (inl over)) deeper =
        let is = above-is (steps q) (steps (n ∷ p)) over in
        let name : m ≡ is.0 ++ 47 ∷ rest = behind (steps q) m (is.0 ++ 47 ∷ rest)
        (e ∙ ap (λ t. t ++ 47 ∷ rest) is.1 ∙ append_assoc (steps q) (47 ∷ is.0) (47 ∷ rest)) in
        absurd (no_slash is.0 rest (ap has_no_slash (sym name) ∙ and_right _ (has_no_slash m) names.0))
    by_case rest e (inr (inr under)) deeper =
        let found = deeper under in
        (m ∷ found.0, λ h. cc, ap (λ (r : Path). m ∷ r) found.2)

pub names-above : (p q : Path) → IsPath p → IsPath q
    → IsTrue (stands_above (text_of p) (text_of q)) ↔ ((more : Path) × (more ≢ []) × (q ≡ more ++ p))
names-above [] [] named names = (λ h. cc, λ more. by_more more.0 more.1 more.2)
  where
    by_more : (more : Path) → more ≢ [] → [] ≡ more ++ [] → IsTrue (stands_above (text_of []) (text_of []))
    by_more [] some is = absurd (some refl)
    by_more (m ∷ more) some is = cc
names-above [] (m ∷ q) named names = (λ h. (m ∷ q, λ e. cc, sym (append-nil (m ∷ q))), λ more. ap not (apart m q names))
names-above (n ∷ p) [] named names = (
  λ h. absurd (not_root h),
  λ more. by_more more.0 more.1 more.2,
)
  where
    not_root : IsTrue (stands_above (text_of (n ∷ p)) (47 ∷ [])) → ⊥
    not_root h =
        let more = continues-from (steps (n ∷ p)) (47 ∷ []) (apart n p named) h in
        let front = above-is (steps (n ∷ p)) (47 ∷ []) more in
        let own = above-is (steps p) (steps (n ∷ p)) (goes_on p n []) in
        short (steps p) own.0 front.0 (front.1 ∙ ap (λ t. t ++ 47 ∷ front.0) own.1)
      where
        short : (a b c : List ℕ) → 47 ∷ [] ≡ (a ++ 47 ∷ b) ++ 47 ∷ c → ⊥
        short [] [] c e = cc
        short [] (x ∷ b) c e = cc
        short (y ∷ []) b c e = cc
        short (y ∷ z ∷ a) b c e = cc

    by_more : (more : Path) → more ≢ [] → [] ≡ more ++ n ∷ p → IsTrue (stands_above (text_of (n ∷ p)) (text_of []))
    by_more [] some is = cc
    by_more (m ∷ more) some is = cc
names-above (n ∷ p) (m ∷ q) named names = (
  λ h. names-behind n p (m ∷ q) named names (continues-from (steps (n ∷ p)) (steps (m ∷ q)) (apart n p named) h),
  λ more. by_more more.0 more.1 more.2,
)
  where
    by_more : (more : Path) → more ≢ [] → m ∷ q ≡ more ++ n ∷ p
        → IsTrue (stands_above (text_of (n ∷ p)) (text_of (m ∷ q)))
    by_more [] some is = absurd (some refl)
    by_more (k ∷ more) some is = above-from (steps (n ∷ p)) (steps (m ∷ q)) (apart n p named)
        (subst (λ (r : Path). continues (steps (n ∷ p)) (text_of r) ≡ true) (sym is) (goes_on (n ∷ p) k more))
