-- Paths below others: two folders of one path lie one below the other, and one name leads from the upper to the lower.
use Rattle.std.proofs.Common.{◌≡◌, ◌⊎◌, inl, inr, ◌≤◌, ℕ, true, List, [], ◌∷◌, ◌++◌, length, sym, ap, ◌∙◌, arith}
use Rattle.std.proofs.lemmas.List.{length-append}
use Rattle.sugar_path.specs.Path.{Path, below}
use Rattle.sugar_path.proofs.Below.{below-tells, below-append, below-through}

pub below-length : (p l : Path) → below p l ≡ true → length l ≤ length p
below-length p l h = let w = below-tells p l h in omega (arith, ap length w.1, length-append w.0 l)

-- nothing lies below what lies below it
pub below-child_of_it : (l : Path) (m : List ℕ) → below l (m ∷ l) ≡ true → ⊥
below-child_of_it l m h = let w = below-length l (m ∷ l) h in omega (arith, w)

-- what lies below a child of a folder lies below the folder
pub below-parent : (p l : Path) (m : List ℕ) → below p (m ∷ l) ≡ true → below p l ≡ true
below-parent p l m h = below-through p (m ∷ l) l h (below-append (m ∷ []) l)

compared : (q a r b : Path) → q ++ a ≡ r ++ b → (below a b ≡ true) ⊎ (below b a ≡ true)
compared [] a r b e = inl (rw e (below-append r b))
compared (x ∷ q) a [] b e = inr (rw (← e) (below-append (x ∷ q) a))
compared (x ∷ q) a (y ∷ r) b e = let rest : q ++ a ≡ r ++ b = cc in compared q a r b rest

-- of two folders above one path, one lies below the other
pub below-compared : (p a b : Path) → below p a ≡ true → below p b ≡ true → (below a b ≡ true) ⊎ (below b a ≡ true)
below-compared p a b h k =
    let v = below-tells p a h in
    let w = below-tells p b k in
    compared v.0 a w.0 b (sym v.1 ∙ w.1)

same_length : (q a b : Path) → a ≡ q ++ b → length a ≤ length b → a ≡ b
same_length [] a b e le = e
same_length (x ∷ q) a b e le = absurd (omega (arith, ap length e, length-append (x ∷ q) b))

-- a folder above another that is no shorter is that one
pub below-long : (a b : Path) → below a b ≡ true → length a ≤ length b → a ≡ b
below-long a b h le = let w = below-tells a b h in same_length w.0 a b w.1 le

last_name : (x : List ℕ) (q l : Path) → (m : List ℕ) × (below ((x ∷ q) ++ l) (m ∷ l) ≡ true)
last_name x [] l = (x, below-append [] (x ∷ l))
last_name x (y ∷ q) l =
    let w = last_name y q l in
    (w.0, below-through ((x ∷ y ∷ q) ++ l) ((y ∷ q) ++ l) (w.0 ∷ l) (below-append (x ∷ []) ((y ∷ q) ++ l)) w.1)

-- a path that lies below a folder is the folder, or a name leads on
pub below-next : (p l : Path) → below p l ≡ true → (p ≡ l) ⊎ ((m : List ℕ) × (below p (m ∷ l) ≡ true))
below-next p l h = by_names (below-tells p l h).0 (below-tells p l h).1
  where
    by_names : (q : Path) → p ≡ q ++ l → (p ≡ l) ⊎ ((m : List ℕ) × (below p (m ∷ l) ≡ true))
    by_names [] e = inl e
    by_names (x ∷ q) e = let w = last_name x q l in inr (w.0, rw e w.1)

-- one name leads from a folder to a path below it
pub below-one_name : (p l : Path) (m k : List ℕ) → below p (m ∷ l) ≡ true → below p (k ∷ l) ≡ true → m ≡ k
below-one_name p l m k h g = by_case (below-compared p (m ∷ l) (k ∷ l) h g)
  where
    by_case : (below (m ∷ l) (k ∷ l) ≡ true) ⊎ (below (k ∷ l) (m ∷ l) ≡ true) → m ≡ k
    by_case (inl w) = let same : m ∷ l ≡ k ∷ l = below-long (m ∷ l) (k ∷ l) w (omega arith) in cc
    by_case (inr w) = let same : k ∷ l ≡ m ∷ l = below-long (k ∷ l) (m ∷ l) w (omega arith) in cc

-- a folder of a path that is longer than another one lies below it
pub below-shorter : (p a b : Path) → below p a ≡ true → below p b ≡ true → length b ≤ length a → below a b ≡ true
below-shorter p a b h k le = by_case (below-compared p a b h k)
  where
    by_case : (below a b ≡ true) ⊎ (below b a ≡ true) → below a b ≡ true
    by_case (inl w) = w
    by_case (inr w) = rw (below-long b a w le) (below-append [] a)
