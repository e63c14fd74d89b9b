-- The parts of a text, and the path that they lead to.
use Rattle.std.proofs.Common.{
  ◌≡◌,
  ◌≢◌,
  ◌==◌,
  ◌&&◌,
  ◌||◌,
  ◌⊎◌,
  inl,
  inr,
  ℕ,
  zero,
  suc,
  ◌<◌,
  ◌+◌,
  length,
  get_or,
  take,
  drop,
  arith,
  Bool,
  true,
  false,
  not,
  cond,
  List,
  [],
  ◌∷◌,
  ◌++◌,
  bytes_eq,
  refl,
  sym,
  ap,
  ◌∙◌,
}
use Rattle.std.specs.List.{onto_first, AllByRecursion}
use Rattle.std.proofs.lemmas.List.{take_more, take-append-drop}
use Rattle.sugar_path.specs.Path.{
  Path,
  IsName,
  IsPath,
  has_no_slash,
  parent,
  steps,
  text_of,
  is_absolute,
  parts,
  by_part,
  by_parts,
  path_in,
  clean,
  IsCleanPath,
  IsSteps,
  names_in,
}
use Rattle.sugar_path.proofs.Bools.{and_left, and_right}
use Rattle.sugar_path.proofs.Paths.{no_slash-name, names_in-steps, IsSteps-steps}

abbrev pub HasNoSlash : List ℕ → Type 0
HasNoSlash n = has_no_slash n ≡ true

onto : (x : ℕ) (b : Bool) → (x == 47) ≡ b → (ps : List (List ℕ)) → AllByRecursion HasNoSlash ps
    → AllByRecursion HasNoSlash (cond b ([] ∷ ps) (onto_first x ps))
onto x true e ps h = (refl, h)
onto x false e [] h = (rw e refl, tt)
onto x false e (p ∷ ps) h = (rw e h.0, h.1)

-- no part of a text holds a slash
pub parts-no_slash : (t : List ℕ) → AllByRecursion HasNoSlash (parts t)
parts-no_slash [] = (refl, tt)
parts-no_slash (x ∷ xs) = onto x (x == 47) refl (parts xs) (parts-no_slash xs)

-- a text has a part
pub parts-some : (s : List ℕ) → parts s ≢ []
parts-some [] e = cc
parts-some (x ∷ xs) e = by_test (x == 47) (parts xs) e
  where
    by_test : (b : Bool) (ps : List (List ℕ)) → cond b ([] ∷ ps) (onto_first x ps) ≢ []
    by_test true ps e = cc
    by_test false [] e = cc
    by_test false (p ∷ ps) e = cc

-- the parts of two texts about a slash
pub parts-slash : (s t : List ℕ) → parts (s ++ 47 ∷ t) ≡ parts s ++ parts t
parts-slash [] t = refl
parts-slash (c ∷ s) t = rw (parts-slash s t) (by_test (c == 47) (parts s) (parts-some s))
  where
    by_test : (b : Bool) (ps : List (List ℕ)) → ps ≢ []
        → cond b ([] ∷ (ps ++ parts t)) (onto_first c (ps ++ parts t)) ≡ cond b ([] ∷ ps) (onto_first c ps) ++ parts t
    by_test true ps some = refl
    by_test false [] some = absurd (some refl)
    by_test false (p ∷ ps) some = refl

-- a text without slash is the one part
pub parts-name : (n : List ℕ) → HasNoSlash n → parts n ≡ n ∷ []
parts-name [] h = refl
parts-name (c ∷ cs) h = rw (parts-name cs (and_right (not (c == 47)) (has_no_slash cs) h))
    (by_test (c == 47) (and_left (not (c == 47)) (has_no_slash cs) h))
  where
    by_test : (b : Bool) → not b ≡ true → cond b ([] ∷ cs ∷ []) ((c ∷ cs) ∷ []) ≡ (c ∷ cs) ∷ []
    by_test true h = cc
    by_test false h = refl

pub by_parts-append : (p : Path) (xs ys : List (List ℕ)) → by_parts p (xs ++ ys) ≡ by_parts (by_parts p xs) ys
by_parts-append p [] ys = refl
by_parts-append p (x ∷ xs) ys = by_parts-append (by_part p x) xs ys

-- a name leads to the child
pub by_part-name : (p : Path) (n : List ℕ) → IsName n → by_part p n ≡ n ∷ p
by_part-name p n h = by_tests (bytes_eq n []) (bytes_eq n (46 ∷ [])) (bytes_eq n (46 ∷ 46 ∷ [])) (has_no_slash n) h
  where
    by_tests : (a b c d : Bool) → (not a && not b && not c && d) ≡ true
        → cond (a || b) p (cond c (parent p) (n ∷ p)) ≡ n ∷ p
    by_tests true b c d h = cc
    by_tests false true c d h = cc
    by_tests false false true d h = cc
    by_tests false false false d h = refl

pub IsPath-parent : (p : Path) → IsPath p → IsPath (parent p)
IsPath-parent [] h = tt
IsPath-parent (n ∷ p) h = h.1

pub IsPath-by_part : (p : Path) (part : List ℕ) → IsPath p → HasNoSlash part → IsPath (by_part p part)
IsPath-by_part p part h slash =
    by_tests (bytes_eq part []) (bytes_eq part (46 ∷ [])) (bytes_eq part (46 ∷ 46 ∷ [])) refl refl refl
  where
    by_tests : (a b c : Bool) → bytes_eq part [] ≡ a → bytes_eq part (46 ∷ []) ≡ b → bytes_eq part (46 ∷ 46 ∷ []) ≡ c
        → IsPath (cond (a || b) p (cond c (parent p) (part ∷ p)))
    by_tests true b c e f g = h
    by_tests false true c e f g = h
    by_tests false false true e f g = IsPath-parent p h
    by_tests false false false e f g = (rw (e, f, g) slash, h)

pub IsPath-by_parts : (p : Path) (ps : List (List ℕ)) → IsPath p → AllByRecursion HasNoSlash ps → IsPath (by_parts p ps)
IsPath-by_parts p [] h slash = h
IsPath-by_parts p (part ∷ ps) h slash = IsPath-by_parts (by_part p part) ps (IsPath-by_part p part h slash.0) slash.1

-- what a text names is a path
pub IsPath-path_in : (t : List ℕ) → IsPath (path_in t)
unfolding path_in
IsPath-path_in t = IsPath-by_parts [] (parts t) tt (parts-no_slash t)

pub IsPath-clean : (cwd : Path) (t : List ℕ) → IsPath cwd → IsPath (clean cwd t)
unfolding clean
IsPath-clean cwd t h =
    IsPath-by_parts (cond (is_absolute t) [] cwd) (parts t) (by_test (is_absolute t)) (parts-no_slash t)
  where
    by_test : (b : Bool) → IsPath (cond b [] cwd)
    by_test true = tt
    by_test false = h

by_parts-steps : (p : Path) → IsPath p → by_parts [] (parts (steps p)) ≡ p
by_parts-steps [] h = refl
by_parts-steps (n ∷ p) h =
    ap (by_parts []) (parts-slash (steps p) n)
    ∙ by_parts-append [] (parts (steps p)) (parts n)
    ∙ ap (λ q. by_parts q (parts n)) (by_parts-steps p h.1)
    ∙ ap (by_parts p) (parts-name n (no_slash-name n h.0))
    ∙ by_part-name p n h.0

-- the text of a path names it
pub path_in-text_of : (p : Path) → IsPath p → path_in (text_of p) ≡ p
unfolding path_in
path_in-text_of [] h = refl
path_in-text_of (n ∷ p) h = by_parts-steps (n ∷ p) h

-- two paths with one text are one path
pub text_of-injective : (p q : Path) → IsPath p → IsPath q → text_of p ≡ text_of q → p ≡ q
text_of-injective p q hp hq e = sym (path_in-text_of p hp) ∙ ap path_in e ∙ path_in-text_of q hq

pub steps-absolute : (n : List ℕ) (p : Path) → is_absolute (steps (n ∷ p)) ≡ true
steps-absolute n [] = refl
steps-absolute n (m ∷ p) = begins (steps (m ∷ p)) (47 ∷ n) (steps-absolute m p)
  where
    begins : (s t : List ℕ) → is_absolute s ≡ true → is_absolute (s ++ t) ≡ true
    begins [] t h = cc
    begins (c ∷ s) t h = h

pub text_of-absolute : (p : Path) → is_absolute (text_of p) ≡ true
text_of-absolute [] = refl
text_of-absolute (n ∷ p) = steps-absolute n p

-- an absolute text is read alike from every folder
pub clean-absolute : (cwd : Path) (t : List ℕ) → is_absolute t ≡ true → clean cwd t ≡ path_in t
unfolding clean path_in
clean-absolute cwd t h = rw h refl

-- the text of a clean path names itself from every folder
pub clean-text_of : (cwd p : Path) → IsPath p → clean cwd (text_of p) ≡ p
clean-text_of cwd p h = clean-absolute cwd (text_of p) (text_of-absolute p) ∙ path_in-text_of p h

AllByRecursion-at : (ps : List (List ℕ)) (i : ℕ) (x : List ℕ) → AllByRecursion HasNoSlash ps → i < length ps
    → x ≡ get_or ps i x → HasNoSlash x
AllByRecursion-at [] i x h lt is = absurd (omega arith)
AllByRecursion-at (p ∷ ps) zero x h lt is = rw is h.0
AllByRecursion-at (p ∷ ps) (suc i) x h lt is = AllByRecursion-at ps i x h.1 (omega arith) is

-- a part of a text, by its place
pub part-no_slash : (t : List ℕ) (i : ℕ) (x : List ℕ) → (i < length (parts t)) × (x ≡ get_or (parts t) i x)
    → HasNoSlash x
part-no_slash t i x h = AllByRecursion-at (parts t) i x (parts-no_slash t) h.0 h.1

pub by_parts-push : (p : Path) (xs : List (List ℕ)) (x : List ℕ) → by_parts p (xs ++ x ∷ []) ≡ by_part (by_parts p xs) x
by_parts-push p xs x = by_parts-append p xs (x ∷ [])

-- the steps of a clean text: nothing for `/`, and else the text
pub steps-clean : (t s : List ℕ) → IsCleanPath t → ((t ≡ 47 ∷ []) × (s ≡ [])) ⊎ ((t ≢ 47 ∷ []) × (s ≡ t)) → IsSteps s
    × (names_in s ≡ path_in t)
steps-clean t s clean (inl (root, none)) = rw (none, root) (IsSteps-steps [] tt, sym (path_in-text_of [] tt))
steps-clean t s (p, names, is) (inr (other, same)) = by_names p names is
  where
    by_names : (p : Path) → IsPath p → t ≡ text_of p → IsSteps s × (names_in s ≡ path_in t)
    by_names [] h e = absurd (other e)
    by_names (n ∷ p) h e =
        rw (same, e) (IsSteps-steps (n ∷ p) h, names_in-steps (n ∷ p) h ∙ sym (path_in-text_of (n ∷ p) h))

-- parts of which some were seen, and the next one is at hand
pub seen-whole : (all seen : List (List ℕ)) (x : List ℕ) → seen ≡ take (length seen) all → (length seen < length all)
    × (x ≡ get_or all (length seen) x) → all ≡ (seen ++ x ∷ []) ++ drop (length seen + 1) all
seen-whole all seen x so_far turn =
    let more : seen ++ x ∷ [] ≡ take (length seen + 1) all =
    ap (λ xs. xs ++ x ∷ []) so_far ∙ ap (λ y. take (length seen) all ++ y ∷ []) turn.1
    ∙ sym (take_more all (length seen) x turn.0) in
    sym (take-append-drop (length seen + 1) all) ∙ ap (λ xs. xs ++ drop (length seen + 1) all) (sym more)
