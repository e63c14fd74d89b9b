-- The components of a path, and those of its parent.
use Rattle.std.proofs.Common.{
  ◌≡◌,
  ◌≢◌,
  ◌==◌,
  ◌&&◌,
  ◌||◌,
  ℕ,
  Bool,
  true,
  false,
  not,
  cond,
  List,
  [],
  ◌∷◌,
  ◌++◌,
  bytes_eq,
  refl,
  sym,
  ap,
  ◌∙◌,
  ◌⊎◌,
  inl,
  inr,
}
use Rattle.std.specs.Prelude.{Some, None, ◌↔◌}
use Rattle.std.specs.List.{join_with_byte, AllByRecursion}
use Rattle.std.proofs.lemmas.List.Splits.{join_with_byte-slice_split}
use Rattle.sugar_path.specs.Path.{has_no_slash, is_absolute, parts}
use Rattle.sugar_path.specs.Route.{Route, Rooted, Relative, route_up, route_down, route_by_parts, route_of}
use Rattle.sugar_path.specs.Parent.{
  is_silent,
  is_nil,
  trimmed,
  but_last,
  or_slash,
  parent_by,
  parent_of_parts,
  parent_of,
}
use Rattle.sugar_path.specs.Component.{Piece, Root, Here, Above, Name, piece, pieces, starts_here, components_of}
use Rattle.sugar_path.specs.Laws.{by_pieces}
use Rattle.sugar_path.proofs.Bools.{and_left}
use Rattle.sugar_path.proofs.Parts.{HasNoSlash, parts-no_slash, parts-some}
use Rattle.sugar_path.proofs.Placed.{parts-join}

-- ---- silent parts hold no component
pieces-trimmed : (xs : List (List ℕ)) → pieces (trimmed xs) ≡ pieces xs
pieces-trimmed [] = refl
pieces-trimmed (x ∷ xs) = by_rest (trimmed xs) (is_silent x) refl (pieces-trimmed xs)
  where
    by_rest : (ys : List (List ℕ)) (b : Bool) → is_silent x ≡ b → pieces ys ≡ pieces xs
        → pieces (cond (is_nil ys && b) [] (x ∷ ys)) ≡ cond b (pieces xs) (piece x ∷ pieces xs)
    by_rest [] true e k = k
    by_rest [] false e k = rw e (ap (λ ps. piece x ∷ ps) k)
    by_rest (y ∷ ys) true e k = rw e k
    by_rest (y ∷ ys) false e k = rw e (ap (λ ps. piece x ∷ ps) k)

-- what is left ends in a component
abbrev EndsLoud : List (List ℕ) → Type 0
EndsLoud xs = (last : Piece) × (pieces xs ≡ pieces (but_last xs) ++ last ∷ [])

trimmed-loud : (xs : List (List ℕ)) → trimmed xs ≢ [] → EndsLoud (trimmed xs)
trimmed-loud [] some = absurd (some refl)
trimmed-loud (x ∷ xs) some = by_rest (trimmed xs) (is_silent x) refl (trimmed-loud xs) some
  where
    by_rest : (ys : List (List ℕ)) (b : Bool) → is_silent x ≡ b → (ys ≢ [] → EndsLoud ys)
        → cond (is_nil ys && b) [] (x ∷ ys) ≢ [] → EndsLoud (cond (is_nil ys && b) [] (x ∷ ys))
    by_rest [] true e loud other = absurd (other refl)
    by_rest [] false e loud other = (piece x, rw e refl)
    by_rest (y ∷ ys) b e loud other =
        let w = loud (λ (f : y ∷ ys ≡ []). cc) in
        (w.0, by_test (is_silent x) w.0 w.1)
      where
        by_test : (c : Bool) (last : Piece) → pieces (y ∷ ys) ≡ pieces (but_last (y ∷ ys)) ++ last ∷ []
            → cond c (pieces (y ∷ ys)) (piece x ∷ pieces (y ∷ ys)) ≡ cond c (pieces (but_last (y ∷ ys)))
            (piece x ∷ pieces (but_last (y ∷ ys))) ++ last ∷ []
        by_test true last k = k
        by_test false last k = ap (λ ps. piece x ∷ ps) k

-- the parts of a parent behind the first one
abbrev above : List (List ℕ) → List (List ℕ)
above rest = trimmed (but_last (trimmed rest))

pieces-above : (rest : List (List ℕ)) → trimmed rest ≢ [] → (last : Piece)
    × (pieces rest ≡ pieces (above rest) ++ last ∷ [])
pieces-above rest some =
    let w = trimmed-loud rest some in
    (w.0, sym (pieces-trimmed rest) ∙ w.1 ∙ ap (λ ps. ps ++ w.0 ∷ []) (sym (pieces-trimmed (but_last (trimmed rest)))))

trimmed-all : (xs : List (List ℕ)) → AllByRecursion HasNoSlash xs → AllByRecursion HasNoSlash (trimmed xs)
trimmed-all [] h = tt
trimmed-all (x ∷ xs) h = by_test (is_nil (trimmed xs) && is_silent x) (trimmed-all xs h.1)
  where
    by_test : (b : Bool) → AllByRecursion HasNoSlash (trimmed xs)
        → AllByRecursion HasNoSlash (cond b [] (x ∷ trimmed xs))
    by_test true k = tt
    by_test false k = (h.0, k)

but_last-all : (xs : List (List ℕ)) → AllByRecursion HasNoSlash xs → AllByRecursion HasNoSlash (but_last xs)
but_last-all [] h = tt
but_last-all (x ∷ []) h = tt
but_last-all (x ∷ y ∷ xs) h = (h.0, but_last-all (y ∷ xs) h.1)

above-all : (rest : List (List ℕ)) → AllByRecursion HasNoSlash rest → AllByRecursion HasNoSlash (above rest)
above-all rest h = trimmed-all (but_last (trimmed rest)) (but_last-all (trimmed rest) (trimmed-all rest h))

-- ---- the components by the first part and those behind it
abbrev components_by : List ℕ → List (List ℕ) → List Piece
components_by [] [] = []
components_by [] (r ∷ rest) = Root ∷ pieces (r ∷ rest)
components_by (c ∷ first) rest = cond (bytes_eq (c ∷ first) (46 ∷ [])) Here (piece (c ∷ first)) ∷ pieces rest

not_slash : (c : ℕ) (n : List ℕ) → has_no_slash (c ∷ n) ≡ true → (c == 47) ≡ false
not_slash c n h = by_test (c == 47) (and_left (not (c == 47)) (has_no_slash n) h)
  where
    by_test : (b : Bool) → not b ≡ true → b ≡ false
    by_test true e = cc
    by_test false e = refl

named : (c : ℕ) (first : List ℕ) (rest : List (List ℕ)) → cond (bytes_eq (c ∷ first) (46 ∷ [])) (Here ∷ []) []
    ++ pieces ((c ∷ first) ∷ rest) ≡ components_by (c ∷ first) rest
named c first rest = by_test (bytes_eq (c ∷ first) (46 ∷ []))
  where
    by_test : (b : Bool) → cond b (Here ∷ []) []
        ++ cond b (pieces rest) (piece (c ∷ first) ∷ pieces rest) ≡ cond b Here (piece (c ∷ first)) ∷ pieces rest
    by_test true = refl
    by_test false = refl

components-joined : (first : List ℕ) (rest : List (List ℕ)) → AllByRecursion HasNoSlash (first ∷ rest)
    → components_of (join_with_byte 47 (first ∷ rest)) ≡ components_by first rest
unfolding components_of
components-joined [] [] h = refl
components-joined [] (r ∷ rest) h = ap (λ ps. Root ∷ pieces ps) (parts-join [] (r ∷ rest) h)
components-joined (c ∷ first) [] h = rw (parts-join (c ∷ first) [] h, not_slash c first h.0) (named c first [])
components-joined (c ∷ first) (r ∷ rest) h =
    rw (parts-join (c ∷ first) (r ∷ rest) h, not_slash c first h.0) (named c first (r ∷ rest))

-- a path by its first part and those behind it
abbrev IsParted : List ℕ → Type 0
IsParted t = (first : List ℕ) × (rest : List (List ℕ)) × (parts t ≡ first ∷ rest)
    × AllByRecursion HasNoSlash (first ∷ rest) × (components_of t ≡ components_by first rest)

parted : (t : List ℕ) → IsParted t
parted t = by_parts (parts t) refl (parts-no_slash t)
  where
    by_parts : (ps : List (List ℕ)) → parts t ≡ ps → AllByRecursion HasNoSlash ps → IsParted t
    by_parts [] e h = absurd (parts-some t e)
    by_parts (first ∷ rest) e h =
        let text : t ≡ join_with_byte 47 (first ∷ rest) =
        sym (join_with_byte-slice_split 47 t) ∙ ap (join_with_byte 47) e in
        (first, rest, e, h, ap components_of text ∙ components-joined first rest h)

parent-form : (t : List ℕ) (w : IsParted t) → parent_of t ≡ parent_by w.0 (trimmed w.1)
unfolding parent_of
parent-form t w = ap parent_of_parts w.2

-- ---- a parent
-- what the first part is where parts follow
abbrev head_of : List ℕ → Piece
head_of [] = Root
head_of (c ∷ first) = cond (bytes_eq (c ∷ first) (46 ∷ [])) Here (piece (c ∷ first))

behind-head : (first : List ℕ) (rest : List (List ℕ)) → rest ≢ []
    → components_by first rest ≡ head_of first ∷ pieces rest
behind-head [] [] some = absurd (some refl)
behind-head [] (r ∷ rest) some = refl
behind-head (c ∷ first) rest some = refl

components-root : components_of (47 ∷ []) ≡ Root ∷ []
unfolding components_of
components-root = refl

components-empty : components_of [] ≡ []
unfolding components_of
components-empty = refl

parent-text : (first : List ℕ) (zs : List (List ℕ)) → AllByRecursion HasNoSlash (first ∷ zs)
    → components_of (or_slash (join_with_byte 47 (first ∷ zs))) ≡ head_of first ∷ pieces zs
parent-text [] [] h = components-root
parent-text [] (z ∷ zs) h = components-joined [] (z ∷ zs) h
parent-text (c ∷ first) [] h = components-joined (c ∷ first) [] h
parent-text (c ∷ first) (z ∷ zs) h = components-joined (c ∷ first) (z ∷ zs) h

parent_by-some : (first p : List ℕ) (q : List (List ℕ))
    → parent_by first (p ∷ q) ≡ Some (or_slash (join_with_byte 47 (first ∷ trimmed (but_last (p ∷ q)))))
parent_by-some [] p q = refl
parent_by-some (c ∷ first) p q = refl

silent-none : (rest : List (List ℕ)) → trimmed rest ≡ [] → pieces rest ≡ []
silent-none rest e = sym (pieces-trimmed rest) ∙ ap pieces e

-- with components behind the first part, the parent leaves the last one out
leaves-last : (first p : List ℕ) (rest q : List (List ℕ)) → AllByRecursion HasNoSlash (first ∷ rest)
    → trimmed rest ≡ p ∷ q → (last : Piece) × (components_by first rest ≡ components_of
    (or_slash (join_with_byte 47 (first ∷ trimmed (but_last (p ∷ q))))) ++ last ∷ [])
leaves-last first p rest q h e =
    let w = pieces-above rest (λ (f : trimmed rest ≡ []). let g : p ∷ q ≡ [] = sym e ∙ f in cc) in
    let some : rest ≢ [] = λ f. let g : p ∷ q ≡ [] = sym e ∙ ap trimmed f in cc in
    let rest_text : components_of (or_slash (join_with_byte 47 (first ∷ above rest))) ≡ head_of first ∷ pieces
    (above rest) = parent-text first (above rest) (h.0, above-all rest h.1) in (
      w.0,
      behind-head first rest some
          ∙ ap (λ ps. head_of first ∷ ps) w.1
          ∙ ap (λ ps. ps ++ w.0 ∷ []) (sym rest_text)
          ∙ ap (λ ys. components_of (or_slash (join_with_byte 47 (first ∷ trimmed (but_last ys)))) ++ w.0 ∷ []) e,
    )

pub parent-leaves : (t u : List ℕ) → parent_of t ≡ Some u → (last : Piece)
    × (components_of t ≡ components_of u ++ last ∷ [])
parent-leaves t u is = by_first w.0 w.1 (trimmed w.1) w.3 refl w.4 (sym (parent-form t w) ∙ is)
  where
    w : IsParted t
    w = parted t

    by_first : (first : List ℕ) (rest q : List (List ℕ)) → AllByRecursion HasNoSlash (first ∷ rest) → trimmed rest ≡ q
        → components_of t ≡ components_by first rest → parent_by first q ≡ Some u → (last : Piece)
        × (components_of t ≡ components_of u ++ last ∷ [])
    by_first [] rest [] h e form is = cc
    by_first (c ∷ first) rest [] h e form is =
        let none : u ≡ [] = cc in (
          head_of (c ∷ first),
          form
              ∙ ap (λ ps. head_of (c ∷ first) ∷ ps) (silent-none rest e)
              ∙ ap (λ ps. ps ++ head_of (c ∷ first) ∷ []) (sym components-empty)
              ∙ ap (λ v. components_of v ++ head_of (c ∷ first) ∷ []) (sym none),
        )
    by_first first rest (p ∷ q) h e form is =
        let text : or_slash (join_with_byte 47 (first ∷ trimmed (but_last (p ∷ q)))) ≡ u =
        unwrapped (sym (parent_by-some first p q) ∙ is) in
        let v = leaves-last first p rest q h e in
        (v.0, form ∙ v.1 ∙ ap (λ s. components_of s ++ v.0 ∷ []) text)
      where
        unwrapped : {a b : List ℕ} → Some a ≡ Some b → a ≡ b
        unwrapped f = cc

-- no parent: no component, or the root alone
head-no_root : (c : ℕ) (first : List ℕ) → head_of (c ∷ first) ≢ Root
head-no_root c first = by_tests (bytes_eq (c ∷ first) (46 ∷ [])) (bytes_eq (c ∷ first) (46 ∷ 46 ∷ []))
  where
    by_tests : (a b : Bool) → cond a Here (cond b Above (Name (c ∷ first))) ≢ Root
    by_tests true b e = cc
    by_tests false true e = cc
    by_tests false false e = cc

none-behind : (xs : List Piece) (x : Piece) → xs ++ x ∷ [] ≢ []
none-behind [] x e = cc
none-behind (y ∷ xs) x e = cc

pub parent-none_but_root : (t : List ℕ) → (parent_of t ≡ None) ↔
    ((components_of t ≡ []) ⊎ (components_of t ≡ Root ∷ []))
parent-none_but_root t = (
  (λ is. there w.0 w.1 (trimmed w.1) refl w.4 (sym (parent-form t w) ∙ is)),
  λ cases. parent-form t w ∙ back w.0 w.1 (trimmed w.1) refl w.4 cases,
)
  where
    w : IsParted t
    w = parted t

    there : (first : List ℕ) (rest q : List (List ℕ)) → trimmed rest ≡ q → components_of t ≡ components_by first rest
        → parent_by first q ≡ None → (components_of t ≡ []) ⊎ (components_of t ≡ Root ∷ [])
    there [] [] [] e form is = inl form
    there [] (r ∷ rest) [] e form is = inr (form ∙ ap (λ ps. Root ∷ ps) (silent-none (r ∷ rest) e))
    there (c ∷ first) rest [] e form is = cc
    there first rest (p ∷ q) e form is = let f : Some (or_slash
        (join_with_byte 47 (first ∷ trimmed (but_last (p ∷ q))))) ≡ None = sym (parent_by-some first p q) ∙ is in cc

    back : (first : List ℕ) (rest q : List (List ℕ)) → trimmed rest ≡ q → components_of t ≡ components_by first rest
        → (components_of t ≡ []) ⊎ (components_of t ≡ Root ∷ []) → parent_by first q ≡ None
    back [] rest [] e form cases = refl
    back (c ∷ first) rest q e form (inl none) = let f : head_of (c ∷ first) ∷ pieces rest ≡ [] = sym form ∙ none in cc
    back (c ∷ first) rest q e form (inr root) =
        absurd (head-no_root c first (let f : head_of (c ∷ first) ∷ pieces rest ≡ Root ∷ [] = sym form ∙ root in cc))
    back [] [] (p ∷ q) e form cases = cc
    back [] (r ∷ rest) (p ∷ q) e form (inl none) = let f : Root ∷ pieces (r ∷ rest) ≡ [] = sym form ∙ none in cc
    back [] (r ∷ rest) (p ∷ q) e form (inr root) =
        let v = pieces-above (r ∷ rest) (λ (f : trimmed (r ∷ rest) ≡ []). let g : p ∷ q ≡ [] = sym e ∙ f in cc) in
        let tail : pieces (r ∷ rest) ≡ [] = let f : Root ∷ pieces (r ∷ rest) ≡ Root ∷ [] = sym form ∙ root in cc in
        absurd (none-behind (pieces (above (r ∷ rest))) v.0 (sym v.1 ∙ tail))

-- ---- the components lead where the path leads
pieces-route : (r : Route) (xs : List (List ℕ)) → by_pieces r (pieces xs) ≡ route_by_parts r xs
pieces-route r [] = refl
pieces-route r (x ∷ xs) =
    by_tests (λ s. pieces-route s xs) (bytes_eq x [] || bytes_eq x (46 ∷ [])) (bytes_eq x (46 ∷ 46 ∷ []))
  where
    by_tests : ((s : Route) → by_pieces s (pieces xs) ≡ route_by_parts s xs) → (a b : Bool)
        → by_pieces r (cond a (pieces xs) (cond b Above (Name x) ∷ pieces xs)) ≡ route_by_parts
        (cond a r (cond b (route_up r) (route_down r x))) xs
    by_tests on true b = on r
    by_tests on false true = on (route_up r)
    by_tests on false false = on (route_down r x)

pub components-route : (t : List ℕ) → by_pieces (Relative 0 []) (components_of t) ≡ route_of t
unfolding components_of route_of
components-route t = by_tests (is_absolute t) (starts_here (parts t))
  where
    by_tests : (a b : Bool) → by_pieces (Relative 0 []) (cond a (Root ∷ []) (cond b (Here ∷ []) []) ++ pieces (parts t))
        ≡ route_by_parts (cond a (Rooted []) (Relative 0 [])) (parts t)
    by_tests true b = pieces-route (Rooted []) (parts t)
    by_tests false true = pieces-route (Relative 0 []) (parts t)
    by_tests false false = pieces-route (Relative 0 []) (parts t)
