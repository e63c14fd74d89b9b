-- `join` and the components of a path, beside the words that std has for its own paths.
use Rattle.std.proofs.Common.{
  ◌≡◌,
  ◌==◌,
  ◌&&◌,
  ◌||◌,
  ◌-◌,
  Bool,
  true,
  false,
  not,
  cond,
  inl,
  inr,
  suc,
  List,
  [],
  ◌∷◌,
  ◌++◌,
  ℕ,
  length,
  map,
  filter,
  slice_index,
  bytes_eq,
  refl,
  sym,
  ap,
  ◌∙◌,
  arith,
}
use Rattle.std.specs.List.{onto_first}
use Rattle.std.specs.Path.{
  path_join,
  first_piece,
  later_pieces,
  is_name,
  path_names,
  path_components,
  leading_components,
  is_dot_at,
}
use Rattle.std.proofs.lemmas.Bool.Decides.{eqb_tells}
use Rattle.std.proofs.lemmas.List.{map-append}
use Rattle.std.proofs.lemmas.Slice.Eq.{bytes_eq-Decides}
use Rattle.sugar_path.specs.Path.{parts, is_absolute, ends_in_slash, join}
use Rattle.sugar_path.specs.Parent.{is_silent}
use Rattle.sugar_path.specs.Component.{Root, Here, Above, Name, piece, pieces, starts_here, beginning, components_of}
use Rattle.sugar_path.specs.Laws.{std_text}

-- ---- parts are std's pieces
pub parts-pieces : (t : List ℕ) → parts t ≡ first_piece t ∷ later_pieces t
parts-pieces [] = refl
parts-pieces (c ∷ cs) = by_test (c == 47) (parts-pieces cs)
  where
    by_test : (b : Bool) → parts cs ≡ first_piece cs ∷ later_pieces cs
        → cond b ([] ∷ parts cs) (onto_first c (parts cs)) ≡ cond b [] (c ∷ first_piece cs) ∷ cond b
        (first_piece cs ∷ later_pieces cs) (later_pieces cs)
    by_test true h = ap (λ ps. [] ∷ ps) h
    by_test false h = ap (onto_first c) h

pub some_length : (n : ℕ) → (suc n == 0) ≡ false
some_length n = elim (eqb_tells (suc n) 0) [ inl w ↦ absurd (omega (arith, w.1)) | inr w ↦ w.0 ]

no_length : (x : List ℕ) → bytes_eq x [] ≡ (length x == 0)
no_length [] = refl
no_length (c ∷ x) = sym (some_length (length x))

piece-text : (x : List ℕ) → std_text (piece x) ≡ x
piece-text x = by_test (bytes_eq x (46 ∷ 46 ∷ [])) (bytes_eq-Decides x (46 ∷ 46 ∷ [])).0
  where
    by_test : (b : Bool) → (b ≡ true → x ≡ 46 ∷ 46 ∷ []) → std_text (cond b Above (Name x)) ≡ x
    by_test true same = sym (same refl)
    by_test false same = refl

pieces-names : (xs : List (List ℕ)) → map std_text (pieces xs) ≡ filter is_name xs
pieces-names [] = refl
pieces-names (x ∷ xs) =
    by_test (is_silent x) (pieces-names xs)
    ∙ ap (λ b. cond (not (b || bytes_eq x (46 ∷ []))) (x ∷ filter is_name xs) (filter is_name xs)) (no_length x)
  where
    by_test : (b : Bool) → map std_text (pieces xs) ≡ filter is_name xs
        → map std_text (cond b (pieces xs) (piece x ∷ pieces xs)) ≡ cond (not b) (x ∷ filter is_name xs)
        (filter is_name xs)
    by_test true rest = rest
    by_test false rest = ap (λ n. n ∷ map std_text (pieces xs)) (piece-text x) ∙ ap (λ ns. x ∷ ns) rest

-- ---- what a path begins with
starts-dot : (t : List ℕ) → is_absolute t ≡ false → starts_here (parts t) ≡ is_dot_at t 0
starts-dot [] h = refl
starts-dot (c ∷ []) h = rw h refl
starts-dot (c ∷ d ∷ cs) h = rw (h, parts-pieces cs) (by_test (d == 47))
  where
    by_test : (b : Bool) → starts_here (onto_first c (cond b ([] ∷ first_piece cs ∷ later_pieces cs)
        (onto_first d (first_piece cs ∷ later_pieces cs)))) ≡ ((c == 46) && b)
    by_test true = refl
    by_test false = refl

beginning-leading : (t : List ℕ) → map std_text (beginning t) ≡ leading_components t
beginning-leading t = by_test (is_absolute t) refl
  where
    lone : (b : Bool) → map std_text (cond b (Here ∷ []) []) ≡ cond b ((46 ∷ []) ∷ []) []
    lone true = refl
    lone false = refl

    by_test : (b : Bool) → is_absolute t ≡ b → map std_text (cond b (Root ∷ [])
        (cond (starts_here (parts t)) (Here ∷ []) [])) ≡ cond b ((47 ∷ []) ∷ [])
        (cond (is_dot_at t 0) ((46 ∷ []) ∷ []) [])
    by_test true h = refl
    by_test false h = lone (starts_here (parts t)) ∙ ap (λ b. cond b ((46 ∷ []) ∷ []) []) (starts-dot t h)

pub components-std : (t : List ℕ) → map std_text (components_of t) ≡ path_components t
unfolding components_of path_components path_names
components-std t =
    map-append std_text (beginning t) (pieces (parts t))
    ∙ ap (λ xs. xs ++ map std_text (pieces (parts t))) (beginning-leading t)
    ∙ ap (λ ps. leading_components t ++ ps) (pieces-names (parts t) ∙ ap (filter is_name) (parts-pieces t))

-- ---- one path behind another
last_byte : (c : ℕ) (cs : List ℕ) → ends_in_slash (c ∷ cs) ≡ (slice_index (c ∷ cs) (length cs) == 47)
last_byte c [] = refl
last_byte c (d ∷ cs) = last_byte d cs

needs_none : (b : List ℕ) → (bytes_eq b [] || ends_in_slash b) ≡ (length b == 0 || slice_index b (length b - 1) == 47)
needs_none [] = refl
needs_none (c ∷ cs) =
    let behind : length cs ≡ length (c ∷ cs) - 1 = omega arith in
    last_byte c cs ∙ ap (λ n. slice_index (c ∷ cs) n == 47) behind
    ∙ ap (λ b. b || slice_index (c ∷ cs) (length (c ∷ cs) - 1) == 47) (sym (some_length (length cs)))

pub join-std : (b t : List ℕ) → join b t ≡ path_join b t
unfolding path_join
join-std b t = ap (λ s. cond (is_absolute t) t (cond s b (b ++ 47 ∷ []) ++ t)) (needs_none b)
