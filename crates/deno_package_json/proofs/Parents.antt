-- The parent of a path that is text is text.
use Rattle.std.proofs.Common.{
  ◌≡◌,
  ◌<◌,
  ℕ,
  zero,
  suc,
  lit<,
  Bool,
  true,
  false,
  cond,
  List,
  [],
  ◌∷◌,
  ◌++◌,
  length,
  get_or,
  Some,
  refl,
  sym,
  ap,
  subst,
  ◌∙◌,
  arith,
  length-append,
  append_assoc,
}
use Rattle.std.proofs.Math.Seq.{take-append_seam}
use Rattle.std.proofs.lemmas.Str.{IsUtf8-take, IsCharBoundary-before_ascii, IsUtf8-nil, IsUtf8-from_ascii}
use Rattle.std.proofs.lemmas.List.Splits.{join_with_byte-slice_split}
use Rattle.std.specs.Prelude.{◌&&◌, IsUtf8}
use Rattle.std.specs.List.{join_with_byte}
use Rattle.sugar_path.specs.Parent.{
  but_last,
  is_nil,
  is_silent,
  or_slash,
  parent_by,
  parent_of,
  parent_of_parts,
  trimmed,
}
use Rattle.sugar_path.specs.Path.{parts}

get_or-seam : (p q : List ℕ) → get_or (p ++ 47 ∷ q) (length p) 0 ≡ 47
get_or-seam [] q = refl
get_or-seam (c ∷ p) q = get_or-seam p q

IsUtf8-front : (p q : List ℕ) → IsUtf8 (p ++ 47 ∷ q) → IsUtf8 p
IsUtf8-front p q utf8 =
    let whole = p ++ 47 ∷ q in
    let within : length p < length whole = omega (arith, length-append p (47 ∷ q)) in
    let ascii : get_or whole (length p) 0 < 128 = omega (arith, get_or-seam p q) in
    subst IsUtf8 (take-append_seam p (47 ∷ q)) (IsUtf8-take whole (length p) utf8
    (IsCharBoundary-before_ascii whole (length p) within ascii))

-- parts as far as the last component, and the others
trimmed-front : (xs : List (List ℕ)) → (zs : List (List ℕ)) × (xs ≡ trimmed xs ++ zs)
trimmed-front [] = ([], refl)
trimmed-front (x ∷ xs) = by_test (is_nil (trimmed xs) && is_silent x) (trimmed-front xs)
  where
    by_test : (b : Bool) → (zs : List (List ℕ)) × (xs ≡ trimmed xs ++ zs) → (zs : List (List ℕ))
        × (x ∷ xs ≡ cond b [] (x ∷ trimmed xs) ++ zs)
    by_test true rest = (x ∷ xs, refl)
    by_test false rest = (rest.0, ap (λ l. x ∷ l) rest.1)

but_last-front : (x : List ℕ) (xs : List (List ℕ)) → (last : List ℕ) × (x ∷ xs ≡ but_last (x ∷ xs) ++ last ∷ [])
but_last-front x [] = (x, refl)
but_last-front x (y ∷ ys) = let rest = but_last-front y ys in (rest.0, ap (λ l. x ∷ l) rest.1)

join-seam : (x : List ℕ) (xs : List (List ℕ)) (y : List ℕ) (ys : List (List ℕ))
    → join_with_byte 47 (x ∷ (xs ++ y ∷ ys)) ≡ join_with_byte 47 (x ∷ xs) ++ 47 ∷ join_with_byte 47 (y ∷ ys)
join-seam x [] y ys = refl
join-seam x (z ∷ zs) y ys = ap (λ l. x ++ 47 ∷ l) (join-seam z zs y ys)
    ∙ sym (append_assoc x (47 ∷ join_with_byte 47 (z ∷ zs)) (47 ∷ join_with_byte 47 (y ∷ ys)))

-- the parts that a parent keeps, and one or more others
kept : (rest : List (List ℕ)) (x : List ℕ) (xs : List (List ℕ)) → trimmed rest ≡ x ∷ xs → (y : List ℕ)
    × (ys : List (List ℕ)) × (rest ≡ trimmed (but_last (x ∷ xs)) ++ y ∷ ys)
kept rest x xs e =
    let tail = trimmed-front rest in
    let last = but_last-front x xs in
    let silent = trimmed-front (but_last (x ∷ xs)) in
    let front = trimmed (but_last (x ∷ xs)) in
    let whole : rest ≡ ((front ++ silent.0) ++ last.0 ∷ []) ++ tail.0 =
    tail.1 ∙ ap (λ l. l ++ tail.0) (e ∙ last.1 ∙ ap (λ l. l ++ last.0 ∷ []) silent.1) in
    by_silent silent.0 last.0 tail.0 (whole ∙ append_assoc (front ++ silent.0) (last.0 ∷ []) tail.0
    ∙ append_assoc front silent.0 (last.0 ∷ tail.0))
  where
    by_silent : (zs : List (List ℕ)) (l : List ℕ) (ts : List (List ℕ)) → rest ≡ trimmed (but_last (x ∷ xs))
        ++ (zs ++ l ∷ ts) → (y : List ℕ) × (ys : List (List ℕ)) × (rest ≡ trimmed (but_last (x ∷ xs)) ++ y ∷ ys)
    by_silent [] l ts e = (l, ts, e)
    by_silent (z ∷ zs) l ts e = (z, zs ++ l ∷ ts, e)

slash_ascii : (i : ℕ) → get_or (47 ∷ []) i 0 < 128
slash_ascii zero = lit< tt
slash_ascii (suc i) = lit< tt

slash_utf8 : IsUtf8 (47 ∷ [])
slash_utf8 = IsUtf8-from_ascii (47 ∷ []) slash_ascii

or_slash-utf8 : (p : List ℕ) → IsUtf8 p → IsUtf8 (or_slash p)
or_slash-utf8 [] h = slash_utf8
or_slash-utf8 (c ∷ p) h = h

by_first : (first : List ℕ) (rest q : List (List ℕ)) (p : List ℕ) → trimmed rest ≡ q
    → IsUtf8 (join_with_byte 47 (first ∷ rest)) → parent_by first q ≡ Some p → IsUtf8 p
by_first [] rest [] p trim utf8 e = cc
by_first (c ∷ first) rest [] p trim utf8 e = let nil : [] ≡ p = cc in subst IsUtf8 nil IsUtf8-nil
by_first first rest (x ∷ xs) p trim utf8 e =
    let w = kept rest x xs trim in
    let front = join_with_byte 47 (first ∷ trimmed (but_last (x ∷ xs))) in
    let text = subst IsUtf8 (ap (λ l. join_with_byte 47 (first ∷ l)) w.2
    ∙ join-seam first (trimmed (but_last (x ∷ xs))) w.0 w.1) utf8 in
    let is : or_slash front ≡ p = cc in
    subst IsUtf8 is (or_slash-utf8 front (IsUtf8-front front (join_with_byte 47 (w.0 ∷ w.1)) text))

by_parts : (t : List ℕ) (ps : List (List ℕ)) (p : List ℕ) → parts t ≡ ps → IsUtf8 t → parent_of_parts ps ≡ Some p
    → IsUtf8 p
by_parts t [] p e utf8 is = cc
by_parts t (first ∷ rest) p e utf8 is = by_first first rest (trimmed rest) p refl
    (subst IsUtf8 (sym (join_with_byte-slice_split 47 t) ∙ ap (join_with_byte 47) e) utf8) is

pub IsUtf8-parent_of : (t p : List ℕ) → IsUtf8 t → parent_of t ≡ Some p → IsUtf8 p
unfolding parent_of
IsUtf8-parent_of t p utf8 e = by_parts t (parts t) p refl utf8 e
