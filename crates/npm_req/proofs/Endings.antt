-- What a reader leaves of a text is the text's end, and a character begins there.
use Rattle.std.proofs.Common.{
  ◌≡◌,
  ◌<◌,
  ◌==◌,
  ◌≢◌,
  ◌⊎◌,
  ℕ,
  zero,
  suc,
  Bool,
  true,
  false,
  cond,
  List,
  [],
  ◌∷◌,
  ◌++◌,
  length,
  length-append,
  refl,
  sym,
  ap,
  ◌∙◌,
  append_assoc,
  Option,
  Some,
  None,
  subst,
  arith,
  inl,
  inr,
}
use Rattle.std.specs.Prelude.{unwrap_or, option_and_then, option_map}
use Rattle.std.specs.Str.{IsAscii, IsCharBoundary}
use Rattle.std.proofs.lemmas.Bool.Decides.{eqb_tells}
use Rattle.std.proofs.lemmas.Str.{IsCharBoundary-at_seam, IsUtf8-append, IsUtf8-from_ascii}
use Rattle.std.proofs.lemmas.Str.Ascii.{IsAscii-nil}
use Rattle.sugar_path.specs.Front.{after}
use Rattle.npm_req.specs.Front.{IsEndOf, after_all, before_all, is_blank, is_space, trimmed}
use Rattle.npm_req.specs.Part.{IsInText, after_sign, behind, operator_of, or_equal}
use Rattle.npm_req.specs.Range.{after_hyphen}
use Rattle.npm_req.specs.Requirement.{place_of}
use Rattle.npm_req.specs.Word.{after_bars, after_word, ends_part}
use Rattle.npm_req.specs.declared.comparator.Operator.{Operator}
use Rattle.npm_req.specs.declared.comparator.Operator.TheVariants as op
use Rattle.npm_req.specs.declared.error.Refusal.{Refusal}
use Rattle.npm_req.specs.declared.error.Refusal.TheVariants.{Unexpected, NoMemory}

pub end_itself : (t : List ℕ) → IsEndOf t t
end_itself t = ([], refl)

pub end_of_end : (r s t : List ℕ) → IsEndOf r s → IsEndOf s t → IsEndOf r t
end_of_end r s t inner outer =
    (outer.0 ++ inner.0, outer.1 ∙ ap (λ x. outer.0 ++ x) inner.1 ∙ sym (append_assoc outer.0 inner.0 r))

end_of_byte : (b : ℕ) (t r : List ℕ) → after (b ∷ []) t ≡ Some r → IsEndOf r t
unfolding after
end_of_byte b [] r e = cc
end_of_byte b (c ∷ cs) r e = by_test (c == b) e
  where
    by_test : (y : Bool) → cond y (Some cs) None ≡ Some r → IsEndOf r (c ∷ cs)
    by_test true e = (c ∷ [], ap (λ x. c ∷ x) (let same : cs ≡ r = cc in same))
    by_test false e = cc

pub end_of_all : (passes : ℕ → Bool) (t : List ℕ) → IsEndOf (after_all passes t) t
end_of_all passes [] = ([], refl)
end_of_all passes (c ∷ cs) = by_test (passes c) (end_of_all passes cs)
  where
    by_test : (y : Bool) → IsEndOf (after_all passes cs) cs → IsEndOf (cond y (after_all passes cs) (c ∷ cs)) (c ∷ cs)
    by_test true rest = (c ∷ rest.0, ap (λ x. c ∷ x) rest.1)
    by_test false rest = ([], refl)

pub end_of_word : (t : List ℕ) → IsEndOf (after_word t) t
end_of_word [] = ([], refl)
end_of_word (c ∷ cs) = by_test (ends_part (c ∷ cs)) (end_of_word cs)
  where
    by_test : (y : Bool) → IsEndOf (after_word cs) cs → IsEndOf (cond y (c ∷ cs) (after_word cs)) (c ∷ cs)
    by_test true rest = ([], refl)
    by_test false rest = (c ∷ rest.0, ap (λ x. c ∷ x) rest.1)

end_of_maybe : (b : ℕ) (t : List ℕ) → IsEndOf (unwrap_or (after (b ∷ []) t) t) t
end_of_maybe b t = by_found (after (b ∷ []) t) (end_of_byte b t)
  where
    by_found : (o : Option (List ℕ)) → ((r : List ℕ) → o ≡ Some r → IsEndOf r t) → IsEndOf (unwrap_or o t) t
    by_found None h = ([], refl)
    by_found (Some r) h = h r refl

end_of_or_equal : (one two : Operator) (t : List ℕ) → IsEndOf (or_equal one two t).1 t
end_of_or_equal one two t = by_found (after (61 ∷ []) t) (end_of_byte 61 t)
  where
    by_found : (o : Option (List ℕ)) → ((r : List ℕ) → o ≡ Some r → IsEndOf r t)
        → IsEndOf (behind {A = Operator × List ℕ} o (λ rest. (two, rest)) (one, t)).1 t
    by_found None h = ([], refl)
    by_found (Some r) h = h r refl

-- a mark in front, or what is read without it
end_of_behind : (b : ℕ) (t : List ℕ) (found : List ℕ → Operator × List ℕ) (other : Operator × List ℕ)
    → ((r : List ℕ) → IsEndOf (found r).1 r) → IsEndOf other.1 t → IsEndOf (behind (after (b ∷ []) t) found other).1 t
end_of_behind b t found other h k = by_found (after (b ∷ []) t) (end_of_byte b t)
  where
    by_found : (o : Option (List ℕ)) → ((r : List ℕ) → o ≡ Some r → IsEndOf r t) → IsEndOf (behind o found other).1 t
    by_found None e = k
    by_found (Some r) e = end_of_end (found r).1 r t (h r) (e r refl)

end_of_operator : (t : List ℕ) → IsEndOf (operator_of t).1 t
end_of_operator t =
    end_of_behind 94 t (λ rest. (op.Caret, rest)) _ end_itself
    (end_of_behind 126 t (λ rest. (op.Tilde, unwrap_or (after (62 ∷ []) rest) rest)) _ (end_of_maybe 62)
    (end_of_behind 62 t (or_equal op.Above op.AtLeast) _ (end_of_or_equal op.Above op.AtLeast)
    (end_of_behind 60 t (or_equal op.Below op.AtMost) _ (end_of_or_equal op.Below op.AtMost) (end_of_maybe 61 t))))

end_of_sign : (t : List ℕ) → IsEndOf (after_sign t) t
end_of_sign t =
    end_of_end (after_sign t) (after_all is_space t) t (end_of_maybe 118 (after_all is_space t)) (end_of_all is_space t)

-- what follows the partial version of a part
pub end_of_part : (t : List ℕ) → IsEndOf (after_word (after_sign (operator_of t).1)) t
end_of_part t =
    let rest = (operator_of t).1 in
    end_of_end (after_word (after_sign rest)) (after_sign rest) t (end_of_word (after_sign rest))
    (end_of_end (after_sign rest) rest t (end_of_sign rest) (end_of_operator t))

-- two marks, one after the other
end_of_both : (a b : ℕ) (t r : List ℕ) → option_and_then (after (b ∷ [])) (after (a ∷ []) t) ≡ Some r → IsEndOf r t
end_of_both a b t r e = by_found (after (a ∷ []) t) (end_of_byte a t) e
  where
    by_found : (o : Option (List ℕ)) → ((s : List ℕ) → o ≡ Some s → IsEndOf s t)
        → option_and_then (after (b ∷ [])) o ≡ Some r → IsEndOf r t
    by_found None h e = cc
    by_found (Some s) h e = end_of_end r s t (end_of_byte b s r e) (h s refl)

pub end_of_bars : (t r : List ℕ) → after_bars t ≡ Some r → IsEndOf r t
end_of_bars t r e = end_of_both 124 124 t r e

end_of_hyphen : (t r : List ℕ) → after_hyphen t ≡ Some r → IsEndOf r t
end_of_hyphen t r e = by_found (option_and_then (after (32 ∷ [])) (after (45 ∷ []) (after_all is_space t)))
    (end_of_both 45 32 (after_all is_space t)) e
  where
    by_found : (o : Option (List ℕ)) → ((s : List ℕ) → o ≡ Some s → IsEndOf s (after_all is_space t))
        → option_map (after_all is_space) o ≡ Some r → IsEndOf r t
    by_found None h e = cc
    by_found (Some s) h e =
        let same : after_all is_space s ≡ r = cc in
        let End : List ℕ → Type 0 = λ x. IsEndOf x t in
        subst End same (end_of_end (after_all is_space s) s t (end_of_all is_space s)
        (end_of_end s (after_all is_space t) t (h s refl) (end_of_all is_space t)))

-- where the second partial version of a form with `-` begins
pub end_of_second : (t second : List ℕ) → after_hyphen (after_word (after_all is_space t)) ≡ Some second
    → IsEndOf second t
end_of_second t second e =
    let from = after_all is_space t in
    end_of_end second (after_word from) t (end_of_hyphen (after_word from) second e)
    (end_of_end (after_word from) from t (end_of_word from) (end_of_all is_space t))

-- a refusal in the end of a text is one in the text
pub refused_in_end : (s t : List ℕ) (e : Refusal) → IsEndOf s t → IsInText s e → IsInText t e
refused_in_end s t NoMemory ends h = h
refused_in_end s t (Unexpected left) ends (rest, h) = (rest, (h.0, h.1, end_of_end rest s t h.2 ends))

-- the blanks at the end of a text
front_of_blanks : (t : List ℕ) → (bs : List ℕ) × (IsAscii bs × (t ≡ before_all is_blank t ++ bs))
front_of_blanks [] = ([], (IsAscii-nil, refl))
front_of_blanks (c ∷ cs) = by_tests (before_all is_blank cs) (front_of_blanks cs) (eqb_tells c 32) (eqb_tells c 9)
  where
    ascii_more : (bs : List ℕ) → IsAscii bs → c < 128 → IsAscii (c ∷ bs)
    ascii_more bs h small zero = small
    ascii_more bs h small (suc i) = h i

    by_tests : (front : List ℕ) → ((bs : List ℕ) × (IsAscii bs × (cs ≡ front ++ bs))) → ((c == 32) ≡ true) × (c ≡ 32)
        ⊎ ((c == 32) ≡ false) × (c ≢ 32) → ((c == 9) ≡ true) × (c ≡ 9) ⊎ ((c == 9) ≡ false) × (c ≢ 9) → (bs : List ℕ)
        × (IsAscii bs × (c ∷ cs ≡ (elim front as (λ x. List ℕ)
        [ [] ↦ cond (is_blank c) [] (c ∷ []) | d ∷ ds ↦ c ∷ d ∷ ds ]) ++ bs))
    by_tests (d ∷ ds) (bs, h) w v = (bs, (h.0, ap (λ x. c ∷ x) h.1))
    by_tests [] (bs, h) (inl w) v = rw w.0 (c ∷ bs, (ascii_more bs h.0 (omega arith), ap (λ x. c ∷ x) h.1))
    by_tests [] (bs, h) (inr w) (inl v) = rw (w.0, v.0) (c ∷ bs, (ascii_more bs h.0 (omega arith), ap (λ x. c ∷ x) h.1))
    by_tests [] (bs, h) (inr w) (inr v) = rw (w.0, v.0) (bs, (h.0, ap (λ x. c ∷ x) h.1))

-- a character begins at the place of a refusal in a trimmed text
pub boundary_of_place : (text : List ℕ) (left : ℕ) → IsInText (trimmed text) (Unexpected left)
    → IsCharBoundary text (place_of text left)
boundary_of_place text left (rest, h) =
    let outer = end_of_all is_blank text in
    let blanks = front_of_blanks (after_all is_blank text) in
    let inner = h.2 in
    let whole : text ≡ (outer.0 ++ inner.0) ++ (rest ++ blanks.0) =
    outer.1 ∙ ap (λ x. outer.0 ++ x) (blanks.1.1 ∙ ap (λ x. x ++ blanks.0) inner.1 ∙ append_assoc inner.0 rest blanks.0)
    ∙ sym (append_assoc outer.0 inner.0 (rest ++ blanks.0)) in
    let seam = IsCharBoundary-at_seam text (outer.0 ++ inner.0) (rest ++ blanks.0) whole
    (IsUtf8-append rest blanks.0 h.1 (IsUtf8-from_ascii blanks.0 blanks.1.0)) in
    let long = ap length outer.1 ∙ length-append outer.0 (after_all is_blank text) in
    let short = ap length inner.1 ∙ length-append inner.0 rest in
    let same : length (outer.0 ++ inner.0) ≡ place_of text left =
    omega (arith, length-append outer.0 inner.0, long, short, h.0) in
    let Boundary : ℕ → Type 0 = λ i. IsCharBoundary text i in
    subst Boundary same seam
