-- How the parts of an alternative and the alternatives of a range are read, one after the other.
use Rattle.std.proofs.Common.{
  ◌≡◌,
  ◌<◌,
  ◌≤◌,
  ℕ,
  zero,
  suc,
  true,
  false,
  List,
  [],
  ◌∷◌,
  ◌++◌,
  length,
  refl,
  sym,
  ap,
  ◌∙◌,
  append-nil,
  append_assoc,
  Some,
  None,
  Result,
  Ok,
  Err,
  arith,
}
use Rattle.npm_req.specs.Front.{after_all, is_space}
use Rattle.npm_req.specs.Part.{Reading, part}
use Rattle.npm_req.specs.Range.{◌>>=◌, alternative, alternatives, parts_of}
use Rattle.npm_req.specs.Word.{after_bars, ends_alternative}
use Rattle.npm_req.specs.declared.comparator.Comparator.{Comparator}

abbrev pub behind_parts : List Comparator → Reading (List Comparator) → Reading (List Comparator)
behind_parts made read = read >>= λ r. Ok (made ++ r.0, r.1)

-- the whole is what was made of the parts so far, and what is read of the rest
abbrev pub IsRestOfParts : List Comparator → List ℕ → Reading (List Comparator) → Type 0
IsRestOfParts made rest whole = (n : ℕ) × ((length rest ≤ n) × (behind_parts made (parts_of n rest) ≡ whole))

behind_none : (read : Reading (List Comparator)) → behind_parts [] read ≡ read
behind_none (Ok r) = refl
behind_none (Err left) = refl

pub first_of_parts : (t : List ℕ) → IsRestOfParts [] t (parts_of (length t) t)
first_of_parts t = (length t, (omega arith, behind_none (parts_of (length t) t)))

pub end_of_parts : (made : List Comparator) (t : List ℕ) (whole : Reading (List Comparator)) → ends_alternative t ≡ true
    → IsRestOfParts made t whole → whole ≡ Ok (made, t)
end_of_parts made t whole h (zero, (small, e)) = sym e ∙ ap (λ cs. Ok (cs, t)) (append-nil made)
end_of_parts made t whole h (suc n, (small, e)) = sym e ∙ rw h (ap (λ cs. Ok (cs, t)) (append-nil made))

behind_more : (made cs : List Comparator) (read : Reading (List Comparator))
    → behind_parts made (read >>= λ others. Ok (cs ++ others.0, others.1)) ≡ behind_parts (made ++ cs) read
behind_more made cs (Ok r) = ap (λ all. Ok (all, r.1)) (sym (append_assoc made cs r.0))
behind_more made cs (Err left) = refl

pub next_of_parts : (made cs : List Comparator) (t behind : List ℕ) (whole : Reading (List Comparator))
    → ends_alternative t ≡ false → part t ≡ Ok (cs, behind) → length (after_all is_space behind) < length t
    → IsRestOfParts made t whole → IsRestOfParts (made ++ cs) (after_all is_space behind) whole
next_of_parts made cs t behind whole h read shorter (zero, (small, e)) = absurd (omega arith)
next_of_parts made cs t behind whole h read shorter (suc n, (small, e)) =
    (n, (omega arith, sym (behind_more made cs (parts_of n (after_all is_space behind))) ∙ (rw (h, read) at e)))

pub refused_part : (made : List Comparator) (t : List ℕ) (left : ℕ) (whole : Reading (List Comparator))
    → ends_alternative t ≡ false → part t ≡ Err left → IsRestOfParts made t whole → whole ≡ Err left
refused_part made [] left whole h read rest = cc
refused_part made (c ∷ cs) left whole h read (zero, (small, e)) = absurd (omega arith)
refused_part made (c ∷ cs) left whole h read (suc n, (small, e)) = sym (rw (h, read) at e)

abbrev pub behind_alternatives : List (List Comparator) → Result (List (List Comparator)) ℕ
    → Result (List (List Comparator)) ℕ
behind_alternatives made read = read >>= λ others. Ok (made ++ others)

-- the whole is the alternatives so far, and what is read of the rest
abbrev pub IsRestOfRange : List (List Comparator) → List ℕ → Result (List (List Comparator)) ℕ → Type 0
IsRestOfRange made rest whole = (n : ℕ) × ((length rest ≤ n) × (behind_alternatives made (alternatives n rest) ≡ whole))

behind_no_alternative : (read : Result (List (List Comparator)) ℕ) → behind_alternatives [] read ≡ read
behind_no_alternative (Ok r) = refl
behind_no_alternative (Err left) = refl

pub first_of_range : (t : List ℕ) → IsRestOfRange [] t (alternatives (length t) t)
first_of_range t = (length t, (omega arith, behind_no_alternative (alternatives (length t) t)))

pub end_of_range : (made : List (List Comparator)) (cs : List Comparator) (t behind : List ℕ)
    (whole : Result (List (List Comparator)) ℕ) → alternative t ≡ Ok (cs, behind) → after_bars behind ≡ None
    → IsRestOfRange made t whole → whole ≡ Ok (made ++ cs ∷ [])
end_of_range made cs t behind whole read none (zero, (small, e)) = sym (rw read at e)
end_of_range made cs t behind whole read none (suc n, (small, e)) = sym (rw (read, none) at e)

behind_one_more : (made : List (List Comparator)) (cs : List Comparator) (read : Result (List (List Comparator)) ℕ)
    → behind_alternatives made (read >>= λ others. Ok (cs ∷ others)) ≡ behind_alternatives (made ++ cs ∷ []) read
behind_one_more made cs (Ok others) = ap (λ all. Ok all) (sym (append_assoc made (cs ∷ []) others))
behind_one_more made cs (Err left) = refl

pub next_of_range : (made : List (List Comparator)) (cs : List Comparator) (t behind next : List ℕ)
    (whole : Result (List (List Comparator)) ℕ) → alternative t ≡ Ok (cs, behind) → after_bars behind ≡ Some next
    → length next < length t → IsRestOfRange made t whole → IsRestOfRange (made ++ cs ∷ []) next whole
next_of_range made cs t behind next whole read some shorter (zero, (small, e)) = absurd (omega arith)
next_of_range made cs t behind next whole read some shorter (suc n, (small, e)) =
    (n, (omega arith, sym (behind_one_more made cs (alternatives n next)) ∙ (rw (read, some) at e)))

pub refused_alternative : (made : List (List Comparator)) (t : List ℕ) (left : ℕ)
    (whole : Result (List (List Comparator)) ℕ) → alternative t ≡ Err left → IsRestOfRange made t whole
    → whole ≡ Err left
refused_alternative made t left whole read (zero, (small, e)) = sym (rw read at e)
refused_alternative made t left whole read (suc n, (small, e)) = sym (rw read at e)
