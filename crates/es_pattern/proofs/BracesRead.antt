-- Which texts of braces are bounds.
use Rattle.std.proofs.Common.{
  ◌≡◌,
  ℕ,
  ◌+◌,
  ◌-◌,
  ◌*◌,
  ◌<◌,
  Bool,
  true,
  false,
  cond,
  List,
  [],
  ◌∷◌,
  ◌++◌,
  inl,
  inr,
  length,
  get_or,
  take,
  drop,
  Option,
  Some,
  None,
  refl,
  sym,
  ap,
  subst,
  ◌∙◌,
  arith,
}
use Rattle.std.specs.Prelude.{◌==◌, ◌⊎◌, nat_lt, nat_le, position, option_map}
use Rattle.std.specs.List.{position_or_len, list_any}
use Rattle.std.proofs.lemmas.List.{
  take_at,
  drop_at,
  length-append,
  take-append-drop,
  drop_more,
  append_assoc,
  append-nil,
}
use Rattle.std.proofs.lemmas.List.Quantifiers.{position-Some}
use Rattle.std.proofs.lemmas.Option.{some_pair_parts, none-some}
use Rattle.std.proofs.lemmas.Bool.{false≢true, le-leb}
use Rattle.std.proofs.lemmas.Bool.Decides.{nat_tests}
use Rattle.es_pattern.specs.Escapes.{is_ascii_digit}
use Rattle.es_pattern.specs.Grammar.{number, number_from, Bounds, exactly, at_least, between, BeginsBraces}
use Rattle.es_pattern.specs.Reading.{bounds_of, bounds_by, second_bounds, pair_bounds, is_inner, may_be_comma}
use Rattle.es_pattern.proofs.Digits.{digit_only, digit_within}

abbrev AllDigits : List ℕ → Type 0
AllDigits [] = Unit {0}
AllDigits (c ∷ cs) = (is_ascii_digit c ≡ true) × AllDigits cs

-- digits and commas
abbrev pub AllInner : List ℕ → Type 0
AllInner [] = Unit {0}
AllInner (c ∷ cs) = ((is_ascii_digit c ≡ true) ⊎ (c ≡ 44)) × AllInner cs

pub inner-append : (xs ys : List ℕ) → AllInner xs → AllInner ys → AllInner (xs ++ ys)
inner-append [] ys hx hy = hy
inner-append (x ∷ xs) ys hx hy = (hx.0, inner-append xs ys hx.1 hy)

digits_inner : (ds : List ℕ) → AllDigits ds → AllInner ds
digits_inner [] h = tt
digits_inner (d ∷ ds) h = (inl h.0, digits_inner ds h.1)

digits_from : (value : ℕ) (ds : List ℕ) (n : ℕ) → number_from value ds ≡ Some n → AllDigits ds
digits_from value [] n h = tt
digits_from value (c ∷ ds) n h =
    let d = digit_only value c ds n h in (d.0, digits_from (value * 10 + (c - 48)) ds n d.1)

-- a number has digits, at least one
number_digits : (ds : List ℕ) (n : ℕ) → number ds ≡ Some n → AllDigits ds × (0 < length ds)
number_digits [] n h = cc
number_digits (c ∷ ds) n h = (digits_from 0 (c ∷ ds) n h, omega arith)

digit_no_comma : (c : ℕ) → is_ascii_digit c ≡ true → c == 44 ≡ false
digit_no_comma c h = grind (arith, nat_tests)

-- a digit or a comma is no `}`
pub inner_no_end : (y : ℕ) → (is_ascii_digit y ≡ true) ⊎ (y ≡ 44) → y ≡ 125 → ⊥
inner_no_end y (inl d) e = omega (arith, digit_within y d, e)
inner_no_end y (inr d) e = omega (arith, d, e)

-- the first comma
comma_after : (ds es : List ℕ) → AllDigits ds → position_or_len (λ c. c == 44) (ds ++ 44 ∷ es) ≡ length ds
comma_after [] es h = refl
comma_after (d ∷ ds) es h = rw (digit_no_comma d h.0) (omega (arith, comma_after ds es h.1))

no_comma : (ds : List ℕ) → AllDigits ds → position_or_len (λ c. c == 44) ds ≡ length ds
no_comma [] h = refl
no_comma (d ∷ ds) h = rw (digit_no_comma d h.0) (omega (arith, no_comma ds h.1))

at_comma : (ds es : List ℕ) → AllDigits ds → position (λ c. c == 44) (ds ++ 44 ∷ es) ≡ Some (length ds)
at_comma ds es h = rw (comma_after ds es h) (rw (below) refl)
  where
    below : nat_lt (length ds) (length (ds ++ 44 ∷ es)) ≡ true
    below = let lt : length ds < length (ds ++ 44 ∷ es) = omega (arith, length-append ds (44 ∷ es)) in
        grind (arith, nat_tests)

without_comma : (ds : List ℕ) → AllDigits ds → position (λ c. c == 44) ds ≡ None
without_comma ds h = rw (no_comma ds h) (rw (same) refl)
  where
    same : nat_lt (length ds) (length ds) ≡ false
    same = grind (arith, nat_tests)

seconds : (ds es : List ℕ) → AllDigits ds → bounds_of (ds ++ 44 ∷ es) ≡ second_bounds (number ds) es
seconds ds es h =
    ap (λ (o : Option ℕ). bounds_by o (ds ++ 44 ∷ es)) (at_comma ds es h)
    ∙ ap (λ (xs : List ℕ). second_bounds (number xs) (drop (length ds + 1) (ds ++ 44 ∷ es)))
    (take_at ds (44 ∷ es) (length ds) refl)
    ∙ ap (λ (xs : List ℕ). second_bounds (number ds) (drop (length ds + 1) xs)) (sym (append_assoc ds (44 ∷ []) es))
    ∙ ap (second_bounds (number ds)) (drop_at (ds ++ 44 ∷ []) es (length ds + 1)
    (omega (arith, length-append ds (44 ∷ []))))

abbrev exact : ℕ → ℕ × Option ℕ
exact k = (k, Some k)

abbrev two_sided : ℕ → ℕ → Option (ℕ × Option ℕ)
two_sided k l = Some (k, Some l)

abbrev unbounded : ℕ → ℕ × Option ℕ
unbounded k = (k, None)

-- bounds are read as they are
pub bounds_complete : (b : List ℕ) (n : ℕ) (m : Option ℕ) → Bounds b n m → bounds_of b ≡ Some (n, m)
bounds_complete b n m (exactly ds e) =
    ap (λ (o : Option ℕ). bounds_by o ds) (without_comma ds (number_digits ds n e).0) ∙ ap (option_map exact) e
bounds_complete b n m (at_least ds e) = seconds ds [] (number_digits ds n e).0 ∙ ap (option_map unbounded) e
bounds_complete b n m (between ds [] e f le) = cc f
bounds_complete b n m (between ds (c ∷ es) {m = k} e f le) =
    seconds ds (c ∷ es) (number_digits ds n e).0 ∙ ap (λ (o : Option ℕ). pair_bounds o (number (c ∷ es))) e
    ∙ ap (pair_bounds (Some n)) f ∙ ap (λ (b : Bool). cond b (Some (n, Some k)) None) (le-leb n k le)

pub bounds_inner : (b : List ℕ) (n : ℕ) (m : Option ℕ) → Bounds b n m → AllInner b
bounds_inner b n m (exactly ds e) = digits_inner ds (number_digits ds n e).0
bounds_inner b n m (at_least ds e) = inner-append ds (44 ∷ []) (digits_inner ds (number_digits ds n e).0) (inr refl, tt)
bounds_inner b n m (between ds es {m = k} e f le) =
    inner-append ds (44 ∷ es) (digits_inner ds (number_digits ds n e).0)
    (inr refl, digits_inner es (number_digits es k f).0)

-- what was read as bounds is bounds
pub bounds_sound : (text : List ℕ) (n : ℕ) (m : Option ℕ) → bounds_of text ≡ Some (n, m) → Bounds text n m
bounds_sound text n m h = by_place (position (λ c. c == 44) text) refl h
  where
    whole : (o : Option ℕ) → number text ≡ o → option_map exact o ≡ Some (n, m) → Bounds text n m
    whole None e g = cc
    whole (Some k) e g =
        let parts = some_pair_parts k n (Some k) m g in
        subst (λ (x : ℕ). Bounds text x m) parts.0 (subst (λ (x : Option ℕ). Bounds text k x) parts.1 (exactly text e))

    open_bound : (ds : List ℕ) (o : Option ℕ) → number ds ≡ o → option_map unbounded o ≡ Some (n, m)
        → Bounds (ds ++ 44 ∷ []) n m
    open_bound ds None e g = cc
    open_bound ds (Some k) e g =
        let parts = some_pair_parts k n None m g in
        subst (λ (x : ℕ). Bounds (ds ++ 44 ∷ []) x m) parts.0
        (subst (λ (x : Option ℕ). Bounds (ds ++ 44 ∷ []) k x) parts.1 (at_least ds e))

    ordered : (ds es : List ℕ) (k l : ℕ) (b : Bool) → nat_le k l ≡ b → number ds ≡ Some k → number es ≡ Some l
        → cond b (two_sided k l) None ≡ Some (n, m) → Bounds (ds ++ 44 ∷ es) n m
    ordered ds es k l true le e f g =
        let parts = some_pair_parts k n (Some l) m g in
        subst (λ (x : ℕ). Bounds (ds ++ 44 ∷ es) x m) parts.0
        (subst (λ (x : Option ℕ). Bounds (ds ++ 44 ∷ es) k x) parts.1
        (between ds es e f (grind (arith, nat_tests))))
    ordered ds es k l false le e f g = cc

    two : (ds es : List ℕ) (o p : Option ℕ) → number ds ≡ o → number es ≡ p → pair_bounds o p ≡ Some (n, m)
        → Bounds (ds ++ 44 ∷ es) n m
    two ds es None p e f g = cc
    two ds es (Some k) None e f g = cc
    two ds es (Some k) (Some l) e f g = ordered ds es k l (nat_le k l) refl e f g

    second : (ds es : List ℕ) → second_bounds (number ds) es ≡ Some (n, m) → Bounds (ds ++ 44 ∷ es) n m
    second ds [] g = open_bound ds (number ds) refl g
    second ds (c ∷ es) g = two ds (c ∷ es) (number ds) (number (c ∷ es)) refl refl g

    by_place : (o : Option ℕ) → position (λ c. c == 44) text ≡ o → bounds_by o text ≡ Some (n, m) → Bounds text n m
    by_place None e g = whole (number text) refl g
    by_place (Some k) e g =
        let at = position-Some (λ c. c == 44) text k 0 e in
        let comma : get_or text k 0 ≡ 44 = grind (arith, nat_tests) in
        let split : take k text ++ 44 ∷ drop (k + 1) text ≡ text =
        ap (λ (c : ℕ). take k text ++ c ∷ drop (k + 1) text) (sym comma)
        ∙ ap (λ (xs : List ℕ). take k text ++ xs) (sym (drop_more text k 0 at.0)) ∙ take-append-drop k text in
        subst (λ (xs : List ℕ). Bounds xs n m) split (second (take k text) (drop (k + 1) text) g)

-- where a list of digits and commas goes on with something else, and another ends in `}`
compared : (bs b : List ℕ) (c : ℕ) (w rest : List ℕ) → AllInner bs → bs ++ c ∷ w ≡ b ++ 125 ∷ rest
    → ((b ≡ bs) × (c ≡ 125)) ⊎ ((more : List ℕ) × (b ≡ bs ++ c ∷ more))
compared [] [] c w rest h e = inl (refl, cc)
compared [] (x ∷ b) c w rest h e = inr (b, let same : x ≡ c = cc in ap (λ (y : ℕ). y ∷ b) same)
compared (y ∷ bs) [] c w rest h e = absurd (inner_no_end y h.0 (cc))
compared (y ∷ bs) (x ∷ b) c w rest h e = by_cases (compared bs b c w rest h.1 cc)
  where
    heads : x ≡ y
    heads = cc

    by_cases : ((b ≡ bs) × (c ≡ 125)) ⊎ ((more : List ℕ) × (b ≡ bs ++ c ∷ more)) → ((x ∷ b ≡ y ∷ bs) × (c ≡ 125))
        ⊎ ((more : List ℕ) × (x ∷ b ≡ y ∷ bs ++ c ∷ more))
    by_cases (inl s) = inl (cc (heads, s.0), s.1)
    by_cases (inr s) = inr (s.0, cc (heads, s.1))

digit_in : (ds : List ℕ) (bs : List ℕ) (c : ℕ) (more : List ℕ) → AllDigits ds → ds ≡ bs ++ c ∷ more
    → is_ascii_digit c ≡ true
digit_in [] [] c more h e = cc
digit_in [] (y ∷ bs) c more h e = cc
digit_in (d ∷ ds) [] c more h e = let same : d ≡ c = cc in subst (λ (x : ℕ). is_ascii_digit x ≡ true) same h.0
digit_in (d ∷ ds) (y ∷ bs) c more h e = digit_in ds bs c more h.1 cc

-- a character in two runs of digits with a comma between them is a digit, or the comma
comma_or_digit : (ds es bs : List ℕ) (c : ℕ) (more : List ℕ) → AllDigits ds → AllDigits es → ds ++ 44 ∷ es ≡ bs
    ++ c ∷ more → (is_ascii_digit c ≡ true) ⊎ ((c ≡ 44) × (bs ≡ ds))
comma_or_digit [] es [] c more hd he e = inr (cc, refl)
comma_or_digit [] es (y ∷ bs) c more hd he e = inl (digit_in es bs c more he cc)
comma_or_digit (d ∷ ds) es [] c more hd he e =
    inl (let same : d ≡ c = cc in subst (λ (x : ℕ). is_ascii_digit x ≡ true) same hd.0)
comma_or_digit (d ∷ ds) es (y ∷ bs) c more hd he e = by_cases (comma_or_digit ds es bs c more hd.1 he cc)
  where
    heads : d ≡ y
    heads = cc

    by_cases : (is_ascii_digit c ≡ true) ⊎ ((c ≡ 44) × (bs ≡ ds)) → (is_ascii_digit c ≡ true)
        ⊎ ((c ≡ 44) × (y ∷ bs ≡ d ∷ ds))
    by_cases (inl h) = inl h
    by_cases (inr h) = inr (h.0, cc (heads, h.1))

no_commas : (ds : List ℕ) → AllDigits ds → list_any (λ x. x == 44) ds ≡ false
no_commas [] h = refl
no_commas (d ∷ ds) h = rw (digit_no_comma d h.0) (no_commas ds h.1)

comma_allowed : (ds : List ℕ) → AllDigits ds → 0 < length ds → may_be_comma ds ≡ true
comma_allowed [] h lt = absurd (omega (arith, lt))
comma_allowed (d ∷ ds) h lt = rw (some_length, no_commas (d ∷ ds) h) refl
  where
    some_length : length (d ∷ ds) == 0 ≡ false
    some_length = let lt : 0 < length (d ∷ ds) = omega arith in grind (arith, nat_tests)

allowed : (bs ds : List ℕ) (c : ℕ) → AllDigits ds → 0 < length ds → (is_ascii_digit c ≡ true) ⊎ ((c ≡ 44) × (bs ≡ ds))
    → is_inner bs c ≡ true
allowed bs ds c h lt (inl d) = rw d refl
allowed bs ds c h lt (inr g) = subst (λ (x : ℕ). is_inner bs x ≡ true) (sym g.0)
    (subst (λ (x : List ℕ). may_be_comma x ≡ true) (sym g.1) (comma_allowed ds h lt))

pub goes_on : (b bs : List ℕ) (c : ℕ) (more : List ℕ) (n : ℕ) (m : Option ℕ) → Bounds b n m → b ≡ bs ++ c ∷ more
    → is_inner bs c ≡ true
goes_on b bs c more n m (exactly ds f) e = rw (digit_in ds bs c more (number_digits ds n f).0 e) refl
goes_on b bs c more n m (at_least ds f) e =
    let d = number_digits ds n f in allowed bs ds c d.0 d.1 (comma_or_digit ds [] bs c more d.0 tt e)
goes_on b bs c more n m (between ds es {m = k} f g le) e =
    let d =
    number_digits ds n f in allowed bs ds c d.0 d.1 (comma_or_digit ds es bs c more d.0 (number_digits es k g).0 e)

-- braces that can't go on so, and that don't end here as bounds, are no quantifier
pub breaks : (bs : List ℕ) (c : ℕ) (w : List ℕ) → AllInner bs → is_inner bs c ≡ false → (c ≡ 125 → bounds_of bs ≡ None)
    → BeginsBraces (123 ∷ (bs ++ c ∷ w)) → ⊥
breaks bs c w h out none (b, rest, n, m, bounds, e) = by_cases (compared bs b c w rest h cc)
  where
    by_cases : ((b ≡ bs) × (c ≡ 125)) ⊎ ((more : List ℕ) × (b ≡ bs ++ c ∷ more)) → ⊥
    by_cases (inl s) =
        none-some (n, m) (sym (none s.1) ∙ bounds_complete bs n m (subst (λ (x : List ℕ). Bounds x n m) s.0 bounds))
    by_cases (inr s) = false≢true (sym out ∙ goes_on b bs c s.0 n m bounds s.1)

-- no quantifier stands in braces where the text ends before `}`
ends_short : (bs b rest : List ℕ) → AllInner bs → bs ≡ b ++ 125 ∷ rest → ⊥
ends_short [] [] rest h e = cc
ends_short [] (x ∷ b) rest h e = cc
ends_short (y ∷ bs) [] rest h e = inner_no_end y h.0 cc
ends_short (y ∷ bs) (x ∷ b) rest h e = ends_short bs b rest h.1 cc

pub breaks_at_end : (bs : List ℕ) → AllInner bs → BeginsBraces (123 ∷ (bs ++ [])) → ⊥
breaks_at_end bs h (b, rest, n, m, bounds, e) =
    let tails : bs ++ [] ≡ b ++ 125 ∷ rest = cc in
    ends_short bs b rest h (sym (append-nil bs) ∙ tails)
