-- Versions are read exactly where the grammar has them.
use Rattle.std.proofs.Common.{
  ◌≡◌,
  ◌≢◌,
  ◌<◌,
  ◌==◌,
  ◌⊎◌,
  inl,
  inr,
  ℕ,
  Bool,
  true,
  false,
  not,
  cond,
  List,
  [],
  ◌∷◌,
  ◌++◌,
  length,
  refl,
  sym,
  ap,
  ◌∙◌,
  subst,
  Some,
  None,
  Result,
  Ok,
  Err,
  arith,
  append_assoc,
}
use Rattle.std.specs.Prelude.{◌&&◌, ◌||◌, codes, nat_lt}
use Rattle.std.specs.Char.{digit_value}
use Rattle.std.specs.Fmt.{decimal}
use Rattle.std.specs.List.{join_with_byte, list_all}
use Rattle.std.specs.Str.Parse.{AllDigits, IsNumeral}
use Rattle.std.proofs.lemmas.Bool.Decides.{eqb_tells}
use Rattle.std.proofs.lemmas.Fmt.{decimal_is_IsNumeral}
use Rattle.std.proofs.lemmas.List.Folds.{list_all-append}
use Rattle.std.proofs.lemmas.List.Splits.{join_with_byte-slice_split}
use Rattle.semver.specs.Grammar.{
  IsValid,
  has_leading_zero,
  is_build,
  is_build_identifier,
  is_identifier_byte,
  is_pre_identifier,
  is_pre_release,
}
use Rattle.semver.specs.Identifiers.{marked, parts_text}
use Rattle.semver.specs.Order.{is_numeric, parts}
use Rattle.semver.specs.Parse.{Parts, version_parts}
use Rattle.semver.specs.declared.error.Error.{Error}
use Rattle.semver.proofs.Grammar.{version_parts-complete, version_parts-sound}
use Rattle.npm_req.specs.Front.{after_all, before_all, is_blank, trimmed}
use Rattle.npm_req.specs.Grammar.{AreBlanks, IsSemver, IsSign, IsVersion, SemversAgree, VersionsAgree}
use Rattle.npm_req.specs.Version.{are_numbers, semver_of, version_of, within_numbers, without_sign}

-- ---- texts of Semantic Versioning

abbrev read_parts : Parts → Result Parts Error
read_parts p = Ok p

within : (read : Result Parts Error) (p : Parts) → within_numbers read ≡ Some p → (read ≡ read_parts p)
    × (are_numbers p ≡ true)
within (Err e) p h = cc
within (Ok q) p h = by_test (are_numbers q) refl h
  where
    by_test : (b : Bool) → are_numbers q ≡ b → cond b (Some q) None ≡ Some p → (read_parts q ≡ read_parts p)
        × (are_numbers p ≡ true)
    by_test true e h = let same : q ≡ p = cc in (
      subst (λ (x : Parts). read_parts q ≡ read_parts x) same refl,
      subst (λ (x : Parts). are_numbers x ≡ true) same e,
    )
    by_test false e h = cc

pub semver-sound : (t : List ℕ) (p : Parts) → semver_of t ≡ Some p → IsSemver t p
semver-sound t p h =
    let found = within (version_parts t) p h in
    let read = version_parts-sound t p found.0 in
    record { is = sym read.0; valid = read.1; counted = found.1 }

pub semver-complete : (t : List ℕ) (p : Parts) → IsSemver t p → semver_of t ≡ Some p
semver-complete t p g = ap semver_of g.is ∙ rw (version_parts-complete p g.valid, g.counted) refl

pub semvers-agree : SemversAgree
semvers-agree t p = (semver-sound t p, semver-complete t p)

-- ---- bytes that are no blanks and no bars

abbrev pub solid : ℕ → Bool
solid c = not (is_blank c || c == 124)

abbrev pub Told : ℕ → ℕ → Type 0
Told c d = ((c == d) ≡ true) × (c ≡ d) ⊎ ((c == d) ≡ false) × (c ≢ d)

-- a byte of a kind to which no blank and no bar belongs
pub solid-by : (P : ℕ → Type 0) (c : ℕ) → P c → ¬ (P 32) → ¬ (P 9) → ¬ (P 124) → solid c ≡ true
solid-by P c h space tab bar = by_tests (eqb_tells c 32) (eqb_tells c 9) (eqb_tells c 124)
  where
    by_tests : Told c 32 → Told c 9 → Told c 124 → solid c ≡ true
    by_tests (inl w) v u = absurd (space (subst P w.1 h))
    by_tests (inr w) (inl v) u = absurd (tab (subst P v.1 h))
    by_tests (inr w) (inr v) (inl u) = absurd (bar (subst P u.1 h))
    by_tests (inr w) (inr v) (inr u) = rw (w.0, v.0, u.0) refl

digit-solid : (c : ℕ) → digit_value c < 10 → solid c ≡ true
digit-solid c h = solid-by (λ d. digit_value d < 10) c h (λ wrong. omega (arith, wrong)) (λ wrong. omega (arith, wrong))
    (λ wrong. omega (arith, wrong))

digits-solid : (ds : List ℕ) → AllDigits 10 ds → list_all solid ds ≡ true
digits-solid [] h = refl
digits-solid (c ∷ cs) h = rw (digit-solid c h.0) (digits-solid cs h.1)

identifier-solid : (c : ℕ) → is_identifier_byte c ≡ true → solid c ≡ true
identifier-solid c h = solid-by (λ d. is_identifier_byte d ≡ true) c h (λ wrong. cc) (λ wrong. cc) (λ wrong. cc)

pub both : (a b : Bool) → (a && b) ≡ true → (a ≡ true) × (b ≡ true)
both true true h = (refl, refl)
both true false h = cc
both false b h = cc

pub part-solid : (t : List ℕ) → list_all is_identifier_byte t ≡ true → list_all solid t ≡ true
part-solid [] h = refl
part-solid (c ∷ cs) h =
    let each = both (is_identifier_byte c) (list_all is_identifier_byte cs) h in
    rw (identifier-solid c each.0) (part-solid cs each.1)

identifier-bytes : (t : List ℕ) → is_build_identifier t ≡ true → list_all is_identifier_byte t ≡ true
identifier-bytes t h = (both (nat_lt 0 (length t)) (list_all is_identifier_byte t) h).1

pub joined-solid : (ts : List (List ℕ)) → list_all is_build_identifier ts ≡ true
    → list_all solid (join_with_byte 46 ts) ≡ true
joined-solid [] h = refl
joined-solid (t ∷ []) h = part-solid t (identifier-bytes t (both (is_build_identifier t) true h).0)
joined-solid (t ∷ u ∷ us) h =
    let each = both (is_build_identifier t) (list_all is_build_identifier (u ∷ us)) h in
    rw (list_all-append solid t (46 ∷ join_with_byte 46 (u ∷ us)), part-solid t (identifier-bytes t each.0))
    (joined-solid (u ∷ us) each.1)

build-solid : (t : List ℕ) → is_build t ≡ true → list_all solid t ≡ true
build-solid [] h = refl
build-solid (c ∷ cs) h =
    ap (list_all solid) (sym (join_with_byte-slice_split 46 (c ∷ cs))) ∙ joined-solid (parts (c ∷ cs)) h

all_build : (ts : List (List ℕ)) → list_all is_pre_identifier ts ≡ true → list_all is_build_identifier ts ≡ true
all_build [] h = refl
all_build (t ∷ ts) h =
    let each = both (is_pre_identifier t) (list_all is_pre_identifier ts) h in
    rw (both (is_build_identifier t) (not (is_numeric t && has_leading_zero t)) each.0).0 (all_build ts each.1)

pre-solid : (t : List ℕ) → is_pre_release t ≡ true → list_all solid t ≡ true
pre-solid [] h = refl
pre-solid (c ∷ cs) h = ap (list_all solid) (sym (join_with_byte-slice_split 46 (c ∷ cs)))
    ∙ joined-solid (parts (c ∷ cs)) (all_build (parts (c ∷ cs)) h)

pub two-solid : (s t : List ℕ) → list_all solid s ≡ true → list_all solid t ≡ true → list_all solid (s ++ t) ≡ true
two-solid s t h k = rw (list_all-append solid s t, h) k

marked-solid : (c : ℕ) (t : List ℕ) → solid c ≡ true → list_all solid t ≡ true → list_all solid (marked c t) ≡ true
marked-solid c [] h k = refl
marked-solid c (d ∷ ds) h k = rw h k

pub version-solid : (p : Parts) → IsValid p → list_all solid (parts_text p) ≡ true
version-solid p v =
    let tail = two-solid (marked 45 p.3) (marked 43 p.4) (marked-solid 45 p.3 refl (pre-solid p.3 v.3))
    (marked-solid 43 p.4 refl (build-solid p.4 v.4)) in
    let patch = two-solid (decimal p.2) _ (digits-solid _ (decimal_is_IsNumeral p.2 v.2).0.1) tail in
    let minor = two-solid (decimal p.1) _ (digits-solid _ (decimal_is_IsNumeral p.1 v.1).0.1) patch in
    two-solid (decimal p.0) _ (digits-solid _ (decimal_is_IsNumeral p.0 v.0).0.1) minor

-- ---- what stands around a version

-- the bytes in front that pass a test, and what follows them
pub front-parts : (passes : ℕ → Bool) (t : List ℕ) → (bs : List ℕ)
    × ((list_all passes bs ≡ true) × (t ≡ bs ++ after_all passes t))
front-parts passes [] = ([], (refl, refl))
front-parts passes (c ∷ cs) = by_test (passes c) refl (front-parts passes cs)
  where
    by_test : (b : Bool) → passes c ≡ b → (bs : List ℕ)
        × ((list_all passes bs ≡ true) × (cs ≡ bs ++ after_all passes cs)) → (bs : List ℕ)
        × ((list_all passes bs ≡ true) × (c ∷ cs ≡ bs ++ cond b (after_all passes cs) (c ∷ cs)))
    by_test true e (bs, h) = (c ∷ bs, (rw e h.0, ap (λ x. c ∷ x) h.1))
    by_test false e r = ([], (refl, refl))

-- the bytes at the end that pass a test, and what stands before them
back-parts : (passes : ℕ → Bool) (t : List ℕ) → (bs : List ℕ)
    × ((list_all passes bs ≡ true) × (t ≡ before_all passes t ++ bs))
back-parts passes [] = ([], (refl, refl))
back-parts passes (c ∷ cs) = by_front (before_all passes cs) (back-parts passes cs) (passes c) refl
  where
    by_front : (front : List ℕ) → ((bs : List ℕ) × ((list_all passes bs ≡ true) × (cs ≡ front ++ bs))) → (b : Bool)
        → passes c ≡ b → (bs : List ℕ) × ((list_all passes bs ≡ true)
        × (c ∷ cs ≡ (elim front as (λ x. List ℕ) [ [] ↦ cond b [] (c ∷ []) | d ∷ ds ↦ c ∷ d ∷ ds ]) ++ bs))
    by_front (d ∷ ds) (bs, h) b e = (bs, (h.0, ap (λ x. c ∷ x) h.1))
    by_front [] (bs, h) true e = (c ∷ bs, (rw e h.0, ap (λ x. c ∷ x) h.1))
    by_front [] (bs, h) false e = (bs, (h.0, ap (λ x. c ∷ x) h.1))

sign-parts : (t : List ℕ) → (s : List ℕ) × (IsSign s × (t ≡ s ++ without_sign t))
sign-parts [] = ([], (inl refl, refl))
sign-parts (c ∷ cs) = by_tests (eqb_tells c 118) (eqb_tells c 61)
  where
    by_tests : Told c 118 → Told c 61 → (s : List ℕ) × (IsSign s × (c ∷ cs ≡ s ++ without_sign (c ∷ cs)))
    by_tests (inl w) v = rw w.0 (codes "v", (inr (inl refl), ap (λ d. d ∷ cs) w.1))
    by_tests (inr w) (inl v) = rw (w.0, v.0) (codes "=", (inr (inr refl), ap (λ d. d ∷ cs) v.1))
    by_tests (inr w) (inr v) = rw (w.0, v.0) ([], (inl refl, refl))

version-sound : (t : List ℕ) (p : Parts) → version_of t ≡ Some p → IsVersion t p
version-sound t p h =
    let front = front-parts is_blank t in
    let back = back-parts is_blank (after_all is_blank t) in
    let sign = sign-parts (trimmed t) in
    let text = without_sign (trimmed t) in
    record {
      prior = front.0;
      sign = sign.0;
      text = text;
      rest = back.0;
      is = front.1.1 ∙ ap (λ x. front.0 ++ x) (back.1.1 ∙ ap (λ x. x ++ back.0) sign.1.1
          ∙ append_assoc sign.0 text back.0);
      prior_blank = front.1.0;
      one_sign = sign.1.0;
      semver = semver-sound text p h;
      rest_blank = back.1.0;
    }

pub after_all-behind : (passes : ℕ → Bool) (bs t : List ℕ) → list_all passes bs ≡ true
    → after_all passes (bs ++ t) ≡ after_all passes t
after_all-behind passes [] t h = refl
after_all-behind passes (b ∷ bs) t h =
    let each = both (passes b) (list_all passes bs) h in rw each.0 (after_all-behind passes bs t each.1)

before_all-nothing : (passes : ℕ → Bool) (bs : List ℕ) → list_all passes bs ≡ true → before_all passes bs ≡ []
before_all-nothing passes [] h = refl
before_all-nothing passes (b ∷ bs) h =
    let each = both (passes b) (list_all passes bs) h in rw (before_all-nothing passes bs each.1, each.0) refl

before_all-before : (passes : ℕ → Bool) (t bs : List ℕ) → list_all passes bs ≡ true
    → before_all passes (t ++ bs) ≡ before_all passes t
before_all-before passes [] bs h = before_all-nothing passes bs h
before_all-before passes (c ∷ cs) bs h = rw (before_all-before passes cs bs h) refl

not_blank : (c : ℕ) → solid c ≡ true → is_blank c ≡ false
not_blank c h = by_tests (is_blank c) (c == 124) h
  where
    by_tests : (b d : Bool) → not (b || d) ≡ true → b ≡ false
    by_tests true d h = cc
    by_tests false d h = refl

before_all-solid : (t : List ℕ) → list_all solid t ≡ true → before_all is_blank t ≡ t
before_all-solid [] h = refl
before_all-solid (c ∷ []) h = rw (not_blank c (both (solid c) true h).0) refl
before_all-solid (c ∷ d ∷ ds) h = rw (before_all-solid (d ∷ ds) (both (solid c) (list_all solid (d ∷ ds)) h).1) refl

trimmed-solid : (prior t rest : List ℕ) → AreBlanks prior → list_all solid t ≡ true → 0 < length t → AreBlanks rest
    → trimmed (prior ++ (t ++ rest)) ≡ t
trimmed-solid prior [] rest blank h some blank_too = absurd (omega arith)
trimmed-solid prior (c ∷ cs) rest blank h some blank_too =
    let first : after_all is_blank ((c ∷ cs) ++ rest) ≡ (c ∷ cs) ++ rest =
    rw (not_blank c (both (solid c) (list_all solid cs) h).0) refl in
    ap (before_all is_blank) (after_all-behind is_blank prior ((c ∷ cs) ++ rest) blank ∙ first)
    ∙ before_all-before is_blank (c ∷ cs) rest blank_too ∙ before_all-solid (c ∷ cs) h

-- digits are no sign
unsigned : (ds t : List ℕ) → IsNumeral 10 ds → without_sign (ds ++ t) ≡ ds ++ t
unsigned [] t h = absurd (omega (arith, h.0))
unsigned (c ∷ cs) t h = by_tests (eqb_tells c 118) (eqb_tells c 61)
  where
    by_tests : Told c 118 → Told c 61 → without_sign (c ∷ (cs ++ t)) ≡ c ∷ (cs ++ t)
    by_tests (inl w) v = absurd (let wrong = rw w.1 at h.1.0 in omega (arith, wrong))
    by_tests (inr w) (inl v) = absurd (let wrong = rw v.1 at h.1.0 in omega (arith, wrong))
    by_tests (inr w) (inr v) = rw (w.0, v.0) refl

signed : (s t : List ℕ) → IsSign s → without_sign t ≡ t → without_sign (s ++ t) ≡ t
signed s t (inl e) h = rw e h
signed s t (inr (inl e)) h = rw e refl
signed s t (inr (inr e)) h = rw e refl

sign-solid : (s : List ℕ) → IsSign s → list_all solid s ≡ true
sign-solid s (inl e) = rw e refl
sign-solid s (inr (inl e)) = rw e refl
sign-solid s (inr (inr e)) = rw e refl

some_behind : (s ds t : List ℕ) → 0 < length ds → 0 < length (s ++ (ds ++ t))
some_behind [] [] t h = absurd (omega arith)
some_behind [] (d ∷ ds) t h = omega arith
some_behind (c ∷ cs) ds t h = omega arith

version-complete : (t : List ℕ) (p : Parts) → IsVersion t p → version_of t ≡ Some p
version-complete t p g =
    let numeral = (decimal_is_IsNumeral p.0 g.semver.valid.0).0 in
    let solid_text = version-solid p g.semver.valid in
    let whole : t ≡ g.prior ++ ((g.sign ++ parts_text p) ++ g.rest) = g.is
    ∙ ap (λ x. g.prior ++ (g.sign ++ (x ++ g.rest))) g.semver.is
    ∙ ap (λ x. g.prior ++ x) (sym (append_assoc g.sign (parts_text p) g.rest)) in
    let inner : trimmed t ≡ g.sign ++ parts_text p = ap trimmed whole
    ∙ trimmed-solid g.prior (g.sign ++ parts_text p) g.rest g.prior_blank
    (two-solid g.sign (parts_text p) (sign-solid g.sign g.one_sign) solid_text)
    (some_behind g.sign (decimal p.0) _ numeral.0) g.rest_blank in
    let text : without_sign (trimmed t) ≡ g.text = ap without_sign inner
    ∙ signed g.sign (parts_text p) g.one_sign (unsigned (decimal p.0) _ numeral) ∙ sym g.semver.is in
    ap semver_of text ∙ semver-complete g.text p g.semver

pub versions-agree : VersionsAgree
versions-agree t p = (version-sound t p, version-complete t p)
