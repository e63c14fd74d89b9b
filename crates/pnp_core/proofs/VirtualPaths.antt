-- What the segments of a path say, as they are read.
use Rattle.std.proofs.Common.{
  ◌≡◌,
  ◌≢◌,
  ◌==◌,
  ◌⊎◌,
  inl,
  inr,
  ℕ,
  suc,
  ◌+◌,
  ◌-◌,
  ◌<◌,
  ◌^◌,
  Bool,
  true,
  false,
  cond,
  ◌&&◌,
  List,
  [],
  ◌∷◌,
  ◌++◌,
  length,
  take,
  drop,
  bytes_eq,
  nat_lt,
  Option,
  Some,
  None,
  option_map,
  option_and_then,
  Result,
  Ok,
  Err,
  IfSome,
  min,
  get_or,
  refl,
  sym,
  ap,
  ◌∙◌,
  append_assoc,
  add-one,
  add-zero,
  length-append,
  arith,
  lt-ltb,
}
use Rattle.std.specs.Result.{result_ok}
use Rattle.std.specs.Str.{all_ascii_digits}
use Rattle.std.specs.Str.Parse.{ParsesUnsigned, IsNumeral, digits_value, without_leading_plus}
use Rattle.std.proofs.lemmas.Bool.Decides.{eqb_tells}
use Rattle.std.proofs.lemmas.Str.Parse.{IsNumeralModel, numerals_by_value, tells_all_ascii_digits}
use Rattle.std.proofs.lemmas.Bool.{ltb-true}
use Rattle.std.proofs.Math.Seq.{drop-cons, drop-append_seam}
use Rattle.std.proofs.lemmas.List.{drop-map, take-map, map-append, take-append-drop, take_at, drop_min}
use Rattle.std.specs.List.{slice_get}
use Rattle.sugar_path.specs.Path.{parts}
use Rattle.sugar_path.proofs.Bools.{and_left, and_right}
use denote.Ref.{Bor}
use Rattle.pnp_core.specs.VirtualPath.{
  Segments,
  PathParts,
  behind_root,
  parts_by,
  parts_of,
  segments,
  are_digits,
  number_of,
  depth_of,
  through_archive,
  before_mark,
  is_archive,
  is_mark,
  staying,
  virtual_parts,
}
use Rattle.pnp_core.specs.Segments.{texts}
use Rattle.pnp_core.specs.VirtualLaws.{behind_base, PartsAreAll}

-- ---- a text without its root
pub behind_root-none : (t : List ℕ) → ((rest : List ℕ) → t ≢ 47 ∷ rest) → t ≡ behind_root t
behind_root-none [] h = refl
behind_root-none (c ∷ t) h = by_test (eqb_tells c 47)
  where
    by_test : ((c == 47) ≡ true) × (c ≡ 47) ⊎ ((c == 47) ≡ false) × (c ≢ 47) → c ∷ t ≡ cond (c == 47) t (c ∷ t)
    by_test (inl w) = absurd (h t (ap (λ d. d ∷ t) w.1))
    by_test (inr w) = rw w.0 refl

pub segments-some : (t b : List ℕ) → b ≡ behind_root t → (length b == 0) ≡ false → segments t ≡ parts b
segments-some t b e some = rw (← e) (by_text b some)
  where
    by_text : (b : List ℕ) → (length b == 0) ≡ false → cond (bytes_eq b []) [] (parts b) ≡ parts b
    by_text [] some = cc
    by_text (c ∷ b) some = refl

-- ---- a depth
own : IsNumeralModel (λ ds. all_ascii_digits ds ≡ true) (digits_value 10)
own = numerals_by_value (λ ds. all_ascii_digits ds ≡ true) tells_all_ascii_digits

numeral : (t : List ℕ) → are_digits t ≡ true → IsNumeral 10 t
numeral [] e = cc
numeral (c ∷ t) e = (omega arith, own.to (c ∷ t) e)

digits : (t : List ℕ) → IsNumeral 10 t → are_digits t ≡ true
digits [] n = absurd (omega (arith, n.0))
digits (c ∷ t) n = own.from (c ∷ t) n.1

number_of-none : (t : List ℕ) → ¬ (IsNumeral 10 t × (digits_value 10 t < 2 ^ 64)) → number_of t ≡ None
number_of-none t none = by_test (are_digits t && nat_lt (digits_value 10 t) (2 ^ 64)) refl
  where
    by_test : (b : Bool) → (are_digits t && nat_lt (digits_value 10 t) (2 ^ 64)) ≡ b
        → cond b (Some (digits_value 10 t)) None ≡ None
    by_test true e = absurd (none (
      numeral t (and_left (are_digits t) (nat_lt (digits_value 10 t) (2 ^ 64)) e),
      ltb-true (digits_value 10 t) (2 ^ 64) (and_right (are_digits t) (nat_lt (digits_value 10 t) (2 ^ 64)) e),
    ))
    by_test false e = refl

pub depth_of-parsed : {E : Type 0} (s : List ℕ) (r : Result ℕ E) → ParsesUnsigned 64 10 s r → result_ok r ≡ depth_of s
depth_of-parsed s (Ok x) h = rw (
  digits (without_leading_plus s) h.0.0,
  lt-ltb (digits_value 10 (without_leading_plus s)) (2 ^ 64) h.0.1,
) (ap Some h.1)
depth_of-parsed s (Err e) h = sym (number_of-none (without_leading_plus s) h)

-- ---- counts of segments, read one by one
texts-at : (ss : List (Bor (List ℕ))) (i : ℕ) (d : Bor (List ℕ)) → i < length ss
    → drop i (texts ss) ≡ (get_or ss i d).now ∷ drop (i + 1) (texts ss)
texts-at ss i d h =
    drop-map (λ s. s.now) i ss
    ∙ ap texts (drop-cons ss i d h)
    ∙ ap (λ t. (get_or ss i d).now ∷ t) (sym (drop-map (λ s. s.now) (suc i) ss)
    ∙ ap (λ n. drop n (texts ss)) (sym (add-one i)))

pub through-here : (ss : List (Bor (List ℕ))) (i : ℕ) (d : Bor (List ℕ)) → i < length ss
    → is_archive (get_or ss i d).now ≡ true → through_archive (texts ss) ≡ i + through_archive (drop i (texts ss))
    → i + 1 ≡ through_archive (texts ss)
through-here ss i d h archive so_far = sym (so_far ∙ rw (texts-at ss i d h, archive) refl)

pub through-past : (ss : List (Bor (List ℕ))) (i : ℕ) (d : Bor (List ℕ)) → i < length ss
    → is_archive (get_or ss i d).now ≡ false → through_archive (texts ss) ≡ i + through_archive (drop i (texts ss))
    → through_archive (texts ss) ≡ i + 1 + through_archive (drop (i + 1) (texts ss))
through-past ss i d h other so_far =
    so_far ∙ rw (texts-at ss i d h, other) (shift i (through_archive (drop (i + 1) (texts ss))))
  where
    shift : (i n : ℕ) → i + suc n ≡ i + 1 + n
    shift i n = omega arith

pub before-here : (ss : List (Bor (List ℕ))) (i : ℕ) (d : Bor (List ℕ)) → i < length ss
    → is_mark (get_or ss i d).now ≡ true → before_mark (texts ss) ≡ option_map (λ k. i + k)
    (before_mark (drop i (texts ss))) → Some i ≡ before_mark (texts ss)
before-here ss i d h mark so_far = sym (so_far ∙ rw (texts-at ss i d h, mark) (ap Some (add-zero i)))

pub before-archive : (ss : List (Bor (List ℕ))) (i : ℕ) (d : Bor (List ℕ)) → i < length ss
    → is_mark (get_or ss i d).now ≡ false → is_archive (get_or ss i d).now ≡ true
    → before_mark (texts ss) ≡ option_map (λ k. i + k) (before_mark (drop i (texts ss))) → None ≡ before_mark (texts ss)
before-archive ss i d h other archive so_far = sym (so_far ∙ rw (texts-at ss i d h, other, archive) refl)

pub before-past : (ss : List (Bor (List ℕ))) (i : ℕ) (d : Bor (List ℕ)) → i < length ss
    → is_mark (get_or ss i d).now ≡ false → is_archive (get_or ss i d).now ≡ false
    → before_mark (texts ss) ≡ option_map (λ k. i + k) (before_mark (drop i (texts ss)))
    → before_mark (texts ss) ≡ option_map (λ k. i + 1 + k) (before_mark (drop (i + 1) (texts ss)))
before-past ss i d h other plain so_far =
    so_far ∙ rw (texts-at ss i d h, other, plain) (shifts i (before_mark (drop (i + 1) (texts ss))))
  where
    shift : (i n : ℕ) → i + suc n ≡ i + 1 + n
    shift i n = omega arith

    shifts : (i : ℕ) (found : Option ℕ) → option_map (λ k. i + k) (option_map suc found) ≡ option_map (λ k. i + 1 + k)
        found
    shifts i None = refl
    shifts i (Some n) = ap Some (shift i n)

-- ---- the parts of a virtual path
middle : {A : Type 0} (a w z : List A) → take (length (a ++ (w ++ z)) - length z - length a)
    (drop (length a) (a ++ (w ++ z))) ≡ w
middle a w z =
    rw (drop-append_seam a (w ++ z)) (take_at w z _ (omega (arith, length-append a (w ++ z), length-append w z)))

middle-of : {A : Type 0} (ss a w z : List A) → ss ≡ a ++ (w ++ z)
    → take (length ss - length z - length a) (drop (length a) ss) ≡ w
middle-of ss a w z e = rw e (middle a w z)

regroup : {A : Type 0} (b d m i z : List A) → (b ++ d) ++ (m ++ (i ++ z)) ≡ b ++ (((d ++ m) ++ i) ++ z)
regroup b d m i z = simp append_assoc

-- a list is its parts, one behind the other
pub pieces : {A : Type 0} (ss : List A) (at k e : ℕ) → ss ≡ take k (take at ss)
    ++ (((drop k (take at ss) ++ take 3 (drop at ss)) ++ take e (drop 3 (drop at ss))) ++ drop e (drop 3 (drop at ss)))
pieces ss at k e =
    sym (take-append-drop at ss)
    ∙ ap (λ f. f ++ drop at ss) (sym (take-append-drop k (take at ss)))
    ∙ ap (λ m. (take k (take at ss) ++ drop k (take at ss)) ++ m)
    (sym (take-append-drop 3 (drop at ss))
    ∙ ap (λ r. take 3 (drop at ss) ++ r) (sym (take-append-drop e (drop 3 (drop at ss)))))
    ∙ regroup (take k (take at ss)) (drop k (take at ss)) (take 3 (drop at ss)) (take e (drop 3 (drop at ss)))
    (drop e (drop 3 (drop at ss)))

-- a hash and a depth are passed over, as far as they are there
pub behind-is : (marked : List (Bor (List ℕ))) (n : ℕ) → n ≡ min (length marked) 3 → drop n marked ≡ drop 3 marked
behind-is marked n e = ap (λ k. drop k marked) (e ∙ swapped (length marked)) ∙ drop_min 3 marked
  where
    swapped : (k : ℕ) → min k 3 ≡ min 3 k
    swapped k = omega arith

abbrev parted : Segments → Segments → Segments → Segments → PathParts
parted base whole inner archived = record { base = base; virtual = Some (whole, inner); archived = archived }

parted-same : {a b w v i j z y : Segments} → a ≡ b → w ≡ v → i ≡ j → z ≡ y → parted a w i z ≡ parted b v j y
parted-same p q r s = cc

-- the slices that are cut out are what is meant
pub virtual_parts-seen : (rooted : Bool) (ss : List (Bor (List ℕ))) (at k e : ℕ)
    → k ≡ staying rooted (texts (take at ss)) (option_and_then depth_of (slice_get (texts (drop at ss)) 2))
    → e ≡ through_archive (texts (drop 3 (drop at ss)))
    → parted (texts (take k (take at ss))) (texts (take (length ss - length (drop e (drop 3 (drop at ss))) - length
    (take k (take at ss))) (drop (length (take k (take at ss))) ss))) (texts (take e (drop 3 (drop at ss))))
    (texts (drop e (drop 3 (drop at ss)))) ≡ virtual_parts rooted (take at (texts ss)) (drop at (texts ss))
virtual_parts-seen rooted ss at k e stays counted =
    rw (
      take-map (λ s. s.now) at ss,
      drop-map (λ s. s.now) at ss,
      ← stays,
      drop-map (λ s. s.now) 3 (drop at ss),
      ← counted,
    )
    (parted-same (sym (take-map (λ s. s.now) k (take at ss)))
    (ap texts (middle-of ss (take k (take at ss)) _ (drop e (drop 3 (drop at ss))) (pieces ss at k e))
    ∙ whole (take at ss) (drop at ss)) (sym (take-map (λ s. s.now) e (drop 3 (drop at ss))))
    (sym (drop-map (λ s. s.now) e (drop 3 (drop at ss)))))
  where
    whole : (front marked : List (Bor (List ℕ)))
        → texts ((drop k front ++ take 3 marked) ++ take e (drop 3 marked)) ≡
        (drop k (texts front) ++ take 3 (texts marked)) ++ take e (texts (drop 3 marked))
    whole front marked = rw (
      map-append,
      map-append,
      drop-map (λ s. s.now) k front,
      take-map (λ s. s.now) 3 marked,
      take-map (λ s. s.now) e (drop 3 marked),
    ) refl

-- ---- laws
all-by : (rooted : Bool) (ss : Segments) (found : Option ℕ) → (parts_by rooted ss found).base
    ++ (behind_base (parts_by rooted ss found).virtual ++ (parts_by rooted ss found).archived) ≡ ss
all-by rooted ss None = take-append-drop (through_archive ss) ss
all-by rooted ss (Some at) = sym (pieces ss at (staying rooted (take at ss)
    (option_and_then depth_of (slice_get (drop at ss) 2))) (through_archive (drop 3 (drop at ss))))

inner-by : (rooted : Bool) (ss : Segments) (found : Option ℕ)
    → IfSome (parts_by rooted ss found).virtual (λ virtual. (front : Segments) × (virtual.0 ≡ front ++ virtual.1))
inner-by rooted ss None = tt
inner-by rooted ss (Some at) = (
  drop (staying rooted (take at ss) (option_and_then depth_of (slice_get (drop at ss) 2)))
      (take at ss) ++ take 3 (drop at ss),
  refl,
)

pub parts_are_all : PartsAreAll
unfolding parts_of
parts_are_all = record {
  all = λ rooted ss. all-by rooted ss (before_mark ss);
  inner_last = λ rooted ss. inner-by rooted ss (before_mark ss);
}
