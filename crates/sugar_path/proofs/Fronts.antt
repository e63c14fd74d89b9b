-- A base that is the front of its target: what follows it there, and that it is in order where the target is.
use Rattle.std.proofs.Common.{
  ◌≡◌,
  ◌==◌,
  ◌⊎◌,
  inl,
  inr,
  ℕ,
  zero,
  suc,
  ◌+◌,
  ◌-◌,
  ◌<◌,
  ◌≤◌,
  Bool,
  true,
  false,
  cond,
  min,
  List,
  [],
  ◌∷◌,
  ◌++◌,
  length,
  get_or,
  take,
  drop,
  nat_eq,
  replicate,
  refl,
  sym,
  ap,
  ◌∙◌,
  subst,
  arith,
  append-nil,
  append_assoc,
  length-drop,
}
use Rattle.std.specs.Prelude.{Some, None}
use Rattle.std.specs.Str.{IsUtf8, IsAscii}
use Rattle.std.specs.List.{common_prefix_len}
use Rattle.std.proofs.Math.Dec.{leb}
use Rattle.std.proofs.Math.Seq.{get_or-append_seam, take-append_seam}
use Rattle.std.proofs.lemmas.Bool.Decides.{Decides-eqb, leb_tells}
use Rattle.std.proofs.lemmas.List.{take-append-drop, take_all, drop_more, nil_from_length, length-append}
use Rattle.std.proofs.lemmas.Slice.Eq.{bytes_eq-Decides}
use Rattle.std.proofs.lemmas.Str.{IsUtf8-take, IsUtf8-append, IsUtf8-from_ascii, IsCharBoundary-before_ascii}
use Rattle.sugar_path.specs.Path.{is_absolute, parts, is_plain, ends_in_slash}
use Rattle.sugar_path.specs.Reading.{are_steps}
use Rattle.sugar_path.specs.Route.{place, normal}
use Rattle.sugar_path.specs.Borrowed.{IsInOrder}
use Rattle.sugar_path.specs.BorrowedParts.{IsRestBehind}
use Rattle.sugar_path.proofs.Bools.{or_right}
use Rattle.sugar_path.proofs.Parts.{parts-slash}
use Rattle.sugar_path.proofs.Placed.{looks_rooted, looks-some, placed-rooted, normal-open}
use Rattle.sugar_path.proofs.SharedTexts.{shared-take}
use Rattle.sugar_path.proofs.BorrowedWays.{bare, bare-split, bare-unended, bare-absolute}

-- ---- what follows a front
shared-front : (front r : List ℕ) → common_prefix_len nat_eq front (front ++ r) ≡ length front
shared-front [] r = refl
shared-front (c ∷ front) r = let rest = shared-front front r in rw ((Decides-eqb c c).1 refl) (omega (arith, rest))

pub rest-differs : (front text : List ℕ) (n : ℕ) → n ≡ common_prefix_len nat_eq front text → n < length front
    → IsRestBehind front text None
rest-differs front text n is lt = (λ e. apart [] (e ∙ sym (append-nil front)), λ r. apart (47 ∷ r))
  where
    apart : (r : List ℕ) → text ≡ front ++ r → ⊥
    apart r e = let all : n ≡ length front = is ∙ ap (common_prefix_len nat_eq front) e ∙ shared-front front r in
        omega (arith, all, lt)

pub rest-follows : (front text : List ℕ) (n m : ℕ) → n ≡ common_prefix_len nat_eq front text → length front ≤ n
    → (length front < length text → get_or text (length front) 0 ≡ 47) → m ≡ min (length text) (length front + 1)
    → IsRestBehind front text (Some (take (length text - m) (drop m text)))
rest-follows front text n m is all slash ends = by_place (leb_tells (length text) (length front))
  where
    whole : text ≡ front ++ drop (length front) text
    whole =
        sym (take-append-drop (length front) text)
        ∙ ap (λ s. s ++ drop (length front) text) (sym (shared-take (length front) front text (omega (arith, is, all)))
        ∙ take_all (length front) front (omega arith))

    rest : take (length text - m) (drop m text) ≡ drop m text
    rest = take_all (length text - m) (drop m text) (omega (arith, length-drop m text))

    by_place : ((leb (length text) (length front) ≡ true) × (length text ≤ length front))
        ⊎ ((leb (length text) (length front) ≡ false) × (length front < length text))
        → IsRestBehind front text (Some (take (length text - m) (drop m text)))
    by_place (inl w) = inl (
      whole ∙ ap (λ s. front ++ s) (nil_from_length (drop (length front) text)
          (omega (arith, length-drop (length front) text, w.1))) ∙ append-nil front,
      rest ∙ nil_from_length (drop m text) (omega (arith, length-drop m text, ends, w.1)),
    )
    by_place (inr w) =
        let next : m ≡ length front + 1 = omega (arith, ends, w.1) in
        let behind : drop (length front) text ≡ 47 ∷ take (length text - m) (drop m text) =
        drop_more text (length front) 0 w.1
        ∙ ap (λ c. c ∷ drop (length front + 1) text) (slash w.1)
        ∙ ap (λ k. 47 ∷ drop k text) (sym next)
        ∙ ap (λ s. 47 ∷ s) (sym rest) in
        inr (whole ∙ ap (λ s. front ++ s) behind)

-- ---- order
steps-front : (xs ys : List (List ℕ)) → are_steps false (xs ++ ys) ≡ true → are_steps false xs ≡ true
steps-front [] ys h = refl
steps-front (x ∷ xs) ys h = by_test (is_plain x) (steps-front xs ys) h
  where
    by_test : (b : Bool) → (are_steps false (xs ++ ys) ≡ true → are_steps false xs ≡ true)
        → cond b (are_steps false (xs ++ ys)) false ≡ true → cond b (are_steps false xs) false ≡ true
    by_test true rest h = rest h
    by_test false rest h = h

looks-front : (n r : List ℕ) → looks_rooted (n ++ 47 ∷ r) ≡ true → looks_rooted n ≡ true
looks-front [] r h = refl
looks-front (c ∷ n) r h =
    or_right (length (c ∷ n) == 0) (are_steps false (parts (c ∷ n)))
    (steps-front (parts (c ∷ n)) (parts r) (ap (are_steps false) (sym (parts-slash (c ∷ n) r))
    ∙ looks-some c (n ++ 47 ∷ r) h))

-- the front of a place, up to a slash, is a place
place-front : (b r t : List ℕ) → is_absolute b ≡ true → t ≡ b ++ 47 ∷ r → place t ≡ t → place b ≡ b
place-front [] r t absolute is same = absurd (let e : false ≡ true = absolute in cc)
place-front (c ∷ n) r t absolute is same =
    let slash : c ≡ 47 = (Decides-eqb c 47).0 absolute in
    let looks = looks-front n r (placed-rooted t (n ++ 47 ∷ r) (is ∙ ap (λ d. d ∷ (n ++ 47 ∷ r)) slash)
    ∙ (bytes_eq-Decides (place t) t).1 same) in
    (bytes_eq-Decides (place (c ∷ n)) (c ∷ n)).0 (sym (placed-rooted (c ∷ n) n (ap (λ d. d ∷ n) slash)) ∙ looks)

-- ---- UTF-8
utf8-front : (b s : List ℕ) → IsUtf8 (b ++ 47 ∷ s) → IsUtf8 b
utf8-front b s h =
    let within : length b < length (b ++ 47 ∷ s) = omega (arith, length-append b (47 ∷ s)) in
    let slash = get_or-append_seam b 47 s 0 in
    let boundary = IsCharBoundary-before_ascii (b ++ 47 ∷ s) (length b) within (omega (arith, slash)) in
    subst IsUtf8 (take-append_seam b (47 ∷ s)) (IsUtf8-take (b ++ 47 ∷ s) (length b) h boundary)

slash-utf8 : IsUtf8 (47 ∷ [])
slash-utf8 = IsUtf8-from_ascii (47 ∷ []) ascii
  where
    ascii : IsAscii (47 ∷ [])
    ascii zero = omega arith
    ascii (suc i) = omega arith

utf8-closed : (b : List ℕ) (k : ℕ) → IsUtf8 b → IsUtf8 (b ++ replicate k 47)
utf8-closed b zero h = subst IsUtf8 (sym (append-nil b)) h
utf8-closed b (suc k) h = subst IsUtf8 (append_assoc b (47 ∷ []) (replicate k 47))
    (utf8-closed (b ++ 47 ∷ []) k (IsUtf8-append b (47 ∷ []) h slash-utf8))

utf8-bare : (b : List ℕ) (m : ℕ) → IsUtf8 (b ++ replicate m 47) → IsUtf8 b
utf8-bare b zero h = subst IsUtf8 (append-nil b) h
utf8-bare b (suc m) h = utf8-front b (replicate m 47) h

abbrev IsOrdered : List ℕ → Type 0
IsOrdered s = (s ≡ []) ⊎ (normal s ≡ s)

-- what is left of a base without its last separators
bare-ordered : (b t r : List ℕ) → is_absolute b ≡ true → ends_in_slash b ≡ false → ends_in_slash t ≡ false → IsOrdered t
    → IsRestBehind b t (Some r) → normal b ≡ b
bare-ordered b t r absolute unclosed unended (inl none) (inl w) =
    absurd (let e : false ≡ true = ap is_absolute (sym none ∙ w.0) ∙ absolute in cc)
bare-ordered b t r absolute unclosed unended (inr same) (inl w) = ap normal (sym w.0) ∙ same ∙ w.0
bare-ordered b t r absolute unclosed unended (inl none) (inr w) =
    absurd (let long = ap length (sym none ∙ w) in omega (arith, long, length-append b (47 ∷ r)))
bare-ordered b t r absolute unclosed unended (inr same) (inr w) =
    normal-open b unclosed ∙ place-front b r t absolute w (sym (normal-open t unended) ∙ same)

bare-utf8 : (b t r : List ℕ) (m : ℕ) → IsUtf8 (t ++ replicate m 47) → IsRestBehind b t (Some r) → IsUtf8 b
bare-utf8 b t r m h (inl w) = utf8-bare b m (subst IsUtf8 (ap (λ s. s ++ replicate m 47) w.0) h)
bare-utf8 b t r m h (inr w) = utf8-front b (r ++ replicate m 47)
    (subst IsUtf8 (ap (λ s. s ++ replicate m 47) w ∙ append_assoc b (47 ∷ r) (replicate m 47)) h)

-- a base that its target goes on behind is in order where the target is
pub base-in_order : (base target r : List ℕ) → is_absolute base ≡ true → IsInOrder target
    → IsRestBehind (bare base) (bare target) (Some r) → IsInOrder base
base-in_order base target r absolute order rest =
    let ends = bare-split base in
    let closes = bare-split target in
    let utf8 = bare-utf8 (bare base) (bare target) r closes.0 (subst IsUtf8 closes.1 order.utf8) rest in
    record {
      absolute = absolute;
      utf8 = subst IsUtf8 (sym ends.1) (utf8-closed (bare base) ends.0 utf8);
      normal = by_text (bare base) refl;
    }
  where
    by_text : (b : List ℕ) → bare base ≡ b → IsOrdered (bare base)
    by_text [] e = inl e
    by_text (c ∷ b) e = inr (bare-ordered (bare base) (bare target) r
        (bare-absolute base absolute (λ none. absurd (let f : [] ≡ c ∷ b = sym none ∙ e in cc))) (bare-unended base)
        (bare-unended target) order.normal rest)
