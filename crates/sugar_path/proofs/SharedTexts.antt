-- The way from a place to another, by what is left of both behind the text that they share.
use Rattle.std.proofs.Common.{
  ◌≡◌,
  ◌==◌,
  ◌+◌,
  ◌-◌,
  ◌<◌,
  ◌≤◌,
  ℕ,
  zero,
  suc,
  Bool,
  true,
  false,
  cond,
  List,
  [],
  ◌∷◌,
  ◌++◌,
  length,
  take,
  drop,
  get_or,
  bytes_eq,
  nat_eq,
  replicate,
  reverse,
  refl,
  sym,
  ap,
  ◌∙◌,
  append_assoc,
  append-nil,
  arith,
  length-drop,
}
use Rattle.std.specs.Prelude.{Option, Some, None, IfSome}
use denote.Ref.{Bor}
use Rattle.std.specs.List.{common_prefix_len, join_with_byte}
use Rattle.std.proofs.lemmas.Bool.Decides.{Decides-eqb}
use Rattle.std.proofs.lemmas.List.{take-append-drop, take_more, take_all, length-take, length-take-le, get_or-take}
use Rattle.std.proofs.lemmas.List.Sums.{common_prefix_len-le}
use Rattle.memchr.specs.Find.{IsLastByte, is_byte}
use Rattle.sugar_path.specs.ComponentTypes.{parts_if}
use Rattle.sugar_path.specs.Names.{closed}
use Rattle.sugar_path.specs.Path.{is_absolute, parts, path_in}
use Rattle.sugar_path.specs.Route.{Route, Rooted, route_of, route_parts, place}
use Rattle.sugar_path.specs.Reading.{IsPlaceOf}
use Rattle.sugar_path.specs.Relative.{between, way}
use Rattle.sugar_path.specs.SharedTexts.{SharesSlash}
use Rattle.sugar_path.proofs.Agreed.{route_of-absolute}
use Rattle.sugar_path.proofs.NameWays.{closed-popped}
use Rattle.sugar_path.proofs.Parts.{parts-slash}
use Rattle.sugar_path.proofs.Placed.{IsPath-route_of}
use Rattle.sugar_path.proofs.WayParts.{between-shared, between-apart, way-rest}

-- ---- behind the last slash that two texts share
pub shared-take : (n : ℕ) (xs ys : List ℕ) → n ≤ common_prefix_len nat_eq xs ys → take n xs ≡ take n ys
shared-take zero xs ys h = refl
shared-take (suc n) [] ys h = absurd (omega (arith, h))
shared-take (suc n) (x ∷ xs) [] h = absurd (omega (arith, h))
shared-take (suc n) (x ∷ xs) (y ∷ ys) h = by_test (x == y) (Decides-eqb x y).0 (shared-take n xs ys) h
  where
    by_test : (b : Bool) → (b ≡ true → x ≡ y) → (n ≤ common_prefix_len nat_eq xs ys → take n xs ≡ take n ys)
        → suc n ≤ cond b (1 + common_prefix_len nat_eq xs ys) 0 → x ∷ take n xs ≡ y ∷ take n ys
    by_test true same rest k = ap (λ z. z ∷ take n xs) (same refl) ∙ ap (λ zs. y ∷ zs) (rest (omega (arith, k)))
    by_test false same rest k = absurd (omega (arith, k))

way-cut : (front base target a b : List ℕ) → base ≡ (front ++ 47 ∷ []) ++ a → target ≡ (front ++ 47 ∷ []) ++ b
    → between (parts a) (parts b) ≡ between (parts base) (parts target)
way-cut front base target a b is at =
    sym (between-shared (parts front) (parts a) (parts b))
    ∙ ap (λ ps. between ps (parts front ++ parts b)) (sym (ap parts (is ∙ append_assoc front (47 ∷ []) a)
    ∙ parts-slash front a))
    ∙ ap (between (parts base)) (sym (ap parts (at ∙ append_assoc front (47 ∷ []) b) ∙ parts-slash front b))

pub shared-slash : (base target : List ℕ) (n k : ℕ) → n ≡ common_prefix_len nat_eq base target
    → IsLastByte (is_byte 47) (take n base) (Some k) → SharesSlash base target k
shared-slash base target n k told last =
    let le = common_prefix_len-le nat_eq base target in
    let low : k < n = omega (arith, last.0.high, length-take n base) in
    let slash : get_or base k 0 ≡ 47 = sym (get_or-take n base k 0 low) ∙ (Decides-eqb _ 47).0 last.1 in
    let front : take (k + 1) base ≡ take k base ++ 47 ∷ [] =
    take_more base k 0 (omega (arith, low, told, le.0)) ∙ ap (λ c. take k base ++ c ∷ []) slash in
    record {
      in_base = omega (arith, low, told, le.0);
      in_target = omega (arith, low, told, le.1);
      way = way-cut (take k base) base target (drop (k + 1) base) (drop (k + 1) target)
          (sym (take-append-drop (k + 1) base) ∙ ap (λ s. s ++ drop (k + 1) base) front)
          (sym (take-append-drop (k + 1) target)
          ∙ ap (λ s. s ++ drop (k + 1) target) (sym (shared-take (k + 1) base target (omega (arith, low, told)))
          ∙ front));
    }

-- the way between two texts by the slices that are borrowed
pub way-slices : (base target : List ℕ) (k : ℕ) → SharesSlash base target k
    → between (parts (take (length base - (k + 1)) (drop (k + 1) base)))
    (parts (take (length target - (k + 1)) (drop (k + 1) target))) ≡ between (parts base) (parts target)
way-slices base target k h =
    ap (λ s. between (parts s) (parts (take (length target - (k + 1)) (drop (k + 1) target))))
    (take_all (length base - (k + 1)) (drop (k + 1) base) (omega (arith, length-drop (k + 1) base)))
    ∙ ap (λ s. between (parts (drop (k + 1) base)) (parts s))
    (take_all (length target - (k + 1)) (drop (k + 1) target) (omega (arith, length-drop (k + 1) target)))
    ∙ h.way

-- ---- part by part
pub apart_none : (xs : List (List ℕ)) → common_prefix_len bytes_eq xs [] ≡ 0
apart_none [] = refl
apart_none (x ∷ xs) = refl

pub between-step : (left rest : Option (Bor (List ℕ))) (from to : Bor (List ℕ)) (x y : List ℕ) (xs ys : List (List ℕ))
    → left ≡ Some from → rest ≡ Some to → parts from.now ≡ x ∷ xs → parts to.now ≡ y ∷ ys → x ≡ y
    → between xs ys ≡ between (parts_if left) (parts_if rest)
between-step left rest from to x y xs ys l r f t same =
    sym (between-shared (x ∷ []) xs ys)
    ∙ ap (λ z. between (x ∷ xs) (z ∷ ys)) same
    ∙ ap (λ ps. between ps (y ∷ ys)) (sym (ap parts_if l ∙ f))
    ∙ ap (between (parts_if left)) (sym (ap parts_if r ∙ t))

pub way-written : (base target left rest : Option (Bor (List ℕ))) (r s : Route) (ups : ℕ) (u : List ℕ)
    → parts_if base ≡ route_parts r → parts_if target ≡ route_parts s
    → between (parts_if left) (parts_if rest) ≡ between (parts_if base) (parts_if target)
    → common_prefix_len bytes_eq (parts_if rest) (parts_if left) ≡ 0 → ups ≡ length (parts_if left)
    → u ≡ join_with_byte 47 (replicate ups (46 ∷ 46 ∷ []) ++ parts_if rest)
    → u ≡ join_with_byte 47 (between (route_parts r) (route_parts s))
way-written base target left rest r s ups u from to way apart count text =
    text
    ∙ ap (λ n. join_with_byte 47 (replicate n (46 ∷ 46 ∷ []) ++ parts_if rest)) count
    ∙ ap (join_with_byte 47) (sym (between-apart (parts_if left) (parts_if rest) apart) ∙ way)
    ∙ ap (λ ps. join_with_byte 47 (between ps (parts_if target))) from
    ∙ ap (λ ps. join_with_byte 47 (between (route_parts r) ps)) to

pub rest-written : (rest : Option (Bor (List ℕ))) (text : Bor (List ℕ)) (ups : ℕ) (t u : List ℕ) → rest ≡ Some text
    → t ≡ closed (replicate ups (46 ∷ 46 ∷ [])) → u ≡ t ++ text.now
    → u ≡ join_with_byte 47 (replicate ups (46 ∷ 46 ∷ []) ++ parts_if rest)
rest-written rest text ups t u is dots more = way-rest ups t u text.now dots more
    ∙ ap (λ o. join_with_byte 47 (replicate ups (46 ∷ 46 ∷ []) ++ parts_if o)) (sym is)

pub none-written : (rest : Option (Bor (List ℕ))) (ups n : ℕ) (t u : List ℕ) → rest ≡ None
    → t ≡ closed (replicate ups (46 ∷ 46 ∷ [])) → n ≡ length t → u ≡ take (n - 1) t
    → u ≡ join_with_byte 47 (replicate ups (46 ∷ 46 ∷ []) ++ parts_if rest)
none-written rest ups n t u is dots count cut =
    closed-popped (replicate ups (46 ∷ 46 ∷ [])) n t u dots count cut
    ∙ ap (join_with_byte 47) (sym (append-nil (replicate ups (46 ∷ 46 ∷ []))))
    ∙ ap (λ o. join_with_byte 47 (replicate ups (46 ∷ 46 ∷ []) ++ parts_if o)) (sym is)

-- ---- two absolute paths, by their names in order
pub way-rooted : (base target : List ℕ) (from to : List (List ℕ)) → is_absolute base ≡ true → is_absolute target ≡ true
    → from ≡ reverse (path_in base) → to ≡ reverse (path_in target)
    → join_with_byte 47 (between from to) ≡ way (route_of base) (route_of target)
unfolding way
way-rooted base target from to h k left right =
    ap (λ ps. join_with_byte 47 (between ps to)) left
    ∙ ap (λ ps. join_with_byte 47 (between (reverse (path_in base)) ps)) right
    ∙ ap (λ r. way r (Rooted (path_in target))) (sym (route_of-absolute base h))
    ∙ ap (way (route_of base)) (sym (route_of-absolute target k))

-- ---- a place is that of its path's route
pub place-of : (t u : List ℕ) → u ≡ place t → IsPlaceOf (route_of t) u
unfolding place
place-of t u is = record { names = IsPath-route_of t; text = is }

pub shared-last : (base target : List ℕ) (n : ℕ) (r : Option ℕ) → n ≡ common_prefix_len nat_eq base target
    → IsLastByte (is_byte 47) (take n base) r → IfSome r (SharesSlash base target)
shared-last base target n None told last = tt
shared-last base target n (Some k) told last = shared-slash base target n k told last

pub shared-within : (base target : List ℕ) (n : ℕ) → n ≡ common_prefix_len nat_eq base target → n ≡ length (take n base)
shared-within base target n told =
    sym (length-take-le n base (omega (arith, told, (common_prefix_len-le nat_eq base target).0)))
