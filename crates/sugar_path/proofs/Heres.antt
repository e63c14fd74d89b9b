-- Paths that lead back to where they begin.
use mathlib.Core.Bool.{beq}
use Rattle.std.proofs.Common.{
  eqb,
  ◌≡◌,
  ◌≢◌,
  ◌==◌,
  ◌⊎◌,
  inl,
  inr,
  ℕ,
  zero,
  suc,
  ◌+◌,
  ◌-◌,
  Bool,
  true,
  false,
  not,
  cond,
  List,
  [],
  ◌∷◌,
  ◌++◌,
  length,
  map,
  bytes_eq,
  refl,
  sym,
  ap,
  ◌∙◌,
  subst,
  reverse,
  replicate,
  arith,
  length-append,
}
use denote.Ref.{Bor}
use Rattle.std.specs.List.{join_with_byte, AllByRecursion}
use Rattle.std.proofs.lemmas.Bool.Decides.{Decides-eqb, eqb_tells}
use Rattle.std.proofs.lemmas.List.{map-append}
use Rattle.std.proofs.lemmas.Slice.Eq.{bytes_eq-Decides}
use Rattle.sugar_path.specs.declared.normal.Climb.{Climb}
use Rattle.sugar_path.specs.declared.part.Lead.TheVariants.{Nowhere, Up, Down}
use Rattle.sugar_path.specs.Part.{by_kind}
use Rattle.sugar_path.specs.Relative.{same_start, needs_folder}
use Rattle.sugar_path.specs.Path.{IsName, IsPath, is_plain, is_absolute, ends_in_slash, parts}
use Rattle.sugar_path.specs.Route.{
  Route,
  Rooted,
  Relative,
  route_up,
  route_down,
  route_by_part,
  route_by_parts,
  route_of,
  route_names,
  is_rooted,
  route_text,
  or_dot,
  place,
  normal,
}
use Rattle.sugar_path.specs.Reading.{HasClimb, is_start, ups_of}
use Rattle.sugar_path.proofs.RouteTexts.{route_by_parts-append}
use Rattle.sugar_path.proofs.Leads.{by_kind-lead}
use Rattle.std.proofs.lemmas.Grind.{reverse_onto}
use Rattle.sugar_path.proofs.Placed.{
  route_by_part-plain,
  AllByRecursion-reverse,
  IsPath-route_of,
  route_of-rooted,
  normal-open,
  start-loose,
}

-- what one more part does to a climb
HasClimb-plain : (r : Route) (a b : Climb) (x : List ℕ) → HasClimb r a → is_plain x ≡ true → b.ups ≡ a.ups
    → b.depth ≡ a.depth + 1 → HasClimb (route_by_part r x) b
HasClimb-plain r a b x h plain ups depth = rw (route_by_part-plain r x plain) (by_route r h)
  where
    by_route : (r : Route) → HasClimb r a → HasClimb (route_down r x) b
    by_route (Rooted p) h = absurd h
    by_route (Relative k p) h = (ups ∙ h.0, omega (arith, h.1, depth))

HasClimb-back : (r : Route) (a b : Climb) → HasClimb r a → a.depth ≢ 0 → b.ups ≡ a.ups → b.depth ≡ a.depth - 1
    → HasClimb (route_up r) b
HasClimb-back (Rooted p) a b h some ups depth = absurd h
HasClimb-back (Relative k []) a b h some ups depth = absurd (some h.1)
HasClimb-back (Relative k (n ∷ p)) a b h some ups depth = (ups ∙ h.0, omega (arith, h.1, depth))

HasClimb-up : (r : Route) (a b : Climb) → HasClimb r a → a.depth ≡ 0 → b.ups ≡ a.ups + 1 → b.depth ≡ a.depth
    → HasClimb (route_up r) b
HasClimb-up (Rooted p) a b h none ups depth = absurd h
HasClimb-up (Relative k []) a b h none ups depth = (omega (arith, h.0, ups), omega (arith, h.1, depth))
HasClimb-up (Relative k (n ∷ p)) a b h none ups depth = absurd (omega (arith, h.1, none))

-- ---- the route of the parts that a loop passed
abbrev pub seen_route : List (Bor (List ℕ)) → Route
seen_route seen = route_by_parts (Relative 0 []) (map (λ x. x.now) seen)

seen-push : (seen : List (Bor (List ℕ))) (x : Bor (List ℕ))
    → seen_route (seen ++ x ∷ []) ≡ route_by_part (seen_route seen) x.now
seen-push seen x = ap (route_by_parts (Relative 0 [])) (map-append (λ y. y.now) seen (x ∷ []))
    ∙ route_by_parts-append (Relative 0 []) (map (λ y. y.now) seen) (x.now ∷ [])

pub seen-plain : (seen : List (Bor (List ℕ))) (x : Bor (List ℕ)) (a b : Climb) → HasClimb (seen_route seen) a
    → is_plain x.now ≡ true → b.ups ≡ a.ups → b.depth ≡ a.depth + 1 → HasClimb (seen_route (seen ++ x ∷ [])) b
seen-plain seen x a b h plain ups depth = rw seen-push (HasClimb-plain (seen_route seen) a b x.now h plain ups depth)

pub seen-back : (seen : List (Bor (List ℕ))) (x : Bor (List ℕ)) (a b : Climb) → HasClimb (seen_route seen) a
    → x.now ≡ 46 ∷ 46 ∷ [] → a.depth ≢ 0 → b.ups ≡ a.ups → b.depth ≡ a.depth - 1
    → HasClimb (seen_route (seen ++ x ∷ [])) b
seen-back seen x a b h dots some ups depth =
    let P : Route → Type 0 = λ r. HasClimb r b in
    subst P (sym (seen-push seen x ∙ ap (route_by_part (seen_route seen)) dots))
    (HasClimb-back (seen_route seen) a b h some ups depth)

pub seen-up : (seen : List (Bor (List ℕ))) (x : Bor (List ℕ)) (a b : Climb) → HasClimb (seen_route seen) a
    → x.now ≡ 46 ∷ 46 ∷ [] → a.depth ≡ 0 → b.ups ≡ a.ups + 1 → b.depth ≡ a.depth
    → HasClimb (seen_route (seen ++ x ∷ [])) b
seen-up seen x a b h dots none ups depth =
    let P : Route → Type 0 = λ r. HasClimb r b in
    subst P (sym (seen-push seen x ∙ ap (route_by_part (seen_route seen)) dots))
    (HasClimb-up (seen_route seen) a b h none ups depth)

pub seen-silent : (seen : List (Bor (List ℕ))) (x : Bor (List ℕ)) (a : Climb) → HasClimb (seen_route seen) a
    → Nowhere ≡ by_kind x.now Nowhere Up Down → HasClimb (seen_route (seen ++ x ∷ [])) a
seen-silent seen x a h silent =
    let P : Route → Type 0 = λ r. HasClimb r a in
    let r = seen_route seen in
    subst P (sym (seen-push seen x ∙ by_kind-lead x.now Nowhere r (route_up r) (route_down r x.now) silent)) h

-- what a climb tells of its route
climb-depth : (r : Route) (a : Climb) → HasClimb r a → a.ups ≡ 0 → (a.depth == 0) ≡ is_start r
climb-depth (Rooted p) a h none = absurd h
climb-depth (Relative zero []) a h none = rw h.1 refl
climb-depth (Relative zero (n ∷ p)) a h none = by_test (eqb_tells a.depth 0)
  where
    by_test : (((a.depth == 0) ≡ true) × (a.depth ≡ 0)) ⊎ (((a.depth == 0) ≡ false) × (a.depth ≢ 0))
        → (a.depth == 0) ≡ false
    by_test (inl w) = absurd (omega (arith, h.1, w.1))
    by_test (inr w) = w.0
climb-depth (Relative (suc k) p) a h none = absurd (omega (arith, h.0, none))

climb-above : (r : Route) (a : Climb) → HasClimb r a → a.ups ≢ 0 → (a.ups == 0) ≡ is_start r
climb-above (Rooted p) a h some = absurd h
climb-above (Relative zero p) a h some = absurd (some h.0)
climb-above (Relative (suc k) p) a h some = by_test (eqb_tells a.ups 0)
  where
    by_test : (((a.ups == 0) ≡ true) × (a.ups ≡ 0)) ⊎ (((a.ups == 0) ≡ false) × (a.ups ≢ 0)) → (a.ups == 0) ≡ false
    by_test (inl w) = absurd (some w.1)
    by_test (inr w) = w.0

climb-ups : (r : Route) (a : Climb) → HasClimb r a → a.ups ≡ ups_of r
climb-ups (Rooted p) a h = absurd h
climb-ups (Relative k p) a h = h.0

pub loose-depth : (t : List ℕ) (a : Climb) → is_absolute t ≡ false
    → HasClimb (route_by_parts (Relative 0 []) (parts t)) a → a.ups ≡ 0 → (a.depth == 0) ≡ is_start (route_of t)
unfolding route_of
loose-depth t a loose h none = climb-depth (route_by_parts (Relative 0 []) (parts t)) a h none
    ∙ ap (λ r. is_start (route_by_parts r (parts t))) (sym (start-loose t loose))

pub loose-above : (t : List ℕ) (a : Climb) → is_absolute t ≡ false
    → HasClimb (route_by_parts (Relative 0 []) (parts t)) a → a.ups ≢ 0 → (a.ups == 0) ≡ is_start (route_of t)
unfolding route_of
loose-above t a loose h some = climb-above (route_by_parts (Relative 0 []) (parts t)) a h some
    ∙ ap (λ r. is_start (route_by_parts r (parts t))) (sym (start-loose t loose))

pub loose-ups : (t : List ℕ) (a : Climb) → is_absolute t ≡ false → HasClimb (route_by_parts (Relative 0 []) (parts t)) a
    → a.ups ≡ ups_of (route_of t)
unfolding route_of
loose-ups t a loose h = climb-ups (route_by_parts (Relative 0 []) (parts t)) a h
    ∙ ap (λ r. ups_of (route_by_parts r (parts t))) (sym (start-loose t loose))

pub rooted-ups : (t : List ℕ) → is_absolute t ≡ true → 0 ≡ ups_of (route_of t)
rooted-ups t h = by_route (route_of t) (route_of-rooted t ∙ h)
  where
    by_route : (r : Route) → is_rooted r ≡ true → 0 ≡ ups_of r
    by_route (Rooted p) e = refl
    by_route (Relative k p) e = cc

-- ---- the text of a route is `.` exactly where the route stays
not-dot : (xs : List (List ℕ)) → AllByRecursion IsName xs → xs ≢ [] → or_dot (join_with_byte 47 xs) ≢ 46 ∷ []
not-dot [] names some e = some refl
not-dot ([] ∷ xs) names some e = let f : false ≡ true = names.0 in cc
not-dot ((c ∷ a) ∷ []) names some e = let P : List ℕ → Type 0 = IsName in let f : false ≡ true = subst P e names.0 in cc
not-dot ((c ∷ a) ∷ x ∷ xs) names some e =
    let tail : a ++ 47 ∷ join_with_byte 47 (x ∷ xs) ≡ [] = cc in
    absurd (omega (arith, ap length tail, length-append a (47 ∷ join_with_byte 47 (x ∷ xs))))

pub here-route : (r : Route) → IsPath (route_names r) → bytes_eq (or_dot (route_text r)) (46 ∷ []) ≡ is_start r
unfolding route_text
here-route (Rooted p) h = refl
here-route (Relative zero []) h = refl
here-route (Relative zero (n ∷ p)) h = by_test (bytes_eq (or_dot (join_with_byte 47 (reverse (n ∷ p)))) (46 ∷ [])) refl
  where
    by_test : (b : Bool) → bytes_eq (or_dot (join_with_byte 47 (reverse (n ∷ p)))) (46 ∷ []) ≡ b → b ≡ false
    by_test true e = absurd (not-dot (reverse (n ∷ p)) (AllByRecursion-reverse IsName (n ∷ p) h) (λ f. some f)
        ((bytes_eq-Decides (or_dot (join_with_byte 47 (reverse (n ∷ p)))) (46 ∷ [])).0 e))
      where
        some : reverse (n ∷ p) ≡ [] → ⊥
        some f = omega (arith, ap length (sym (reverse_onto p n []) ∙ f), length-append (reverse p) (n ∷ []))
    by_test false e = refl
here-route (Relative (suc k) p) h = by_rest (replicate k (46 ∷ 46 ∷ []) ++ reverse p)
  where
    by_rest : (xs : List (List ℕ)) → bytes_eq (or_dot (join_with_byte 47 ((46 ∷ 46 ∷ []) ∷ xs))) (46 ∷ []) ≡ false
    by_rest [] = refl
    by_rest (x ∷ xs) = refl

pub here-place : (t : List ℕ) → bytes_eq (place t) (46 ∷ []) ≡ is_start (route_of t)
unfolding place
here-place t = here-route (route_of t) (IsPath-route_of t)

pub here-open : (t : List ℕ) (b : Bool) → ends_in_slash t ≡ false → b ≡ is_start (route_of t)
    → b ≡ bytes_eq (normal t) (46 ∷ [])
here-open t b unended told = told ∙ sym (here-place t) ∙ ap (λ s. bytes_eq s (46 ∷ [])) (sym (normal-open t unended))

or_dot-long : (t : List ℕ) → length (or_dot t) ≢ 0
or_dot-long [] e = absurd (omega arith)
or_dot-long (c ∷ t) e = absurd (omega arith)

pub place-long : (t : List ℕ) → length (place t) ≢ 0
unfolding place
place-long t = or_dot-long (route_text (route_of t))

pub here-closed : (t : List ℕ) → ends_in_slash t ≡ true → false ≡ bytes_eq (normal t) (46 ∷ [])
unfolding normal
here-closed t ended = rw ended (by_test (bytes_eq (place t) (47 ∷ [])) refl)
  where
    by_test : (b : Bool) → bytes_eq (place t) (47 ∷ []) ≡ b
        → false ≡ bytes_eq (cond (not b) (place t ++ 47 ∷ []) (place t)) (46 ∷ [])
    by_test true e = let root : place t ≡ 47 ∷ [] = (bytes_eq-Decides (place t) (47 ∷ [])).0 e in
        sym (ap (λ s. bytes_eq s (46 ∷ [])) root)
    by_test false e = by_both (bytes_eq (place t ++ 47 ∷ []) (46 ∷ [])) refl
      where
        by_both : (b : Bool) → bytes_eq (place t ++ 47 ∷ []) (46 ∷ []) ≡ b → false ≡ b
        by_both true f = absurd (place-long t (let g : length (place t ++ 47 ∷ []) ≡ 1 =
            ap length ((bytes_eq-Decides (place t ++ 47 ∷ []) (46 ∷ [])).0 f) in
            omega (arith, length-append (place t) (47 ∷ []))))
        by_both false f = refl

pub rooted-start : (t : List ℕ) → is_absolute t ≡ true → false ≡ is_start (route_of t)
rooted-start t h = by_route (route_of t) (route_of-rooted t ∙ h)
  where
    by_route : (r : Route) → is_rooted r ≡ true → false ≡ is_start r
    by_route (Rooted p) e = refl
    by_route (Relative k p) e = cc

-- ---- whether two paths begin at one folder
routes-differ : (r s : Route) → not (beq (is_rooted r) (is_rooted s)) ≡ true → not (same_start r s) ≡ true
routes-differ (Rooted p) (Rooted q) h = cc
routes-differ (Rooted p) (Relative k q) h = refl
routes-differ (Relative k p) (Rooted q) h = refl
routes-differ (Relative k p) (Relative m q) h = cc

routes-alike : (r s : Route) → not (beq (is_rooted r) (is_rooted s)) ≡ false
    → not (ups_of r == ups_of s) ≡ not (same_start r s)
routes-alike (Rooted p) (Rooted q) h = refl
routes-alike (Rooted p) (Relative k q) h = cc
routes-alike (Relative k p) (Rooted q) h = cc
routes-alike (Relative k p) (Relative m q) h = refl

roots : (base target : List ℕ) (a b : Bool) → a ≡ is_absolute target → b ≡ is_absolute base
    → not (beq (is_rooted (route_of target)) (is_rooted (route_of base))) ≡ not (beq a b)
roots base target a b e f = ap (λ x. not (beq x (is_rooted (route_of base)))) (route_of-rooted target ∙ sym e)
    ∙ ap (λ x. not (beq a x)) (route_of-rooted base ∙ sym f)

pub folder-roots : (base target : List ℕ) (a b : Bool) → a ≡ is_absolute target → b ≡ is_absolute base
    → not (beq a b) ≡ true → not (beq a b) ≡ needs_folder base target
folder-roots base target a b e f differ =
    differ ∙ sym (routes-differ (route_of target) (route_of base) (roots base target a b e f ∙ differ))

pub folder-ups : (base target : List ℕ) (a b : Bool) (k m : ℕ) → a ≡ is_absolute target → b ≡ is_absolute base
    → not (beq a b) ≡ false → k ≡ ups_of (route_of target) → m ≡ ups_of (route_of base)
    → not (eqb k m) ≡ needs_folder base target
folder-ups base target a b k m e f alike up down =
    ap (λ x. not (eqb x m)) up ∙ ap (λ x. not (eqb (ups_of (route_of target)) x)) down
    ∙ routes-alike (route_of target) (route_of base) (roots base target a b e f ∙ alike)

pub folder-alone : (base target : List ℕ) (a b : Bool) (k m : ℕ) → a ≡ is_absolute target → b ≡ is_absolute base
    → beq a b ≡ true → k ≡ ups_of (route_of target) → m ≡ ups_of (route_of base) → k ≡ m
    → needs_folder base target ≡ false
folder-alone base target a b k m e f alike up down same =
    sym (folder-ups base target a b k m e f (ap not alike) up down) ∙ ap not ((Decides-eqb k m).1 same)

pub folder-apart : (base target : List ℕ) (a b : Bool) (k m : ℕ) → a ≡ is_absolute target → b ≡ is_absolute base
    → beq a b ≡ true → k ≡ ups_of (route_of target) → m ≡ ups_of (route_of base) → k ≢ m
    → needs_folder base target ≡ true
folder-apart base target a b k m e f alike up down differ =
    sym (folder-ups base target a b k m e f (ap not alike) up down) ∙ by_test (eqb_tells k m)
  where
    by_test : (((k == m) ≡ true) × (k ≡ m)) ⊎ (((k == m) ≡ false) × (k ≢ m)) → not (k == m) ≡ true
    by_test (inl w) = absurd (differ w.1)
    by_test (inr w) = ap not w.0
