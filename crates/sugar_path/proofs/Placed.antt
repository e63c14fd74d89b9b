-- Texts that are their own place, told by their parts.
use Rattle.std.proofs.Common.{
  ◌≡◌,
  ◌≢◌,
  ◌==◌,
  ◌&&◌,
  ◌||◌,
  ◌⊎◌,
  inl,
  inr,
  ℕ,
  zero,
  suc,
  ◌+◌,
  ◌<◌,
  drop,
  Bool,
  true,
  false,
  not,
  cond,
  List,
  [],
  ◌∷◌,
  ◌++◌,
  length,
  get_or,
  bytes_eq,
  refl,
  sym,
  ap,
  ◌∙◌,
  subst,
  append_assoc,
  append-nil,
  reverse,
  replicate,
  arith,
  length-append,
}
use Rattle.std.specs.List.{join_with_byte, AllByRecursion}
use Rattle.std.proofs.lemmas.Bool.Decides.{eqb_tells, same_from_decides}
use Rattle.std.proofs.lemmas.Slice.Eq.{bytes_eq-Decides}
use Rattle.std.proofs.lemmas.Grind.{reverse_onto}
use Rattle.std.proofs.lemmas.List.{replicate_more, at_drop_more, at_drop_all, append_cancel_right}
use Rattle.std.proofs.lemmas.List.Splits.{join_with_byte-slice_split}
use Rattle.sugar_path.specs.Path.{Path, IsName, IsPath, is_plain, has_no_slash, ends_in_slash, is_absolute, parts}
use Rattle.sugar_path.specs.Route.{
  Route,
  Rooted,
  Relative,
  route_up,
  route_down,
  route_by_part,
  route_by_parts,
  route_start,
  route_of,
  route_names,
  route_parts,
  is_rooted,
  route_text,
  or_dot,
  place,
  normal,
}
use Rattle.sugar_path.specs.Reading.{are_steps}
use Rattle.sugar_path.proofs.Bools.{and_left, and_right, or_right}
use Rattle.sugar_path.proofs.Paths.{no_slash-name}
use Rattle.sugar_path.proofs.Parts.{HasNoSlash, parts-no_slash, parts-name, parts-slash}
use Rattle.sugar_path.proofs.RouteTexts.{ends-append, ends-split, route_by_parts-append}

-- a plain part goes down
pub route_by_part-plain : (r : Route) (part : List ℕ) → is_plain part ≡ true → route_by_part r part ≡ route_down r part
route_by_part-plain r part h = by_tests (bytes_eq part []) (bytes_eq part (46 ∷ [])) (bytes_eq part (46 ∷ 46 ∷ [])) h
  where
    by_tests : (a b c : Bool) → (not a && not b && not c) ≡ true
        → cond (a || b) r (cond c (route_up r) (route_down r part)) ≡ route_down r part
    by_tests true b c h = cc
    by_tests false true c h = cc
    by_tests false false true h = cc
    by_tests false false false h = refl

pub route_parts-down : (r : Route) (n : List ℕ) → route_parts (route_down r n) ≡ route_parts r ++ n ∷ []
route_parts-down (Rooted p) n = reverse_onto p n []
route_parts-down (Relative k p) n = ap (λ ys. replicate k (46 ∷ 46 ∷ []) ++ ys) (reverse_onto p n [])
    ∙ sym (append_assoc (replicate k (46 ∷ 46 ∷ [])) (reverse p) (n ∷ []))

pub is_rooted-down : (r : Route) (n : List ℕ) → is_rooted (route_down r n) ≡ is_rooted r
is_rooted-down (Rooted p) n = refl
is_rooted-down (Relative k p) n = refl

-- names are put behind the parts of a route
names-read : (r : Route) (xs : List (List ℕ)) → are_steps false xs ≡ true
    → (route_parts (route_by_parts r xs) ≡ route_parts r ++ xs) × (is_rooted (route_by_parts r xs) ≡ is_rooted r)
names-read r [] h = (sym (append-nil (route_parts r)), refl)
names-read r (x ∷ xs) h = by_test (is_plain x) refl h (names-read (route_down r x) xs)
  where
    by_test : (b : Bool) → is_plain x ≡ b → cond b (are_steps false xs) false ≡ true
        → (are_steps false xs ≡ true → (route_parts (route_by_parts (route_down r x) xs) ≡ route_parts (route_down r x)
        ++ xs) × (is_rooted (route_by_parts (route_down r x) xs) ≡ is_rooted (route_down r x)))
        → (route_parts (route_by_parts (route_by_part r x) xs) ≡ route_parts r ++ x ∷ xs)
        × (is_rooted (route_by_parts (route_by_part r x) xs) ≡ is_rooted r)
    by_test true e k read = rw (route_by_part-plain r x e) (
      (read k).0 ∙ ap (λ ys. ys ++ xs) (route_parts-down r x) ∙ append_assoc (route_parts r) (x ∷ []) xs,
      (read k).1 ∙ is_rooted-down r x,
    )
    by_test false e k read = cc

-- so are `..` and names, where no name stands before
steps-read : (k : ℕ) (xs : List (List ℕ)) → are_steps true xs ≡ true
    → (route_parts (route_by_parts (Relative k []) xs) ≡ route_parts (Relative k []) ++ xs)
    × (is_rooted (route_by_parts (Relative k []) xs) ≡ false)
steps-read k [] h = (sym (append-nil (route_parts (Relative k []))), refl)
steps-read k (x ∷ xs) h = by_test (is_plain x) refl h (steps-read (k + 1) xs)
  where
    by_test : (b : Bool) → is_plain x ≡ b → cond b (are_steps false xs) (bytes_eq x (46 ∷ 46 ∷ []) && are_steps true xs)
        ≡ true → (are_steps true xs ≡ true → (route_parts (route_by_parts (Relative (k + 1) []) xs) ≡ route_parts
        (Relative (k + 1) []) ++ xs) × (is_rooted (route_by_parts (Relative (k + 1) []) xs) ≡ false))
        → (route_parts (route_by_parts (Relative k []) (x ∷ xs)) ≡ route_parts (Relative k []) ++ x ∷ xs)
        × (is_rooted (route_by_parts (Relative k []) (x ∷ xs)) ≡ false)
    by_test true e t read = names-read (Relative k []) (x ∷ xs) (rw e t)
    by_test false e t read =
        let dots : x ≡ 46 ∷ 46 ∷ [] =
        (bytes_eq-Decides x (46 ∷ 46 ∷ [])).0 (and_left (bytes_eq x (46 ∷ 46 ∷ [])) (are_steps true xs) t) in
        let rest = read (and_right (bytes_eq x (46 ∷ 46 ∷ [])) (are_steps true xs) t) in
        rw dots (
          rest.0
              ∙ ap (λ ys. (ys ++ []) ++ xs) (sym (replicate_more k (46 ∷ 46 ∷ [])))
              ∙ ap (λ ys. ys ++ xs) (append-nil (replicate k (46 ∷ 46 ∷ []) ++ (46 ∷ 46 ∷ []) ∷ []))
              ∙ append_assoc (replicate k (46 ∷ 46 ∷ [])) ((46 ∷ 46 ∷ []) ∷ []) xs
              ∙ ap (λ ys. ys ++ (46 ∷ 46 ∷ []) ∷ xs) (sym (append-nil (replicate k (46 ∷ 46 ∷ [])))),
          rest.1,
        )

pub parts-join : (a : List ℕ) (xs : List (List ℕ)) → AllByRecursion HasNoSlash (a ∷ xs)
    → parts (join_with_byte 47 (a ∷ xs)) ≡ a ∷ xs
parts-join a [] h = parts-name a h.0
parts-join a (b ∷ xs) h = parts-slash a (join_with_byte 47 (b ∷ xs))
    ∙ ap (λ ps. ps ++ parts (join_with_byte 47 (b ∷ xs))) (parts-name a h.0) ∙ ap (λ ps. a ∷ ps) (parts-join b xs h.1)

-- ---- a text with the looks of a place is its own place
pub route_text-rooted : (r : Route) → is_rooted r ≡ true → route_text r ≡ 47 ∷ join_with_byte 47 (route_parts r)
unfolding route_text
route_text-rooted (Rooted p) h = refl
route_text-rooted (Relative k p) h = cc

pub route_text-loose : (r : Route) → is_rooted r ≡ false → route_text r ≡ join_with_byte 47 (route_parts r)
unfolding route_text
route_text-loose (Rooted p) h = cc
route_text-loose (Relative k p) h = refl

or_dot-some : (t : List ℕ) → length t ≢ 0 → or_dot t ≡ t
or_dot-some [] h = absurd (h refl)
or_dot-some (c ∷ t) h = refl

place-rooted : (t : List ℕ) → are_steps false (parts t) ≡ true → place (47 ∷ t) ≡ 47 ∷ t
unfolding place route_of
place-rooted t h =
    let read = names-read (Rooted []) (parts t) h in
    ap or_dot (route_text-rooted (route_by_parts (Rooted []) (parts t)) read.1
    ∙ ap (λ ys. 47 ∷ join_with_byte 47 ys) read.0 ∙ ap (λ x. 47 ∷ x) (join_with_byte-slice_split 47 t))

pub start-loose : (t : List ℕ) → is_absolute t ≡ false → route_start t ≡ Relative 0 []
start-loose t h = ap (λ b. cond b (Rooted []) (Relative 0 [])) h

place-loose : (t : List ℕ) → is_absolute t ≡ false → are_steps true (parts t) ≡ true → place t ≡ t
unfolding place route_of
place-loose [] loose h = cc
place-loose (c ∷ t) loose h =
    let read = steps-read 0 (parts (c ∷ t)) h in
    ap (λ r. or_dot (route_text (route_by_parts r (parts (c ∷ t))))) (start-loose (c ∷ t) loose)
    ∙ ap or_dot (route_text-loose (route_by_parts (Relative 0 []) (parts (c ∷ t))) read.1
    ∙ ap (join_with_byte 47) read.0 ∙ join_with_byte-slice_split 47 (c ∷ t))

-- ---- a place has those looks
names-steps : (up : Bool) (xs : List (List ℕ)) → AllByRecursion IsName xs → are_steps up xs ≡ true
names-steps up [] h = refl
names-steps up (x ∷ xs) h = rw (and_left (is_plain x) (has_no_slash x) h.0) (names-steps false xs h.1)

dots-steps : (k : ℕ) (xs : List (List ℕ)) → AllByRecursion IsName xs
    → are_steps true (replicate k (46 ∷ 46 ∷ []) ++ xs) ≡ true
dots-steps zero xs h = names-steps true xs h
dots-steps (suc k) xs h = dots-steps k xs h

pub AllByRecursion-reverse : (P : List ℕ → Type 0) (p : Path) → AllByRecursion P p → AllByRecursion P (reverse p)
AllByRecursion-reverse P [] h = tt
AllByRecursion-reverse P (n ∷ p) h =
    let Q : List (List ℕ) → Type 0 = AllByRecursion P in
    subst Q (sym (reverse_onto p n [])) (push (reverse p) (AllByRecursion-reverse P p h.1))
  where
    push : (xs : List (List ℕ)) → AllByRecursion P xs → AllByRecursion P (xs ++ n ∷ [])
    push [] k = (h.0, tt)
    push (x ∷ xs) k = (k.0, push xs k.1)

names-no_slash : (xs : List (List ℕ)) → AllByRecursion IsName xs → AllByRecursion HasNoSlash xs
names-no_slash [] h = tt
names-no_slash (x ∷ xs) h = (no_slash-name x h.0, names-no_slash xs h.1)

dots-no_slash : (k : ℕ) (xs : List (List ℕ)) → AllByRecursion IsName xs
    → AllByRecursion HasNoSlash (replicate k (46 ∷ 46 ∷ []) ++ xs)
dots-no_slash zero xs h = names-no_slash xs h
dots-no_slash (suc k) xs h = (refl, dots-no_slash k xs h)

-- what a relative place looks like
abbrev pub looks_loose : List ℕ → Bool
looks_loose t = bytes_eq t (46 ∷ []) || are_steps true (parts t)

-- and what stands behind the slash of a rooted one
abbrev pub looks_rooted : List ℕ → Bool
looks_rooted t = (length t == 0) || are_steps false (parts t)

joined-looks : (up : Bool) (xs : List (List ℕ)) → AllByRecursion HasNoSlash xs → are_steps up xs ≡ true
    → (length (join_with_byte 47 xs) ≢ 0 → are_steps up (parts (join_with_byte 47 xs)) ≡ true)
joined-looks up [] slash h some = absurd (some refl)
joined-looks up (a ∷ xs) slash h some = ap (are_steps up) (parts-join a xs slash) ∙ h

loose-looks : (t : List ℕ) → (length t ≢ 0 → are_steps true (parts t) ≡ true) → looks_loose (or_dot t) ≡ true
loose-looks [] h = refl
loose-looks (c ∷ t) h =
    or_right (bytes_eq (c ∷ t) (46 ∷ [])) (are_steps true (parts (c ∷ t))) (h (λ e. absurd (omega arith)))

loose-route : (r : Route) → IsPath (route_names r) → is_rooted r ≡ false → looks_loose (or_dot (route_text r)) ≡ true
unfolding route_text
loose-route (Rooted p) h loose = cc
loose-route (Relative k p) h loose =
    let xs = replicate k (46 ∷ 46 ∷ []) ++ reverse p in
    let names = AllByRecursion-reverse IsName p h in
    loose-looks (join_with_byte 47 xs) (joined-looks true xs (dots-no_slash k (reverse p) names)
    (dots-steps k (reverse p) names))

rooted-looks : (t : List ℕ) → (length t ≢ 0 → are_steps false (parts t) ≡ true) → looks_rooted t ≡ true
rooted-looks [] h = refl
rooted-looks (c ∷ t) h =
    or_right (length (c ∷ t) == 0) (are_steps false (parts (c ∷ t))) (h (λ e. absurd (omega arith)))

rooted-route : (r : Route) (t : List ℕ) → IsPath (route_names r) → is_rooted r ≡ true → 47 ∷ t ≡ or_dot (route_text r)
    → looks_rooted t ≡ true
unfolding route_text
rooted-route (Relative k p) t h rooted is = cc
rooted-route (Rooted p) t h rooted is =
    let names = AllByRecursion-reverse IsName p h in
    let same : t ≡ join_with_byte 47 (reverse p) = cc in
    rw same (rooted-looks (join_with_byte 47 (reverse p)) (joined-looks false (reverse p)
    (names-no_slash (reverse p) names) (names-steps false (reverse p) names)))

-- ---- a loop over the parts, of which n were passed
abbrev IsTurn : List (List ℕ) → ℕ → List ℕ → Type 0
IsTurn all n x = (n < length all) × (x ≡ get_or all n x)

steps-turn : (up : Bool) (all : List (List ℕ)) (n : ℕ) (x : List ℕ) → IsTurn all n x
    → are_steps up (drop n all) ≡ are_steps up (x ∷ drop (n + 1) all)
steps-turn up all n x turn =
    at_drop_more (are_steps up) all n x turn.0 ∙ ap (λ y. are_steps up (y ∷ drop (n + 1) all)) (sym turn.1)

pub turn-plain : (up g : Bool) (all : List (List ℕ)) (n m : ℕ) (x : List ℕ) → IsTurn all n x → is_plain x ≡ true
    → m ≡ n + 1 → are_steps up (drop n all) ≡ g → are_steps false (drop m all) ≡ g
turn-plain up g all n m x turn plain next left =
    let here : are_steps up (x ∷ drop (n + 1) all) ≡ are_steps false (drop (n + 1) all) = rw plain refl in
    rw next (sym here ∙ sym (steps-turn up all n x turn) ∙ left)

pub turn-dots : (up g : Bool) (all : List (List ℕ)) (n m : ℕ) (x : List ℕ) → IsTurn all n x → is_plain x ≡ false
    → up ≡ true → bytes_eq x (46 ∷ 46 ∷ []) ≡ true → m ≡ n + 1 → are_steps up (drop n all) ≡ g
    → are_steps up (drop m all) ≡ g
turn-dots up g all n m x turn plain goes dots next left =
    let here : are_steps true (x ∷ drop (n + 1) all) ≡ are_steps true (drop (n + 1) all) = rw (plain, dots) refl in
    rw (next, goes) (sym here ∙ ap (λ b. are_steps b (x ∷ drop (n + 1) all)) (sym goes)
    ∙ sym (steps-turn up all n x turn) ∙ left)

pub turn-stop : (up g : Bool) (all : List (List ℕ)) (n : ℕ) (x : List ℕ) → IsTurn all n x → is_plain x ≡ false
    → (up && bytes_eq x (46 ∷ 46 ∷ [])) ≡ false → are_steps up (drop n all) ≡ g → false ≡ g
turn-stop up g all n x turn plain stops left =
    let here : are_steps up (x ∷ drop (n + 1) all) ≡ false =
    rw plain (by_test up (bytes_eq x (46 ∷ 46 ∷ [])) (are_steps up (drop (n + 1) all)) stops) in
    sym here ∙ sym (steps-turn up all n x turn) ∙ left
  where
    by_test : (a b c : Bool) → (a && b) ≡ false → (a && b && c) ≡ false
    by_test true true c h = cc
    by_test true false c h = refl
    by_test false b c h = refl

pub turn-end : (up g : Bool) (all : List (List ℕ)) (n : ℕ) → n ≡ length all → are_steps up (drop n all) ≡ g → true ≡ g
turn-end up g all n is left = sym (at_drop_all (are_steps up) all n (omega arith)) ∙ left

-- ---- what the tests tell
pub other-start : (t : List ℕ) → ((rest : List ℕ) → t ≢ 47 ∷ rest) → is_absolute t ≡ false
other-start [] other = refl
other-start (c ∷ t) other = by_test (eqb_tells c 47)
  where
    by_test : (((c == 47) ≡ true) × (c ≡ 47)) ⊎ (((c == 47) ≡ false) × (c ≢ 47)) → (c == 47) ≡ false
    by_test (inl w) = absurd (other t (ap (λ x. x ∷ t) w.1))
    by_test (inr w) = w.0

pub route_by_part-rooted : (r : Route) (part : List ℕ) → is_rooted (route_by_part r part) ≡ is_rooted r
route_by_part-rooted r part = by_tests (bytes_eq part [] || bytes_eq part (46 ∷ [])) (bytes_eq part (46 ∷ 46 ∷ []))
  where
    up : (r : Route) → is_rooted (route_up r) ≡ is_rooted r
    up (Rooted p) = refl
    up (Relative k []) = refl
    up (Relative k (n ∷ p)) = refl

    by_tests : (a b : Bool) → is_rooted (cond a r (cond b (route_up r) (route_down r part))) ≡ is_rooted r
    by_tests true b = refl
    by_tests false true = up r
    by_tests false false = is_rooted-down r part

route_by_parts-rooted : (r : Route) (xs : List (List ℕ)) → is_rooted (route_by_parts r xs) ≡ is_rooted r
route_by_parts-rooted r [] = refl
route_by_parts-rooted r (x ∷ xs) = route_by_parts-rooted (route_by_part r x) xs ∙ route_by_part-rooted r x

-- a route stands under the root exactly where its text begins there
pub route_of-rooted : (t : List ℕ) → is_rooted (route_of t) ≡ is_absolute t
unfolding route_of
route_of-rooted t = route_by_parts-rooted (route_start t) (parts t) ∙ by_test (is_absolute t)
  where
    by_test : (b : Bool) → is_rooted (cond b (Rooted []) (Relative 0 [])) ≡ b
    by_test true = refl
    by_test false = refl

pub IsPath-route_by_part : (r : Route) (part : List ℕ) → IsPath (route_names r) → HasNoSlash part
    → IsPath (route_names (route_by_part r part))
IsPath-route_by_part r part h slash =
    by_tests (bytes_eq part []) (bytes_eq part (46 ∷ [])) (bytes_eq part (46 ∷ 46 ∷ [])) refl refl refl
  where
    up : (r : Route) → IsPath (route_names r) → IsPath (route_names (route_up r))
    up (Rooted []) h = tt
    up (Rooted (n ∷ p)) h = h.1
    up (Relative k []) h = tt
    up (Relative k (n ∷ p)) h = h.1

    down : (r : Route) → IsName part → IsPath (route_names r) → IsPath (route_names (route_down r part))
    down (Rooted p) name h = (name, h)
    down (Relative k p) name h = (name, h)

    by_tests : (a b c : Bool) → bytes_eq part [] ≡ a → bytes_eq part (46 ∷ []) ≡ b → bytes_eq part (46 ∷ 46 ∷ []) ≡ c
        → IsPath (route_names (cond (a || b) r (cond c (route_up r) (route_down r part))))
    by_tests true b c e f g = h
    by_tests false true c e f g = h
    by_tests false false true e f g = up r h
    by_tests false false false e f g = down r (rw (e, f, g) slash) h

IsPath-route_by_parts : (r : Route) (xs : List (List ℕ)) → IsPath (route_names r) → AllByRecursion HasNoSlash xs
    → IsPath (route_names (route_by_parts r xs))
IsPath-route_by_parts r [] h slash = h
IsPath-route_by_parts r (x ∷ xs) h slash =
    IsPath-route_by_parts (route_by_part r x) xs (IsPath-route_by_part r x h slash.0) slash.1

-- the names of a route are names
pub IsPath-route_of : (t : List ℕ) → IsPath (route_names (route_of t))
unfolding route_of
IsPath-route_of t = IsPath-route_by_parts (route_start t) (parts t) (by_test (is_absolute t)) (parts-no_slash t)
  where
    by_test : (b : Bool) → IsPath (route_names (cond b (Rooted []) (Relative 0 [])))
    by_test true = tt
    by_test false = tt

place-dot : place (46 ∷ []) ≡ 46 ∷ []
unfolding place route_of route_text
place-dot = refl

place-slash : place (47 ∷ []) ≡ 47 ∷ []
unfolding place route_of route_text
place-slash = refl

pub loose-place : (t : List ℕ) → is_absolute t ≡ false → looks_loose (place t) ≡ true
unfolding place
loose-place t loose = loose-route (route_of t) (IsPath-route_of t) (route_of-rooted t ∙ loose)

pub rooted-place : (t names : List ℕ) → is_absolute t ≡ true → 47 ∷ names ≡ place t → looks_rooted names ≡ true
unfolding place
rooted-place t names rooted is = rooted-route (route_of t) names (IsPath-route_of t) (route_of-rooted t ∙ rooted) is

-- a relative text is its own place exactly where it looks like one
pub placed-loose : (t : List ℕ) → ((rest : List ℕ) → t ≢ 47 ∷ rest) → looks_loose t ≡ bytes_eq (place t) t
placed-loose t other = same_from_decides (looks_loose t) (bytes_eq (place t) t) (to (bytes_eq t (46 ∷ [])) refl, from)
    (bytes_eq-Decides (place t) t)
  where
    to : (b : Bool) → bytes_eq t (46 ∷ []) ≡ b → (b || are_steps true (parts t)) ≡ true → place t ≡ t
    to true e h = let dot : t ≡ 46 ∷ [] = (bytes_eq-Decides t (46 ∷ [])).0 e in rw dot place-dot
    to false e h = place-loose t (other-start t other) h

    from : place t ≡ t → looks_loose t ≡ true
    from is = ap looks_loose (sym is) ∙ loose-place t (other-start t other)

pub looks-some : (c : ℕ) (n : List ℕ) → looks_rooted (c ∷ n) ≡ true → are_steps false (parts (c ∷ n)) ≡ true
looks-some c n h = by_test (eqb_tells (length (c ∷ n)) 0) h
  where
    by_test : (((length (c ∷ n) == 0) ≡ true) × (length (c ∷ n) ≡ 0))
        ⊎ (((length (c ∷ n) == 0) ≡ false) × (length (c ∷ n) ≢ 0))
        → ((length (c ∷ n) == 0) || are_steps false (parts (c ∷ n))) ≡ true → are_steps false (parts (c ∷ n)) ≡ true
    by_test (inl w) h = absurd (omega (arith, w.1))
    by_test (inr w) h = rw w.0 at h

-- and so is a rooted one, by what stands behind its slash
pub placed-rooted : (t names : List ℕ) → t ≡ 47 ∷ names → looks_rooted names ≡ bytes_eq (place t) t
placed-rooted t names is =
    same_from_decides (looks_rooted names) (bytes_eq (place t) t) (to names is, from) (bytes_eq-Decides (place t) t)
  where
    to : (names : List ℕ) → t ≡ 47 ∷ names → looks_rooted names ≡ true → place t ≡ t
    to [] e h = rw e place-slash
    to (c ∷ n) e h = rw e (place-rooted (c ∷ n) (looks-some c n h))

    from : place t ≡ t → looks_rooted names ≡ true
    from same = rooted-place t names (ap is_absolute is) (sym is ∙ sym same)

-- what the code's tests come to
pub loose-then : (t one : List ℕ) (b : Bool) → b ≡ bytes_eq t one → one ≡ 46 ∷ [] → b ≡ true → b ≡ looks_loose t
loose-then t one b told is holds =
    holds ∙ sym (ap (λ a. a || are_steps true (parts t)) (ap (bytes_eq t) (sym is) ∙ sym told ∙ holds))

pub loose-else : (t one : List ℕ) (b s : Bool) → b ≡ bytes_eq t one → one ≡ 46 ∷ [] → b ≡ false
    → s ≡ are_steps true (parts t) → s ≡ looks_loose t
loose-else t one b s told is differs steps =
    steps ∙ sym (ap (λ a. a || are_steps true (parts t)) (ap (bytes_eq t) (sym is) ∙ sym told ∙ differs))

pub rooted-then : (t : List ℕ) (b : Bool) → b ≡ (length t == 0) → b ≡ true → b ≡ looks_rooted t
rooted-then t b told holds = holds ∙ sym (ap (λ a. a || are_steps false (parts t)) (sym told ∙ holds))

pub rooted-else : (t : List ℕ) (b s : Bool) → b ≡ (length t == 0) → b ≡ false → s ≡ are_steps false (parts t)
    → s ≡ looks_rooted t
rooted-else t b s told fails steps = steps ∙ sym (ap (λ a. a || are_steps false (parts t)) (sym told ∙ fails))

-- ---- the normal form
pub normal-open : (t : List ℕ) → ends_in_slash t ≡ false → normal t ≡ place t
unfolding normal
normal-open t h = rw h refl

-- a slash behind a path doesn't change its place
pub place-closed : (t : List ℕ) → length t ≢ 0 → place (t ++ 47 ∷ []) ≡ place t
unfolding place route_of
place-closed [] some = absurd (some refl)
place-closed (c ∷ t) some =
    ap (λ ps. or_dot (route_text (route_by_parts (route_start (c ∷ t)) ps))) (parts-slash (c ∷ t) [])
    ∙ ap (λ r. or_dot (route_text r)) (route_by_parts-append (route_start (c ∷ t)) (parts (c ∷ t)) ([] ∷ []))

pub normal-closed : (t : List ℕ) → length t ≢ 0
    → normal (t ++ 47 ∷ []) ≡ cond (not (bytes_eq (place t) (47 ∷ []))) (place t ++ 47 ∷ []) (place t)
unfolding normal
normal-closed t some = rw (place-closed t some, ends-append t 47 []) refl

normal-slash : normal (47 ∷ []) ≡ 47 ∷ []
unfolding normal place route_of route_text
normal-slash = refl

normal-slashes : normal (47 ∷ 47 ∷ []) ≡ 47 ∷ []
unfolding normal place route_of route_text
normal-slashes = refl

-- a text without a slash at its end is normal where it is its own place
pub is_normal-open : (t : List ℕ) (b : Bool) → ((front : List ℕ) → t ≢ front ++ 47 ∷ []) → b ≡ bytes_eq (place t) t
    → b ≡ bytes_eq (normal t) t
is_normal-open t b unended told = told ∙ ap (λ s. bytes_eq s t) (sym (normal-open t (by_test (ends_in_slash t) refl)))
  where
    by_test : (e : Bool) → ends_in_slash t ≡ e → e ≡ false
    by_test true e = let w = ends-split t e in absurd (unended w.0 w.1)
    by_test false e = refl

pub is_normal-root : (t front : List ℕ) → t ≡ front ++ 47 ∷ [] → length front ≡ 0 → true ≡ bytes_eq (normal t) t
is_normal-root t [] is none = rw (is, normal-slash) refl
is_normal-root t (c ∷ front) is none = absurd (omega arith)

pub is_normal-roots : (t front : List ℕ) → t ≡ front ++ 47 ∷ [] → front ≡ 47 ∷ [] → false ≡ bytes_eq (normal t) t
is_normal-roots t front is root =
    let slashes : t ≡ 47 ∷ 47 ∷ [] = is ∙ ap (λ s. s ++ 47 ∷ []) root in
    rw (slashes, normal-slashes) refl

pub is_normal-closed : (t front : List ℕ) (b : Bool) → t ≡ front ++ 47 ∷ [] → length front ≢ 0 → front ≢ 47 ∷ []
    → b ≡ bytes_eq (place front) front → b ≡ bytes_eq (normal t) t
is_normal-closed t front b is some other told =
    told ∙ same_from_decides (bytes_eq (place front) front) (bytes_eq (normal t) t)
    (bytes_eq-Decides (place front) front) (to, from)
  where
    form : normal t ≡ cond (not (bytes_eq (place front) (47 ∷ []))) (place front ++ 47 ∷ []) (place front)
    form = ap normal is ∙ normal-closed front some

    no_root : not (bytes_eq front (47 ∷ [])) ≡ true
    no_root = by_test (bytes_eq front (47 ∷ [])) refl
      where
        by_test : (b : Bool) → bytes_eq front (47 ∷ []) ≡ b → not b ≡ true
        by_test true e = absurd (other ((bytes_eq-Decides front (47 ∷ [])).0 e))
        by_test false e = refl

    from : place front ≡ front → bytes_eq (normal t) t ≡ true
    from placed = (bytes_eq-Decides (normal t) t).1
        (form ∙ ap (λ s. cond (not (bytes_eq s (47 ∷ []))) (s ++ 47 ∷ []) s) placed
        ∙ ap (λ b. cond b (front ++ 47 ∷ []) front) no_root ∙ sym is)

    back : (b : Bool) → cond b (place front ++ 47 ∷ []) (place front) ≡ front ++ 47 ∷ []
        → b ≡ not (bytes_eq (place front) (47 ∷ [])) → place front ≡ front
    back true e tells = append_cancel_right (place front) front (47 ∷ []) e
    back false e tells =
        let root : place front ≡ 47 ∷ [] =
        (bytes_eq-Decides (place front) (47 ∷ [])).0 (not_false (bytes_eq (place front) (47 ∷ [])) tells) in
        absurd (some (by_length (ap length (sym root ∙ e) ∙ length-append front (47 ∷ []))))
      where
        not_false : (b : Bool) → false ≡ not b → b ≡ true
        not_false true e = refl
        not_false false e = cc

        by_length : 1 ≡ length front + 1 → length front ≡ 0
        by_length e = omega arith

    to : bytes_eq (normal t) t ≡ true → place front ≡ front
    to h = back (not (bytes_eq (place front) (47 ∷ []))) (sym form ∙ (bytes_eq-Decides (normal t) t).0 h ∙ is) refl
