-- The route of a text, as it is read from the text's pieces, and its text.
use Rattle.std.proofs.Common.{
  ◌≡◌,
  ◌≢◌,
  ◌&&◌,
  ◌||◌,
  ◌∙◌,
  ℕ,
  zero,
  suc,
  Bool,
  true,
  false,
  cond,
  List,
  [],
  ◌∷◌,
  ◌++◌,
  length,
  bytes_eq,
  refl,
  sym,
  ap,
  reverse,
  replicate,
  add-one,
  arith,
  true≢false,
}
use Rattle.std.specs.List.{join_with_byte, AllByRecursion}
use Rattle.std.proofs.lemmas.Grind.{reverse_onto}
use Rattle.std.proofs.lemmas.List.{reverse-append, replicate_more, length-reverse}
use Rattle.std.proofs.lemmas.Slice.Eq.{bytes_eq-Decides}
use Rattle.sugar_path.specs.Path.{Path, is_absolute, by_part, by_parts, parent, steps, text_of}
use Rattle.sugar_path.specs.Route.{
  Route,
  Rooted,
  Relative,
  route_up,
  route_down,
  route_by_part,
  route_by_parts,
  route_start,
  route_names,
  is_rooted,
  route_text,
}
use Rattle.sugar_path.proofs.RouteTexts.{join-push}
use Rattle.sugar_path.proofs.Placed.{route_by_part-rooted}
use Rattle.pnp_core.specs.NormalizePath.{pieces, location_path, normal_names, text_route}
use Rattle.pnp_core.specs.Slashed.{ArePartsOf, last_first, names_of}
use Rattle.pnp_core.specs.VirtualPath.{joined}
use denote.Ref.{Bor}

-- ---- a rooted route
rooted-parts : (p : Path) (xs : List (List ℕ)) → route_by_parts (Rooted p) xs ≡ Rooted (by_parts p xs)
rooted-parts p [] = refl
rooted-parts p (x ∷ xs) = ap (λ r. route_by_parts r xs) (by_tests (bytes_eq x [] || bytes_eq x (46 ∷ []))
    (bytes_eq x (46 ∷ 46 ∷ []))) ∙ rooted-parts (by_part p x) xs
  where
    by_tests : (a b : Bool) → cond a (Rooted p) (cond b (Rooted (parent p)) (Rooted (x ∷ p))) ≡ Rooted
        (cond a p (cond b (parent p) (x ∷ p)))
    by_tests true b = refl
    by_tests false true = refl
    by_tests false false = refl

-- ---- the text of names
join-behind : (xs : List (List ℕ)) (n : List ℕ) → length xs ≢ 0
    → join_with_byte 47 (xs ++ n ∷ []) ≡ join_with_byte 47 xs ++ 47 ∷ n
join-behind [] n some = absurd (some refl)
join-behind (a ∷ xs) n some = join-push a xs n

join-last : (n m : List ℕ) (p : Path) → join_with_byte 47 (reverse (n ∷ m ∷ p)) ≡ join_with_byte 47 (reverse (m ∷ p))
    ++ 47 ∷ n
join-last n m p = ap (join_with_byte 47) (reverse_onto (m ∷ p) n [])
    ∙ join-behind (reverse (m ∷ p)) n (λ e. absurd (omega (arith, e, length-reverse (m ∷ p))))

joined-join : (p : Path) → joined p ≡ join_with_byte 47 (reverse p)
joined-join [] = refl
joined-join (n ∷ []) = refl
joined-join (n ∷ m ∷ p) = ap (λ t. t ++ 47 ∷ n) (joined-join (m ∷ p)) ∙ sym (join-last n m p)

steps-join : (n : List ℕ) (p : Path) → steps (n ∷ p) ≡ 47 ∷ join_with_byte 47 (reverse (n ∷ p))
steps-join n [] = refl
steps-join n (m ∷ p) = ap (λ t. t ++ 47 ∷ n) (steps-join m p) ∙ ap (λ t. 47 ∷ t) (sym (join-last n m p))

text-join : (p : Path) → text_of p ≡ 47 ∷ join_with_byte 47 (reverse p)
text-join [] = refl
text-join (n ∷ p) = steps-join n p

reverse-dots : (k : ℕ) → reverse {A = List ℕ} (replicate k (46 ∷ 46 ∷ [])) ≡ replicate k (46 ∷ 46 ∷ [])
reverse-dots zero = refl
reverse-dots (suc k) =
    reverse_onto (replicate k (46 ∷ 46 ∷ [])) (46 ∷ 46 ∷ []) []
    ∙ ap (λ ns. ns ++ (46 ∷ 46 ∷ []) ∷ []) (reverse-dots k)
    ∙ replicate_more k (46 ∷ 46 ∷ [])
    ∙ ap (λ n. replicate n (46 ∷ 46 ∷ [])) (add-one k)

rooted-text : (p : Path) → text_of p ≡ route_text (Rooted p)
unfolding route_text
rooted-text p = text-join p

text_route-rooted : (t : List ℕ) → is_absolute t ≡ true → text_route t ≡ Rooted (location_path t)
unfolding text_route location_path
text_route-rooted t abs =
    ap (λ b. route_by_parts (cond b (Rooted []) (Relative 0 [])) (pieces t)) abs ∙ rooted-parts [] (pieces t)

-- the text of an absolute text's route is that of its path
pub names-rooted : (t : List ℕ) → is_absolute t ≡ true → normal_names t ≡ text_of (location_path t)
names-rooted t abs = ap route_text (text_route-rooted t abs) ∙ sym (rooted-text (location_path t))

-- that of another text is the text of its pieces
pub names-relative : (t : List ℕ) → is_absolute t ≡ false
    → normal_names t ≡ route_text (route_by_parts (Relative 0 []) (pieces t))
unfolding text_route
names-relative t loose = ap (λ b. route_text (route_by_parts (cond b (Rooted []) (Relative 0 [])) (pieces t))) loose

-- ---- a relative route, read on by one part, with its names in hand

abbrev is_stuck : Path → Bool
is_stuck [] = true
is_stuck (n ∷ p) = bytes_eq n (46 ∷ 46 ∷ [])

-- the last name goes where `..` comes, unless it is `..` itself
abbrev pub by_relative_part : Path → List ℕ → Path
by_relative_part p part = cond (bytes_eq part (46 ∷ 46 ∷ []) && is_stuck p) (part ∷ p) (by_part p part)

stuck-dots : (k : ℕ) → is_stuck (replicate k (46 ∷ 46 ∷ [])) ≡ true
stuck-dots zero = refl
stuck-dots (suc k) = refl

abbrev HasNoDots : Path → Type 0
HasNoDots p = AllByRecursion (λ n. bytes_eq n (46 ∷ 46 ∷ []) ≡ false) p

-- `..` where a name stands takes it away, and else it stays
parts-dots : (k : ℕ) (p : Path) → HasNoDots p
    → cond (is_stuck (p ++ replicate k (46 ∷ 46 ∷ []))) ((46 ∷ 46 ∷ []) ∷ (p ++ replicate k (46 ∷ 46 ∷ [])))
    (parent (p ++ replicate k (46 ∷ 46 ∷ []))) ≡ last_first (route_up (Relative k p))
parts-dots k [] h = rw (stuck-dots k) (ap (λ n. replicate n (46 ∷ 46 ∷ [])) (sym (add-one k)))
parts-dots k (n ∷ p) h = rw h.0 refl

parts-part : (k : ℕ) (p : Path) (x : List ℕ) → HasNoDots p
    → by_relative_part (last_first (Relative k p)) x ≡ last_first (route_by_part (Relative k p) x)
parts-part k p x h = by_test (bytes_eq x (46 ∷ 46 ∷ [])) refl
  where
    silent : (a : Bool) → cond a (last_first (Relative k p)) (x ∷ last_first (Relative k p)) ≡ last_first
        (cond a (Relative k p) (route_down (Relative k p) x))
    silent true = refl
    silent false = refl

    by_test : (b : Bool) → bytes_eq x (46 ∷ 46 ∷ []) ≡ b
        → by_relative_part (last_first (Relative k p)) x ≡ last_first (route_by_part (Relative k p) x)
    by_test true e =
        let dots : x ≡ 46 ∷ 46 ∷ [] = (bytes_eq-Decides x (46 ∷ 46 ∷ [])).0 e in
        rw dots (parts-dots k p h)
    by_test false e = rw e (silent (bytes_eq x [] || bytes_eq x (46 ∷ [])))

HasNoDots-up : (k : ℕ) (p : Path) → HasNoDots p → HasNoDots (route_names (route_up (Relative k p)))
HasNoDots-up k [] h = tt
HasNoDots-up k (n ∷ p) h = h.1

HasNoDots-part : (k : ℕ) (p : Path) (x : List ℕ) → HasNoDots p
    → HasNoDots (route_names (route_by_part (Relative k p) x))
HasNoDots-part k p x h = by_tests (bytes_eq x [] || bytes_eq x (46 ∷ [])) (bytes_eq x (46 ∷ 46 ∷ [])) refl
  where
    by_tests : (a b : Bool) → bytes_eq x (46 ∷ 46 ∷ []) ≡ b
        → HasNoDots (route_names (cond a (Relative k p) (cond b (route_up (Relative k p))
        (route_down (Relative k p) x))))
    by_tests true b e = h
    by_tests false true e = HasNoDots-up k p h
    by_tests false false e = (e, h)

-- one more part
pub ArePartsOf-part : (xs ys : List (Bor (List ℕ))) (x : List ℕ) (r : Route)
    → names_of ys ≡ by_relative_part (names_of xs) x → ArePartsOf xs r → ArePartsOf ys (route_by_part r x)
ArePartsOf-part xs ys x (Rooted p) is h = absurd (true≢false h.relative)
ArePartsOf-part xs ys x (Relative k p) is h = record {
  relative = route_by_part-rooted (Relative k p) x;
  names = HasNoDots-part k p x h.names;
  parts = is ∙ ap (λ q. by_relative_part q x) h.parts ∙ parts-part k p x h.names;
}

pub route_by_parts-append : (r : Route) (xs ys : List (List ℕ))
    → route_by_parts r (xs ++ ys) ≡ route_by_parts (route_by_parts r xs) ys
route_by_parts-append r [] ys = refl
route_by_parts-append r (x ∷ xs) ys = route_by_parts-append (route_by_part r x) xs ys

-- ---- its text

pub parts-text : (xs : List (Bor (List ℕ))) (r : Route) → ArePartsOf xs r → joined (names_of xs) ≡ route_text r
unfolding route_text
parts-text xs (Rooted p) h = absurd (true≢false h.relative)
parts-text xs (Relative k p) h =
    ap joined h.parts
    ∙ joined-join (p ++ replicate k (46 ∷ 46 ∷ []))
    ∙ ap (join_with_byte 47) (reverse-append p (replicate k (46 ∷ 46 ∷ []))
    ∙ ap (λ ns. ns ++ reverse p) (reverse-dots k))
