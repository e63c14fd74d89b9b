-- The way from one list of parts to another.
use Rattle.std.proofs.Common.{
  ◌||◌,
  not,
  reverse,
  ◌≡◌,
  ◌≢◌,
  ℕ,
  zero,
  suc,
  ◌+◌,
  ◌-◌,
  Bool,
  true,
  false,
  cond,
  List,
  [],
  ◌∷◌,
  ◌++◌,
  length,
  drop,
  bytes_eq,
  replicate,
  refl,
  sym,
  ap,
  ◌∙◌,
  append_assoc,
  arith,
}
use Rattle.sugar_path.specs.Path.{IsPath, with_slash, ends_in_slash, is_absolute, join, parts}
use Rattle.sugar_path.specs.Route.{Route, Rooted, Relative, route_names, route_parts, is_rooted, route_of}
use Rattle.sugar_path.specs.Names.{closed}
use Rattle.sugar_path.specs.Relative.{between, same_start, way, needs_folder, relative_from}
use Rattle.sugar_path.specs.Reading.{IsPart}
use Rattle.std.proofs.lemmas.Bool.Decides.{Decides-eqb}
use Rattle.std.proofs.lemmas.Slice.Eq.{bytes_eq-Decides}
use Rattle.sugar_path.proofs.NameWays.{closed-joined}
use Rattle.sugar_path.proofs.RouteTexts.{replicate-dots, reverse-names, AllByRecursion-append}
use Rattle.sugar_path.proofs.Parts.{HasNoSlash, parts-some}
use Rattle.sugar_path.proofs.Placed.{route_of-rooted, parts-join}
use Rattle.std.proofs.lemmas.List.Splits.{join_with_byte-slice_split}
use Rattle.std.specs.List.{common_prefix_len, prefix_len, zip, join_with_byte, AllByRecursion}

-- how many pairs pass a test of both
pub prefix_len-zip : {X Y : Type 0} (e : X → Y → Bool) (xs : List X) (ys : List Y)
    → prefix_len (λ p. e p.0 p.1) (zip xs ys) ≡ common_prefix_len e xs ys
prefix_len-zip e [] ys = refl
prefix_len-zip e (x ∷ xs) [] = refl
prefix_len-zip e (x ∷ xs) (y ∷ ys) = ap (λ n. cond (e x y) (1 + n) 0) (prefix_len-zip e xs ys)

-- ---- the text of a way, as it is written
-- parts joined by slashes, behind other ones
join-append : (a : List ℕ) (xs : List (List ℕ)) (b : List ℕ) (ys : List (List ℕ))
    → join_with_byte 47 ((a ∷ xs) ++ b ∷ ys) ≡ join_with_byte 47 (a ∷ xs) ++ 47 ∷ join_with_byte 47 (b ∷ ys)
join-append a [] b ys = refl
join-append a (x ∷ xs) b ys = ap (λ t. a ++ 47 ∷ t) (join-append x xs b ys)
    ∙ sym (append_assoc a (47 ∷ join_with_byte 47 (x ∷ xs)) (47 ∷ join_with_byte 47 (b ∷ ys)))

-- every `..`, and what is left of the target behind them
pub way-rest : (k : ℕ) (t u rest : List ℕ) → t ≡ closed (replicate k (46 ∷ 46 ∷ [])) → u ≡ t ++ rest
    → u ≡ join_with_byte 47 (replicate k (46 ∷ 46 ∷ []) ++ parts rest)
way-rest zero t u rest is more = more ∙ ap (λ s. s ++ rest) is ∙ sym (join_with_byte-slice_split 47 rest)
way-rest (suc k) t u rest is more = by_parts (parts rest) (parts-some rest) (join_with_byte-slice_split 47 rest)
  where
    by_parts : (ps : List (List ℕ)) → ps ≢ [] → join_with_byte 47 ps ≡ rest
        → u ≡ join_with_byte 47 (replicate (suc k) (46 ∷ 46 ∷ []) ++ ps)
    by_parts [] some joined = absurd (some refl)
    by_parts (p ∷ ps) some joined =
        more
        ∙ ap (λ s. s ++ rest) (is ∙ closed-joined (46 ∷ 46 ∷ []) (replicate k (46 ∷ 46 ∷ [])))
        ∙ append_assoc (join_with_byte 47 (replicate (suc k) (46 ∷ 46 ∷ []))) (47 ∷ []) rest
        ∙ ap (λ s. join_with_byte 47 (replicate (suc k) (46 ∷ 46 ∷ [])) ++ 47 ∷ s) (sym joined)
        ∙ sym (join-append (46 ∷ 46 ∷ []) (replicate k (46 ∷ 46 ∷ [])) p ps)

-- parts that don't begin alike
pub between-apart : (base target : List (List ℕ)) → common_prefix_len bytes_eq target base ≡ 0
    → between base target ≡ replicate (length base) (46 ∷ 46 ∷ []) ++ target
between-apart base target none =
    let all : length base - 0 ≡ length base = omega arith in
    ap (λ n. replicate (length base - n) (46 ∷ 46 ∷ []) ++ drop n target) none
    ∙ ap (λ n. replicate n (46 ∷ 46 ∷ []) ++ target) all

-- ---- the way between two routes by all their parts
-- parts that both begin with lead nowhere
pub between-shared : (zs base target : List (List ℕ)) → between (zs ++ base) (zs ++ target) ≡ between base target
between-shared [] base target = refl
between-shared (z ∷ zs) base target =
    let one : common_prefix_len bytes_eq (z ∷ (zs ++ target)) (z ∷ (zs ++ base)) ≡ suc
    (common_prefix_len bytes_eq (zs ++ target) (zs ++ base)) =
    ap (λ b. cond b (1 + common_prefix_len bytes_eq (zs ++ target) (zs ++ base)) 0) ((bytes_eq-Decides z z).1 refl)
    ∙ omega arith in
    let left : length (z ∷ (zs ++ base)) - suc (common_prefix_len bytes_eq (zs ++ target) (zs ++ base)) ≡ length
    (zs ++ base) - common_prefix_len bytes_eq (zs ++ target) (zs ++ base) = omega arith in
    ap (λ n. replicate (length (z ∷ (zs ++ base)) - n) (46 ∷ 46 ∷ []) ++ drop n (z ∷ (zs ++ target))) one
    ∙ ap (λ n. replicate n (46 ∷ 46 ∷ []) ++ drop (common_prefix_len bytes_eq (zs ++ target) (zs ++ base))
    (zs ++ target)) left
    ∙ between-shared zs base target

pub between-routes : (r s : Route) → same_start s r ≡ true
    → join_with_byte 47 (between (route_parts r) (route_parts s)) ≡ way r s
unfolding way
between-routes (Rooted p) (Rooted q) h = refl
between-routes (Rooted p) (Relative k q) h = cc
between-routes (Relative k p) (Rooted q) h = cc
between-routes (Relative k p) (Relative m q) h =
    let same : m ≡ k = (Decides-eqb m k).0 h in
    ap (λ j. join_with_byte 47 (between (replicate k (46 ∷ 46 ∷ []) ++ reverse p)
    (replicate j (46 ∷ 46 ∷ []) ++ reverse q))) same
    ∙ ap (join_with_byte 47) (between-shared (replicate k (46 ∷ 46 ∷ [])) (reverse p) (reverse q))

pub parts-of_route : (r : Route) → IsPath (route_names r) → AllByRecursion IsPart (route_parts r)
parts-of_route (Rooted p) h = reverse-names p h
parts-of_route (Relative k p) h =
    AllByRecursion-append (replicate k (46 ∷ 46 ∷ [])) (reverse p) (replicate-dots k) (reverse-names p h)

-- the parts of a place
pub joined-parts : (xs : List (List ℕ)) → AllByRecursion IsPart xs → length (join_with_byte 47 xs) ≢ 0
    → parts (join_with_byte 47 xs) ≡ xs
joined-parts [] h some = absurd (some refl)
joined-parts (a ∷ xs) h some = parts-join a xs (no_slash (a ∷ xs) h)
  where
    no_slash : (xs : List (List ℕ)) → AllByRecursion IsPart xs → AllByRecursion HasNoSlash xs
    no_slash [] k = tt
    no_slash ([] ∷ xs) k = absurd k.0
    no_slash ((c ∷ x) ∷ xs) k = (k.0, no_slash xs k.1)

pub joined-none : (xs : List (List ℕ)) → AllByRecursion IsPart xs → length (join_with_byte 47 xs) ≡ 0 → xs ≡ []
joined-none [] h none = refl
joined-none ([] ∷ xs) h none = absurd h.0
joined-none ((c ∷ a) ∷ []) h none = absurd (omega (arith, none))
joined-none ((c ∷ a) ∷ x ∷ xs) h none = absurd (omega (arith, none))

-- what is read from an absolute folder is absolute
pub join-absolute : (cwd t : List ℕ) → is_absolute cwd ≡ true → is_absolute (join cwd t) ≡ true
join-absolute [] t h = cc
join-absolute (c ∷ cwd) t h = by_test (is_absolute t) refl
  where
    by_slash : (e : Bool) → is_absolute (cond e (c ∷ cwd) ((c ∷ cwd) ++ 47 ∷ []) ++ t) ≡ true
    by_slash true = h
    by_slash false = h

    by_test : (b : Bool) → is_absolute t ≡ b → is_absolute (cond b t (with_slash (c ∷ cwd) ++ t)) ≡ true
    by_test true e = e
    by_test false e = by_slash (ends_in_slash (c ∷ cwd))

rooted-same : (r s : Route) → is_rooted r ≡ true → is_rooted s ≡ true → same_start s r ≡ true
rooted-same (Rooted p) (Rooted q) h k = refl
rooted-same (Rooted p) (Relative m q) h k = cc
rooted-same (Relative m p) s h k = cc

pub same-rooted : (base target : List ℕ) → is_absolute base ≡ true → is_absolute target ≡ true
    → same_start (route_of target) (route_of base) ≡ true
same-rooted base target h k =
    rooted-same (route_of base) (route_of target) (route_of-rooted base ∙ h) (route_of-rooted target ∙ k)

pub same-below : (cwd base target : List ℕ) → is_absolute cwd ≡ true
    → same_start (route_of (join cwd target)) (route_of (join cwd base)) ≡ true
same-below cwd base target h =
    same-rooted (join cwd base) (join cwd target) (join-absolute cwd base h) (join-absolute cwd target h)

-- ---- the relative path, with and without a folder
pub relative-below : (cwd base target : List ℕ) → needs_folder base target ≡ true
    → relative_from cwd base target ≡ way (route_of (join cwd base)) (route_of (join cwd target))
unfolding relative_from
relative-below cwd base target h = rw h refl

pub relative-alone : (cwd base target : List ℕ) → needs_folder base target ≡ false
    → relative_from cwd base target ≡ way (route_of base) (route_of target)
unfolding relative_from
relative-alone cwd base target h = rw h refl

pub same-alone : (base target : List ℕ) → needs_folder base target ≡ false
    → same_start (route_of target) (route_of base) ≡ true
same-alone base target h = by_test (same_start (route_of target) (route_of base)) h
  where
    by_test : (b : Bool) → not b ≡ false → b ≡ true
    by_test true e = refl
    by_test false e = cc

pub folder-given : (cwd base target : List ℕ) → (not (needs_folder base target) || is_absolute cwd) ≡ true
    → needs_folder base target ≡ true → is_absolute cwd ≡ true
folder-given cwd base target h needs = by_test (needs_folder base target) needs h
  where
    by_test : (b : Bool) → b ≡ true → (not b || is_absolute cwd) ≡ true → is_absolute cwd ≡ true
    by_test true e k = k
    by_test false e k = cc
