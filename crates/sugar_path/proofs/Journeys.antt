-- Where relative paths lead, read from an absolute folder.
use Rattle.std.proofs.Common.{
  ◌≡◌,
  ◌||◌,
  ℕ,
  zero,
  suc,
  ◌+◌,
  ◌-◌,
  Bool,
  true,
  false,
  not,
  cond,
  List,
  [],
  ◌∷◌,
  ◌++◌,
  length,
  drop,
  bytes_eq,
  refl,
  sym,
  ap,
  ◌∙◌,
  subst,
  append_assoc,
  append-nil,
  reverse,
  replicate,
  add-one,
  arith,
}
use Rattle.std.specs.Prelude.{◌↔◌}
use Rattle.std.specs.List.{join_with_byte, common_prefix_len, AllByRecursion}
use Rattle.std.proofs.lemmas.Grind.{reverse_onto}
use Rattle.std.proofs.lemmas.List.{reverse-append, reverse-reverse, length-reverse, append_cancel_right}
use Rattle.std.proofs.lemmas.Bool.Decides.{Decides-eqb}
use Rattle.std.proofs.lemmas.Slice.Eq.{bytes_eq-Decides}
use Rattle.sugar_path.specs.Path.{Path, IsName, IsPath, is_plain, has_no_slash, is_absolute, parts, parent, join}
use Rattle.sugar_path.specs.Route.{
  Route,
  Rooted,
  Relative,
  route_up,
  route_down,
  route_by_part,
  route_by_parts,
  route_of,
  route_names,
  is_rooted,
  route_text,
  or_dot,
  place,
  from_folder,
}
use Rattle.sugar_path.specs.Relative.{between, way, same_start, needs_folder, relative_from}
use Rattle.sugar_path.specs.Reading.{IsPart}
use Rattle.sugar_path.proofs.Bools.{and_left}
use Rattle.sugar_path.proofs.Parts.{HasNoSlash}
use Rattle.sugar_path.proofs.RouteTexts.{route_of-join, reverse-names, AllByRecursion-append, replicate-dots}
use Rattle.sugar_path.proofs.Placed.{
  route_by_part-plain,
  parts-join,
  start-loose,
  route_of-rooted,
  IsPath-route_of,
  AllByRecursion-reverse,
}
use Rattle.sugar_path.proofs.WayParts.{between-shared, relative-below, relative-alone, same-alone}

-- ---- a route read from a folder under the root
-- so many folders above a folder
abbrev folders_up : ℕ → Path → Path
folders_up zero c = c
folders_up (suc k) c = parent (folders_up k c)

-- the folder that a route leads to from a folder
abbrev led : Path → Route → Path
led c (Rooted p) = p
led c (Relative k p) = p ++ folders_up k c

led-part : (c : Path) (r : Route) (x : List ℕ) → route_by_part (Rooted (led c r)) x ≡ Rooted (led c (route_by_part r x))
led-part c r x = by_tests (bytes_eq x [] || bytes_eq x (46 ∷ [])) (bytes_eq x (46 ∷ 46 ∷ []))
  where
    up : (r : Route) → Rooted (parent (led c r)) ≡ Rooted (led c (route_up r))
    up (Rooted p) = refl
    up (Relative k []) = ap (λ n. Rooted (folders_up n c)) (sym (add-one k))
    up (Relative k (n ∷ p)) = refl

    down : (r : Route) → Rooted (x ∷ led c r) ≡ Rooted (led c (route_down r x))
    down (Rooted p) = refl
    down (Relative k p) = refl

    by_tests : (a b : Bool) → cond a (Rooted (led c r)) (cond b (route_up (Rooted (led c r)))
        (route_down (Rooted (led c r)) x)) ≡ Rooted (led c (cond a r (cond b (route_up r) (route_down r x))))
    by_tests true b = refl
    by_tests false true = up r
    by_tests false false = down r

led-parts : (c : Path) (r : Route) (xs : List (List ℕ))
    → route_by_parts (Rooted (led c r)) xs ≡ Rooted (led c (route_by_parts r xs))
led-parts c r [] = refl
led-parts c r (x ∷ xs) = ap (λ s. route_by_parts s xs) (led-part c r x) ∙ led-parts c (route_by_part r x) xs

route_of-loose : (t : List ℕ) → is_absolute t ≡ false → route_of t ≡ route_by_parts (Relative 0 []) (parts t)
unfolding route_of
route_of-loose t h = ap (λ r. route_by_parts r (parts t)) (start-loose t h)

-- an absolute path has a route under the root
root-names : (t : List ℕ) → is_absolute t ≡ true → (c : Path) × (route_of t ≡ Rooted c)
root-names t h = by_route (route_of t) refl (route_of-rooted t ∙ h)
  where
    by_route : (r : Route) → route_of t ≡ r → is_rooted r ≡ true → (c : Path) × (route_of t ≡ Rooted c)
    by_route (Rooted c) e k = (c, e)
    by_route (Relative m p) e k = cc

-- a path read from a folder leads where its route leads from there
route_of-folder : (cwd t : List ℕ) (c : Path) → route_of cwd ≡ Rooted c
    → route_of (join cwd t) ≡ Rooted (led c (route_of t))
route_of-folder cwd t c at = by_root (is_absolute t) refl
  where
    by_root : (b : Bool) → is_absolute t ≡ b → route_of (join cwd t) ≡ Rooted (led c (route_of t))
    by_root true e =
        let w = root-names t e in
        let alone : join cwd t ≡ t = rw e refl in
        ap route_of alone ∙ w.1 ∙ sym (ap (λ r. Rooted (led c r)) w.1)
    by_root false e =
        route_of-join cwd t e
        ∙ ap (λ r. route_by_parts r (parts t)) at
        ∙ led-parts c (Relative 0 []) (parts t)
        ∙ ap (λ r. Rooted (led c r)) (sym (route_of-loose t e))

-- ---- parts and their text
IsPart-no_slash : (xs : List (List ℕ)) → AllByRecursion IsPart xs → AllByRecursion HasNoSlash xs
IsPart-no_slash [] h = tt
IsPart-no_slash ([] ∷ xs) h = absurd h.0
IsPart-no_slash ((c ∷ x) ∷ xs) h = (h.0, IsPart-no_slash xs h.1)

joined-parts : (a : List ℕ) (xs : List (List ℕ)) → AllByRecursion IsPart (a ∷ xs)
    → parts (join_with_byte 47 (a ∷ xs)) ≡ a ∷ xs
joined-parts a xs h = parts-join a xs (IsPart-no_slash (a ∷ xs) h)

-- a route goes on by the parts of a text as by the parts that were joined
read-joined : (r : Route) (xs : List (List ℕ)) → AllByRecursion IsPart xs
    → route_by_parts r (parts (join_with_byte 47 xs)) ≡ route_by_parts r xs
read-joined r [] h = refl
read-joined r (a ∷ xs) h = ap (route_by_parts r) (joined-parts a xs h)

-- joined parts begin with no slash
joined-loose : (xs : List (List ℕ)) → AllByRecursion IsPart xs → is_absolute (join_with_byte 47 xs) ≡ false
joined-loose [] h = refl
joined-loose ([] ∷ xs) h = absurd h.0
joined-loose ((c ∷ a) ∷ []) h = no_slash-head c a h.0
  where
    no_slash-head : (c : ℕ) (a : List ℕ) → has_no_slash (c ∷ a) ≡ true → is_absolute (c ∷ a) ≡ false
    no_slash-head c a k = not_true (is_absolute (c ∷ a)) (and_left (not (is_absolute (c ∷ a))) (has_no_slash a) k)
      where
        not_true : (b : Bool) → not b ≡ true → b ≡ false
        not_true true e = cc
        not_true false e = refl
joined-loose ((c ∷ a) ∷ x ∷ xs) h =
    not_true (is_absolute (c ∷ a)) (and_left (not (is_absolute (c ∷ a))) (has_no_slash a) h.0)
  where
    not_true : (b : Bool) → not b ≡ true → b ≡ false
    not_true true e = cc
    not_true false e = refl

-- the text of parts is empty where there is none, and tells the parts
joined-empty : (xs : List (List ℕ)) → AllByRecursion IsPart xs → join_with_byte 47 xs ≡ [] → xs ≡ []
joined-empty [] h e = refl
joined-empty ([] ∷ xs) h e = absurd h.0
joined-empty ((c ∷ a) ∷ []) h e = cc
joined-empty ((c ∷ a) ∷ x ∷ xs) h e = cc

joined-injective : (xs ys : List (List ℕ)) → AllByRecursion IsPart xs → AllByRecursion IsPart ys
    → join_with_byte 47 xs ≡ join_with_byte 47 ys → xs ≡ ys
joined-injective [] ys h k e = sym (joined-empty ys k (sym e))
joined-injective (a ∷ xs) [] h k e = joined-empty (a ∷ xs) h e
joined-injective (a ∷ xs) (b ∷ ys) h k e = sym (joined-parts a xs h) ∙ ap parts e ∙ joined-parts b ys k

-- ---- what stands between two lists of names
-- names that both begin with, what is left of each, and the way by those
abbrev Parting : List (List ℕ) → List (List ℕ) → Type 0
Parting b t =
    (zs : List (List ℕ)) × (u : List (List ℕ)) × (v : List (List ℕ)) × (b ≡ zs ++ u) × (t ≡ zs ++ v)
    × (between b t ≡ replicate (length u) (46 ∷ 46 ∷ []) ++ v)

parting : (b t : List (List ℕ)) → Parting b t
parting [] [] = ([], [], [], refl, refl, refl)
parting [] (y ∷ t) = ([], [], y ∷ t, refl, refl, refl)
parting (x ∷ b) [] =
    let whole : length (x ∷ b) - 0 ≡ length (x ∷ b) = omega arith in
    ([], x ∷ b, [], refl, refl, ap (λ n. replicate n (46 ∷ 46 ∷ []) ++ []) whole)
parting (x ∷ b) (y ∷ t) = by_test (bytes_eq y x) refl (parting b t)
  where
    by_test : (e : Bool) → bytes_eq y x ≡ e → Parting b t → Parting (x ∷ b) (y ∷ t)
    by_test true e w =
        let same : y ≡ x = (bytes_eq-Decides y x).0 e in (
          x ∷ w.0,
          w.1,
          w.2,
          ap (λ zs. x ∷ zs) w.3,
          ap (λ n. n ∷ t) same ∙ ap (λ zs. x ∷ zs) w.4,
          ap (λ n. between (x ∷ b) (n ∷ t)) same ∙ between-shared (x ∷ []) b t ∙ w.5,
        )
    by_test false e w =
        let whole : length (x ∷ b) - 0 ≡ length (x ∷ b) = omega arith in (
          [],
          x ∷ b,
          y ∷ t,
          refl,
          refl,
          ap (λ c. let shared = cond c (1 + common_prefix_len bytes_eq t b) 0 in
              replicate (length (x ∷ b) - shared) (46 ∷ 46 ∷ []) ++ drop shared (y ∷ t)) e
              ∙ ap (λ n. replicate n (46 ∷ 46 ∷ []) ++ y ∷ t) whole,
        )

AllByRecursion-behind : (P : List ℕ → Type 0) (zs v : List (List ℕ)) → AllByRecursion P (zs ++ v) → AllByRecursion P v
AllByRecursion-behind P [] v h = h
AllByRecursion-behind P (z ∷ zs) v h = AllByRecursion-behind P zs v h.1

between-parts : (b t : List (List ℕ)) → AllByRecursion IsPart t → AllByRecursion IsPart (between b t)
between-parts b t h =
    let w = parting b t in
    let P : List (List ℕ) → Type 0 = AllByRecursion IsPart in
    subst P (sym w.5) (AllByRecursion-append (replicate (length w.1) (46 ∷ 46 ∷ [])) w.2 (replicate-dots (length w.1))
    (AllByRecursion-behind IsPart w.0 w.2 (subst P w.4 h)))

between-same : (b : List (List ℕ)) → between b b ≡ []
between-same b = ap (λ x. between x x) (sym (append-nil b)) ∙ between-shared b [] []

between-empty : (b t : List (List ℕ)) → between b t ≡ [] → b ≡ t
between-empty b t e =
    let w = parting b t in
    w.3 ∙ ap (λ x. w.0 ++ x) (by_rest w.1 w.2 (sym w.5 ∙ e)) ∙ sym w.4
  where
    by_rest : (u v : List (List ℕ)) → replicate (length u) (46 ∷ 46 ∷ []) ++ v ≡ [] → u ≡ v
    by_rest [] [] e = refl
    by_rest [] (y ∷ v) e = cc
    by_rest (x ∷ u) v e = cc

-- ---- going that way
-- one `..` for each name goes back to before them
read-dots : (u q : Path) (xs : List (List ℕ))
    → route_by_parts (Rooted (u ++ q)) (replicate (length u) (46 ∷ 46 ∷ []) ++ xs) ≡ route_by_parts (Rooted q) xs
read-dots [] q xs = refl
read-dots (n ∷ u) q xs = read-dots u q xs

read-names : (q : Path) (xs : List (List ℕ)) → AllByRecursion IsName xs
    → route_by_parts (Rooted q) xs ≡ Rooted (reverse xs ++ q)
read-names q [] h = refl
read-names q (x ∷ xs) h =
    ap (λ r. route_by_parts r xs) (route_by_part-plain (Rooted q) x (and_left (is_plain x) (has_no_slash x) h.0))
    ∙ read-names (x ∷ q) xs h.1
    ∙ ap Rooted (sym (append_assoc (reverse xs) (x ∷ []) q) ∙ ap (λ ys. ys ++ q) (sym (reverse_onto xs x [])))

read-way : (p s q : Path) → IsPath s → route_by_parts (Rooted (p ++ q)) (between (reverse p) (reverse s)) ≡ Rooted
    (s ++ q)
read-way p s q h =
    let w = parting (reverse p) (reverse s) in
    let P : List (List ℕ) → Type 0 = AllByRecursion IsName in
    let from : p ++ q ≡ reverse w.1 ++ (reverse w.0 ++ q) =
    ap (λ ns. ns ++ q) (sym (reverse-reverse p) ∙ ap reverse w.3 ∙ reverse-append w.0 w.1)
    ∙ append_assoc (reverse w.1) (reverse w.0) q in
    let to : s ++ q ≡ reverse w.2 ++ (reverse w.0 ++ q) =
    ap (λ ns. ns ++ q) (sym (reverse-reverse s) ∙ ap reverse w.4 ∙ reverse-append w.0 w.2)
    ∙ append_assoc (reverse w.2) (reverse w.0) q in
    let ups : between (reverse p) (reverse s) ≡ replicate (length (reverse w.1)) (46 ∷ 46 ∷ []) ++ w.2 =
    w.5 ∙ ap (λ n. replicate n (46 ∷ 46 ∷ []) ++ w.2) (sym (length-reverse w.1)) in
    ap (λ ns. route_by_parts (Rooted ns) (between (reverse p) (reverse s))) from
    ∙ ap (route_by_parts (Rooted (reverse w.1 ++ (reverse w.0 ++ q)))) ups
    ∙ read-dots (reverse w.1) (reverse w.0 ++ q) w.2
    ∙ read-names (reverse w.0 ++ q) w.2 (AllByRecursion-behind IsName w.0 w.2
    (subst P w.4 (AllByRecursion-reverse IsName s h)))
    ∙ ap Rooted (sym to)

-- ---- the relative path from one path to another
-- it is the way between names that lead on from one folder
abbrev IsWay : Path → List ℕ → List ℕ → List ℕ → Type 0
IsWay c cwd base target =
    (p : Path) × (s : Path) × (q : Path) × IsPath s × (led c (route_of base) ≡ p ++ q)
    × (led c (route_of target) ≡ s ++ q) × (relative_from cwd base target ≡ join_with_byte 47
    (between (reverse p) (reverse s)))

way-form : (r s : Route) → way r s ≡ join_with_byte 47 (between (reverse (route_names r)) (reverse (route_names s)))
unfolding way
way-form r s = refl

IsPath-folder : (cwd t : List ℕ) (c : Path) → route_of cwd ≡ Rooted c → IsPath (led c (route_of t))
IsPath-folder cwd t c at =
    let P : Route → Type 0 = λ r. IsPath (route_names r) in
    subst P (route_of-folder cwd t c at) (IsPath-route_of (join cwd t))

is_way : (cwd base target : List ℕ) (c : Path) → route_of cwd ≡ Rooted c → IsWay c cwd base target
is_way cwd base target c at = by_test (needs_folder base target) refl
  where
    alone : (r s : Route) → route_of base ≡ r → route_of target ≡ s → same_start s r ≡ true → IsPath (route_names s)
        → relative_from cwd base target ≡ way r s → IsWay c cwd base target
    alone (Rooted p) (Rooted s) e f same names is = (
      p,
      s,
      [],
      names,
      ap (led c) e ∙ sym (append-nil p),
      ap (led c) f ∙ sym (append-nil s),
      is
          ∙ way-form (Rooted p) (Rooted s),
    )
    alone (Rooted p) (Relative m s) e f same names is = cc
    alone (Relative k p) (Rooted s) e f same names is = cc
    alone (Relative k p) (Relative m s) e f same names is =
        let level : m ≡ k = (Decides-eqb m k).0 same in (
          p,
          s,
          folders_up k c,
          names,
          ap (led c) e,
          ap (led c) f ∙ ap (λ n. s ++ folders_up n c) level,
          is
              ∙ way-form (Relative k p) (Relative m s),
        )

    by_test : (b : Bool) → needs_folder base target ≡ b → IsWay c cwd base target
    by_test true e =
        let p = led c (route_of base) in
        let s = led c (route_of target) in (
          p,
          s,
          [],
          IsPath-folder cwd target c at,
          sym (append-nil p),
          sym (append-nil s),
          relative-below cwd base target e
              ∙ ap (λ r. way r (route_of (join cwd target))) (route_of-folder cwd base c at)
              ∙ ap (way (Rooted p)) (route_of-folder cwd target c at)
              ∙ way-form (Rooted p) (Rooted s),
        )
    by_test false e = alone (route_of base) (route_of target) refl refl (same-alone base target e)
        (IsPath-route_of target) (relative-alone cwd base target e)

place-form : (t : List ℕ) (p : Path) → route_of t ≡ Rooted p → place t ≡ 47 ∷ join_with_byte 47 (reverse p)
unfolding place route_text
place-form t p e = ap (λ r. or_dot (route_text r)) e

folder-form : (cwd t : List ℕ) (c : Path) → route_of cwd ≡ Rooted c
    → from_folder cwd t ≡ 47 ∷ join_with_byte 47 (reverse (led c (route_of t)))
folder-form cwd t c at = place-form (join cwd t) (led c (route_of t)) (route_of-folder cwd t c at)

-- a base, and the relative path behind it, lead to the target
leads : (cwd base target : List ℕ) (c : Path) → route_of cwd ≡ Rooted c
    → led c (route_of (join base (relative_from cwd base target))) ≡ led c (route_of target)
leads cwd base target c at = by_way (is_way cwd base target c at)
  where
    by_way : IsWay c cwd base target → led c (route_of (join base (relative_from cwd base target))) ≡ led c
        (route_of target)
    by_way (p, s, q, names, from, to, is) =
        let xs = between (reverse p) (reverse s) in
        let steps : AllByRecursion IsPart xs = between-parts (reverse p) (reverse s) (reverse-names s names) in
        let loose : is_absolute (join_with_byte 47 xs) ≡ false = joined-loose xs steps in
        let read : Rooted (led c (route_of (join base (join_with_byte 47 xs)))) ≡ Rooted (s ++ q) =
        ap (λ r. Rooted (led c r)) (route_of-join base (join_with_byte 47 xs) loose)
        ∙ sym (led-parts c (route_of base) (parts (join_with_byte 47 xs)))
        ∙ read-joined (Rooted (led c (route_of base))) xs steps
        ∙ ap (λ ns. route_by_parts (Rooted ns) xs) from
        ∙ read-way p s q names in
        ap (λ w. led c (route_of (join base w))) is ∙ ap route_names read ∙ sym to

pub relative-leads : (cwd base target : List ℕ) → is_absolute cwd ≡ true
    → from_folder cwd (join base (relative_from cwd base target)) ≡ from_folder cwd target
relative-leads cwd base target abs =
    let w = root-names cwd abs in
    folder-form cwd (join base (relative_from cwd base target)) w.0 w.1
    ∙ ap (λ p. 47 ∷ join_with_byte 47 (reverse p)) (leads cwd base target w.0 w.1)
    ∙ sym (folder-form cwd target w.0 w.1)

-- the relative path is empty between equal names alone
pub relative-empty : (cwd base target : List ℕ) → is_absolute cwd ≡ true
    → (relative_from cwd base target ≡ []) ↔ (from_folder cwd base ≡ from_folder cwd target)
relative-empty cwd base target abs = by_way (is_way cwd base target w.0 w.1)
  where
    w : (c : Path) × (route_of cwd ≡ Rooted c)
    w = root-names cwd abs

    by_way : IsWay w.0 cwd base target → (relative_from cwd base target ≡ []) ↔
        (from_folder cwd base ≡ from_folder cwd target)
    by_way (p, s, q, names, from, to, is) = (there, back)
      where
        there : relative_from cwd base target ≡ [] → from_folder cwd base ≡ from_folder cwd target
        there e =
            let none = joined-empty (between (reverse p) (reverse s))
            (between-parts (reverse p) (reverse s) (reverse-names s names)) (sym is ∙ e) in
            let same : p ≡ s =
            sym (reverse-reverse p) ∙ ap reverse (between-empty (reverse p) (reverse s) none) ∙ reverse-reverse s in
            folder-form cwd base w.0 w.1
            ∙ ap (λ ns. 47 ∷ join_with_byte 47 (reverse ns)) (from ∙ ap (λ ns. ns ++ q) same ∙ sym to)
            ∙ sym (folder-form cwd target w.0 w.1)

        back : from_folder cwd base ≡ from_folder cwd target → relative_from cwd base target ≡ []
        back e =
            let nb = led w.0 (route_of base) in
            let nt = led w.0 (route_of target) in
            let texts : join_with_byte 47 (reverse nb) ≡ join_with_byte 47 (reverse nt) =
            tail (sym (folder-form cwd base w.0 w.1) ∙ e ∙ folder-form cwd target w.0 w.1) in
            let lists = joined-injective (reverse nb) (reverse nt) (reverse-names nb (IsPath-folder cwd base w.0 w.1))
            (reverse-names nt (IsPath-folder cwd target w.0 w.1)) texts in
            let whole : p ++ q ≡ s ++ q =
            sym from ∙ sym (reverse-reverse nb) ∙ ap reverse lists ∙ reverse-reverse nt ∙ to in
            let same : p ≡ s = append_cancel_right p s q whole in
            is ∙ ap (λ ns. join_with_byte 47 (between (reverse ns) (reverse s))) same
            ∙ ap (join_with_byte 47) (between-same (reverse s))
          where
            tail : {a b : List ℕ} → 47 ∷ a ≡ 47 ∷ b → a ≡ b
            tail e = cc
