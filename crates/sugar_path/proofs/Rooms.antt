-- The parts of a path that is read in its own room.
use Rattle.std.proofs.Common.{
  ◌≡◌,
  ◌≢◌,
  ◌==◌,
  ◌||◌,
  ℕ,
  zero,
  suc,
  ◌+◌,
  ◌-◌,
  ◌<◌,
  ◌≤◌,
  Bool,
  true,
  false,
  cond,
  List,
  [],
  ◌∷◌,
  ◌++◌,
  length,
  get_or,
  take,
  drop,
  bytes_eq,
  refl,
  sym,
  ap,
  ◌∙◌,
  arith,
  length-append,
  length-drop,
}
use Rattle.std.specs.List.{copy_within}
use Rattle.std.proofs.lemmas.Bool.Decides.{Decides-eqb}
use Rattle.std.proofs.lemmas.List.{take_all, drop_all, take-append-drop, drop-drop}
use Rattle.std.proofs.lemmas.List.Edits.{drop-paste}
use Rattle.sugar_path.specs.declared.reading.Reading.{Reading}
use Rattle.sugar_path.specs.Path.{has_no_slash, ends_in_slash, with_slash, is_absolute, parts, join}
use Rattle.sugar_path.specs.Route.{
  Route,
  Rooted,
  Relative,
  route_by_part,
  route_by_parts,
  route_start,
  route_of,
  is_rooted,
  route_text,
  or_dot,
  place,
  normal,
}
use Rattle.sugar_path.specs.Reading.{HasRead, IsPartEnd, part_in, read_text, text_on, dots_text}
use Rattle.sugar_path.proofs.FirstParts.{no_slash-everywhere, parts-cut, parts-uncut}
use Rattle.sugar_path.proofs.RouteTexts.{
  ends-append,
  no_slash-ends,
  with_slash-name,
  with_slash-part,
  text_on-longer,
  route_of-join,
}

abbrev NoneBefore : List ℕ → ℕ → Type 0
NoneBefore t n = (k : ℕ) → k < n → (get_or t k 0 == 47) ≡ true → ⊥

-- a text ends as what stands behind a place of it
pub ends-behind : (t : List ℕ) (at : ℕ) → at < length t → ends_in_slash t ≡ ends_in_slash (drop at t)
ends-behind t at lt =
    ap ends_in_slash (sym (take-append-drop at t)) ∙ by_case (drop at t) (omega (arith, length-drop at t))
  where
    by_case : (u : List ℕ) → length u ≢ 0 → ends_in_slash (take at t ++ u) ≡ ends_in_slash u
    by_case [] some = absurd (some refl)
    by_case (c ∷ u) some = ends-append (take at t) c u

-- without a slash, the part ends with the path
pub part-uncut : (t : List ℕ) (at : ℕ) → at < length t → NoneBefore (drop at t) (length (drop at t))
    → IsPartEnd t at (length t)
part-uncut t at lt none =
    let whole : part_in at (length t) t ≡ drop at t =
    take_all (length t - at) (drop at t) (omega (arith, length-drop at t)) in
    let bare : has_no_slash (drop at t) ≡ true =
    ap has_no_slash (sym (take_all (length (drop at t)) (drop at t) (omega arith)))
    ∙ no_slash-everywhere (drop at t) (length (drop at t)) (omega arith) none in
    record {
      order = omega arith;
      within = omega arith;
      part = ap has_no_slash whole ∙ bare;
      next = λ r.
          ap (route_by_parts r) (parts-uncut (drop at t) none)
          ∙ ap (route_by_part r) (sym whole)
          ∙ ap (λ u. route_by_parts (route_by_part r (part_in at (length t) t)) (parts u))
          (sym (drop_all (length t + 1) t (omega arith)));
      last = λ e. ends-behind t at lt ∙ no_slash-ends (drop at t) bare;
    }

-- and else before its first slash
pub part-cut : (t : List ℕ) (at n : ℕ) → at < length t → n < length (drop at t) → NoneBefore (drop at t) n
    → get_or (drop at t) n 0 ≡ 47 → IsPartEnd t at (at + n)
part-cut t at n lt inside none is =
    let size : (at + n) - at ≡ n = omega arith in
    let whole : part_in at (at + n) t ≡ take n (drop at t) = ap (λ k. take k (drop at t)) size in
    record {
      order = omega arith;
      within = omega (arith, length-drop at t);
      part = ap has_no_slash whole ∙ no_slash-everywhere (drop at t) n (omega arith) none;
      next = λ r.
          ap (route_by_parts r) (parts-cut (drop at t) n inside none is)
          ∙ ap (λ u. route_by_parts (route_by_part r (take n (drop at t))) (parts u)) (drop-drop (n + 1) at t)
          ∙ ap (λ x. route_by_parts (route_by_part r x) (parts (drop (at + (n + 1)) t))) (sym whole)
          ∙ ap (λ k. route_by_parts (route_by_part r (part_in at (at + n) t)) (parts (drop k t))) (omega arith);
      last = λ e. absurd (omega (arith, length-drop at t));
    }

-- two texts that are alike behind a place are alike behind a later one
pub drop-later : (s t : List ℕ) (m n : ℕ) → m ≤ n → drop m s ≡ drop m t → drop n s ≡ drop n t
drop-later s t m n le same =
    let k : m + (n - m) ≡ n = omega arith in
    ap (λ j. drop j s) (sym k) ∙ sym (drop-drop (n - m) m s) ∙ ap (drop (n - m)) same ∙ drop-drop (n - m) m t
    ∙ ap (λ j. drop j t) k

-- a part that was moved to the front leaves what stands behind it
pub drop-moved : (s t : List ℕ) (at end len : ℕ) → len ≤ at → at ≤ end → end ≤ length s → t ≡ copy_within s at end len
    → drop end t ≡ drop end s
drop-moved s t at end len le order within is =
    drop-later t s (len + (end - at)) end (omega arith)
    (ap (drop (len + (end - at))) is ∙ drop-paste s len (drop at s) (end - at) (omega arith)
    (omega (arith, length-drop at s)))

pub with_slash-most : (s : List ℕ) → length (with_slash s) ≤ length s + 1
with_slash-most s = by_test (bytes_eq s [] || ends_in_slash s)
  where
    by_test : (b : Bool) → length (cond b s (s ++ 47 ∷ [])) ≤ length s + 1
    by_test true = omega arith
    by_test false = omega (arith, length-append s (47 ∷ []))

-- a path begins at its root, or in some folder
pub begin-rooted : (t : List ℕ) → is_absolute t ≡ true → route_by_parts (route_start t) (parts (drop 1 t)) ≡ route_of t
unfolding route_of
begin-rooted [] h = cc
begin-rooted (c ∷ t) h = rw ((Decides-eqb c 47).0 h) refl

pub begin-loose : (t : List ℕ) → route_by_parts (route_start t) (parts (drop 0 t)) ≡ route_of t
unfolding route_of
begin-loose t = refl

-- ---- a text that was read, and one more byte
pub read-loose : (r : Route) (s : Reading) → HasRead r s → length (read_text s) ≡ 0 → is_rooted r ≡ false
read-loose (Rooted p) s h none = absurd (omega (arith, ap length h.text, text_on-longer (47 ∷ []) p))
read-loose (Relative k p) s h none = refl

-- a relative path that ends in a slash has more than that
pub slash-behind : (t : List ℕ) → is_absolute t ≡ false → ends_in_slash t ≡ true → 1 < length t
slash-behind [] loose ends = cc
slash-behind (c ∷ []) loose ends = cc
slash-behind (c ∷ d ∷ t) loose ends = omega arith

-- what was read ends in no slash, but for the root
pub read-slash : (r : Route) (s : Reading) → HasRead r s → length (read_text s) ≢ 0 → read_text s ≢ 47 ∷ []
    → length (with_slash (read_text s)) ≡ length (read_text s) + 1
read-slash r s h some other = by_route r h
  where
    longer : (t u : List ℕ) → read_text s ≡ t → with_slash t ≡ t ++ 47 ∷ []
        → length (with_slash (read_text s)) ≡ length (read_text s) + 1
    longer t u is more = rw is (ap length more ∙ length-append t (47 ∷ []))

    by_route : (r : Route) → HasRead r s → length (with_slash (read_text s)) ≡ length (read_text s) + 1
    by_route (Rooted []) h = absurd (other h.text)
    by_route (Rooted (n ∷ p)) h = longer _ [] h.text (with_slash-name (with_slash (text_on (47 ∷ []) p)) n h.names.0)
    by_route (Relative zero []) h = absurd (some (ap length h.text))
    by_route (Relative (suc k) []) h = longer _ [] h.text (with_slash-part (with_slash (dots_text k)) 46 (46 ∷ []) refl)
    by_route (Relative k (n ∷ p)) h =
        longer _ [] h.text (with_slash-name (with_slash (text_on (dots_text k) p)) n h.names.0)

-- ---- `.` leads where an empty path leads
pub route_of-or_dot : (t : List ℕ) → route_of (or_dot t) ≡ route_of t
unfolding route_of
route_of-or_dot [] = refl
route_of-or_dot (c ∷ t) = refl

pub place-or_dot : (t : List ℕ) → place (or_dot t) ≡ place t
unfolding place
place-or_dot t = ap (λ r. or_dot (route_text r)) (route_of-or_dot t)

pub normal-or_dot : (t : List ℕ) → normal (or_dot t) ≡ normal t
unfolding normal
normal-or_dot [] = place-or_dot []
normal-or_dot (c ∷ t) = refl

pub place-below : (b t : List ℕ) → is_absolute t ≡ false → place (with_slash (or_dot b) ++ t) ≡ place (join b t)
unfolding place
place-below b t loose =
    let behind : with_slash (or_dot b) ++ t ≡ join (or_dot b) t = rw loose refl in
    ap (λ r. or_dot (route_text r))
    (ap route_of behind ∙ route_of-join (or_dot b) t loose ∙ ap (λ r. route_by_parts r (parts t)) (route_of-or_dot b)
    ∙ sym (route_of-join b t loose))

pub normal-none : normal [] ≡ 46 ∷ []
unfolding normal place route_of route_text
normal-none = refl
