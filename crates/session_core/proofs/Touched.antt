-- Which entries an edit touches: those that ask on the edited path, or on a path that stands above it.
use Rattle.std.proofs.Common.{◌≡◌, ◌≢◌, ◌<◌, ◌||◌, ◌⊎◌, inl, inr, ℕ, Bool, true, false, not, cond, List, [], ◌∷◌, take}
use Rattle.std.proofs.Common.{filter, length, get_or, bytes_eq, refl, sym, ap, ◌∙◌, subst, arith, length-take}
use Rattle.std.proofs.Math.Seq.{get_or-append_seam}
use Rattle.std.specs.List.{AllByRecursion}
use Rattle.std.proofs.lemmas.Slice.Eq.{bytes_eq-Decides}
use Rattle.tree_core.specs.declared.question.Question.{Question}
use Rattle.tree_core.specs.declared.question.Reply.{Reply}
use Rattle.tree_core.specs.Question.{path_asked}
use Rattle.tree_core.specs.Tree.{is_root_text, stands_above}
use Rattle.tree_core.proofs.Above.{continues, continues-from, above-from, above-is, above-trans, above-shorter}
use Rattle.tree_core.proofs.Above.{cut-above, of_two_above}
use Rattle.session_core.specs.declared.latest.Entry.{Entry}
use Rattle.session_core.specs.Entries.{bears_on, asks, is_asking, is_touched, untouched}
use Rattle.session_core.proofs.Lists.{filter-less, filter-all}

or_cases : (a b : Bool) → (a || b) ≡ true → (a ≡ true) ⊎ (b ≡ true)
or_cases true b h = inl refl
or_cases false b h = inr h

or_left : (a b : Bool) → a ≡ true → (a || b) ≡ true
or_left true b h = refl
or_left false b h = cc

or_right : (a b : Bool) → b ≡ true → (a || b) ≡ true
or_right true b h = refl
or_right false b h = h

-- a question on a path that passes one test is on a path that passes another
asks-more : (f g : List ℕ → Bool) (steps : List (Question × Reply)) → ((a : List ℕ) → f a ≡ true → g a ≡ true) →
    asks f steps ≡ true → asks g steps ≡ true
asks-more f g [] more h = cc
asks-more f g (s ∷ steps) more h = elim (or_cases (f (path_asked s.0)) (asks f steps) h) [
  | inl e ↦ or_left (g (path_asked s.0)) (asks g steps) (more (path_asked s.0) e)
  | inr e ↦ or_right (g (path_asked s.0)) (asks g steps) (asks-more f g steps more e)
]

asks-either : (f g : List ℕ → Bool) (steps : List (Question × Reply)) → asks (λ a. f a || g a) steps ≡ true →
    asks f steps ≡ false → asks g steps ≡ true
asks-either f g [] h none = cc
asks-either f g (s ∷ steps) h none = by_tests (f (path_asked s.0)) (g (path_asked s.0)) h none (asks-either f g steps)
  where
    by_tests : (a b : Bool) → (a || b || asks (λ x. f x || g x) steps) ≡ true → (a || asks f steps) ≡ false →
        (asks (λ x. f x || g x) steps ≡ true → asks f steps ≡ false → asks g steps ≡ true) → (b || asks g steps) ≡ true
    by_tests true b h none later = cc
    by_tests false true h none later = refl
    by_tests false false h none later = later h none

asks-none : (f : List ℕ → Bool) (steps : List (Question × Reply)) → ((a : List ℕ) → f a ≡ false) → asks f steps ≡ false
asks-none f [] none = refl
asks-none f (s ∷ steps) none = rw (none (path_asked s.0)) (asks-none f steps none)

-- an edit touches what asks on a path that it bears on
asking-touched : (path folder : List ℕ) (e : Entry) → bears_on path folder ≡ true → is_asking folder e ≡ true →
    is_touched path e ≡ true
asking-touched path folder e bears h =
    asks-more (λ a. bytes_eq a folder) (bears_on path) e.outcome.trail
    (λ a same. let is : a ≡ folder = (bytes_eq-Decides a folder).0 same in ap (bears_on path) is ∙ bears) h

-- so what asks there may go, and what an edit leaves is the same
pub untouched-dropped : (path folder : List ℕ) (kept : List Entry) → bears_on path folder ≡ true →
    untouched path (filter (λ e. not (is_asking folder e)) kept) ≡ untouched path kept
untouched-dropped path folder kept bears =
    filter-less (is_touched path) (is_asking folder) kept (λ e h. asking-touched path folder e bears h)

-- what an edit touches asks on a path that passes
abbrev pub TouchedAsks : List ℕ → (List ℕ → Bool) → Entry → Type 0
TouchedAsks path test e = is_touched path e ≡ true → asks test e.outcome.trail ≡ true

-- Where what asks on a path is dropped, what an edit touches asks on one of the others that pass.
pub asks-others : (path folder : List ℕ) (test others : List ℕ → Bool) (kept : List Entry) →
    ((a : List ℕ) → test a ≡ true → (a ≡ folder) ⊎ (others a ≡ true)) → AllByRecursion (TouchedAsks path test) kept →
    AllByRecursion (TouchedAsks path others) (filter (λ e. not (is_asking folder e)) kept)
asks-others path folder test others [] cut all = tt
asks-others path folder test others (e ∷ kept) cut all =
    by_test (is_asking folder e) refl (asks-others path folder test others kept cut all.1)
  where
    either : (a : List ℕ) → test a ≡ true → (bytes_eq a folder || others a) ≡ true
    either a h = elim (cut a h) [
      | inl same ↦ or_left (bytes_eq a folder) (others a) ((bytes_eq-Decides a folder).1 same)
      | inr other ↦ or_right (bytes_eq a folder) (others a) other
    ]

    by_test : (b : Bool) → is_asking folder e ≡ b →
        AllByRecursion (TouchedAsks path others) (filter (λ e. not (is_asking folder e)) kept) →
        AllByRecursion (TouchedAsks path others)
        (cond (not b) (e ∷ filter (λ e. not (is_asking folder e)) kept)
        (filter (λ e. not (is_asking folder e)) kept))
    by_test true asking rest = rest
    by_test false other rest = (
      λ touched. asks-either (λ a. bytes_eq a folder) others e.outcome.trail
          (asks-more test (λ a. bytes_eq a folder || others a) e.outcome.trail either (all.0 touched)) other,
      rest,
    )

pub asks-begin : (path : List ℕ) (kept : List Entry) → AllByRecursion (TouchedAsks path (bears_on path)) kept
asks-begin path [] = tt
asks-begin path (e ∷ kept) = (λ h. h, asks-begin path kept)

pub bears-path : (path : List ℕ) → bears_on path path ≡ true
bears-path path = or_left (bytes_eq path path) (stands_above path path) ((bytes_eq-Decides path path).1 refl)

-- an edit bears on each question on `/`
pub bears-root : (path : List ℕ) → bears_on path (47 ∷ []) ≡ true
bears-root path = by_test (is_root_text path) refl
  where
    by_test : (b : Bool) → is_root_text path ≡ b → bears_on path (47 ∷ []) ≡ true
    by_test true e =
        or_left (bytes_eq (47 ∷ []) path) (not (is_root_text path))
        ((bytes_eq-Decides (47 ∷ []) path).1 (sym ((bytes_eq-Decides path (47 ∷ [])).0 e)))
    by_test false e = or_right (bytes_eq (47 ∷ []) path) (not (is_root_text path)) (ap not e)

-- a path is this one, or goes on behind it
abbrev pub on_way : List ℕ → List ℕ → Bool
on_way path a = bytes_eq a path || continues a path

pub way-cases : (path a : List ℕ) → on_way path a ≡ true → (a ≡ path) ⊎ (continues a path ≡ true)
way-cases path a h = elim (or_cases (bytes_eq a path) (continues a path) h) [
  | inl same ↦ inl ((bytes_eq-Decides a path).0 same)
  | inr above ↦ inr above
]

pub way-path : (path : List ℕ) → on_way path path ≡ true
way-path path = or_left (bytes_eq path path) (continues path path) ((bytes_eq-Decides path path).1 refl)

-- an edit bears on its path, and on what its path goes on behind
pub way-bears : (path a : List ℕ) → on_way path a ≡ true → bears_on path a ≡ true
way-bears path a h = by_root (is_root_text a) refl (or_cases (bytes_eq a path) (continues a path) h)
  where
    by_root : (b : Bool) → is_root_text a ≡ b → (bytes_eq a path ≡ true) ⊎ (continues a path ≡ true) →
        bears_on path a ≡ true
    by_root b e (inl same) = or_left (bytes_eq a path) (stands_above a path) same
    by_root true e (inr more) = ap (bears_on path) ((bytes_eq-Decides a (47 ∷ [])).0 e) ∙ bears-root path
    by_root false e (inr more) = or_right (bytes_eq a path) (stands_above a path) (above-from a path e more)

-- what an edit bears on is `/`, its path, or what its path goes on behind
pub bears-cases : (path a : List ℕ) → bears_on path a ≡ true → (a ≡ 47 ∷ []) ⊎ (on_way path a ≡ true)
bears-cases path a h = by_root (is_root_text a) refl (or_cases (bytes_eq a path) (stands_above a path) h)
  where
    by_root : (b : Bool) → is_root_text a ≡ b → (bytes_eq a path ≡ true) ⊎ (stands_above a path ≡ true) →
        (a ≡ 47 ∷ []) ⊎ (on_way path a ≡ true)
    by_root b e (inl same) = inr (or_left (bytes_eq a path) (continues a path) same)
    by_root true e (inr above) = inl ((bytes_eq-Decides a (47 ∷ [])).0 e)
    by_root false e (inr above) = inr (or_right (bytes_eq a path) (continues a path) (continues-from a path e above))

-- With none that passes, an edit touches nothing more.
pub none-touched : (path : List ℕ) (test : List ℕ → Bool) (kept : List Entry) → ((a : List ℕ) → test a ≡ false) →
    AllByRecursion (TouchedAsks path test) kept → untouched path kept ≡ kept
none-touched path test kept none all = filter-all (is_touched path) kept (each kept all)
  where
    each : (kept : List Entry) → AllByRecursion (TouchedAsks path test) kept →
        AllByRecursion (λ e. is_touched path e ≡ false) kept
    each [] all = tt
    each (e ∷ kept) all = (by_test (is_touched path e) all.0, each kept all.1)
      where
        by_test : (b : Bool) → (b ≡ true → asks test e.outcome.trail ≡ true) → b ≡ false
        by_test true h = let asked = h refl in let no = asks-none test e.outcome.trail none in cc
        by_test false h = refl

pub way-cut : (path folder a : List ℕ) → on_way path folder ≡ true → continues a folder ≡ true → on_way path a ≡ true
way-cut path folder a way above = elim (way-cases path folder way) [
  | inl same ↦ or_right (bytes_eq a path) (continues a path) (subst (λ (p : List ℕ). continues a p ≡ true) same above)
  | inr higher ↦ or_right (bytes_eq a path) (continues a path) (above-trans a folder path above higher)
]

-- what stands above a path that is cut at its last slash is what is left of it, or stands above that
pub above-cut : (q p : List ℕ) (k : ℕ) → k < length p → get_or p k 0 ≡ 47 →
    ((i : ℕ) → k < i → i < length p → get_or p i 0 ≢ 47) → continues q p ≡ true →
    (q ≡ take k p) ⊎ (continues q (take k p) ≡ true)
above-cut q p k lt is last h =
    let first = above-is q p h in
    let second = above-is (take k p) p (cut-above p k lt is) in
    by_case (of_two_above q (take k p) first.0 second.0 (sym first.1 ∙ second.1))
  where
    by_case : (q ≡ take k p) ⊎ ((continues q (take k p) ≡ true) ⊎ (continues (take k p) q ≡ true)) →
        (q ≡ take k p) ⊎ (continues q (take k p) ≡ true)
    by_case (inl w) = inl w
    by_case (inr (inl w)) = inr w
    by_case (inr (inr w)) =
        let is' = above-is q p h in
        let longer = above-shorter (take k p) q w in
        let inside : length q < length p = above-shorter q p h in
        let at : get_or p (length q) 0 ≡ 47 = rw is'.1 (get_or-append_seam q 47 is'.0 0) in
        absurd (last (length q) (omega (arith, length-take k p)) inside at)

-- with no slash nothing stands above
pub none-above : (q p : List ℕ) → ((i : ℕ) → i < length p → get_or p i 0 ≢ 47) → continues q p ≡ false
none-above q p none = by_test (continues q p) refl
  where
    by_test : (b : Bool) → continues q p ≡ b → continues q p ≡ false
    by_test true e =
        let is = above-is q p e in
        let at : get_or p (length q) 0 ≡ 47 = rw is.1 (get_or-append_seam q 47 is.0 0) in
        absurd (none (length q) (above-shorter q p e) at)
    by_test false e = e
