-- A file is reached exactly where a walk leads to it.
use Rattle.std.proofs.Common.{
  ◌≡◌,
  ◌||◌,
  ◌⊎◌,
  inl,
  inr,
  ◌↔◌,
  ℕ,
  zero,
  suc,
  Bool,
  true,
  false,
  not,
  cond,
  bytes_eq,
  List,
  [],
  ◌∷◌,
  ◌++◌,
  length,
  filter,
  refl,
  sym,
  ap,
  ◌∙◌,
  append-nil,
}
use Rattle.std.specs.List.{flat_map, IsDistinct}
use Rattle.std.proofs.lemmas.Bool.{or_cases}
use Rattle.std.proofs.lemmas.Cmp.{nat_list_eq_equiv}
use Rattle.std.proofs.lemmas.List.Folds.{list_any-append}
use Rattle.std.proofs.lemmas.Map.Steps.{list_any_congr}
use Rattle.std.proofs.lemmas.Slice.Eq.{bytes_eq-Decides}
use Rattle.indexmap.specs.IndexSet.{insert_key, insert_all}
use Rattle.import_graph.specs.Levels.{among, once, Level, up_to, level_behind, level_at, levels_to, IsWalk}
use Rattle.import_graph.proofs.Levels.{level-made, levels-end}

among-or : (text : List ℕ) (xs ys : List (List ℕ)) → among text (xs ++ ys) ≡ true → (among text xs ≡ true)
    ⊎ (among text ys ≡ true)
among-or text xs ys h = or_cases (among text xs) (among text ys) (sym (list_any-append (bytes_eq text) xs ys) ∙ h)

or-true : (a b : Bool) → b ≡ true → (a || b) ≡ true
or-true true b h = refl
or-true false b h = h

-- a part that passes a test stands in the whole
among-filter : (p : List ℕ → Bool) (text : List ℕ) (xs : List (List ℕ)) → among text (filter p xs) ≡ true
    → among text xs ≡ true
among-filter p text [] h = h
among-filter p text (x ∷ xs) h = by_tests (p x) (bytes_eq text x) refl h (among-filter p text xs)
  where
    by_tests : (a b : Bool) → bytes_eq text x ≡ b → among text (cond a (x ∷ filter p xs) (filter p xs)) ≡ true
        → (among text (filter p xs) ≡ true → among text xs ≡ true) → (b || among text xs) ≡ true
    by_tests a true is h rest = refl
    by_tests true false is h rest = rest (ap (λ b. b || among text (filter p xs)) (sym is) ∙ h)
    by_tests false false is h rest = rest h

among-once : (text : List ℕ) (xs : List (List ℕ)) → among text (once xs) ≡ true → among text xs ≡ true
among-once text [] h = h
among-once text (x ∷ xs) h = by_test (bytes_eq text x) refl h
    (λ there. among-once text xs (among-filter (λ other. not (bytes_eq x other)) text (once xs) there))
  where
    by_test : (b : Bool) → bytes_eq text x ≡ b
        → (b || among text (filter (λ other. not (bytes_eq x other)) (once xs))) ≡ true
        → (among text (filter (λ other. not (bytes_eq x other)) (once xs)) ≡ true → among text xs ≡ true)
        → (b || among text xs) ≡ true
    by_test true is h rest = refl
    by_test false is h rest = rest h

-- what some files lead to is what one of them leads to
record IsLed (leads : List ℕ → List (List ℕ)) (files : List (List ℕ)) (text : List ℕ) : Type 0 where
  before : List ℕ
  there : among before files ≡ true
  led : among text (leads before) ≡ true

led-by : (leads : List ℕ → List (List ℕ)) (files : List (List ℕ)) (text : List ℕ)
    → among text (flat_map leads files) ≡ true → IsLed leads files text
led-by leads [] text h = cc
led-by leads (file ∷ files) text h =
    by_case (among-or text (leads file) (flat_map leads files) h) (led-by leads files text)
  where
    by_case : (among text (leads file) ≡ true) ⊎ (among text (flat_map leads files) ≡ true)
        → (among text (flat_map leads files) ≡ true → IsLed leads files text) → IsLed leads (file ∷ files) text
    by_case (inl here) rest =
        record { before = file; there = ap (λ b. b || among file files) (nat_list_eq_equiv.refl file); led = here }
    by_case (inr later) rest = let r = rest later in
        record {
          before = r.before;
          there = or-true (bytes_eq r.before file) (among r.before files) r.there;
          led =
              r.led;
        }

-- what one of some files leads to is what they lead to
led-there : (leads : List ℕ → List (List ℕ)) (files : List (List ℕ)) (before text : List ℕ) → among before files ≡ true
    → among text (leads before) ≡ true → among text (flat_map leads files) ≡ true
led-there leads [] before text there led = there
led-there leads (file ∷ files) before text there led =
    list_any-append (bytes_eq text) (leads file) (flat_map leads files)
    ∙ by_test (bytes_eq before file) refl there (λ later. led-there leads files before text later led)
  where
    by_test : (b : Bool) → bytes_eq before file ≡ b → (b || among before files) ≡ true
        → (among before files ≡ true → among text (flat_map leads files) ≡ true)
        → (among text (leads file) || among text (flat_map leads files)) ≡ true
    by_test true same h rest = let is : before ≡ file = (bytes_eq-Decides before file).0 same in
        ap (λ b. b || among text (flat_map leads files)) (ap (λ f. among text (leads f)) (sym is) ∙ led)
    by_test false other h rest = or-true (among text (leads file)) (among text (flat_map leads files)) (rest h)

-- a text stands among what others are put behind, and among what is put
among-inserted : (text : List ℕ) (xs : List (List ℕ)) (x : List ℕ)
    → among text (insert_key bytes_eq xs x) ≡ (among text xs || bytes_eq text x)
among-inserted text xs x = by_test (among x xs) refl
  where
    or-itself : (a b : Bool) → (b ≡ true → a ≡ true) → a ≡ (a || b)
    or-itself true b h = refl
    or-itself false true h = h refl
    or-itself false false h = refl

    or-false : (b : Bool) → (b || false) ≡ b
    or-false true = refl
    or-false false = refl

    by_test : (b : Bool) → among x xs ≡ b → among text (cond b xs (xs ++ x ∷ [])) ≡ (among text xs || bytes_eq text x)
    by_test true there =
        or-itself (among text xs) (bytes_eq text x) (λ same. list_any_congr nat_list_eq_equiv text x xs same ∙ there)
    by_test false new =
        list_any-append (bytes_eq text) xs (x ∷ []) ∙ ap (λ b. among text xs || b) (or-false (bytes_eq text x))

or-assoc : (a b c : Bool) → ((a || b) || c) ≡ (a || (b || c))
or-assoc true b c = refl
or-assoc false b c = refl

among-all : (text : List ℕ) (xs ys : List (List ℕ))
    → among text (insert_all bytes_eq xs ys) ≡ (among text xs || among text ys)
among-all text xs [] = or-nothing (among text xs)
  where
    or-nothing : (b : Bool) → b ≡ (b || false)
    or-nothing true = refl
    or-nothing false = refl
among-all text xs (y ∷ ys) =
    among-all text (insert_key bytes_eq xs y) ys
    ∙ ap (λ b. b || among text ys) (among-inserted text xs y)
    ∙ or-assoc (among text xs) (bytes_eq text y) (among text ys)

-- what stands up to a level is reached by a walk
walked : (leads : List ℕ → List (List ℕ)) (first : List (List ℕ)) (k : ℕ) (file : List ℕ)
    → among file (up_to (level_at leads first k)) ≡ true → (walk : List (List ℕ)) × IsWalk leads first (file ∷ walk)
walked leads first zero file there = ([], there)
walked leads first (suc k) file there =
    by_case (among-or file (up_to l) (level_behind leads l).files there) (walked leads first k)
  where
    l : Level
    l = level_at leads first k

    by_case : (among file (up_to l) ≡ true) ⊎ (among file (level_behind leads l).files ≡ true)
        → ((f : List ℕ) → among f (up_to l) ≡ true → (walk : List (List ℕ)) × IsWalk leads first (f ∷ walk))
        → (walk : List (List ℕ)) × IsWalk leads first (file ∷ walk)
    by_case (inl earlier) rest = rest file earlier
    by_case (inr new) rest =
        let led = led-by leads l.files file (among-once file (flat_map leads l.files)
        (among-filter (λ text. not (among text (up_to l))) file (once (flat_map leads l.files)) new)) in
        let up : among led.before (up_to l) ≡ true = list_any-append (bytes_eq led.before) l.before l.files
        ∙ or-true (among led.before l.before) (among led.before l.files) led.there in
        let walk = rest led.before up in
        (led.before ∷ walk.0, (led.led, walk.1))

-- a walk leads to what stands in the levels
closed : (leads : List ℕ → List (List ℕ)) (first all : List (List ℕ))
    → insert_all bytes_eq first (flat_map leads all) ≡ all → (file : List ℕ) (walk : List (List ℕ))
    → IsWalk leads first (file ∷ walk) → among file all ≡ true
closed leads first all whole file [] there = ap (among file) (sym whole) ∙ among-all file first (flat_map leads all)
    ∙ ap (λ b. b || among file (flat_map leads all)) there
closed leads first all whole file (before ∷ walk) h =
    ap (among file) (sym whole) ∙ among-all file first (flat_map leads all)
    ∙ or-true (among file first) (among file (flat_map leads all))
    (led-there leads all before file (closed leads first all whole before walk h.1) h.0)

-- the files of the levels are those that walks lead to
pub reached-by-walks : (leads : List ℕ → List (List ℕ)) (first all : List (List ℕ))
    → ((file : List ℕ) → among file all ≡ false → leads file ≡ []) → IsDistinct bytes_eq first → (file : List ℕ)
    → (among file (levels_to leads first (length all)) ≡ true) ↔
    ((walk : List (List ℕ)) × IsWalk leads first (file ∷ walk))
reached-by-walks leads first all outside distinct file =
    let n : ℕ = length all in
    let none = levels-end leads first all outside distinct in
    let whole = level-made leads first (suc n) ∙ ap (λ files. (level_at leads first (suc n)).before ++ files) none
    ∙ append-nil (level_at leads first (suc n)).before in (
      walked leads first n file,
      λ walk. closed leads first (levels_to leads first n) whole file walk.0 walk.1,
    )
