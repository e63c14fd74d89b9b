-- Lines, and the first line of only blanks.
use Rattle.std.proofs.Common.{
  ◌≡◌,
  ◌==◌,
  ◌+◌,
  ◌-◌,
  ℕ,
  suc,
  Bool,
  true,
  false,
  cond,
  not,
  List,
  [],
  ◌∷◌,
  length,
  take,
  drop,
  refl,
  Option,
  Some,
  None,
  arith,
}
use Rattle.std.specs.Prelude.{option_map}
use Rattle.std.specs.Option.{option_or}
use Rattle.std.specs.List.{prefix_len}
use Rattle.std.proofs.Math.Seq.{take-length}
use Rattle.yarn_lock_parser.specs.ByteSet.{is_blank}
use Rattle.sugar_path.specs.Front.{◌>>=◌, after}
use Rattle.yarn_lock_parser.specs.Front.{run, line_at, front, IsRest}
use Rattle.yarn_lock_parser.specs.Cut.{after_empty_line, after_later_empty_line, after_first_empty_line, entry_text}
use Rattle.yarn_lock_parser.proofs.Rests.{either_form, IsLater, later, then_later, run-rest, after_line_end-later}

abbrev pub parts : List ℕ → List ℕ → List ℕ × List ℕ
parts x y = (x, y)

pub run-cons : (set : ℕ → Bool) (c : ℕ) (cs : List ℕ)
    → run set (c ∷ cs) ≡ cond (set c) (parts (c ∷ (run set cs).0) (run set cs).1) (parts [] (c ∷ cs))
unfolding run
run-cons set c cs = by_test (set c)
  where
    by_test : (b : Bool) → parts (take (cond b (1 + prefix_len set cs) 0) (c ∷ cs))
        (drop (cond b (1 + prefix_len set cs) 0) (c ∷ cs)) ≡ cond b
        (parts (c ∷ take (prefix_len set cs) cs) (drop (prefix_len set cs) cs)) (parts [] (c ∷ cs))
    by_test true = let one : 1 + prefix_len set cs ≡ suc (prefix_len set cs) = omega arith in rw one refl
    by_test false = refl

pub run-nil : (set : ℕ → Bool) → (run set []).1 ≡ []
unfolding run
run-nil set = refl

-- what stands before the first such byte, and what follows it
abbrev pub around : ℕ → List ℕ → Option (List ℕ × List ℕ)
around b t = after (b ∷ []) (run (λ c. not (c == b)) t).1 >>= λ rest. Some ((run (λ c. not (c == b)) t).0, rest)

pub around-nil : (b : ℕ) → around b [] ≡ None
unfolding run after
around-nil b = refl

pub around-here : (b c : ℕ) (cs : List ℕ) → (c == b) ≡ true → around b (c ∷ cs) ≡ Some ([], cs)
unfolding after
around-here b c cs e = rw (run-cons (λ d. not (d == b)) c cs, e) (rw e refl)

pub around-later : (b c : ℕ) (cs : List ℕ) → (c == b) ≡ false
    → around b (c ∷ cs) ≡ option_map (λ x. (c ∷ x.0, x.1)) (around b cs)
around-later b c cs e =
    rw (run-cons (λ d. not (d == b)) c cs, e) (by_rest (after (b ∷ []) (run (λ d. not (d == b)) cs).1))
  where
    by_rest : (o : Option (List ℕ)) → (o >>= λ rest. Some (parts (c ∷ (run (λ d. not (d == b)) cs).0) rest)) ≡
        option_map (λ x. parts (c ∷ x.0) x.1) (o >>= λ rest. Some (parts (run (λ d. not (d == b)) cs).0 rest))
    by_rest None = refl
    by_rest (Some r) = refl

line_at-nil : line_at [] ≡ None
unfolding line_at
line_at-nil = around-nil 10

line_at-feed : (c : ℕ) (cs : List ℕ) → (c == 10) ≡ true → line_at (c ∷ cs) ≡ Some ([], cs)
unfolding line_at
line_at-feed c cs e = around-here 10 c cs e

line_at-other : (c : ℕ) (cs : List ℕ) → (c == 10) ≡ false
    → line_at (c ∷ cs) ≡ option_map (λ x. (c ∷ x.0, x.1)) (line_at cs)
unfolding line_at
line_at-other c cs e = around-later 10 c cs e

abbrev later_line : Option (List ℕ × List ℕ) → Option (List ℕ)
later_line None = None
later_line (Some x) = after_first_empty_line x.1

later_line-longer : (c : ℕ) (o : Option (List ℕ × List ℕ))
    → later_line (option_map (λ x. (c ∷ x.0, x.1)) o) ≡ later_line o
later_line-longer c None = refl
later_line-longer c (Some x) = refl

after_later-line : (t : List ℕ) → after_later_empty_line t ≡ later_line (line_at t)
unfolding after_later_empty_line after_first_empty_line
after_later-line [] = rw line_at-nil refl
after_later-line (c ∷ cs) = by_test (c == 10) refl (after_later-line cs)
  where
    by_test : (b : Bool) → (c == 10) ≡ b → after_later_empty_line cs ≡ later_line (line_at cs)
        → cond b (option_or (after_empty_line cs) (after_later_empty_line cs)) (after_later_empty_line cs) ≡ later_line
        (line_at (c ∷ cs))
    by_test true e rest = rw (line_at-feed c cs e) refl
    by_test false e rest = rw (line_at-other c cs e, later_line-longer c (line_at cs)) rest

pub first_empty-here : (t r : List ℕ) → after_empty_line t ≡ Some r → after_first_empty_line t ≡ Some r
unfolding after_first_empty_line
first_empty-here t r e = rw e refl

pub first_empty-none : (t : List ℕ) → after_empty_line t ≡ None → line_at t ≡ None → after_first_empty_line t ≡ None
unfolding after_first_empty_line
first_empty-none t e none = rw (e, after_later-line t, none) refl

pub first_empty-later : (t : List ℕ) (x : List ℕ × List ℕ) → after_empty_line t ≡ None → line_at t ≡ Some x
    → after_first_empty_line t ≡ after_first_empty_line x.1
unfolding after_first_empty_line
first_empty-later t x e found = rw (e, after_later-line t, found) refl

pub after_empty-later : (t r : List ℕ) → after_empty_line t ≡ Some r → IsLater t r
unfolding after_empty_line
after_empty-later t r e = then_later (run-rest is_blank t) (after_line_end-later _ r e)

-- ---- the text of an entry

after_later-later : (t r : List ℕ) → after_later_empty_line t ≡ Some r → IsLater t r
unfolding after_later_empty_line
after_later-later [] r e = cc
after_later-later (c ∷ cs) r e = by_test (c == 10) e (after_later-later cs r)
  where
    one : IsLater (c ∷ cs) cs
    one = record { rest_is = record { prior = c ∷ []; is = refl }; shorter = omega (arith) }

    by_test : (b : Bool) → cond b (option_or (after_empty_line cs) (after_later_empty_line cs))
        (after_later_empty_line cs) ≡ Some r → (after_later_empty_line cs ≡ Some r → IsLater cs r) → IsLater (c ∷ cs) r
    by_test true e rest = later one (either_form _ _ r (IsRest cs r) e (λ found. (after_empty-later cs r found).rest_is)
        (λ found. (rest found).rest_is))
    by_test false e rest = later one (rest e).rest_is

pub first_empty-rest : (t r : List ℕ) → after_first_empty_line t ≡ Some r → IsLater t r
unfolding after_first_empty_line
first_empty-rest t r e = either_form _ _ r (IsLater t r) e (after_empty-later t r) (after_later-later t r)

front-nil : (t : List ℕ) → front t [] ≡ t
unfolding front
front-nil t = let same : length t - 0 ≡ length t = omega arith in rw same (take-length t)

pub entry_text-whole : (t : List ℕ) → (length t == 0) ≡ false → after_first_empty_line t ≡ None
    → entry_text t ≡ Some (t, [])
unfolding entry_text
entry_text-whole [] some e = cc
entry_text-whole (c ∷ cs) some e = rw (e, front-nil (c ∷ cs)) refl

pub entry_text-cut : (t r : List ℕ) → (length t == 0) ≡ false → after_first_empty_line t ≡ Some r
    → entry_text t ≡ Some (front t r, r)
unfolding entry_text
entry_text-cut [] r some e = cc
entry_text-cut (c ∷ cs) r some e = rw e refl
