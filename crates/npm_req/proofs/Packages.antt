-- Where the name of a package ends.
use Rattle.std.proofs.Common.{
  ◌≡◌,
  ◌≢◌,
  ◌<◌,
  ◌==◌,
  ◌⊎◌,
  ℕ,
  suc,
  Bool,
  true,
  false,
  cond,
  List,
  [],
  ◌∷◌,
  ◌++◌,
  length,
  take,
  drop,
  get_or,
  refl,
  sym,
  ap,
  ◌∙◌,
  take-append-drop,
  Option,
  Some,
  None,
  Bor,
  arith,
  inl,
  inr,
}
use Rattle.std.specs.Prelude.{option_map, MatchOption}
use Rattle.std.specs.Str.Pattern.{RFindsChar, SplitsAroundMatch}
use Rattle.std.proofs.lemmas.Bool.Decides.{eqb_tells}
use Rattle.std.proofs.lemmas.Str.Pattern.{NoCharPasses-char, drop_at_char}
use Rattle.npm_req.specs.Package.{around_last, name_and_range, or_any}
use Rattle.npm_req.proofs.Ends.{tells_same}

around_last-none : (b : ℕ) (t : List ℕ) → ((i : ℕ) → i < length t → get_or t i 0 ≢ b) → around_last b t ≡ None
around_last-none b [] h = refl
around_last-none b (c ∷ cs) h = by_test (eqb_tells c b) (around_last-none b cs (λ i k. h (suc i) (omega arith)))
  where
    by_test : ((c == b) ≡ true) × (c ≡ b) ⊎ ((c == b) ≡ false) × (c ≢ b) → around_last b cs ≡ None
        → around_last b (c ∷ cs) ≡ None
    by_test (inl w) none = absurd (h 0 (omega arith) w.1)
    by_test (inr w) none = rw (none, w.0) refl

around_last-some : (b : ℕ) (front rest : List ℕ) → around_last b rest ≡ None
    → around_last b (front ++ (b ∷ rest)) ≡ Some (front, rest)
around_last-some b [] rest none = rw (none, tells_same b) refl
around_last-some b (c ∷ cs) rest none = rw (around_last-some b cs rest none) refl

pub around_last-rsplit_once : (b : ℕ) (t : List ℕ) (r : Option (Bor (List ℕ) × Bor (List ℕ))) → b < 128
    → MatchOption r (RFindsChar b t None) (λ x. SplitsAroundMatch (RFindsChar b) t x.0.now x.1.now)
    → around_last b t ≡ option_map (λ x. (x.0.now, x.1.now)) r
around_last-rsplit_once b t None small h = around_last-none b t (λ i k. NoCharPasses-char b t i h small k)
around_last-rsplit_once b t (Some x) small (i, j, found, front, rest, ordered, before, after) =
    let none = around_last-none b (drop j t) (λ k within. NoCharPasses-char b (drop j t) k found.0 small within) in
    let whole : t ≡ take i t ++ (b ∷ drop j t) =
    sym (take-append-drop i t) ∙ ap (λ s. take i t ++ s) (drop_at_char b t i j found.1 small) in
    ap (around_last b) whole ∙ around_last-some b (take i t) (drop j t) none ∙ (λ k. Some (sym front k, sym rest k))

-- what the parts around the last `@` of the whole text give
abbrev of_front : List ℕ → List ℕ → List ℕ → List ℕ × List ℕ
of_front t [] range = (t, 42 ∷ [])
of_front t (n ∷ ns) range = (n ∷ ns, range)

abbrev of_whole : List ℕ → Option (List ℕ × List ℕ) → List ℕ × List ℕ
of_whole t None = (t, 42 ∷ [])
of_whole t (Some parted) = of_front t parted.0 parted.1

name_and_range-whole : (t : List ℕ) → name_and_range t ≡ of_whole t (around_last 64 t)
name_and_range-whole [] = refl
name_and_range-whole (c ∷ cs) = by_cases (around_last 64 cs) (c == 64)
  where
    by_cases : (o : Option (List ℕ × List ℕ)) (y : Bool)
        → or_any (c ∷ cs) (option_map (λ parted. (c ∷ parted.0, parted.1)) o) ≡ of_whole (c ∷ cs)
        (elim o as (λ x. Option (List ℕ × List ℕ)) [
          | None ↦ cond y (Some ([], cs)) None
          | Some later ↦
              Some (c ∷ later.0, later.1)
        ])
    by_cases None true = refl
    by_cases None false = refl
    by_cases (Some later) y = refl

pub name_and_range-none : (t : List ℕ) → around_last 64 t ≡ None → (t, 42 ∷ []) ≡ name_and_range t
name_and_range-none t e = sym (name_and_range-whole t ∙ ap (of_whole t) e)

pub name_and_range-empty : (t name range : List ℕ) → around_last 64 t ≡ Some (name, range) → length name ≡ 0
    → (t, 42 ∷ []) ≡ name_and_range t
name_and_range-empty t [] range e h = sym (name_and_range-whole t ∙ ap (of_whole t) e)
name_and_range-empty t (n ∷ ns) range e h = absurd (omega arith)

pub name_and_range-some : (t name range : List ℕ) → around_last 64 t ≡ Some (name, range) → (length name ≡ 0 → ⊥)
    → (name, range) ≡ name_and_range t
name_and_range-some t [] range e h = absurd (h refl)
name_and_range-some t (n ∷ ns) range e h = sym (name_and_range-whole t ∙ ap (of_whole t) e)
