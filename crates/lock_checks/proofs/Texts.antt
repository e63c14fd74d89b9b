-- Texts that stand one behind the other, and what follows a mark.
use Rattle.std.proofs.Common.{
  ◌≡◌,
  ◌<◌,
  ◌+◌,
  ◌==◌,
  ◌&&◌,
  ℕ,
  suc,
  Bool,
  true,
  false,
  cond,
  not,
  List,
  [],
  ◌∷◌,
  ◌++◌,
  length,
  drop,
  Option,
  Some,
  None,
  Bor,
  bytes_eq,
  refl,
  sym,
  ap,
  ◌∙◌,
  arith,
  add-one,
  one-add,
}
use Rattle.std.specs.Prelude.{option_map, MatchOption}
use Rattle.std.specs.List.{position_or_len, before_first, after_first}
use Rattle.std.specs.Option.{option_map_or}
use Rattle.sugar_path.specs.Front.{after}
use Rattle.lock_checks.specs.Reference.{behind_mark}

-- a text is two others, one behind the other, where what follows the first is the second
pub bytes_eq-joined : (front rest text : List ℕ)
    → option_map_or (λ behind. bytes_eq behind rest) (after front text) false ≡ bytes_eq text (front ++ rest)
unfolding after
bytes_eq-joined [] rest text = refl
bytes_eq-joined (w ∷ ws) rest [] = refl
bytes_eq-joined (w ∷ ws) rest (c ∷ cs) = by_test (c == w) (bytes_eq-joined ws rest cs)
  where
    by_test : (b : Bool) → option_map_or (λ behind. bytes_eq behind rest) (after ws cs) false ≡ bytes_eq cs (ws ++ rest)
        → option_map_or (λ behind. bytes_eq behind rest) (cond b (after ws cs) None) false ≡
        (b && bytes_eq cs (ws ++ rest))
    by_test true later = later
    by_test false later = refl

pub joined-some : (front rest text behind : List ℕ) → Some behind ≡ after front text
    → bytes_eq behind rest ≡ bytes_eq text (front ++ rest)
joined-some front rest text behind is =
    ap (λ o. option_map_or (λ behind. bytes_eq behind rest) o false) is ∙ bytes_eq-joined front rest text

pub joined-none : (front rest text : List ℕ) → None ≡ after front text → false ≡ bytes_eq text (front ++ rest)
joined-none front rest text is =
    ap (λ o. option_map_or (λ behind. bytes_eq behind rest) o false) is ∙ bytes_eq-joined front rest text

abbrev is_mark : ℕ → Bool
is_mark c = c == 35

behind_mark-none : (t : List ℕ) → position_or_len is_mark t ≡ length t → behind_mark t ≡ None
behind_mark-none [] e = refl
behind_mark-none (c ∷ cs) e = by_test (c == 35) e (behind_mark-none cs)
  where
    by_test : (b : Bool) → cond (not b) (1 + position_or_len is_mark cs) 0 ≡ suc (length cs)
        → (position_or_len is_mark cs ≡ length cs → behind_mark cs ≡ None) → cond b (Some cs) (behind_mark cs) ≡ None
    by_test true e rest = absurd (omega arith)
    by_test false e rest = rest (omega arith)

behind_mark-some : (t : List ℕ) → position_or_len is_mark t < length t
    → behind_mark t ≡ Some (drop (position_or_len is_mark t + 1) t)
behind_mark-some [] h = absurd (omega arith)
behind_mark-some (c ∷ cs) h = by_test (c == 35) h (behind_mark-some cs)
  where
    by_test : (b : Bool) → cond (not b) (1 + position_or_len is_mark cs) 0 < suc (length cs)
        → (position_or_len is_mark cs < length cs → behind_mark cs ≡ Some (drop (position_or_len is_mark cs + 1) cs))
        → cond b (Some cs) (behind_mark cs) ≡ Some (drop (cond (not b) (1 + position_or_len is_mark cs) 0 + 1) (c ∷ cs))
    by_test true h rest = refl
    by_test false h rest = rest (omega arith) ∙ later (position_or_len is_mark cs)
      where
        later : (n : ℕ) → Some (drop (n + 1) cs) ≡ Some (drop (1 + n + 1) (c ∷ cs))
        later n = rw (one-add n, add-one n, add-one (suc n)) refl

-- what stands around the first mark of a text
pub behind_mark-split : (t : List ℕ) (r : Option (Bor (List ℕ) × Bor (List ℕ)))
    → MatchOption r (position_or_len is_mark t ≡ length t) (λ x. (x.0.now ≡ before_first is_mark t)
    × (x.1.now ≡ after_first is_mark t) × (position_or_len is_mark t < length t))
    → option_map (λ x. x.1.now) r ≡ behind_mark t
behind_mark-split t None h = sym (behind_mark-none t h)
behind_mark-split t (Some x) h = ap Some h.1 ∙ sym (behind_mark-some t h.2)
