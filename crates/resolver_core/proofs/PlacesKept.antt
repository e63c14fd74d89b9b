-- Places that are kept under texts, seen through the keys and values that keep them.
use Rattle.std.proofs.Common.{
  ◌≡◌,
  ℕ,
  Bool,
  true,
  false,
  cond,
  List,
  [],
  ◌∷◌,
  ◌++◌,
  map,
  Some,
  None,
  bytes_eq,
  refl,
  sym,
  ap,
  ◌∙◌,
  if◌then◌else◌,
}
use Rattle.std.specs.Prelude.{option_map}
use Rattle.std.specs.Map.{lookup, set_value}
use Rattle.std.proofs.lemmas.List.{append-nil}
use Rattle.std.proofs.lemmas.Slice.Eq.{bytes_eq-Decides}
use Rattle.resolver_core.specs.Lookups.{or_none, places_at}

module _ {K V : Type 0} (text : K → List ℕ) (places : V → List ℕ) where
  abbrev pub seen : List (K × V) → List (List ℕ × List ℕ)
  seen es = map (λ e. (text e.0, places e.1)) es

  -- a look-up by bytes
  pub at-seen : (q : List ℕ) (es : List (K × V))
      → places_at (seen es) q ≡ or_none (option_map places (lookup (λ k. bytes_eq q (text k)) es))
  at-seen q [] = refl
  at-seen q (e ∷ es) = by_test (bytes_eq q (text e.0)) (at-seen q es)
    where
      by_test : (b : Bool) → places_at (seen es) q ≡ or_none (option_map places (lookup (λ k. bytes_eq q (text k)) es))
          → or_none (cond b (Some (places e.1)) (lookup (bytes_eq q) (seen es))) ≡ or_none
          (option_map places (cond b (Some e.1) (lookup (λ k. bytes_eq q (text k)) es)))
      by_test true rest = refl
      by_test false rest = rest

same_tests : (q t k : List ℕ) → bytes_eq t k ≡ true → bytes_eq q k ≡ bytes_eq q t
same_tests q t k h = ap (λ x. bytes_eq q x) (sym ((bytes_eq-Decides t k).0 h))

apart_tests : (q t k : List ℕ) → bytes_eq t k ≡ false → bytes_eq q k ≡ true → bytes_eq q t ≡ false
apart_tests q t k apart same = by_test (bytes_eq q t) refl
  where
    by_test : (b : Bool) → bytes_eq q t ≡ b → bytes_eq q t ≡ false
    by_test false e = e
    by_test true e = let one : t ≡ k = sym ((bytes_eq-Decides q t).0 e) ∙ (bytes_eq-Decides q k).0 same in
        absurd (cc ((bytes_eq-Decides t k).1 one, apart))

abbrev more_at : List ℕ → List ℕ → ℕ → List ℕ
more_at q t n = if bytes_eq q t then (n ∷ []) else []

none_more : (xs : List ℕ) (q t : List ℕ) (n : ℕ) → bytes_eq q t ≡ false → xs ≡ xs ++ more_at q t n
none_more xs q t n apart = rw apart (sym (append-nil xs))

module _ {K V : Type 0} (text : K → List ℕ) (places : V → List ℕ) (q t : List ℕ) (n : ℕ) (w : V) where
  abbrev found_at : Bool → V → List (K × V) → List ℕ
  found_at b v es = or_none (cond b (Some (places v)) (lookup (bytes_eq q) (seen text places es)))

  -- one more place under a text that keeps some
  pub at-written : (es : List (K × V)) (old : V) → lookup (λ k. bytes_eq t (text k)) es ≡ Some old
      → places w ≡ places old ++ n ∷ [] → places_at (seen text places (set_value (λ k. bytes_eq t (text k)) es w)) q ≡
      places_at (seen text places es) q ++ (if bytes_eq q t then (n ∷ []) else [])
  at-written [] old found more = cc
  at-written (e ∷ es) old found more = by_test (bytes_eq t (text e.0)) refl found (λ h. at-written es old h more)
    where
      here : (b : Bool) → bytes_eq q t ≡ b → e.1 ≡ old → found_at b w es ≡ found_at b e.1 es ++ more_at q t n
      here true same is = rw (same, is) more
      here false apart is = none_more (found_at false e.1 es) q t n apart

      later : (b : Bool) → bytes_eq q (text e.0) ≡ b → bytes_eq t (text e.0) ≡ false
          → places_at (seen text places (set_value (λ k. bytes_eq t (text k)) es w)) q ≡ places_at (seen text places es)
          q ++ more_at q t n → found_at b e.1 (set_value (λ k. bytes_eq t (text k)) es w) ≡ found_at b e.1 es
          ++ more_at q t n
      later true same apart rest = none_more (places e.1) q t n (apart_tests q t (text e.0) apart same)
      later false other apart rest = rest

      by_test : (b : Bool) → bytes_eq t (text e.0) ≡ b
          → cond b (Some e.1) (lookup (λ k. bytes_eq t (text k)) es) ≡ Some old
          → (lookup (λ k. bytes_eq t (text k)) es ≡ Some old
          → places_at (seen text places (set_value (λ k. bytes_eq t (text k)) es w)) q ≡ places_at (seen text places es)
          q ++ more_at q t n)
          → places_at (seen text places (cond b ((e.0, w) ∷ es) (e ∷ set_value (λ k. bytes_eq t (text k)) es w))) q ≡
          places_at (seen text places (e ∷ es)) q ++ more_at q t n
      by_test true there is rest =
          let one : e.1 ≡ old = cc in rw (same_tests q t (text e.0) there) (here (bytes_eq q t) refl one)
      by_test false apart is rest = later (bytes_eq q (text e.0)) refl apart (rest is)

  -- the first place under a text
  pub at-new : (es : List (K × V)) (k : K) → lookup (λ k. bytes_eq t (text k)) es ≡ None → text k ≡ t
      → places w ≡ n ∷ [] → places_at (seen text places (es ++ (k, w) ∷ [])) q ≡ places_at (seen text places es) q
      ++ (if bytes_eq q t then (n ∷ []) else [])
  at-new [] k none is first = rw (is, first) (by_test (bytes_eq q t))
    where
      by_test : (b : Bool) → or_none (cond b (Some (n ∷ [])) None) ≡ (if b then (n ∷ []) else [])
      by_test true = refl
      by_test false = refl
  at-new (e ∷ es) k none is first = by_test (bytes_eq t (text e.0)) refl none (λ h. at-new es k h is first)
    where
      later : (b : Bool) → bytes_eq q (text e.0) ≡ b → bytes_eq t (text e.0) ≡ false
          → places_at (seen text places (es ++ (k, w) ∷ [])) q ≡ places_at (seen text places es) q ++ more_at q t n
          → found_at b e.1 (es ++ (k, w) ∷ []) ≡ found_at b e.1 es ++ more_at q t n
      later true same apart rest = none_more (places e.1) q t n (apart_tests q t (text e.0) apart same)
      later false other apart rest = rest

      by_test : (b : Bool) → bytes_eq t (text e.0) ≡ b → cond b (Some e.1) (lookup (λ k. bytes_eq t (text k)) es) ≡ None
          → (lookup (λ k. bytes_eq t (text k)) es ≡ None
          → places_at (seen text places (es ++ (k, w) ∷ [])) q ≡ places_at (seen text places es) q ++ more_at q t n)
          → places_at (seen text places (e ∷ es ++ (k, w) ∷ [])) q ≡ places_at (seen text places (e ∷ es)) q
          ++ more_at q t n
      by_test true there is rest = cc
      by_test false apart is rest = later (bytes_eq q (text e.0)) refl apart (rest is)
