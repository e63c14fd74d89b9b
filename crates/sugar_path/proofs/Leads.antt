-- What the lead of a part tells of it.
use Rattle.std.proofs.Common.{◌≡◌, ◌&&◌, ◌||◌, ℕ, Bool, true, false, not, cond, List, [], ◌∷◌, bytes_eq, refl, ap, ◌∙◌}
use Rattle.std.proofs.lemmas.Slice.Eq.{bytes_eq-Decides}
use Rattle.sugar_path.specs.declared.part.Lead.{Lead}
use Rattle.sugar_path.specs.declared.part.Lead.TheVariants.{Nowhere, Up, Down}
use Rattle.sugar_path.specs.Part.{is_silent, by_kind}
use Rattle.sugar_path.specs.Path.{is_plain}

-- a rule by kinds, at a part whose lead is known
abbrev pub by_lead : {A : Type 0} → Lead → A → A → A → A
by_lead Nowhere stays up down = stays
by_lead Up stays up down = up
by_lead Down stays up down = down

pub by_kind-lead : {A : Type 0} (part : List ℕ) (lead : Lead) (stays up down : A) → lead ≡ by_kind part Nowhere Up Down
    → by_kind part stays up down ≡ by_lead lead stays up down
by_kind-lead part lead stays up down is = rw is (by_tests (is_silent part) (bytes_eq part (46 ∷ 46 ∷ [])))
  where
    by_tests : (a b : Bool) → cond a stays (cond b up down) ≡ by_lead (cond a Nowhere (cond b Up Down)) stays up down
    by_tests true b = refl
    by_tests false true = refl
    by_tests false false = refl

-- a part that leads up is `..`
pub up-dots : (part : List ℕ) → Up ≡ by_kind part Nowhere Up Down → part ≡ 46 ∷ 46 ∷ []
up-dots part is = (bytes_eq-Decides part (46 ∷ 46 ∷ [])).0 (by_tests (is_silent part) (bytes_eq part (46 ∷ 46 ∷ []))
    (by_kind-lead part Up false true false is))
  where
    by_tests : (a b : Bool) → cond a false (cond b true false) ≡ true → b ≡ true
    by_tests true b h = cc
    by_tests false true h = refl
    by_tests false false h = cc

-- one that leads down is a name
pub down-plain : (part : List ℕ) → Down ≡ by_kind part Nowhere Up Down → is_plain part ≡ true
down-plain part is = by_tests (bytes_eq part []) (bytes_eq part (46 ∷ [])) (bytes_eq part (46 ∷ 46 ∷ []))
    (by_kind-lead part Down false false true is)
  where
    by_tests : (a b c : Bool) → cond (a || b) false (cond c false true) ≡ true → (not a && not b && not c) ≡ true
    by_tests true b c h = cc
    by_tests false true c h = cc
    by_tests false false true h = cc
    by_tests false false false h = refl

-- one that leads nowhere is neither
pub nowhere-plain : (part : List ℕ) → Nowhere ≡ by_kind part Nowhere Up Down → is_plain part ≡ false
nowhere-plain part is = by_tests (bytes_eq part []) (bytes_eq part (46 ∷ [])) (bytes_eq part (46 ∷ 46 ∷ []))
    (by_kind-lead part Nowhere true false false is)
  where
    by_tests : (a b c : Bool) → cond (a || b) true (cond c false false) ≡ true → (not a && not b && not c) ≡ false
    by_tests true b c h = refl
    by_tests false true c h = refl
    by_tests false false true h = cc
    by_tests false false false h = cc

pub nowhere-dots : (part : List ℕ) → Nowhere ≡ by_kind part Nowhere Up Down → bytes_eq part (46 ∷ 46 ∷ []) ≡ false
nowhere-dots part is = by_test (bytes_eq part (46 ∷ 46 ∷ [])) refl
  where
    by_test : (b : Bool) → bytes_eq part (46 ∷ 46 ∷ []) ≡ b → b ≡ false
    by_test true e =
        let dots : part ≡ 46 ∷ 46 ∷ [] = (bytes_eq-Decides part (46 ∷ 46 ∷ [])).0 e in
        let other : Nowhere ≡ Up = is ∙ ap (λ x. by_kind x Nowhere Up Down) dots in
        cc
    by_test false e = refl
