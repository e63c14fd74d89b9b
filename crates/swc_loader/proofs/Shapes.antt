-- The shape of a text's parts, one more at a time.
use Rattle.std.proofs.Common.{
  ◌≡◌,
  ℕ,
  Bool,
  true,
  false,
  cond,
  List,
  [],
  ◌∷◌,
  ◌++◌,
  Option,
  Some,
  None,
  refl,
  sym,
  ap,
  ◌∙◌,
  map,
  Bor,
}
use Rattle.std.specs.List.{filter, last_or}
use Rattle.std.specs.Option.{option_map_or}
use Rattle.swc_loader.specs.Candidates.{is_step, is_name, ends_in_name}

-- what borrowed texts are
abbrev pub texts_of : List (Bor (List ℕ)) → List (List ℕ)
texts_of xs = map (λ x. x.now) xs

pub record ShapeOf (n c : Bool) (parts : List (List ℕ)) : Type 0 where
  pub named : n ≡ ends_in_name (filter is_step parts)
  pub closed : c ≡ ends_in_name parts

last_or-one_more : {A : Type 0} (o : Option A) (xs : List A) (x : A) → last_or o (xs ++ x ∷ []) ≡ Some x
last_or-one_more o [] x = refl
last_or-one_more o (y ∷ ys) x = last_or-one_more (Some y) ys x

-- the last of parts is the one behind them
name-one_more : (parts : List (List ℕ)) (x : List ℕ) → ends_in_name (parts ++ x ∷ []) ≡ is_name x
name-one_more parts x = ap (λ last. option_map_or is_name last false) (last_or-one_more None parts x)

filter-one_more : (parts : List (List ℕ)) (x : List ℕ) (b : Bool) → is_step x ≡ b
    → filter is_step (parts ++ x ∷ []) ≡ cond b (filter is_step parts ++ x ∷ []) (filter is_step parts)
filter-one_more [] x true is = rw is refl
filter-one_more [] x false is = rw is refl
filter-one_more (p ∷ ps) x b is = by_first (is_step p) b (filter-one_more ps x b is)
  where
    by_first : (a b : Bool) → filter is_step (ps ++ x ∷ []) ≡ cond b (filter is_step ps ++ x ∷ []) (filter is_step ps)
        → cond a (p ∷ filter is_step (ps ++ x ∷ [])) (filter is_step (ps ++ x ∷ [])) ≡ cond b
        (cond a (p ∷ filter is_step ps) (filter is_step ps) ++ x ∷ [])
        (cond a (p ∷ filter is_step ps) (filter is_step ps))
    by_first true true rest = ap (λ r. p ∷ r) rest
    by_first true false rest = ap (λ r. p ∷ r) rest
    by_first false true rest = rest
    by_first false false rest = rest

-- one more part: a step names or not, and any part closes or not
pub one_more_part : (n c : Bool) (parts : List (List ℕ)) (x : List ℕ) (c' n' : Bool) → ShapeOf n c parts
    → c' ≡ is_name x → n' ≡ cond (is_step x) c' n → ShapeOf n' c' (parts ++ x ∷ [])
one_more_part n c parts x c' n' h closed named =
    record { named = by_step (is_step x) refl; closed = closed ∙ sym (name-one_more parts x) }
  where
    by_step : (b : Bool) → is_step x ≡ b → n' ≡ ends_in_name (filter is_step (parts ++ x ∷ []))
    by_step true is =
        rw (filter-one_more parts x true is, name-one_more (filter is_step parts) x) ((rw is at named) ∙ closed)
    by_step false is = rw (filter-one_more parts x false is) ((rw is at named) ∙ h.named)
