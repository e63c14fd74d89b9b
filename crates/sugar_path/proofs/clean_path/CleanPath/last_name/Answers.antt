use Rattle.std.proofs.Common.{◌≡◌, ◌∷◌, ◌+◌, List, ℕ, drop, sym, ap, ◌∙◌, subst, arith}
use Rattle.std.proofs.lemmas.Str.Pattern.{rfind_char}
use Rattle.sugar_path.specs.Path.{Path, IsPath, IsName, parent}
use Rattle.sugar_path.proofs.Paths.{names_in-up, names_in-none}
use Rattle.sugar_path.proofs.clean_path.CleanPath.last_name.Goals as goal

pub returns-in-None : goal.returns-in-None
returns-in-None c =
    let none = rw (c.in-None.is, c.as_str-steps.ensures) at (rfind_char 47 c.as_str-steps.result.now c.rfind.result
    c.rfind.ensures.cases (omega arith)) in
    sym c.self.view_is ∙ names_in-none _ c.self.invariant none

-- a path that is a name and another path ends in that name
last_is : (p q : Path) (n m : List ℕ) → IsPath p → p ≡ n ∷ q → m ≡ n → (p ≡ m ∷ parent p) × IsName m
last_is p q n m h is same =
    let P : Path → Type 0 = IsPath in rw same (is ∙ ap (λ r. n ∷ r) (sym (ap parent is)), (subst P is h).0)

pub returns-in-Some : goal.returns-in-Some
returns-in-Some c =
    let slash = rw (c.in-Some.is, c.as_str-steps.ensures) at
    (rfind_char 47 c.as_str-steps.result.now c.rfind.result c.rfind.ensures.cases (omega arith)) in
    let names : c.args.self.now ≡ _ = sym c.self.view_is ∙ names_in-up _ _ slash.0 slash.1 slash.2 in
    let P : Path → Type 0 = IsPath in
    last_is _ _ _ _ (subst P c.self.view_is c.self.invariant.names) names
    (c.range_from.ensures.value ∙ ap (λ s. drop (c.in-Some.at + 1) s) c.as_str-steps.ensures)
