use Rattle.std.proofs.Common.{◌≡◌, not, sym, ap, ◌∙◌, arith}
use Rattle.std.proofs.lemmas.Str.Pattern.{rfind_char}
use Rattle.sugar_path.specs.Path.{parent, is_root, names_in}
use Rattle.sugar_path.proofs.Paths.{names_in-up, names_in-none, IsSteps-up}
use Rattle.sugar_path.proofs.clean_path.CleanPath.go_up.Goals as goal

pub cut_at-requires : goal.cut_at-requires
cut_at-requires c =
    let slash = rw (c.in-Some.is, c.as_str.ensures) at (rfind_char 47 c.as_str.result.now c.rfind.result
    c.rfind.ensures.cases (omega arith)) in
    record { within = slash.0; slash = slash.1 }

pub invariant_of-self : goal.invariant_of-self
invariant_of-self c =
    let slash = rw (c.in-Some.is, c.as_str.ensures) at (rfind_char 47 c.as_str.result.now c.rfind.result
    c.rfind.ensures.cases (omega arith)) in
    IsSteps-up _ _ _ c.self.invariant slash.0 slash.1 slash.2 c.cut_at.ensures

pub returns-in-None : goal.returns-in-None
returns-in-None c =
    let none = rw (c.in-None.is, c.as_str.ensures) at (rfind_char 47 c.as_str.result.now c.rfind.result
    c.rfind.ensures.cases (omega arith)) in
    let root : c.args.self.now ≡ _ = sym c.self.view_is ∙ names_in-none _ c.self.invariant none in
    record { went = ap (λ p. not (is_root p)) (sym root); up = root ∙ ap parent (sym root) }

pub returns-in-Some : goal.returns-in-Some
returns-in-Some c =
    let slash = rw (c.in-Some.is, c.as_str.ensures) at (rfind_char 47 c.as_str.result.now c.rfind.result
    c.rfind.ensures.cases (omega arith)) in
    let names : c.args.self.now ≡ _ = sym c.self.view_is ∙ names_in-up _ _ slash.0 slash.1 slash.2 in
    record { went = ap (λ p. not (is_root p)) (sym names); up = ap names_in c.cut_at.ensures ∙ sym (ap parent names) }
