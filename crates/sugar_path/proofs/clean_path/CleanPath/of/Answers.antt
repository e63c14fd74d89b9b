use Rattle.std.proofs.Common.{◌≡◌, inl, inr, [], ◌∷◌, ◌∙◌, sym, ap}
use Rattle.std.proofs.lemmas.Bool.Decides.{not_from_Decides}
use Rattle.std.proofs.lemmas.Slice.Eq.{bytes_eq-Decides}
use Rattle.sugar_path.specs.Path.{IsSteps, names_in, path_in}
use Rattle.sugar_path.proofs.Parts.{steps-clean}
use Rattle.sugar_path.proofs.clean_path.CleanPath.of.Goals as goal
use Rattle.sugar_path.proofs.clean_path.CleanPath.of.Goals.{After-owned, then-eq, else-eq}

read_whole : (c : After-owned) → IsSteps c.owned.result × (names_in c.owned.result ≡ path_in c.args.text.now)
read_whole c = steps-clean c.args.text.now c.owned.result c.requires
    (elim c.if-eq.branch [
      | then-eq w ↦ inl (
        (bytes_eq-Decides c.args.text.now (47 ∷ [])).0 (sym c.eq.ensures ∙ w.if-eq.true),
        c.owned.ensures ∙ c.in_ok-steps.ensures.ok ∙ ap (λ s. s.now) w.steps-is,
      )
      | else-eq w ↦ inr (
        not_from_Decides _ (bytes_eq-Decides c.args.text.now (47 ∷ [])) (sym c.eq.ensures ∙ w.if-eq.false),
        c.owned.ensures ∙ c.in_ok-steps.ensures.ok ∙ ap (λ s. s.now) w.steps-is,
      )
    ])

pub invariant_of-result : goal.invariant_of-result
invariant_of-result c = (read_whole c).0

pub returns : goal.returns
returns c = (read_whole c).1
