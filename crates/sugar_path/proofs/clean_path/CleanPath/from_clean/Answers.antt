use Rattle.std.proofs.Common.{◌≡◌, inl, inr, [], ◌∷◌, ◌∙◌, refl, sym, lit<}
use Rattle.std.proofs.lemmas.Bool.Decides.{not_from_Decides}
use Rattle.std.proofs.lemmas.Slice.Eq.{bytes_eq-Decides}
use Rattle.sugar_path.specs.Path.{IsSteps, names_in, path_in}
use Rattle.sugar_path.proofs.Parts.{steps-clean}
use Rattle.sugar_path.proofs.clean_path.CleanPath.from_clean.Goals as goal
use Rattle.sugar_path.proofs.clean_path.CleanPath.from_clean.Goals.{Joined-eq, then-eq, else-eq}

pub cut_at-requires : goal.cut_at-requires
cut_at-requires c =
    let root = (bytes_eq-Decides c.into_content-steps.result (47 ∷ [])).0
    (sym (rw c.as_str.ensures at c.eq.ensures) ∙ c.if-eq.true) in
    rw root record { within = lit< tt; slash = refl }

whole : (c : Joined-eq) → IsSteps c.if-eq.steps × (names_in c.if-eq.steps ≡ path_in c.args.text)
whole c =
    let text = c.as_str.ensures ∙ c.into_content-steps.ensures in
    let same = rw text at c.eq.ensures in
    steps-clean c.args.text c.if-eq.steps c.requires
    (elim c.if-eq.branch [
      | then-eq w ↦ inl (
        (bytes_eq-Decides c.args.text (47 ∷ [])).0 (sym same ∙ w.if-eq.true),
        w.steps-is ∙ w.cut_at.ensures,
      )
      | else-eq w ↦ inr (
        not_from_Decides _ (bytes_eq-Decides c.args.text (47 ∷ [])) (sym same ∙ w.if-eq.false),
        w.steps-is ∙ c.into_content-steps.ensures,
      )
    ])

pub invariant_of-result : goal.invariant_of-result
invariant_of-result c = (whole c).0

pub returns : goal.returns
returns c = (whole c).1
