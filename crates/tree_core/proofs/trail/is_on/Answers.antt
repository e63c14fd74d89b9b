use Rattle.std.proofs.Common.{◌≡◌, ◌==◌, ◌&&◌, true, false, inl, inr, bytes_eq, sym, ap, ◌∙◌}
use Rattle.std.proofs.lemmas.Bool.Decides.{Decides-eqb, eqb_tells}
use Rattle.tree_core.specs.Question.{path_asked}
use Rattle.tree_core.specs.QuestionKind.{kind_of, number_of}
use Rattle.tree_core.proofs.QuestionKinds.{question_eq-on}
use Rattle.tree_core.proofs.trail.is_on.Goals as goal

pub returns-then-number_of : goal.returns-then-number_of
returns-then-number_of c =
    let own = c.number_of.ensures ∙ ap number_of c.kind.ensures in
    let one : (number_of (kind_of c.args.question.now) == number_of c.args.kind) ≡ true =
    (Decides-eqb _ _).1 (sym own ∙ c.if-number_of.true ∙ c.number_of-2.ensures) in
    c.eq.ensures
    ∙ ap (λ p. bytes_eq p c.args.path.now) c.path.ensures
    ∙ ap (λ b. b && bytes_eq (path_asked c.args.question.now) c.args.path.now) (sym one)
    ∙ sym (question_eq-on c.args.question.now c.args.kind c.args.path.now)

pub returns-else-number_of : goal.returns-else-number_of
returns-else-number_of c =
    let own = c.number_of.ensures ∙ ap number_of c.kind.ensures in
    let two : (number_of (kind_of c.args.question.now) == number_of c.args.kind) ≡ false =
    elim (eqb_tells (number_of (kind_of c.args.question.now)) (number_of c.args.kind)) [
      | inl w ↦ absurd (c.if-number_of.false (own ∙ w.1 ∙ sym c.number_of-2.ensures))
      | inr w ↦ w.0
    ] in
    ap (λ n. n == c.number_of-2.result) own
    ∙ ap (λ n. number_of (kind_of c.args.question.now) == n) c.number_of-2.ensures
    ∙ two
    ∙ ap (λ b. b && bytes_eq (path_asked c.args.question.now) c.args.path.now) (sym two)
    ∙ sym (question_eq-on c.args.question.now c.args.kind c.args.path.now)
