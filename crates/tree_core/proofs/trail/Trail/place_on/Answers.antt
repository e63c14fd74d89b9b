use Rattle.std.proofs.Common.{◌≡◌, ℕ, nat_eq, Some, None, sym, ap, ◌∙◌}
use Rattle.std.specs.HashMap.{get}
use Rattle.tree_core.specs.Question.{place_in}
use Rattle.tree_core.specs.QuestionKind.{question_on}
use Rattle.tree_core.specs.Places.{hash_of, place_with, place_from}
use Rattle.tree_core.proofs.Places.{place-none, place-some}
use Rattle.tree_core.proofs.trail.Trail.place_on.Goals as goal

pub returns-in-None : goal.returns-in-None
returns-in-None c =
    let none : place_with c.self.inside.steps.items (hash_of (question_on c.args.kind c.args.path.now)) ≡ None =
    sym (c.self.invariant.first (hash_of (question_on c.args.kind c.args.path.now)))
    ∙ ap (λ (h : ℕ). get nat_eq c.self.inside.places h) (sym c.hash_on.ensures) ∙ sym c.in-None.ensures.value in
    sym (place-none c.self.inside.steps.items (question_on c.args.kind c.args.path.now) none)
    ∙ ap (λ steps. place_in steps (question_on c.args.kind c.args.path.now)) c.self.view_is

pub returns-in-Some : goal.returns-in-Some
returns-in-Some c =
    let some : place_with c.self.inside.steps.items (hash_of (question_on c.args.kind c.args.path.now)) ≡ Some
    c.in-Some.first.now = sym (c.self.invariant.first (hash_of (question_on c.args.kind c.args.path.now)))
    ∙ ap (λ (h : ℕ). get nat_eq c.self.inside.places h) (sym c.hash_on.ensures) ∙ sym c.in-Some.ensures.value in
    c.place_from.ensures
    ∙ ap (λ steps. place_from steps c.in-Some.first.now (question_on c.args.kind c.args.path.now))
    c.as_slice.ensures.value
    ∙ sym (place-some c.self.inside.steps.items (question_on c.args.kind c.args.path.now) c.in-Some.first.now some)
    ∙ ap (λ steps. place_in steps (question_on c.args.kind c.args.path.now)) c.self.view_is
