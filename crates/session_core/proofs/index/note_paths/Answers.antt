use Rattle.std.proofs.Common.{◌≡◌, [], ◌∷◌, ◌++◌, true, sym, ap, ◌∙◌, append_assoc, append-nil}
use Rattle.std.specs.Slice.Iter.{iter_rest}
use Rattle.tree_core.specs.Question.{path_asked}
use Rattle.session_core.specs.Index.{is_noted, path_hash}
use Rattle.session_core.proofs.Lists.{none-left}
use Rattle.session_core.proofs.Indexes.{stay-then, paths-more, paths-stay}
use Rattle.session_core.proofs.index.note_paths.Goals as goal

pub loop-step-preserved : goal.loop-step-preserved
loop-step-preserved c =
    let before = c.loop-step.invariant in
    let front = before.1 in
    let step = c.in-Some.step.now in
    let next : iter_rest c.loop-step.step-iterator ≡ step ∷ iter_rest c.next.new.self = c.in-Some.ensures.steps in
    let here : is_noted c.note.new.noted.keys (path_hash (path_asked step.0)) c.args.number ≡ true =
    rw (← c.path.ensures, ← c.path_hash.ensures) c.in_ok-note.ensures.ok in (
      stay-then c.args.noted.now.keys c.loop-step.noted.keys c.note.new.noted.keys before.0 c.note.ensures.kept,
      (
        front.0 ++ step ∷ [],
        front.1 ∙ ap (λ rest. front.0 ++ rest) next
            ∙ sym (append_assoc front.0 (step ∷ []) (iter_rest c.next.new.self)),
        paths-more c.note.new.noted.keys c.args.number front.0 step
            (paths-stay c.loop-step.noted.keys c.note.new.noted.keys c.args.number front.0 c.note.ensures.kept
            front.2) here,
      ),
    )

pub returns-clause-ok : goal.returns-clause-ok
returns-clause-ok c =
    let front = c.loop-step.invariant.1 in
    let none : iter_rest c.loop-step.step-iterator ≡ [] =
    none-left (iter_rest c.loop-step.step-iterator) c.in-None.ensures.steps.0 in
    let all : c.args.trail.now ≡ front.0 = front.1 ∙ ap (λ rest. front.0 ++ rest) none ∙ append-nil front.0 in
    rw all front.2
