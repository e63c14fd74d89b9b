use Rattle.std.proofs.Common.{option_map, ap, ◌∙◌}
use Rattle.std.specs.Borrow.{Bor}
use Rattle.tree_core.specs.declared.question.Question.{Question}
use Rattle.tree_core.specs.RecorderView.{asking_of}
use Rattle.replay_core.specs.declared.replay_tree.ReplayTree.{ReplayTree}
use Rattle.replay_core.specs.ReplayView.{replay_of}
use Rattle.replay_core.proofs.Replays.{on_agreeing, replays}
use Rattle.replay_core.proofs.replaying.replayed.Goals as goal

pub returns : goal.returns
returns g c = λ before plan search.
    let told = c.missing.ensures.kept ∙ ap (λ (r : ReplayTree). (replay_of r).missing) c.into_parts-put.ensures.at in
    replays c.args.trail.now (option_map (λ (q : Bor Question). q.now) c.missing.result) before
    (asking_of c.args.recorder) c.args.found plan _
    (on_agreeing search c.args.recorder.agrees) told (rw c.into_parts-put.ensures.trail at c.end_of.ensures)
