use Rattle.std.proofs.Common.{ap, ◌∙◌}
use Rattle.resolve_stack.specs.Request.{asked_for}
use Rattle.resolve_stack.specs.Verdict.{verdict}
use Rattle.replay_core.specs.Replay.{Replay, replay_state}
use Rattle.replay_core.specs.Replaying.{Replays}
use Rattle.replay_core.specs.declared.replay_tree.ReplayTree.{ReplayTree}
use Rattle.replay_core.specs.ReplayView.{replay_of}
use Rattle.replay_core.proofs.Replays.{gives_again}
use Rattle.resolve_stack.proofs.replaying.replay.Goals as goal

replays : (c : goal.Joined-tree) →
    Replays c.replayed.result c.args.trail.now (verdict c.args.project.now
    (asked_for c.args.importer.now c.args.specifier.now))
replays c =
    let over = ap (λ (r : ReplayTree). (replay_state (replay_of r)).stands_for) c.new-recorder.ensures.at
    ∙ ap (λ (r : Replay). (replay_state r).stands_for) c.of-tree.ensures in
    c.replayed.ensures _ _ (record {
      empty = c.new-recorder.ensures.trail;
      over = over;
      asks =
          c.decide-decided.ensures;
    })

pub returns-clause-replays : goal.returns-clause-replays
returns-clause-replays c = replays c

pub returns-clause-again : goal.returns-clause-again
returns-clause-again c = gives_again _ _ _ (replays c)
