-- What contracts see of a tree that answers from a trail.
use Rattle.replay_core.specs.declared.replay_tree.ReplayTree.{ReplayTree}
use Rattle.replay_core.specs.Replay.{Replay}

abbrev pub replay_of : ReplayTree → Replay
replay_of r = record {
  trail = r.trail.now;
  faults = r.faults;
  questions = r.questions;
  missing = r.missing;
}
