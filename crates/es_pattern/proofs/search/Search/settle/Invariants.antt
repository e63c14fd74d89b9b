use Rattle.std.proofs.Common.{◌≡◌, ◌+◌, ◌≤◌, ℕ, Bool, length}
use Rattle.es_pattern.specs.Alive.{SettlingBy, crowd, weight}
use Rattle.es_pattern.proofs.search.Search.settle.Given as goal

abbrev pub invariant-loop-at : goal.invariant-loop-at
invariant-loop-at g l = record {
  room : length l.alive.taken.words.items ≡ length l.initial.alive.taken.words.items;
  few : crowd (length l.walk.steps.now) l.alive ≤ crowd (length l.walk.steps.now) l.initial.alive;
  turned : l.turns + weight (length l.walk.steps.now) l.alive ≤ l.initial.turns + weight (length l.walk.steps.now)
      l.initial.alive;
  kept : (begins : ℕ → Bool) → SettlingBy l.walk.direction l.self.pieces.now l.self.text.now begins l.walk.steps.now
      l.walk.place l.initial.alive → SettlingBy l.walk.direction l.self.pieces.now l.self.text.now begins
      l.walk.steps.now l.walk.place l.alive;
}

abbrev pub decreases-loop-at : goal.decreases-loop-at
decreases-loop-at g l = weight (length l.walk.steps.now) l.alive
