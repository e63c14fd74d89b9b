use Rattle.std.proofs.Common.{◌≡◌, ◌+◌, ◌≤◌, ℕ, Bool, length}
use Rattle.es_pattern.specs.declared.step.Direction.TheVariants.{Forward}
use Rattle.es_pattern.specs.Passing.{AllTell, untold_count}
use Rattle.es_pattern.specs.Alive.{SettlingBy, crowd, weight}
use Rattle.es_pattern.specs.Turns.{untold_turns}
use Rattle.es_pattern.proofs.search.Search.advance.Given as goal

abbrev pub invariant-loop-number : goal.invariant-loop-number
invariant-loop-number g l = record {
  told : AllTell l.self.pieces.now l.self.text.now l.tables.items;
  room : length l.alive.taken.words.items ≡ length l.initial.alive.taken.words.items;
  few : crowd (length l.self.program.now.steps.items) l.alive ≤ crowd (length l.self.program.now.steps.items)
      l.initial.alive;
  turned : l.turns + untold_turns (length l.self.text.now + 1) l.self.pieces.now l.tables.items + weight
      (length l.self.program.now.steps.items) l.alive
      ≤ l.initial.turns + untold_turns (length l.self.text.now + 1) l.self.pieces.now l.initial.tables.items + weight
      (length l.self.program.now.steps.items) l.initial.alive;
  kept : (begins : ℕ → Bool) → SettlingBy Forward l.self.pieces.now l.self.text.now begins
      l.self.program.now.steps.items l.place l.initial.alive
      → SettlingBy Forward l.self.pieces.now l.self.text.now begins l.self.program.now.steps.items l.place l.alive;
}

abbrev pub decreases-loop-number : goal.decreases-loop-number
decreases-loop-number g l = untold_count l.tables.items
