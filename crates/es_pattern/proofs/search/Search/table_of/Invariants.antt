use Rattle.std.proofs.Common.{◌+◌, ◌≤◌, ◌<◌, ◌-◌, ◌/◌, length}
use Rattle.es_pattern.specs.declared.step.Direction.TheVariants.{Backward}
use Rattle.es_pattern.specs.Alive.{ArrivesBy}
use Rattle.es_pattern.specs.Compiled.{part_steps}
use Rattle.es_pattern.specs.Turns.{pass_turns}
use Rattle.es_pattern.proofs.Searching.{Tabling, in_text}
use Rattle.es_pattern.proofs.search.Search.table_of.Given as goal

abbrev pub invariant-loop-behind : goal.invariant-loop-behind
invariant-loop-behind g l = record {
  room : length (part_steps Backward l.self.pieces.now l.number) / 64 < length l.alive.taken.words.items;
  arrives : l.behind ≤ length l.self.text.now
      → ArrivesBy Backward l.self.pieces.now l.self.text.now (in_text l.self.text.now)
      (part_steps Backward l.self.pieces.now l.number) (length l.self.text.now - l.behind) l.alive;
  few : length l.alive.waiting.items ≤ length (part_steps Backward l.self.pieces.now l.number) + 1;
  turned : l.turns + pass_turns (length l.self.text.now + 1 - l.behind)
      (length (part_steps Backward l.self.pieces.now l.number))
      ≤ l.initial.turns + pass_turns (length l.self.text.now + 1)
      (length (part_steps Backward l.self.pieces.now l.number));
  tabled : Tabling l.self.pieces.now l.self.text.now l.number l.behind l.table.items;
}
