use Rattle.std.proofs.Common.{◌+◌, ◌-◌, ◌<◌, ◌≤◌, ◌/◌, length}
use Rattle.es_pattern.specs.declared.step.Direction.TheVariants.{Forward}
use Rattle.es_pattern.specs.Pieces.{tree_of}
use Rattle.es_pattern.specs.Begins.{may_begin}
use Rattle.es_pattern.specs.Passing.{AllTell}
use Rattle.es_pattern.specs.Turns.{pass_turns, search_turns, untold_turns}
use Rattle.es_pattern.specs.Alive.{ArrivesBy}
use Rattle.es_pattern.proofs.Searching.{none_before}
use Rattle.es_pattern.proofs.search.Search.is_found.Given as goal

abbrev pub invariant-loop-place : goal.invariant-loop-place
invariant-loop-place g l = record {
  told : AllTell l.self.pieces.now l.self.text.now l.tables.items;
  room : length l.self.program.now.steps.items / 64 < length l.alive.taken.words.items;
  within : l.from ≤ length l.self.text.now + 1;
  arrives : ArrivesBy Forward l.self.pieces.now l.self.text.now (may_begin (tree_of l.self.pieces.now) l.self.text.now)
      l.self.program.now.steps.items l.from l.alive;
  few : length l.alive.waiting.items ≤ length l.self.program.now.steps.items + 1;
  turned : l.turns + untold_turns (length l.self.text.now + 1) l.self.pieces.now l.tables.items + pass_turns
      (length l.self.text.now + 1 - l.from) (length l.self.program.now.steps.items)
      ≤ l.initial.turns + search_turns (length l.self.text.now + 1) l.self.pieces.now;
  none : none_before l.self.pieces.now l.self.text.now (may_begin (tree_of l.self.pieces.now) l.self.text.now)
      l.self.program.now.steps.items l.from;
}

abbrev pub decreases-loop-place : goal.decreases-loop-place
decreases-loop-place g l = length l.self.text.now + 1 - l.from
