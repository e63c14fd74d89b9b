-- What a graph session is like when the graph that was borrowed from it is given back.
use Rattle.std.specs.Prelude.{[], ⊤}
use Rattle.std.specs.Borrow.{Fml, RattleType, MutBor, follows_so}
use mathlib.Core.Option.{none}
use mir.Syntax.{named}
use Rattle.import_graph.specs.GraphView.{Held}
use Rattle.import_graph.specs.contracts.graph_session.GraphSession.{the_row}
use Rattle.import_graph.specs.declared.scan.Scan as scan

module _ (S : RattleType) (scanner : scan.Ghosts S.Denot) where
  -- a graph session, as the logic has it
  abbrev pub session_row : RattleType
  session_row = the_row (record { mir = named 1; lft = [] }) S scanner

  -- What holds of a graph session when the graph that was borrowed from it is given back.
  abbrev pub AfterLoan : MutBor Held → (Held → Type 0) → Fml
  AfterLoan s Holds = follows_so session_row session_row s.ghost_name none (λ _ _. ⊤) Holds
