-- What contracts see of a graph session: its session and its entries, as they are held, and the state that they are.
use Rattle.std.specs.Prelude.{ℕ, List, []}
use Rattle.std.specs.Coded.{Coded, coded×, coded_list, coded_ℕ}
use mir.Syntax.{named}
use Rattle.session_core.specs.declared.session.Session.{Session as HeldSession}
use Rattle.session_core.specs.contracts.session.Session.{the_row}
use Rattle.session_core.specs.SessionView.{state_of}
use Rattle.import_graph.specs.GraphState.{GraphState}

-- how values of sessions are told apart, as the logic has it
abbrev pub session_code : Coded HeldSession
session_code = (the_row (record { mir = named 1; lft = [] })).coded

abbrev pub Held : Type 0
Held = HeldSession × List (List ℕ)

abbrev pub held_code : Coded Held
held_code = coded× session_code (coded_list (coded_list coded_ℕ))

abbrev pub graph_state : Held → GraphState
graph_state held = record { session = state_of held.0; entries = held.1 }
