-- What an ask leaves.
use Rattle.std.specs.Prelude.{◌≡◌, ℕ, List, [], ⊤}
use Rattle.std.specs.Borrow.{Fml, RattleType, MutBor, follows_so}
use mathlib.Core.Option.{none}
use mir.Syntax.{named}
use Rattle.swc_loader.specs.declared.resolution.FileName.{FileName}
use Rattle.resolve_stack.specs.ImportFault.{StarvedAt}
use Rattle.resolve_stack.specs.Request.{asked_for}
use Rattle.resolve_stack.specs.Verdict.{verdict}
use Rattle.session_core.specs.declared.session.Session.{Session as Held}
use Rattle.session_core.specs.contracts.session.Session.{the_row}
use Rattle.session_core.specs.Session.{Session}

-- Out of memory, nothing but the count of questions changed. The tree was asked once for each different one of some
-- first questions of the request, and at most once more.
pub record IsStarved (importer : FileName) (specifier : List ℕ) (old new : Session) : Type 0 where
  pub questions : ℕ
  pub same : new ≡ record old { tree = record old.tree { questions = questions } }
  pub asked : StarvedAt old.tree.files old.tree.questions questions (verdict old.project (asked_for importer specifier))

-- what is held by a session, as the logic has it
abbrev pub session_row : RattleType
session_row = the_row (record { mir = named 1; lft = [] })

-- What holds of a session when the outcome that was borrowed from it is given back.
abbrev pub AfterLoan : MutBor Held → (Held → Type 0) → Fml
AfterLoan s Holds = follows_so session_row session_row s.ghost_name none (λ _ _. ⊤) Holds
