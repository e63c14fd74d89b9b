-- The lines of steps don't hang on how many questions the tree was asked before.
use Rattle.std.proofs.Common.{
  ◌≡◌,
  ℕ,
  Bool,
  true,
  false,
  cond,
  List,
  [],
  ◌∷◌,
  ◌++◌,
  length,
  Option,
  Some,
  None,
  refl,
  ap,
  ◌∙◌,
}
use Rattle.tree_core.specs.Memory.{refusal}
use Rattle.tree_core.specs.Tree.{is_file, put_times}
use Rattle.tree_core.specs.declared.tree.TreeFile.{TreeFile}
use Rattle.tree_core.specs.declared.memory.PutError.{PutError}
use Rattle.swc_loader.specs.declared.resolution.FileName.{FileName}
use Rattle.session_core.specs.declared.latest.Entry.{Entry}
use Rattle.session_core.specs.Entries.{kept_for}
use Rattle.session_core.specs.Session.{
  Session,
  Step,
  Ask,
  Put,
  Remove,
  asked_by,
  after_remove,
  put_unless,
  after_step,
  entry_on,
}
use Rattle.session_report.specs.declared.step.Step.{Step as Given}
use Rattle.session_report.specs.declared.step.Step.TheVariants as given
use Rattle.session_report.specs.Lines.{counting, taken, step_line, step_lines}

asked : (s : Session) (n : ℕ) (importer : FileName) (specifier : List ℕ) (o : Option Entry) → (m : ℕ)
    × (asked_by (counting s n) importer specifier o ≡ counting (asked_by s importer specifier o) m)
asked s n importer specifier (Some e) = (n, refl)
asked s n importer specifier None =
    (put_times (length (entry_on s.tree.files s.project importer specifier).outcome.trail) n, refl)

put : (s : Session) (n : ℕ) (path : List ℕ) (file : TreeFile) (o : Option PutError) → (m : ℕ)
    × (put_unless (counting s n) path file o ≡ counting (put_unless s path file o) m)
put s n path file None = (n, refl)
put s n path file (Some error) = (n, refl)

removed : (s : Session) (n : ℕ) (path : List ℕ) (b : Bool) → (m : ℕ)
    × (cond b (after_remove (counting s n) path) (counting s n) ≡ counting (cond b (after_remove s path) s) m)
removed s n path true = (n, refl)
removed s n path false = (n, refl)

pub stepped : (s : Session) (n : ℕ) (step : Step) → (m : ℕ)
    × (after_step (counting s n) step ≡ counting (after_step s step) m)
stepped s n (Ask importer specifier) = asked s n importer specifier (kept_for importer specifier s.kept)
stepped s n (Put path file) = put s n path file (refusal s.tree.files path file.canonical)
stepped s n (Remove path) = removed s n path (is_file s.tree.files path)

pub line-counting : (s : Session) (n : ℕ) (step : Given) → step_line (counting s n) step ≡ step_line s step
line-counting s n (given.Ask request) = refl
line-counting s n (given.Put file) = refl
line-counting s n (given.Remove path) = refl

pub lines-counting : (steps : List Given) (s : Session) (n : ℕ) → step_lines (counting s n) steps ≡ step_lines s steps
lines-counting [] s n = refl
lines-counting (step ∷ steps) s n =
    let next = stepped s n (taken step) in
    ap (λ line. line ++ step_lines (after_step (counting s n) (taken step)) steps) (line-counting s n step)
    ∙ ap (λ u. step_line s step ++ step_lines u steps) next.1
    ∙ ap (λ rest. step_line s step ++ rest) (lines-counting steps (after_step s (taken step)) next.0)
