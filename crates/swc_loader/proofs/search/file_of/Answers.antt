use Rattle.std.proofs.Common.{◌≡◌, true, Bool, List, ℕ, ◌∷◌, refl, sym, ◌∙◌}
use Rattle.sugar_path.specs.Path.{Path, parent}
use Rattle.tree_core.proofs.Asking.{asks_done}
use Rattle.swc_loader.specs.Conventions.{Conventions}
use Rattle.swc_loader.specs.Candidates.{is_named, is_closed, files_at, candidates_at}
use Rattle.swc_loader.proofs.Naming.{is_false, is_true}
use Rattle.swc_loader.proofs.search.file_of.Goals as goal

pub returns-then-not-shape : goal.returns-then-not-shape
returns-then-not-shape g c = rw (sym c.shape_of-shape.ensures.named ∙ is_false _ c.if-not-shape.true) (asks_done refl)

pub returns-in-None : goal.returns-in-None
returns-in-None g c =
    let none = rw c.in-None.is at c.last_name.ensures in
    rw (sym c.shape_of-shape.ensures.named ∙ is_true _ c.if-not-shape.false, none) (asks_done refl)

-- the candidates of a named text are those of its path's last name
files_at-name : (v : Conventions) (t n : List ℕ) (p d : Path) (closed : Bool) → is_named t ≡ true → p ≡ n ∷ d
    → closed ≡ is_closed t → files_at v p t ≡ candidates_at v (n ∷ d) closed
files_at-name v t n p d closed named at shut = rw (named, at, ← shut) refl

pub returns-in_ok-folder-in-Some : goal.returns-in_ok-folder-in-Some
returns-in_ok-folder-in-Some g c =
    let last = rw c.in-Some.is at c.last_name.ensures in
    let same = files_at-name c.args.conventions.now c.args.text.now c.in-Some.name.now c.args.at.now
    (parent c.args.at.now) c.shape_of-shape.result.closed
    (sym c.shape_of-shape.ensures.named ∙ is_true _ c.if-not-shape.false) last.0 c.shape_of-shape.ensures.closed in
    rw same (rw (c.go_up-below.ensures.up, c.in_ok-folder-in-Some.ensures) at c.candidate_file.ensures)
