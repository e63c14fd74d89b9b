use Rattle.std.proofs.Common.{◌≡◌, Result, sym, ap, ◌∙◌, subst}
use Rattle.sugar_path.specs.Path.{Path}
use Rattle.tree_core.specs.declared.tree.ReadError.{ReadError}
use Rattle.tree_core.specs.Asks.{Asking, Asks}
use Rattle.tree_core.proofs.Asking.{asks_then, asks_done, asks_fails, asks_starved}
use Rattle.swc_loader.specs.declared.entry.PackageEntry.{PackageEntry}
use Rattle.swc_loader.specs.declared.search.Searched.{Searched}
use Rattle.swc_loader.specs.declared.search.Searched.TheVariants.{Malformed}
use Rattle.swc_loader.specs.Conventions.{Conventions}
use Rattle.swc_loader.specs.Search.{by_entry, packaged}
use Rattle.swc_loader.proofs.search.packaged_folder.Goals as goal

-- the search by an entry, where it is known which one
by_this : {old new : Asking} {r : Result Searched ReadError} (v : Conventions) (d : Path) {e known : PackageEntry}
    → e ≡ known → Asks old new r (by_entry v d known) → Asks old new r (by_entry v d e)
by_this {old = old} {new = new} {r = r} v d is h =
    let P : PackageEntry → Type 0 = λ e. Asks old new r (by_entry v d e) in subst P (sym is) h

pub returns-in_err-content : goal.returns-in_err-content
unfolding packaged
returns-in_err-content g c = asks_fails _ _ c.from_residual.ensures.1 (rw c.requires at c.in_err-content.ensures)

pub returns-in_err-entry_of : goal.returns-in_err-entry_of
unfolding packaged
returns-in_err-entry_of g c =
    asks_then _ (rw c.requires at c.in_ok-content.ensures) (asks_starved _ c.from_residual-in_err-entry_of.ensures.1)

pub returns-in-Malformed : goal.returns-in-Malformed
unfolding packaged
returns-in-Malformed g c =
    asks_then _ (rw c.requires at c.in_ok-content.ensures)
    (by_this c.args.context.now.conventions.now c.args.folder.now (sym c.in_ok-entry_of.ensures ∙ c.in-Malformed.is)
    (asks_done (ap Malformed c.requires)))

pub returns-in-Missing : goal.returns-in-Missing
unfolding packaged
returns-in-Missing g c =
    asks_then _ (rw c.requires at c.in_ok-content.ensures)
    (by_this c.args.context.now.conventions.now c.args.folder.now (sym c.in_ok-entry_of.ensures ∙ c.in-Missing.is)
    c.first_index.ensures)

pub returns-in-At : goal.returns-in-At
unfolding packaged
returns-in-At g c =
    asks_then _ (rw c.requires at c.in_ok-content.ensures)
    (by_this c.args.context.now.conventions.now c.args.folder.now (sym c.in_ok-entry_of.ensures ∙ c.in-At.is)
    (rw c.as_str.ensures at c.at_entry.ensures))
