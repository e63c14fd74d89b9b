use Rattle.std.proofs.Common.{sym, refl, ◌∙◌}
use Rattle.tree_core.specs.Resolving.{resolving}
use Rattle.tree_core.proofs.Asking.{asks_done, asks_starved_in}
use Rattle.lock_checks.proofs.Bindings.{asks_else, asks_foreign, asks_locked, asks_npm, asks_where}
use Rattle.lock_checks.proofs.binding.lock_check.Goals as goal

pub returns-then-is_workspace : goal.returns-then-is_workspace
returns-then-is_workspace g c =
    let workspace = sym (rw c.as_str-reference.ensures at c.is_workspace.ensures) ∙ c.if-is_workspace.true in
    asks_where _ _ _ workspace (asks_done refl)

pub returns-in_err-entry : goal.returns-in_err-entry
returns-in_err-entry g c =
    let other = sym (rw c.as_str-reference.ensures at c.is_workspace.ensures) ∙ c.if-is_workspace.false in
    asks_else _ _ _ other (asks_starved_in resolving _ c.from_residual.ensures.1)

pub returns-in_default : goal.returns-in_default
returns-in_default g c =
    let other = sym (rw c.as_str-reference.ensures at c.is_workspace.ensures) ∙ c.if-is_workspace.false in
    asks_locked c.args.lock.now c.args.edge.now.manifest.now c.args.edge.now.owner.now c.args.edge.now.name.now
    c.args.edge.now.bound.now _ other (rw c.in_default.is at c.in_ok-entry.ensures) (asks_done refl)

pub returns-then-not-is_npm : goal.returns-then-not-is_npm
returns-then-not-is_npm g c =
    let other = sym (rw c.as_str-reference.ensures at c.is_workspace.ensures) ∙ c.if-is_workspace.false in
    let foreign = sym (rw c.as_str-reference.ensures at c.is_npm.ensures) ∙ c.if-not-is_npm.true in
    asks_locked c.args.lock.now c.args.edge.now.manifest.now c.args.edge.now.owner.now c.args.edge.now.name.now
    c.args.edge.now.bound.now _ other (rw c.in-Some.is at c.in_ok-entry.ensures)
    (asks_foreign c.args.edge.now.manifest.now c.args.edge.now.owner.now c.args.edge.now.name.now
    c.args.edge.now.bound.now c.in-Some.entry.now foreign (asks_done refl))

pub returns : goal.returns
returns g c =
    let other = sym (rw c.as_str-reference.ensures at c.is_workspace.ensures) ∙ c.if-is_workspace.false in
    let npm = sym (rw c.as_str-reference.ensures at c.is_npm.ensures) ∙ c.if-not-is_npm.false in
    asks_locked c.args.lock.now c.args.edge.now.manifest.now c.args.edge.now.owner.now c.args.edge.now.name.now
    c.args.edge.now.bound.now _ other (rw c.in-Some.is at c.in_ok-entry.ensures)
    (asks_npm c.args.edge.now.manifest.now c.args.edge.now.owner.now c.args.edge.now.name.now c.args.edge.now.bound.now
    c.in-Some.entry.now npm c.range_check.ensures)
