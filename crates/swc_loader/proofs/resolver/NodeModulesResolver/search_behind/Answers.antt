use Rattle.std.proofs.Common.{◌≡◌, ◌∙◌, lit<}
use Rattle.sugar_path.specs.Path.{is_absolute}
use Rattle.tree_core.specs.Resolving.{resolving}
use Rattle.tree_core.proofs.Asking.{asks_then, asks_fails_in, asks_starved_in}
use Rattle.swc_loader.specs.NodeRows.{behind_base}
use Rattle.swc_loader.proofs.Places.{asks_place}
use Rattle.swc_loader.proofs.resolver.NodeModulesResolver.search_behind.Goals as goal

pub returns-in_err-folder : goal.returns-in_err-folder
unfolding behind_base
returns-in_err-folder g c =
    asks_fails_in resolving _ _ c.from_residual.ensures.1 (rw c.requires at c.in_err-folder.ensures)

pub returns-in_err-text : goal.returns-in_err-text
unfolding behind_base
returns-in_err-text g c = asks_then _ (rw c.requires at c.in_ok-folder.ensures)
    (asks_starved_in resolving _ c.from_residual-in_err-text.ensures.1)

pub returns-in_err-at : goal.returns-in_err-at
unfolding behind_base
returns-in_err-at g c = asks_then _ (rw c.requires at c.in_ok-folder.ensures)
    (asks_starved_in resolving _ c.from_residual-in_err-at.ensures.1)

pub returns-in_err-found : goal.returns-in_err-found
unfolding behind_base
returns-in_err-found g c =
    asks_then _ (rw c.requires at c.in_ok-folder.ensures)
    (asks_fails_in resolving _ _ c.from_residual-in_err-found.ensures.1
    (asks_place c.context-context.ensures.conventions c.context-context.ensures.target
    (c.as_str-2.ensures.value ∙ c.in_ok-text.ensures) (c.as_str.ensures.value ∙ c.in_ok-text.ensures) c.root.ensures
    c.in_ok-at.ensures c.in_err-found.ensures))

pub returns : goal.returns
unfolding behind_base
returns g c =
    let absolute : c.starts_with-relative.result ≡ is_absolute c.args.importer.now.text.now =
    c.starts_with-relative.ensures.byte (lit< tt) (lit< tt) (λ w o h. h) in
    asks_then _ (rw c.requires at c.in_ok-folder.ensures)
    (asks_then _ (asks_place c.context-context.ensures.conventions c.context-context.ensures.target
    (c.as_str-2.ensures.value ∙ c.in_ok-text.ensures) (c.as_str.ensures.value ∙ c.in_ok-text.ensures) c.root.ensures
    c.in_ok-at.ensures c.in_ok-found.ensures)
    (rw absolute at c.answer_found.ensures))
