use Rattle.std.proofs.Common.{◌≡◌, true, false, Ok, Some, sym, ap, ◌∙◌}
use Rattle.std.specs.Prelude.{string_bytes}
use Rattle.sugar_path.specs.Path.{clean}
use Rattle.tree_core.specs.Resolving.{resolving}
use Rattle.tree_core.proofs.Asking.{asks_as, asks_decided, asks_done, asks_fails_in, asks_starved_in}
use Rattle.swc_loader.specs.Located.{behind}
use Rattle.resolve_stack.specs.Exports.{file_at}
use Rattle.resolve_stack.proofs.ExportedFiles.{asks_closed, asks_open}
use Rattle.resolve_stack.proofs.exports.target_file.Goals as goal

pub returns-in_err-text : goal.returns-in_err-text
returns-in_err-text g c = asks_starved_in resolving _ c.from_residual.ensures.1

pub returns-then-not-is_closed : goal.returns-then-not-is_closed
returns-then-not-is_closed g c =
    asks_open (string_bytes c.in_ok-text.text) _ (c.in_ok-text.ensures
    ∙ ap (behind c.args.location.now) c.without_dot_slash.ensures)
    (sym (rw c.as_str.ensures.value at c.is_closed.ensures) ∙ c.if-not-is_closed.true)
    (asks_decided c.not_found.result c.not_found.ensures)

pub returns-in_err-file : goal.returns-in_err-file
returns-in_err-file g c = asks_starved_in resolving _ c.from_residual-in_err-file.ensures.1

pub returns-in_err-is_file : goal.returns-in_err-is_file
unfolding file_at
returns-in_err-is_file g c =
    let at = rw (c.root.ensures, c.as_str-2.ensures.value) at c.in_ok-file.ensures in
    asks_closed (string_bytes c.in_ok-text.text) _
    (c.in_ok-text.ensures ∙ ap (behind c.args.location.now) c.without_dot_slash.ensures)
    (sym (rw c.as_str.ensures.value at c.is_closed.ensures) ∙ c.if-not-is_closed.false)
    (asks_fails_in resolving _ _ c.from_residual-in_err-is_file.ensures.1 (rw at at c.in_err-is_file.ensures))

pub returns-then-branch : goal.returns-then-branch
unfolding file_at
returns-then-branch g c =
    let at = rw (c.root.ensures, c.as_str-2.ensures.value) at c.in_ok-file.ensures in
    asks_closed (string_bytes c.in_ok-text.text) _
    (c.in_ok-text.ensures ∙ ap (behind c.args.location.now) c.without_dot_slash.ensures)
    (sym (rw c.as_str.ensures.value at c.is_closed.ensures) ∙ c.if-not-is_closed.false)
    (asks_as _ (rw at at c.in_ok-is_file.ensures) c.if-branch.true (asks_done (ap (λ f. Ok (Some f)) at)))

pub returns-else-branch : goal.returns-else-branch
unfolding file_at
returns-else-branch g c =
    let at = rw (c.root.ensures, c.as_str-2.ensures.value) at c.in_ok-file.ensures in
    asks_closed (string_bytes c.in_ok-text.text) _
    (c.in_ok-text.ensures ∙ ap (behind c.args.location.now) c.without_dot_slash.ensures)
    (sym (rw c.as_str.ensures.value at c.is_closed.ensures) ∙ c.if-not-is_closed.false)
    (asks_as _ (rw at at c.in_ok-is_file.ensures) c.if-branch.false
    (asks_decided c.not_found-else-branch.result c.not_found-else-branch.ensures))
