use Rattle.std.proofs.Common.{◌≡◌, Some, refl, ap, ◌∙◌}
use Rattle.sugar_path.specs.Path.{parent}
use Rattle.tree_core.proofs.Asking.{asks_as, asks_done, asks_fails, asks_starved, leads_self, leads_as}
use Rattle.swc_loader.specs.Search.{package_file}
use Rattle.swc_loader.proofs.Walks.{up-shorter}
use Rattle.swc_loader.proofs.BrowserRuling.{or_above, root-above, root-top}
use Rattle.swc_loader.proofs.browser_rules.root.Goals as goal

pub up-init : goal.up-init
up-init g c = rw c.in_ok-folder.ensures leads_self

pub up-preserved : goal.up-preserved
up-preserved g c =
    let above = root-above _ _ c.go_up.ensures.went c.if-not-go_up.false in
    let h = rw above at c.up.invariant in
    let at : c.in_ok-package_json.package_json ≡ package_file (parent c.up.folder) =
    c.in_ok-package_json.ensures ∙ ap package_file c.go_up.ensures.up in
    rw c.go_up.ensures.up (leads_as (or_above (parent c.up.folder)) h (rw at at c.in_ok-is_file.ensures)
    c.if-branch.false)

pub up-smaller : goal.up-smaller
up-smaller g c = rw c.go_up.ensures.up (up-shorter _ _ c.go_up.ensures.went c.if-not-go_up.false)

pub returns-then-not-go_up : goal.returns-then-not-go_up
returns-then-not-go_up g c =
    c.up.invariant.to (rw (root-top _ _ c.go_up.ensures.went c.if-not-go_up.true) (asks_done refl))

pub returns-in_err-package_json : goal.returns-in_err-package_json
returns-in_err-package_json g c = c.up.invariant.to (asks_starved _ c.from_residual-in_err-package_json.ensures.1)

pub returns-in_err-is_file : goal.returns-in_err-is_file
returns-in_err-is_file g c =
    let above = root-above _ _ c.go_up.ensures.went c.if-not-go_up.false in
    let h = rw above at c.up.invariant in
    let at : c.in_ok-package_json.package_json ≡ package_file (parent c.up.folder) =
    c.in_ok-package_json.ensures ∙ ap package_file c.go_up.ensures.up in
    h.to (asks_fails (or_above (parent c.up.folder)) _ c.from_residual-in_err-is_file.ensures.1
    (rw at at c.in_err-is_file.ensures))

pub returns-then-branch : goal.returns-then-branch
returns-then-branch g c =
    let above = root-above _ _ c.go_up.ensures.went c.if-not-go_up.false in
    let h = rw above at c.up.invariant in
    let at : c.in_ok-package_json.package_json ≡ package_file (parent c.up.folder) =
    c.in_ok-package_json.ensures ∙ ap package_file c.go_up.ensures.up in
    h.to (asks_as (or_above (parent c.up.folder)) (rw at at c.in_ok-is_file.ensures) c.if-branch.true
    (asks_done (ap Some c.go_up.ensures.up)))
