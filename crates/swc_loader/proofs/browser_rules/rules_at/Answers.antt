use Rattle.std.proofs.Common.{sym, ap, ◌∙◌, option_map}
use Rattle.serde_json.specs.View.{view, members_view}
use Rattle.tree_core.proofs.Asking.{asks_then, asks_done, asks_fails, asks_starved}
use Rattle.swc_loader.specs.BrowserRules.{rules_at}
use Rattle.swc_loader.proofs.BrowserRuling.{by_entries, entries-map, entries-no_map, entries-none}
use Rattle.swc_loader.proofs.browser_rules.rules_at.Goals as goal

pub returns-in_err-package_json : goal.returns-in_err-package_json
returns-in_err-package_json g c = asks_starved _ c.from_residual.ensures.1

pub returns-in_err-content : goal.returns-in_err-content
unfolding rules_at
returns-in_err-content g c = asks_fails _ _ c.from_residual-in_err-content.ensures.1
    (rw c.in_ok-package_json.ensures at c.in_err-content.ensures)

pub returns-in_err-package : goal.returns-in_err-package
unfolding rules_at
returns-in_err-package g c =
    asks_then _ (rw c.in_ok-package_json.ensures at c.in_ok-content.ensures)
    (asks_starved _ c.from_residual-in_err-package.ensures.1)

pub returns-in_default : goal.returns-in_default
unfolding rules_at
returns-in_default g c =
    let none = sym c.in_ok-package.ensures ∙ ap (option_map (λ v. view v.now)) c.in_default.is in
    asks_then _ (rw c.in_ok-package_json.ensures at c.in_ok-content.ensures)
    (by_entries c.args.conventions.now c.args.root.now c.in_ok-content.content
    (entries-none c.args.conventions.now c.in_ok-content.content none) (asks_done c.new.ensures))

pub returns-in-Some-browser_map : goal.returns-in-Some-browser_map
unfolding rules_at
returns-in-Some-browser_map g c =
    let is = sym c.in_ok-package.ensures ∙ ap (option_map (λ v. view v.now)) c.in-Some.is in
    let entries =
    sym c.browser_map.ensures ∙ ap (option_map (λ m. members_view m.now.entries)) c.in-Some-browser_map.is in
    asks_then _ (rw c.in_ok-package_json.ensures at c.in_ok-content.ensures)
    (by_entries c.args.conventions.now c.args.root.now c.in_ok-content.content
    (entries-map c.args.conventions.now c.in_ok-content.content is entries) c.each_rule.ensures)

pub returns : goal.returns
unfolding rules_at
returns g c =
    let is = sym c.in_ok-package.ensures ∙ ap (option_map (λ v. view v.now)) c.in-Some.is in
    let none = sym c.browser_map.ensures ∙ ap (option_map (λ m. members_view m.now.entries)) c.in-None.is in
    asks_then _ (rw c.in_ok-package_json.ensures at c.in_ok-content.ensures)
    (by_entries c.args.conventions.now c.args.root.now c.in_ok-content.content
    (entries-no_map c.args.conventions.now c.in_ok-content.content is none) (asks_done c.new-in-None.ensures))
