use Rattle.std.proofs.Common.{◌≡◌, true, Some, None, option_map, unwrap_or, refl, sym, ap, ◌∙◌}
use Rattle.serde_json.specs.Find.{as_str}
use Rattle.serde_json.specs.View.{view}
use Rattle.tree_core.proofs.Asking.{asks_then, asks_done, asks_fails}
use Rattle.swc_loader.proofs.BrowserRuling.{is_text, is_false, no_rule}
use Rattle.swc_loader.proofs.browser_rules.entry_rule.Goals as goal

pub returns-in_err-about : goal.returns-in_err-about
returns-in_err-about g c =
    let text : as_str (view c.args.value.now) ≡ Some c.in-Some.text.now =
    sym c.as_str.ensures ∙ ap (option_map (λ s. s.now)) c.in-Some.is in
    rw (is_text (view c.args.value.now) text) (asks_fails _ _ c.from_residual.ensures.1 c.in_err-about.ensures)

pub returns-in_err-target : goal.returns-in_err-target
returns-in_err-target g c =
    let text : as_str (view c.args.value.now) ≡ Some c.in-Some.text.now =
    sym c.as_str.ensures ∙ ap (option_map (λ s. s.now)) c.in-Some.is in
    rw (is_text (view c.args.value.now) text) (asks_then _ c.in_ok-about.ensures
    (asks_fails _ _ c.from_residual-in_err-target.ensures.1 c.in_err-target.ensures))

pub returns-in-Some : goal.returns-in-Some
returns-in-Some g c =
    let text : as_str (view c.args.value.now) ≡ Some c.in-Some.text.now =
    sym c.as_str.ensures ∙ ap (option_map (λ s. s.now)) c.in-Some.is in
    rw (is_text (view c.args.value.now) text) (asks_then _ c.in_ok-about.ensures
    (asks_then _ c.in_ok-target.ensures (asks_done c.placed_rule.ensures)))

pub returns-then-unwrap_or : goal.returns-then-unwrap_or
returns-then-unwrap_or g c =
    let none : as_str (view c.args.value.now) ≡ None =
    sym c.as_str.ensures ∙ ap (option_map (λ s. s.now)) c.in_default.is in
    rw (no_rule c.args.conventions.now c.args.root.now c.args.key.now (view c.args.value.now) none
    (ap (λ b. unwrap_or b true) (sym c.as_bool.ensures) ∙ sym c.unwrap_or.ensures ∙ c.if-unwrap_or.true))
    (asks_done refl)

pub returns-in_err-source : goal.returns-in_err-source
returns-in_err-source g c =
    rw (is_false (view c.args.value.now) (ap (λ b. unwrap_or b true) (sym c.as_bool.ensures) ∙ sym c.unwrap_or.ensures
    ∙ c.if-unwrap_or.false))
    (asks_fails _ _ c.from_residual-in_err-source.ensures.1 c.in_err-source.ensures)

pub returns : goal.returns
returns g c =
    rw (is_false (view c.args.value.now) (ap (λ b. unwrap_or b true) (sym c.as_bool.ensures) ∙ sym c.unwrap_or.ensures
    ∙ c.if-unwrap_or.false))
    (asks_then _ c.in_ok-source.ensures (asks_done refl))
