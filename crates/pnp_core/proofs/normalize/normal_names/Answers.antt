use Rattle.std.proofs.Common.{◌≡◌, [], true, false, sym, ap, ◌∙◌, rules}
use Rattle.sugar_path.specs.Path.{is_absolute}
use Rattle.sugar_path.specs.Route.{Relative, route_by_parts, route_text}
use Rattle.pnp_core.proofs.Routes.{names-relative, names-rooted}
use Rattle.pnp_core.proofs.Slashes.{parts-slashed}
use Rattle.pnp_core.proofs.normalize.normal_names.Goals as goal

pub returns-then-starts_with : goal.returns-then-starts_with
returns-then-starts_with c =
    let absolute : is_absolute c.args.text.now ≡ true = search rules in
    let text = rw c.in_ok-location.ensures at c.in_ok-absolute.ensures in
    text ∙ sym (names-rooted c.args.text.now absolute)

pub returns : goal.returns
returns c =
    let relative : is_absolute c.args.text.now ≡ false = search rules in
    let text = rw (c.as_str.ensures.value, c.in_ok-slashed.ensures) at c.in_ok-names.ensures in
    text ∙ ap (λ ps. route_text (route_by_parts (Relative 0 []) ps)) (parts-slashed c.args.text.now)
    ∙ sym (names-relative c.args.text.now relative)
