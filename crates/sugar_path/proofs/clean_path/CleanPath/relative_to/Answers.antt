use Rattle.std.proofs.Common.{◌++◌, ◌∷◌, [], refl, sym, ap, ◌∙◌, append_assoc, lit<}
use Rattle.std.specs.Prelude.{string_bytes}
use Rattle.std.proofs.lemmas.Str.Pattern.{strip_prefix_char}
use Rattle.sugar_path.specs.Path.{parent}
use Rattle.sugar_path.proofs.Upwards.{
  parts_from,
  parts_from-up,
  parts_from-below,
  parent-nearer,
  relative-none,
  relative-some,
}
use Rattle.sugar_path.proofs.clean_path.CleanPath.relative_to.Goals as goal

pub up-init : goal.up-init
up-init c = rw (c.in_ok-text.ensures.bytes, c.in_ok-above.ensures) refl

pub up-preserved : goal.up-preserved
up-preserved c =
    let other = sym c.is_below.ensures ∙ c.up-test.true in
    rw (c.go_up-below.ensures.up, c.in_ok-push_str.ensures.bytes)
    (c.up.invariant
    ∙ ap (λ t. string_bytes c.up.text ++ t) (parts_from-up c.up.above c.args.self.now other)
    ∙ sym (append_assoc (string_bytes c.up.text) (47 ∷ 46 ∷ 46 ∷ []) (parts_from (parent c.up.above) c.args.self.now)))

pub up-smaller : goal.up-smaller
up-smaller c =
    rw c.go_up-below.ensures.up (parent-nearer c.up.above c.args.self.now (sym c.is_below.ensures ∙ c.up-test.true))

pub returns-in-None : goal.returns-in-None
returns-in-None c =
    let behind = parts_from-below c.up.above c.args.self.now c.steps_below.result.now
    (sym c.is_below.ensures ∙ c.up-test.false) c.steps_below.ensures in
    let text = c.up.invariant ∙ ap (λ t. string_bytes c.up.text ++ t) behind ∙ sym c.in_ok-push_str-2.ensures.bytes
    ∙ sym c.as_str-3.ensures.value in
    let cut = rw c.in-None.is at (strip_prefix_char 47 c.as_str-3.result.now c.strip_prefix.result
    c.strip_prefix.ensures.cases (lit< tt)) in
    rw (sym (relative-none c.args.base.now c.args.self.now c.as_str-3.result.now c.as_str.ensures.names
    c.as_str-2.ensures.names text cut)) c.of.ensures

pub returns : goal.returns
returns c =
    let behind = parts_from-below c.up.above c.args.self.now c.steps_below.result.now
    (sym c.is_below.ensures ∙ c.up-test.false) c.steps_below.ensures in
    let text = c.up.invariant ∙ ap (λ t. string_bytes c.up.text ++ t) behind ∙ sym c.in_ok-push_str-2.ensures.bytes
    ∙ sym c.as_str-3.ensures.value in
    let cut = rw c.in-Some.is at (strip_prefix_char 47 c.as_str-3.result.now c.strip_prefix.result
    c.strip_prefix.ensures.cases (lit< tt)) in
    rw (sym (relative-some c.args.base.now c.args.self.now c.as_str-3.result.now c.in-Some.path.now
    c.as_str.ensures.names c.as_str-2.ensures.names text cut)) c.of-in-Some.ensures
