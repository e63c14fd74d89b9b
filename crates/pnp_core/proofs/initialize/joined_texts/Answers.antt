use Rattle.std.proofs.Common.{◌≡◌, ◌++◌, true, false, ap, ◌∙◌, rules}
use Rattle.sugar_path.specs.Path.{is_absolute}
use Rattle.pnp_core.proofs.initialize.joined_texts.Goals as goal

pub returns-then-starts_with : goal.returns-then-starts_with
returns-then-starts_with c =
    let absolute : is_absolute c.args.text.now ≡ true = search rules in
    rw absolute c.in_ok-joined.ensures.ok

pub returns : goal.returns
returns c =
    let relative : is_absolute c.args.text.now ≡ false = search rules in
    rw relative (c.in_ok-push_str.ensures.bytes ∙ ap (λ s. s ++ c.args.text.now) c.in_ok-joined-2.ensures)
