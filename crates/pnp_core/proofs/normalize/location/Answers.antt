use Rattle.std.proofs.Common.{[], ap, ◌∙◌, sym, lit<}
use Rattle.std.proofs.lemmas.Str.Pattern.{split_once_first}
use Rattle.sugar_path.specs.Path.{clean}
use Rattle.pnp_core.proofs.Slashes.{clean-slashed, slashed-none}
use Rattle.pnp_core.proofs.normalize.location.Goals as goal

pub returns-in_default : goal.returns-in_default
returns-in_default c =
    let none = rw c.in_default.is at (split_once_first 92 c.args.text.now c.split_once.result c.split_once.ensures.cases
    (lit< tt)) in
    rw c.root.ensures at c.in_ok-clean.ensures ∙ ap (clean []) (sym (slashed-none c.args.text.now none))
    ∙ clean-slashed c.args.text.now

pub returns : goal.returns
returns c = rw (c.root-2.ensures, c.as_str.ensures.value, c.in_ok-slashed.ensures) at c.in_ok-path.ensures
    ∙ clean-slashed c.args.text.now
