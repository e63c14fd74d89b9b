use Rattle.std.proofs.Common.{refl, ap, ◌∙◌}
use Rattle.tree_core.proofs.Asking.{asks_as, asks_done, asks_fails, asks_starved}
use Rattle.sugar_path.specs.Path.{join, text_of}
use Rattle.swc_loader.specs.Walk.{in_its_modules}
use Rattle.swc_loader.proofs.Places.{asks_place}
use Rattle.swc_loader.proofs.walk.in_its_modules.Goals as goal

pub returns-in_err-is_dir : goal.returns-in_err-is_dir
unfolding in_its_modules
returns-in_err-is_dir g c =
    asks_fails _ _ c.from_residual-in_err-is_dir.ensures.1 (rw c.in_ok-modules.ensures at c.in_err-is_dir.ensures)

pub returns-then-not-branch : goal.returns-then-not-branch
unfolding in_its_modules
returns-then-not-branch g c =
    asks_as _ (rw c.in_ok-modules.ensures at c.in_ok-is_dir.ensures) c.if-not-branch.true (asks_done refl)

pub returns-in_err-text : goal.returns-in_err-text
unfolding in_its_modules
returns-in_err-text g c =
    asks_as _ (rw c.in_ok-modules.ensures at c.in_ok-is_dir.ensures) c.if-not-branch.false
    (asks_starved _ c.from_residual-in_err-text.ensures.1)

pub returns-in_err-at : goal.returns-in_err-at
unfolding in_its_modules
returns-in_err-at g c =
    asks_as _ (rw c.in_ok-modules.ensures at c.in_ok-is_dir.ensures) c.if-not-branch.false
    (asks_starved _ c.from_residual-in_err-at.ensures.1)

pub returns : goal.returns
unfolding in_its_modules
returns g c =
    let text = c.in_ok-text.ensures ∙ ap (λ p. join (text_of p) c.args.target.now) c.in_ok-modules.ensures in
    asks_as _ (rw c.in_ok-modules.ensures at c.in_ok-is_dir.ensures) c.if-not-branch.false
    (asks_place refl refl (c.as_str-2.ensures.value ∙ text) (c.as_str.ensures.value ∙ text) c.root.ensures
    c.in_ok-at.ensures c.place.ensures)
