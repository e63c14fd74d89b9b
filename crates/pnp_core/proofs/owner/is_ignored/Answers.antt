use Rattle.std.proofs.Common.{◌≡◌, None, Some, refl, sym}
use Rattle.sugar_path.specs.Path.{text_of}
use Rattle.pnp_core.specs.Located.{contents_of}
use Rattle.pnp_core.proofs.Ignored.{is_ignored-none, found-is_ignored}
use Rattle.pnp_core.proofs.owner.is_ignored.Goals as goal

pub returns-in-None : goal.returns-in-None
returns-in-None c = let none : (contents_of c.manifest.inside).ignore_pattern_data ≡ None = rw c.in-None.is refl in
    rw (← c.manifest.view_is) (sym (is_ignored-none (contents_of c.manifest.inside) (text_of c.args.path.now) none))

pub returns-in-Some : goal.returns-in-Some
returns-in-Some c =
    let some : (contents_of c.manifest.inside).ignore_pattern_data ≡ Some c.in-Some.ignored.0 = rw c.in-Some.is refl in
    rw (← c.manifest.view_is)
    (found-is_ignored (contents_of c.manifest.inside) (text_of c.args.path.now) c.in-Some.ignored.0
    c.is_found_from.result some (rw c.as_str.ensures at c.is_found_from.ensures))
