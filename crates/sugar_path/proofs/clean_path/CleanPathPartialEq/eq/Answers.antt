use Rattle.std.proofs.Common.{◌∙◌}
use Rattle.sugar_path.proofs.Below.{bytes_eq-steps}
use Rattle.sugar_path.proofs.clean_path.CleanPathPartialEq.eq.Goals as goal

pub returns : goal.returns
returns c =
    let same = c.eq.ensures in
    rw (← c.self.view_is, ← c.other.view_is) ((rw (c.as_str.ensures, c.as_str-2.ensures) at same)
    ∙ bytes_eq-steps _ _ c.self.invariant c.other.invariant)
