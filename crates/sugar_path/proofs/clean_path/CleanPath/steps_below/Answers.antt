use Rattle.std.proofs.Common.{◌++◌, sym, ap, ◌∙◌}
use Rattle.sugar_path.proofs.Below.{text-from_below}
use Rattle.sugar_path.proofs.clean_path.CleanPath.steps_below.Goals as goal

pub returns-in-None : goal.returns-in-None
returns-in-None c =
    let behind = text-from_below _ _ c.self.invariant c.folder.invariant
    (rw (← c.self.view_is, ← c.folder.view_is) at c.requires) in
    absurd (c.in-None.ensures.cases behind.0 (c.as_str.ensures ∙ behind.1
    ∙ ap (λ t. t ++ behind.0) (sym c.as_str-2.ensures)))
