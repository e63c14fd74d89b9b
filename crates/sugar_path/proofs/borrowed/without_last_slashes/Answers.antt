use Rattle.std.proofs.Common.{[], ◌∷◌, ap, sym, ◌∙◌}
use Rattle.std.proofs.lemmas.Bool.Decides.{Decides-eqb}
use Rattle.std.proofs.lemmas.Slice.Eq.{strip_suffix_is}
use Rattle.sugar_path.specs.Borrowed.{without_last_slashes}
use Rattle.sugar_path.proofs.BorrowedWays.{bare-slash, bare-done}
use Rattle.sugar_path.proofs.borrowed.without_last_slashes.Goals as goal

pub loop-shorter-preserved : goal.loop-shorter-preserved
loop-shorter-preserved c =
    let cut = rw c.in-Some.is at (strip_suffix_is Decides-eqb c.loop-shorter.front.now (47 ∷ []) c.strip_suffix.result
    c.strip_suffix.ensures.cases) in
    sym (bare-slash c.in-Some.shorter.now) ∙ ap without_last_slashes (sym cut) ∙ c.loop-shorter.invariant

pub returns : goal.returns
returns c =
    sym (bare-done c.loop-shorter.front.now c.strip_suffix.result c.in_default.not-Some
    (strip_suffix_is Decides-eqb c.loop-shorter.front.now (47 ∷ []) c.strip_suffix.result
    c.strip_suffix.ensures.cases))
    ∙ c.loop-shorter.invariant
