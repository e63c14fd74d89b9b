use Rattle.std.proofs.Common.{◌≡◌, List, [], subst, rules}
use Rattle.std.specs.List.{AllByRecursion}
use Rattle.session_core.specs.declared.index.Noted.{Noted}
use Rattle.session_core.specs.Index.{fits, hash_of, noted_under, FailsAt}
use Rattle.session_core.proofs.index.first_under.Goals as goal

pub loop-noted-init : goal.loop-noted-init
loop-noted-init c =
    let is : c.into_iter-noted-iterator.result ≡ noted_under (hash_of c.args.sought.now) c.args.all.now.keys =
    search rules in
    let F : List Noted → Type 0 =
    AllByRecursion (λ x. FailsAt (fits c.args.sought.now) c.args.entries.now.entries x.number) in
    λ all. subst F is all

pub loop-noted-preserved : goal.loop-noted-preserved
loop-noted-preserved c =
    λ all. c.loop-noted.invariant (rw c.in-Some.ensures.steps (c.fits_at.ensures.failed c.if-fits_at.false, all))

pub returns-clause-none : goal.returns-clause-none
returns-clause-none c = let none : c.loop-noted.noted-iterator ≡ [] = search rules in
    c.loop-noted.invariant (rw none tt)
