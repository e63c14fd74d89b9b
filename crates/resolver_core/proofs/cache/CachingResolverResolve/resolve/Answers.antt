use Rattle.std.proofs.Common.{◌≡◌, Some, None, refl, rules}
use Rattle.tree_core.specs.Resolving.{resolving}
use Rattle.tree_core.proofs.Asking.{asks_done, asks_starved_in}
use Rattle.resolver_core.specs.Caching.{request, kept_answer}
use Rattle.resolver_core.specs.CacheParts.{kept_of}
use Rattle.resolver_core.proofs.KeptAnswers.{then_starved}
use Rattle.resolver_core.proofs.cache.CachingResolverResolve.resolve.Goals as goal

pub returns-in_err-answer-clause-resolves : goal.returns-in_err-answer-clause-resolves
returns-in_err-answer-clause-resolves g c = asks_starved_in resolving _ c.from_residual-in_err-answer.ensures.1

pub returns-in-Some-clause-resolves : goal.returns-in-Some-clause-resolves
returns-in-Some-clause-resolves g c =
    let kept : kept_answer (kept_of c.args.self.now) (request c.args.base.now c.args.specifier.now) ≡ Some
    c.in-Some.answer = search rules in
    rw kept (asks_done refl)

pub returns-in_err-copy-clause-resolves : goal.returns-in_err-copy-clause-resolves
returns-in_err-copy-clause-resolves g c =
    let none : kept_answer (kept_of c.args.self.now) (request c.args.base.now c.args.specifier.now) ≡ None =
    search rules in
    rw none (then_starved _ c.from_residual-in_err-copy.ensures.1 c.in_ok-answer-2.ensures.resolves)

pub returns-in_err-put_first-clause-resolves : goal.returns-in_err-put_first-clause-resolves
returns-in_err-put_first-clause-resolves g c =
    let none : kept_answer (kept_of c.args.self.now) (request c.args.base.now c.args.specifier.now) ≡ None =
    search rules in
    rw none (then_starved _ c.from_residual-in_err-put_first.ensures.1 c.in_ok-answer-2.ensures.resolves)
