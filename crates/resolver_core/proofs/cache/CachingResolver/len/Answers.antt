use Rattle.resolver_core.proofs.KeptAnswers.{distinct_requests}
use Rattle.resolver_core.proofs.cache.CachingResolver.len.Goals as goal

pub returns-clause-kept : goal.returns-clause-kept
returns-clause-kept g c = record {
  distinct = distinct_requests c.args.self.now.kept.entries c.len.ensures.valid.0;
  few = c.len.ensures.valid.1;
}
