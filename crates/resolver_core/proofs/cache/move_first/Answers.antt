use Rattle.std.proofs.Common.{◌≡◌, ◌∙◌, ap, rules}
use Rattle.lru.specs.LruCache.{promoted}
use Rattle.resolver_core.specs.Caching.{request_eq}
use Rattle.resolver_core.specs.contracts.cache.CachedRequestPartialEq.TheImpl.{eq-value}
use Rattle.resolver_core.proofs.KeptAnswers.{promoted-kept}
use Rattle.resolver_core.proofs.cache.move_first.Goals as goal

pub returns-clause-moved : goal.returns-clause-moved
returns-clause-moved c = λ answer.
    let moved : promoted (eq-value.it c.args.request.now) c.args.kept.now.entries ≡ promoted
    (request_eq c.args.request.now) c.args.kept.now.entries = search rules in
    ap (λ cache. cache.entries) c.promote-there.ensures.entries ∙ moved
    ∙ promoted-kept c.args.kept.now.entries c.args.request.now c.args.kept.now.cap answer c.requires
