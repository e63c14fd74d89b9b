use Rattle.std.proofs.Common.{◌≡◌, ◌∙◌, ap}
use Rattle.lru.specs.LruCache.{put_entries}
use Rattle.resolver_core.specs.Caching.{request_eq}
use Rattle.resolver_core.specs.contracts.cache.CachedRequestPartialEq.TheImpl.{eq-value}
use Rattle.resolver_core.proofs.KeptAnswers.{is_request_eq, put-new}
use Rattle.resolver_core.proofs.cache.put_first.Goals as goal

pub returns-in-Ok-clause-put : goal.returns-in-Ok-clause-put
returns-in-Ok-clause-put c =
    let same : put_entries eq-value.it c.args.kept.now c.args.request c.args.answer ≡ put_entries request_eq
    c.args.kept.now c.args.request c.args.answer =
    λ i. put_entries (λ a b. is_request_eq a b i) c.args.kept.now c.args.request c.args.answer in
    ap (λ cache. cache.entries) c.in-Ok.ensures.entries ∙ same
    ∙ put-new c.args.kept.now c.args.request c.args.answer c.requires
