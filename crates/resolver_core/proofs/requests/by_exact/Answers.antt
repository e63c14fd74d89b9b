use Rattle.std.proofs.Common.{◌≡◌, Ok, true, false, sym, ap, ◌∙◌, lit<}
use Rattle.sugar_path.specs.Path.{is_absolute}
use Rattle.tree_core.proofs.Asking.{asks_as, asks_done, asks_fails, asks_starved}
use Rattle.resolver_core.specs.Mapping.{slug_of, with_slug, unchecked, by_mapped}
use Rattle.resolver_core.proofs.MappedOrders.{made, tried_ok, tried_err}
use Rattle.resolver_core.proofs.requests.by_exact.Goals as goal

pub returns-in_err-path-clause-asks : goal.returns-in_err-path-clause-asks
returns-in_err-path-clause-asks g c = asks_starved _ c.from_residual-in_err-path.ensures.1

pub returns-then-starts_with-clause-asks : goal.returns-then-starts_with-clause-asks
unfolding by_mapped
returns-then-starts_with-clause-asks g c =
    let absolute : is_absolute c.args.target.now ≡ true =
    sym (c.starts_with.ensures.byte (lit< tt) (lit< tt) (λ _ _ h. h)) ∙ c.if-starts_with.true in
    let slug = c.in_ok-slug.ensures ∙ c.slug_of.ensures in
    rw absolute (asks_done (ap (λ r. Ok r) (c.unchecked.ensures ∙ (λ i. unchecked (c.in_ok-path.ensures i) (slug i)))))

pub returns-in_err-tried-clause-asks : goal.returns-in_err-tried-clause-asks
unfolding by_mapped
returns-in_err-tried-clause-asks g c =
    let relative : is_absolute c.args.target.now ≡ false =
    sym (c.starts_with.ensures.byte (lit< tt) (lit< tt) (λ _ _ h. h)) ∙ c.if-starts_with.false in
    rw relative (asks_fails _ _ c.from_residual-in_err-tried.ensures.1
    (tried_err _ _ _ _ (rw (c.requires, c.as_str.ensures, c.in_ok-relative.ensures) at
    c.in_err-tried.ensures.asks)))

pub returns-in-Ok-clause-asks : goal.returns-in-Ok-clause-asks
unfolding by_mapped
returns-in-Ok-clause-asks g c =
    let relative : is_absolute c.args.target.now ≡ false =
    sym (c.starts_with.ensures.byte (lit< tt) (lit< tt) (λ _ _ h. h)) ∙ c.if-starts_with.false in
    let slug = c.in_ok-slug.ensures ∙ c.slug_of.ensures in
    let slugged = with_slug (slug_of c.args.target.now) in
    rw relative
    (asks_as _ (tried_ok _ _ _ slugged (rw (c.requires, c.as_str.ensures, c.in_ok-relative.ensures) at
    c.in_ok-tried.ensures.asks)) (ap (made slugged) c.in-Ok.is)
    (asks_done (ap (λ s. Ok (with_slug s c.in-Ok.found)) slug)))

pub returns-in_err-path-in-Err-clause-asks : goal.returns-in_err-path-in-Err-clause-asks
unfolding by_mapped
returns-in_err-path-in-Err-clause-asks g c =
    let relative : is_absolute c.args.target.now ≡ false =
    sym (c.starts_with.ensures.byte (lit< tt) (lit< tt) (λ _ _ h. h)) ∙ c.if-starts_with.false in
    let slugged = with_slug (slug_of c.args.target.now) in
    rw relative
    (asks_as _ (tried_ok _ _ _ slugged (rw (c.requires, c.as_str.ensures, c.in_ok-relative.ensures) at
    c.in_ok-tried.ensures.asks)) (ap (made slugged) c.in-Err.is)
    (asks_starved _ c.from_residual-in_err-path-in-Err.ensures.1))

pub returns-clause-asks : goal.returns-clause-asks
unfolding by_mapped
returns-clause-asks g c =
    let relative : is_absolute c.args.target.now ≡ false =
    sym (c.starts_with.ensures.byte (lit< tt) (lit< tt) (λ _ _ h. h)) ∙ c.if-starts_with.false in
    let slug = c.in_ok-slug.ensures ∙ c.slug_of.ensures in
    let path = rw relative at c.in_ok-path-in-Err.ensures in
    let slugged = with_slug (slug_of c.args.target.now) in
    rw relative
    (asks_as _ (tried_ok _ _ _ slugged (rw (c.requires, c.as_str.ensures, c.in_ok-relative.ensures) at
    c.in_ok-tried.ensures.asks)) (ap (made slugged) c.in-Err.is)
    (asks_done (ap (λ r. Ok r) (c.unchecked-in-Err.ensures ∙ (λ i. unchecked (path i) (slug i))))))
