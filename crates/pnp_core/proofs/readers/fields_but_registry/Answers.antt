use Rattle.std.proofs.Common.{◌≡◌, [], refl, rules}
use Rattle.pnp_core.specs.ManifestReading.{fields_but_registry}
use Rattle.json_reading.proofs.Readings.{reads_stops, reads_then, some_then}
use Rattle.pnp_core.proofs.readers.fields_but_registry.Goals as goal

pub returns-in_err-enable_top_level_fallback-clause-read : goal.returns-in_err-enable_top_level_fallback-clause-read
unfolding fields_but_registry
returns-in_err-enable_top_level_fallback-clause-read g c =
    reads_stops _ _ _ _ c.from_residual.ensures.1 c.in_err-enable_top_level_fallback.ensures

pub returns-in_err-pattern-clause-read : goal.returns-in_err-pattern-clause-read
unfolding fields_but_registry
returns-in_err-pattern-clause-read g c = reads_then _ _ _ c.in_ok-enable_top_level_fallback.ensures
    (reads_stops _ _ _ _ c.from_residual-in_err-pattern.ensures.1 c.in_err-pattern.ensures)

pub returns-in_err-roots-clause-read : goal.returns-in_err-roots-clause-read
unfolding fields_but_registry
returns-in_err-roots-clause-read g c = reads_then _ _ _ c.in_ok-enable_top_level_fallback.ensures
    (reads_then _ _ _ c.in_ok-pattern.ensures (reads_stops _ _ _ _ c.from_residual-in_err-roots.ensures.1
    c.in_err-roots.ensures))

pub returns-in_err-pool-clause-read : goal.returns-in_err-pool-clause-read
unfolding fields_but_registry
returns-in_err-pool-clause-read g c = reads_then _ _ _ c.in_ok-enable_top_level_fallback.ensures
    (reads_then _ _ _ c.in_ok-pattern.ensures (reads_then _ _ _ c.in_ok-roots.ensures
    (reads_stops _ _ _ _ c.from_residual-in_err-pool.ensures.1 c.in_err-pool.ensures)))

pub returns-in_err-exclusions-clause-read : goal.returns-in_err-exclusions-clause-read
unfolding fields_but_registry
returns-in_err-exclusions-clause-read g c = reads_then _ _ _ c.in_ok-enable_top_level_fallback.ensures
    (reads_then _ _ _ c.in_ok-pattern.ensures (reads_then _ _ _ c.in_ok-roots.ensures
    (reads_then _ _ _ c.in_ok-pool.ensures (reads_stops _ _ _ _ c.from_residual-in_err-exclusions.ensures.1
    c.in_err-exclusions.ensures))))

pub returns-clause-read : goal.returns-clause-read
unfolding fields_but_registry
returns-clause-read g c =
    let dir : c.from.result ≡ [] = search rules in
    let path : c.from-2.result ≡ [] = search rules in
    let none : c.new-4.result.entries ≡ [] = c.new-4.ensures.empty in
    some_then _ _ c.in_ok-enable_top_level_fallback.ensures (some_then _ _ c.in_ok-pattern.ensures
    (some_then _ _ c.in_ok-roots.ensures (some_then _ _ c.in_ok-pool.ensures
    (some_then _ _ c.in_ok-exclusions.ensures (rw (
      dir,
      path,
      none,
      ← c.roots.view_is,
      ← c.pool.view_is,
      ← c.exclusions.view_is,
    ) refl)))))
