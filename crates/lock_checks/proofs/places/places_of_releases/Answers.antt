use Rattle.std.proofs.Common.{◌&&◌, ap, bytes_eq, ◌∙◌}
use Rattle.std.specs.Map.{lookup}
use Rattle.lock_checks.proofs.EntryPlaces.{no_releases}
use Rattle.lock_checks.proofs.places.places_of_releases.Goals as goal

pub returns : goal.returns
returns c = λ name version.
    ap (λ es. lookup (λ k. bytes_eq name k.0.now && bytes_eq version k.1.now) es) c.new.ensures.empty
    ∙ no_releases c.args.lock_version name version c.args.entries.now c.if-lock_version-eq1.false
