use Rattle.std.proofs.Common.{◌∙◌}
use Rattle.pnp_core.proofs.Copying.{told_whole}
use Rattle.pnp_core.proofs.copies.PackageInformationBound.copied.Goals as goal

pub returns : goal.returns
returns c =
    let dependencies = told_whole c.in_ok-copied_map.field-0.entries c.self.inside.package_dependencies.entries
    c.in_ok-copied_map.ensures in
    (λ i. record {
      package_location = c.in_ok-try_clone.ensures i;
      discard_from_lookup =
          c.self.inside.discard_from_lookup;
      package_dependencies = dependencies i;
    }) ∙ c.self.view_is
