use Rattle.std.proofs.Common.{◌∙◌}
use Rattle.std.specs.Prelude.{option_map}
use Rattle.pnp_core.proofs.Copying.{told_whole}
use Rattle.pnp_core.proofs.manifest.Manifest.try_clone.Goals as goal

pub returns : goal.returns
returns c =
    let pool =
    told_whole c.in_ok-copied_map.field-0.entries c.self.inside.fallback_pool.entries c.in_ok-copied_map.ensures in
    (λ i. record {
      manifest_dir = c.in_ok-try_clone.ensures i;
      manifest_path = c.in_ok-try_clone-2.ensures i;
      enable_top_level_fallback = c.self.inside.enable_top_level_fallback;
      ignore_pattern_data = option_map (λ r. r.0) (c.in_ok-ignore_pattern_data.ensures i);
      dependency_tree_roots = c.in_ok-copied_set.ensures i;
      fallback_pool = pool i;
      fallback_exclusion_list = c.in_ok-copied_map-2.ensures i;
      package_registry_data = c.in_ok-copied_map-3.ensures i;
    }) ∙ c.self.view_is
