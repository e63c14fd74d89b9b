-- What a contract sees of a manifest, and what its locations hold.
use Rattle.std.specs.Prelude.{◌≡◌, IsTrue, map, option_map}
use Rattle.sugar_path.specs.Path.{Path, IsPath, is_absolute}
use Rattle.pnp_core.specs.declared.manifest.Manifest.TheInside.{Inside}
use Rattle.pnp_core.specs.Manifest.{Contents, rows}
use Rattle.pnp_core.specs.Owner.{last_at}
use Rattle.pnp_core.specs.Trie.{value_at}

abbrev pub contents_of : Inside → Contents
contents_of m = record {
  manifest_dir = m.manifest_dir;
  manifest_path = m.manifest_path;
  enable_top_level_fallback = m.enable_top_level_fallback;
  ignore_pattern_data = option_map (λ r. r.0) m.ignore_pattern_data;
  dependency_tree_roots = m.dependency_tree_roots.keys;
  fallback_pool = m.fallback_pool.entries;
  fallback_exclusion_list = map (λ e. (e.0, e.1.keys)) m.fallback_exclusion_list.entries;
  package_registry_data = map (λ e. (e.0, e.1.entries)) m.package_registry_data.entries;
}

-- once a manifest has its folder, its trie has the last row's locator at each location of its rows, and no other
-- location
abbrev pub HoldsLocations : Inside → Type 0
HoldsLocations m =
    IsTrue (is_absolute m.manifest_dir) → (l : Path) → IsPath l
    → value_at m.location_trie l ≡ last_at (rows (contents_of m).package_registry_data) l
