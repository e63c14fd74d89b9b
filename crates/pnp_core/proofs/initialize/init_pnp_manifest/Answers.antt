use Rattle.std.proofs.Common.{◌≡◌, ◌∙◌}
use Rattle.sugar_path.specs.Path.{parent, path_in, text_of}
use Rattle.pnp_core.specs.Manifest.{rows, top_level}
use Rattle.pnp_core.specs.ManifestReading.{located_registry}
use Rattle.pnp_core.specs.Located.{contents_of}
use Rattle.pnp_core.proofs.Slashes.{clean-is_absolute}
use Rattle.pnp_core.proofs.Relocations.{
  changed-all,
  overlaid-nil,
  located-all,
  some-located,
  filled_by-missing,
  initialized-is,
}
use Rattle.pnp_core.proofs.initialize.init_pnp_manifest.Goals as goal

pub located-requires : goal.located-requires
located-requires c =
    rw c.as_str.ensures (clean-is_absolute c.in_ok-manifest_dir.manifest_dir c.in_ok-manifest_dir.ensures.clean)

pub invariant_of-manifest-2 : goal.invariant_of-manifest-2
invariant_of-manifest-2 c = λ folder l path.
    let registry = (rw (c.in_ok-locations.ensures.locations, c.as_str.ensures) at c.place_all.ensures)
    ∙ changed-all c.in_ok-manifest_dir.manifest_dir (contents_of c.manifest.inside).package_registry_data in
    rw registry ((rw c.as_str.ensures at (c.in_ok-locations.ensures.trie l path))
    ∙ overlaid-nil (rows (located_registry c.in_ok-manifest_dir.manifest_dir
    (contents_of c.manifest.inside).package_registry_data)) l)

pub returns-clause-ok : goal.returns-clause-ok
returns-clause-ok c =
    let registry = (rw (c.in_ok-locations.ensures.locations, c.as_str.ensures) at c.place_all.ensures)
    ∙ changed-all c.in_ok-manifest_dir.manifest_dir (contents_of c.manifest.inside).package_registry_data in
    let dir : c.in_ok-manifest_dir.manifest_dir ≡ text_of (parent (path_in c.args.p.now)) =
    rw (c.go_up.ensures.up, c.in_ok-folder.ensures) at c.in_ok-manifest_dir.ensures.text in
    let path : c.in_ok-manifest_path.manifest_path ≡ text_of (path_in c.args.p.now) =
    rw c.in_ok-folder.ensures at c.in_ok-manifest_path.ensures.text in
    let pool = rw (c.reserve.ensures.entries, c.in_ok-missing.ensures, ← c.manifest.view_is, filled_by-missing) at
    c.fill.ensures in
    rw (← c.manifest.view_is) (initialized-is (contents_of c.manifest.inside) (path_in c.args.p.now)
    c.in_ok-manifest_dir.manifest_dir c.in_ok-manifest_path.manifest_path c.fill.new.pool.entries _ dir path pool
    registry)

pub returns-clause-ready : goal.returns-clause-ready
returns-clause-ready c =
    let registry = (rw (c.in_ok-locations.ensures.locations, c.as_str.ensures) at c.place_all.ensures)
    ∙ changed-all c.in_ok-manifest_dir.manifest_dir (contents_of c.manifest.inside).package_registry_data in
    let there = rw (← c.manifest.view_is) at c.requires.top_level_row in
    record {
      folder = c.in_ok-manifest_dir.ensures.clean;
      located = rw registry (located-all c.in_ok-manifest_dir.manifest_dir
          (contents_of c.manifest.inside).package_registry_data
          (clean-is_absolute c.in_ok-manifest_dir.manifest_dir c.in_ok-manifest_dir.ensures.clean));
      top_level_row = rw registry (some-located c.in_ok-manifest_dir.manifest_dir
          (contents_of c.manifest.inside).package_registry_data top_level there);
    }
