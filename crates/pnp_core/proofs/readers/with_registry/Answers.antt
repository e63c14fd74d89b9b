use Rattle.std.proofs.Common.{◌≡◌, true, [], ap, ◌∙◌}
use Rattle.sugar_path.specs.Path.{is_absolute}
use Rattle.pnp_core.proofs.readers.with_registry.Goals as goal

-- where there is no folder, nothing is asked of the trie
pub invariant_of-manifest : goal.invariant_of-manifest
invariant_of-manifest c =
    let dir : c.manifest.inside.manifest_dir ≡ [] = ap (λ m. m.manifest_dir) c.manifest.view_is ∙ c.requires in
    λ absolute l path. absurd (let none : is_absolute [] ≡ true = rw dir at absolute in cc)
