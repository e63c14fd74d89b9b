use Rattle.std.proofs.Common.{refl, subst, sym, ◌∙◌}
use Rattle.std.specs.Prelude.{IsTrue}
use Rattle.sugar_path.specs.Path.{is_absolute, text_of}
use Rattle.pnp_core.specs.Manifest.{Contents, rows}
use Rattle.pnp_core.specs.Located.{contents_of}
use Rattle.pnp_core.specs.NormalizePath.{location_path}
use Rattle.pnp_core.proofs.Slashes.{IsPath-location_path, clean-is_absolute}
use Rattle.pnp_core.proofs.Owners.{nearest_value-owner}
use Rattle.pnp_core.proofs.owner.owner_of.Goals as goal

pub returns-then-branch : goal.returns-then-branch
returns-then-branch c = rw (sym c.in_ok-is_ignored.ensures ∙ c.if-branch.true) refl

pub returns : goal.returns
returns c =
    let HasFolder : Contents → Type 0 = λ m. IsTrue (is_absolute m.manifest_dir) in
    let folder = subst HasFolder (sym c.manifest.view_is) (clean-is_absolute c.args.manifest.now.manifest_dir
    c.requires.folder) in
    rw (sym c.in_ok-is_ignored.ensures ∙ c.if-branch.false, ← c.manifest.view_is)
    (c.in_ok-owner.ensures ∙ nearest_value-owner c.manifest.inside.location_trie
    (rows (contents_of c.manifest.inside).package_registry_data) (c.manifest.invariant folder)
    (location_path (text_of c.args.path.now)) (IsPath-location_path (text_of c.args.path.now)))
