use Rattle.std.proofs.Common.{◌≡◌, refl, sym, ap, ◌∙◌}
use Rattle.sugar_path.specs.Path.{IsCleanPath, text_of}
use Rattle.sugar_path.proofs.Parts.{path_in-text_of}
use Rattle.pnp_core.specs.NormalizePath.{location_path}
use Rattle.pnp_core.specs.Slashed.{slashed}
use Rattle.pnp_core.specs.Trie.{nearest_value}
use Rattle.pnp_core.proofs.PlainLocations.{location-clean}
use Rattle.pnp_core.proofs.trie.Trie.nearest_value.Goals as goal

pub returns-then-has_no_backslash : goal.returns-then-has_no_backslash
returns-then-has_no_backslash g c =
    let path = c.args.path.now in
    let names = c.as_str.ensures.names in
    let plain : slashed (text_of path) ≡ text_of path = ap slashed (sym c.as_str.ensures.text)
    ∙ c.has_no_backslash.ensures c.if-has_no_backslash.true ∙ c.as_str.ensures.text in
    let clean : IsCleanPath (text_of path) = (path, names, refl) in
    let named : location_path (text_of path) ≡ path =
    location-clean (text_of path) clean plain ∙ path_in-text_of path names in
    c.value_above.ensures ∙ ap (nearest_value c.args.self.now) (sym named)
