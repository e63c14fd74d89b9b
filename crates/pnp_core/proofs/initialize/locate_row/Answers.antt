use Rattle.std.proofs.Common.{◌≡◌, true, false, sym, ap, ◌∙◌}
use Rattle.pnp_core.specs.Manifest.{Package}
use Rattle.pnp_core.proofs.Slashes.{IsPath-location_path}
use Rattle.pnp_core.proofs.Relocations.{overlaid-discarded, overlaid-row}
use Rattle.pnp_core.proofs.initialize.locate_row.Goals as goal

pub insert_at-requires : goal.insert_at-requires
insert_at-requires c = rw c.in_ok-path.ensures.path (IsPath-location_path _)

pub returns-then-row-clause-trie : goal.returns-then-row-clause-trie
returns-then-row-clause-trie c = λ l path.
    let discarded : c.args.row.now.discard_from_lookup ≡ true =
    sym (ap (λ (p : Package). p.discard_from_lookup) c.row.view_is) ∙ c.if-row.true in
    overlaid-discarded c.args.folder.now c.args.name.now c.args.reference.now c.args.row.now c.args.trie.now l discarded

pub returns-in-Ok-clause-trie : goal.returns-in-Ok-clause-trie
returns-in-Ok-clause-trie c = λ l path.
    let kept : c.args.row.now.discard_from_lookup ≡ false =
    sym (ap (λ (p : Package). p.discard_from_lookup) c.row.view_is) ∙ c.if-row.false in
    let location = ap (λ (p : Package). p.package_location) c.row.view_is in
    let puts = rw (
      c.in_ok-path.ensures.path,
      c.as_str.ensures,
      location,
      c.in_ok-try_clone.ensures,
      c.in_ok-try_clone-2.ensures,
    ) at c.in-Ok.ensures.ok in
    overlaid-row c.args.folder.now c.args.name.now c.args.reference.now c.args.row.now c.args.trie.now
    c.insert_at.new.self l c.requires path kept puts
