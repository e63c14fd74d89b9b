use Rattle.sugar_path.specs.Path.{text_of}
use Rattle.pnp_core.proofs.Ignored.{search-is_found, from_texts}
use Rattle.pnp_core.specs.Owner.{text_from}
use Rattle.pnp_core.proofs.owner.is_found_from.Goals as goal

pub returns : goal.returns
returns c =
    search-is_found c.args.pattern.now c.as_str-2.result.now (text_from c.args.folder.now (text_of c.args.path.now))
    c.is_found.result
    (from_texts _ _ _ _ _ c.args.path.now c.args.folder.now c.as_str-2.ensures c.in_ok-text.ensures c.as_str.ensures
    c.in_ok-relative.ensures c.in_ok-folder.ensures c.requires) c.is_found.ensures
