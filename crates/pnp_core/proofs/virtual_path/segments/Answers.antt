use Rattle.std.proofs.Common.{◌∙◌, sym, lit<}
use Rattle.std.proofs.lemmas.Iterator.Consumers.{map_from_collect}
use Rattle.std.proofs.lemmas.Iterator.Splits.{YieldsList-from_str_split}
use Rattle.pnp_core.proofs.VirtualPaths.{segments-some}
use Rattle.pnp_core.proofs.virtual_path.segments.Goals as goal

pub returns : goal.returns
returns c =
    rw (segments-some c.args.text.now c.behind_root-behind.result.now c.behind_root-behind.ensures
    (sym c.is_empty.ensures ∙ c.if-is_empty.false))
    (map_from_collect _ c.collect.ensures.ran (YieldsList-from_str_split 47 c.behind_root-behind.result.now (lit< tt)
    c.split.ensures.text c.split.ensures.has_more c.split.ensures.pattern))
