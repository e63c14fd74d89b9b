use Rattle.pnp_core.proofs.VirtualPaths.{virtual_parts-seen, behind-is}
use Rattle.pnp_core.proofs.virtual_path.virtual_parts.Goals as goal

pub returns : goal.returns
returns c =
    let ss = c.args.segments.now in
    let behind = behind-is c.split_at.result.1.now c.min.result c.min.ensures in
    let stays =
    rw (c.marked_depth.ensures, c.split_at.ensures.front, c.split_at.ensures.back) at c.staying.ensures.staying in
    let counted =
    rw (c.split_at-3.ensures.back, behind, c.split_at.ensures.back) at c.through_archive.ensures.through in
    rw (
      c.split_at-4.ensures.front,
      c.split_at-4.ensures.back,
      c.split_at-3.ensures.back,
      behind,
      c.split_at-2.ensures.front,
      c.split_at.ensures.front,
      c.split_at.ensures.back,
    )
    (virtual_parts-seen c.args.is_rooted ss c.args.at c.staying.result c.through_archive.result stays counted)
