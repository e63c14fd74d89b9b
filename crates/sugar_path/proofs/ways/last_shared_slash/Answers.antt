use Rattle.sugar_path.proofs.SharedTexts.{shared-last, shared-within}
use Rattle.sugar_path.proofs.ways.last_shared_slash.Goals as goal

pub slice_bounds-memrchr-end : goal.slice_bounds-memrchr-end
slice_bounds-memrchr-end c =
    shared-within c.args.base.now c.args.target.now c.common_prefix_len-shared.result c.common_prefix_len-shared.ensures

pub returns : goal.returns
returns c = shared-last c.args.base.now c.args.target.now c.common_prefix_len-shared.result c.memrchr.result
    c.common_prefix_len-shared.ensures c.memrchr.ensures
