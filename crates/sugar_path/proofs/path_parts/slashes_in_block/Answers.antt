use Rattle.std.proofs.Common.{◌==◌, take, arith}
use mir.Syntax.{w8}
use Rattle.std.proofs.lemmas.List.{length-take-le}
use Rattle.std.proofs.lemmas.Simd.{bitmask_splat}
use Rattle.sugar_path.proofs.path_parts.slashes_in_block.Goals as goal

pub returns : goal.returns
returns c = bitmask_splat w8 (λ a b. a == b) (take 16 c.args.path.now) 16 47
    (length-take-le 16 c.args.path.now c.requires) (omega arith)
