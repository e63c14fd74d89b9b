use Rattle.std.proofs.Common.{◌==◌, inl, arith}
use Rattle.std.proofs.lemmas.Iterator.Consumers.{YieldsList-from_first, count_from_yields_List}
use Rattle.std.proofs.lemmas.List.Splits.{length-slice_split}
use Rattle.std.proofs.lemmas.List.Sums.{count_by-le-length}
use Rattle.sugar_path.specs.Path.{parts}
use Rattle.sugar_path.proofs.path_parts.part_count.Goals as goal

pub count-requires-clause-fits : goal.count-requires-clause-fits
count-requires-clause-fits c = inl (rw c.of.ensures (omega (
  arith,
  length-slice_split (λ b. b == 47) c.args.path.now,
  count_by-le-length (λ b. b == 47) c.args.path.now,
)))

pub returns : goal.returns
returns c =
    count_from_yields_List _ c.count.result c.count.ensures.ran
    (YieldsList-from_first (λ part. part.now) (λ left. left) (parts c.args.path.now) c.of.ensures)
