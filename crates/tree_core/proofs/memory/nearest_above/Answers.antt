use Rattle.tree_core.specs.Before.{SharesNoFile}
use Rattle.tree_core.specs.Memory.{files_of, NoneAbove}
use Rattle.tree_core.proofs.Before.{none-above, none-above-first, none_then}
use Rattle.tree_core.proofs.memory.nearest_above.Goals as goal

pub returns-in_err-before-clause-none : goal.returns-in_err-before-clause-none
returns-in_err-before-clause-none c = rw c.from_residual.ensures
    (none-above-first (files_of c.args.files.now.entries) c.args.path.now _ 47 c.requires.valid
    c.in_err-before.ensures.last c.requires.prefix)

pub returns-clause-none : goal.returns-clause-none
returns-clause-none c =
    none_then (SharesNoFile (files_of c.args.files.now.entries) c.args.path.now c.in_ok-before.before.now)
    (NoneAbove (files_of c.args.files.now.entries) c.args.path.now) c.shared_file.result c.shared_file.ensures.none
    (none-above (files_of c.args.files.now.entries) c.args.path.now c.in_ok-before.before.now _ 47 c.requires.valid
    c.in_ok-before.ensures.file c.in_ok-before.ensures.before c.in_ok-before.ensures.last c.requires.prefix)
