use Rattle.std.proofs.Common.{sym, ◌∙◌}
use Rattle.tree_core.specs.Memory.{files_of}
use Rattle.tree_core.proofs.Before.{first-tells, below-tells, last-tells}
use Rattle.tree_core.proofs.memory.has_conflict.Goals as goal

pub returns-in-None : goal.returns-in-None
returns-in-None c = sym (first-tells (files_of c.args.files.now.entries) c.args.path.now _ c.requires.valid
    c.requires.path c.in-None.ensures.last c.requires.past)

pub returns-then-stands_above : goal.returns-then-stands_above
returns-then-stands_above c =
    c.if-stands_above.true ∙ sym (below-tells (files_of c.args.files.now.entries) c.args.path.now c.in-Some.before.now
    c.in-Some.ensures.file (sym c.stands_above.ensures ∙ c.if-stands_above.true))

pub returns-else-stands_above : goal.returns-else-stands_above
returns-else-stands_above c =
    c.is_some.ensures
    ∙ sym (last-tells (files_of c.args.files.now.entries) c.args.path.now c.in-Some.before.now _ c.shared_file.result
    c.requires.valid c.requires.path c.in-Some.ensures.file c.in-Some.ensures.before c.in-Some.ensures.last
    c.requires.past
    (sym c.stands_above.ensures ∙ c.if-stands_above.false) c.shared_file.ensures.file c.shared_file.ensures.above
    c.shared_file.ensures.none)
