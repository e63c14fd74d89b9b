use Rattle.std.proofs.Common.{is_some, string_capacity, sym, ap, ◌∙◌}
use Rattle.std.specs.FinMap as map
use Rattle.tree_core.specs.Memory.{Memory, files_of}
use Rattle.tree_core.specs.Tree.{is_file}
use Rattle.tree_core.proofs.Entries.{get-files_of, files_of-remove}
use Rattle.tree_core.proofs.Conflicts.{store-remove}
use Rattle.tree_core.proofs.memory.MemoryTree.remove.Goals as goal

pub invariant_of-self : goal.invariant_of-self
invariant_of-self c = rw (files_of-remove c.self.inside.files c.remove.new.self c.args.path.now
    c.remove.ensures.updates) (store-remove (files_of c.self.inside.files.entries) c.args.path.now
    (string_capacity c.self.inside.prefix) c.self.invariant)

pub returns-clause-was : goal.returns-clause-was
returns-clause-was c =
    c.is_some.ensures ∙ ap is_some (c.remove.ensures.value
    ∙ sym (get-files_of c.self.inside.files.entries c.args.path.now))
    ∙ ap (λ (m : Memory). is_file m.files c.args.path.now) c.self.view_is

pub returns-clause-gone : goal.returns-clause-gone
returns-clause-gone c =
    let files = files_of-remove c.self.inside.files c.remove.new.self c.args.path.now c.remove.ensures.updates
    ∙ ap (λ (m : Memory). map.remove m.files c.args.path.now) c.self.view_is in
    let questions = ap (λ (m : Memory). m.questions) c.self.view_is in
    λ i. record { files = files i; questions = questions i }

pub returns-clause-valid : goal.returns-clause-valid
returns-clause-valid c = (invariant_of-self c).valid
