use Rattle.std.proofs.Common.{is_some, sym, ap, ◌∙◌}
use Rattle.tree_core.specs.Memory.{Memory}
use Rattle.tree_core.specs.Tree.{is_file}
use Rattle.tree_core.proofs.Entries.{get-files_of}
use Rattle.tree_core.proofs.memory.MemoryTree.has_file.Goals as goal

pub returns : goal.returns
returns c = c.contains_key.ensures ∙ ap is_some (sym (get-files_of c.self.inside.files.entries c.args.p.now))
    ∙ ap (λ (m : Memory). is_file m.files c.args.p.now) c.self.view_is
