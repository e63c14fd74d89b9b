use Rattle.std.proofs.Common.{Some, option_map, sym, ap, ◌∙◌}
use Rattle.tree_core.specs.Memory.{Memory}
use Rattle.tree_core.specs.Tree.{TreeFile, bytes_at}
use Rattle.tree_core.proofs.Entries.{get-files_of}
use Rattle.tree_core.proofs.memory.MemoryTree.file.Goals as goal

pub returns-in-None : goal.returns-in-None
returns-in-None c =
    ap (option_map (λ (f : TreeFile). f.content)) (c.in-None.ensures.value
    ∙ sym (get-files_of c.self.inside.files.entries c.args.path.now))
    ∙ ap (λ (m : Memory). bytes_at m.files c.args.path.now) c.self.view_is

pub returns-in-Some : goal.returns-in-Some
returns-in-Some c =
    ap Some c.as_slice.ensures
    ∙ ap (option_map (λ (f : TreeFile). f.content)) (c.in-Some.ensures.value
    ∙ sym (get-files_of c.self.inside.files.entries c.args.path.now))
    ∙ ap (λ (m : Memory). bytes_at m.files c.args.path.now) c.self.view_is
