use Rattle.std.proofs.Common.{◌≡◌, ◌∷◌, [], false, bytes_eq, string_capacity, ap, ◌∙◌, arith}
use Rattle.tree_core.specs.Memory.{Memory, files_of}
use Rattle.tree_core.specs.Tree.{is_folder}
use Rattle.tree_core.proofs.Conflicts.{folder-found}
use Rattle.tree_core.proofs.memory.MemoryTree.has_folder.Goals as goal

pub returns-clause-value : goal.returns-clause-value
returns-clause-value c =
    let apart : bytes_eq c.args.p.now (47 ∷ []) ≡ false = grind arith in
    folder-found (files_of c.self.inside.files.entries) c.args.p.now (string_capacity c.self.inside.prefix)
    c.finds_below.result c.self.invariant apart c.finds_below.ensures.found c.finds_below.ensures.missed
    ∙ ap (λ (m : Memory). is_folder m.files c.args.p.now) c.self.view_is
