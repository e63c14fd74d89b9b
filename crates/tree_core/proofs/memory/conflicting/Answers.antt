use Rattle.std.proofs.Common.{nat_eq, List, is_some, sym, ap, ◌∙◌}
use Rattle.std.specs.FinMap as map
use Rattle.std.specs.List.{find, starts_with}
use Rattle.tree_core.specs.Memory.{files_of}
use Rattle.tree_core.specs.Tree.{stands_above}
use Rattle.tree_core.proofs.Conflicts.{conflict-is, conflict-below, none-above_folder, any-found, find-below}
use Rattle.tree_core.proofs.memory.conflicting.Goals as goal

pub returns-in-Some : goal.returns-in-Some
returns-in-Some c =
    let found = c.in-Some.ensures ∙ ap (λ (prefix : List _). find (λ p. starts_with nat_eq p prefix)
    (map.keys (files_of c.args.files.now.entries))) c.requires.prefix
    ∙ sym (find-below c.args.path.now (map.keys (files_of c.args.files.now.entries)) c.requires.path) in
    let below = any-found (stands_above c.args.path.now) (map.keys (files_of c.args.files.now.entries))
    ∙ ap is_some (sym found) in
    found ∙ sym (conflict-below (files_of c.args.files.now.entries) c.args.path.now
    (none-above_folder (files_of c.args.files.now.entries) c.args.path.now c.requires.valid c.requires.path below))

pub returns-in-None : goal.returns-in-None
returns-in-None c =
    let none = c.in-None.ensures ∙ ap (λ (prefix : List _). find (λ p. starts_with nat_eq p prefix)
    (map.keys (files_of c.args.files.now.entries))) c.requires.prefix
    ∙ sym (find-below c.args.path.now (map.keys (files_of c.args.files.now.entries)) c.requires.path) in
    conflict-is (files_of c.args.files.now.entries) c.args.path.now c.nearest_above.result c.requires.valid
    c.requires.path (sym none) c.nearest_above.ensures.file c.nearest_above.ensures.above
    c.nearest_above.ensures.none
