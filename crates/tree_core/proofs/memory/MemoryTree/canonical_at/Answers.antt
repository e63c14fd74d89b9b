use Rattle.std.proofs.Common.{Some, option_map, sym, ap, ◌∙◌}
use Rattle.std.specs.FinMap as map
use Rattle.tree_core.specs.Memory.{Memory}
use Rattle.tree_core.specs.Tree.{TreeFile}
use Rattle.tree_core.proofs.Entries.{get-files_of}
use Rattle.tree_core.proofs.memory.MemoryTree.canonical_at.Goals as goal

pub returns-in-None : goal.returns-in-None
returns-in-None c =
    ap (option_map (λ (f : TreeFile). f.canonical)) (c.in-None.ensures.value
    ∙ sym (get-files_of c.self.inside.files.entries c.args.p.now))
    ∙ ap (λ (m : Memory). option_map (λ f. f.canonical) (map.get m.files c.args.p.now)) c.self.view_is

pub returns-in_ok-try_clone-in-Some : goal.returns-in_ok-try_clone-in-Some
returns-in_ok-try_clone-in-Some c =
    ap Some c.in_ok-try_clone-in-Some.ensures
    ∙ ap (option_map (λ (f : TreeFile). f.canonical)) (c.in-Some.ensures.value
    ∙ sym (get-files_of c.self.inside.files.entries c.args.p.now))
    ∙ ap (λ (m : Memory). option_map (λ f. f.canonical) (map.get m.files c.args.p.now)) c.self.view_is
