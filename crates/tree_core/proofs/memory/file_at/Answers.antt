use Rattle.std.proofs.Common.{◌≡◌, true, false, cond, Some, None, is_some, sym, ap, ◌∙◌}
use Rattle.tree_core.specs.Memory.{files_of}
use Rattle.tree_core.specs.Tree.{is_file}
use Rattle.tree_core.proofs.Entries.{get-files_of}
use Rattle.tree_core.proofs.memory.file_at.Goals as goal

pub returns-then-contains_key : goal.returns-then-contains_key
returns-then-contains_key c =
    let told : is_file (files_of c.args.files.now.entries) c.args.path.now ≡ true =
    ap is_some (get-files_of c.args.files.now.entries c.args.path.now) ∙ sym c.contains_key.ensures
    ∙ c.if-contains_key.true in
    ap (λ b. cond b (Some c.args.path.now) None) (sym told)

pub returns : goal.returns
returns c =
    let told : is_file (files_of c.args.files.now.entries) c.args.path.now ≡ false =
    ap is_some (get-files_of c.args.files.now.entries c.args.path.now) ∙ sym c.contains_key.ensures
    ∙ c.if-contains_key.false in
    ap (λ b. cond b (Some c.args.path.now) None) (sym told)
