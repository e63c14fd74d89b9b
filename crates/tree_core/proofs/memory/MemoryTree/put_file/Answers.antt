use Rattle.std.proofs.Common.{◌≡◌, ◌≤◌, true, length, string_capacity, string_bytes, sym, subst, arith}
use Rattle.tree_core.specs.Tree.{IsValidTree, is_file_path}
use Rattle.tree_core.specs.Memory.{Memory, files_of}
use Rattle.tree_core.proofs.Conflicts.{store-after}
use Rattle.tree_core.proofs.memory.MemoryTree.put_file.Goals as goal

pub invariant_of-self-2 : goal.invariant_of-self-2
invariant_of-self-2 c =
    let path : is_file_path c.args.path.now ≡ true = grind arith in
    let canonical : is_file_path c.as_str-canonical.result.now ≡ true = grind arith in
    let fits : length c.args.path.now ≤ string_capacity c.ensure_no_conflict.new.buffer =
    omega (arith, c.in_ok-ensure_no_conflict.ensures.room) in
    let grows : string_capacity c.self.inside.prefix ≤ string_capacity c.ensure_no_conflict.new.buffer = omega arith in
    store-after c.put_at.result (files_of c.self.inside.files.entries) (files_of c.put_at.new.files.entries)
    (string_bytes c.in_ok-key.key) c.args.path.now c.args.file c.as_str-canonical.result.now
    (string_capacity c.self.inside.prefix) (string_capacity c.ensure_no_conflict.new.buffer)
    c.self.invariant grows fits c.in_ok-key.ensures.ok (sym c.as_str-canonical.ensures) path canonical
    c.in_ok-ensure_no_conflict.ensures.free c.put_at.ensures.ok c.put_at.ensures.err

pub returns-then-not-is_file_path-clause-valid : goal.returns-then-not-is_file_path-clause-valid
returns-then-not-is_file_path-clause-valid c =
    let P : Memory → Type 0 = λ m. IsValidTree m.files in subst P c.self.view_is c.self.invariant.valid

pub returns-clause-valid : goal.returns-clause-valid
returns-clause-valid c = (invariant_of-self-2 c).valid
