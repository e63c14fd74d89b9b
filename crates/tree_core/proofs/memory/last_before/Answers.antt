use Rattle.std.proofs.Common.{ℕ, List, Some, IsTrue, sym, subst}
use Rattle.tree_core.specs.Memory.{files_of}
use Rattle.tree_core.specs.Tree.{is_file}
use Rattle.tree_core.specs.Before.{IsNoLater}
use Rattle.tree_core.proofs.Before.{last-file, last-no_later, none-no_later}
use Rattle.tree_core.proofs.memory.last_before.Goals as goal

pub returns-in-None-clause-last : goal.returns-in-None-clause-last
returns-in-None-clause-last c = none-no_later c.args.text.now c.args.files.now.entries c.range.result
    c.range.ensures.ordered (c.range.ensures.between tt) c.in-None.ensures.steps.0

pub returns-in-Some-clause-file : goal.returns-in-Some-clause-file
returns-in-Some-clause-file c =
    let P : List ℕ → Type 0 = λ p. IsTrue (is_file (files_of c.args.files.now.entries) p) in
    subst P (sym c.as_str.ensures.value) (last-file c.args.text.now c.args.files.now.entries c.range.result _ _
    c.range.ensures.ordered (c.range.ensures.between tt) c.in-Some.ensures.steps).0

pub returns-in-Some-clause-last : goal.returns-in-Some-clause-last
returns-in-Some-clause-last c = λ q there less.
    let P : List ℕ → Type 0 = λ p. IsNoLater q (Some p) in
    subst P (sym c.as_str.ensures.value) (last-no_later c.args.text.now c.args.files.now.entries c.range.result _ _
    c.range.ensures.ordered (c.range.ensures.between tt) c.in-Some.ensures.steps q there less)
