use Rattle.std.proofs.Common.{
  ◌≡◌,
  ◌<◌,
  ◌+◌,
  ◌++◌,
  ◌∷◌,
  [],
  List,
  ℕ,
  is_some,
  nat_eq,
  length,
  string_bytes,
  string_capacity,
  sym,
  ap,
  ◌∙◌,
  arith,
}
use Rattle.std.specs.FinMap as map
use Rattle.std.specs.List.{find, list_any, starts_with}
use Rattle.tree_core.specs.Memory.{files_of}
use Rattle.tree_core.specs.Tree.{stands_above}
use Rattle.tree_core.proofs.Above.{continues}
use Rattle.tree_core.proofs.Conflicts.{any-found, is_some-option_map, any-below, when_err, when_ok}
use Rattle.tree_core.proofs.memory.finds_below.Goals as goal

pub returns-then-is_err-clause-missed : goal.returns-then-is_err-clause-missed
returns-then-is_err-clause-missed c = λ _ _.
    let full = when_err (string_capacity c.args.prefix.now < length c.args.path.now + 1) c.fill.result
    (sym c.is_err.ensures.value ∙ c.if-is_err.true) c.fill.ensures.full in
    omega arith

-- with room the answer is exact
below : (c : goal.After-is_some) → list_any (stands_above c.args.path.now)
    (map.keys (files_of c.args.files.now.entries)) ≡ c.is_some.result
below c =
    let prefix = when_ok (string_bytes c.fill.new.prefix ≡ c.args.path.now ++ 47 ∷ []) c.fill.result
    (sym c.is_err.ensures.value ∙ c.if-is_err.false) c.fill.ensures.ok in
    let found = c.first_with_prefix.ensures ∙ ap (λ (text : List ℕ). find (λ q. starts_with nat_eq q text)
    (map.keys (files_of c.args.files.now.entries))) prefix in
    any-below c.args.path.now (map.keys (files_of c.args.files.now.entries)) c.requires
    ∙ any-found (continues c.args.path.now) (map.keys (files_of c.args.files.now.entries)) ∙ ap is_some (sym found)
    ∙ is_some-option_map (λ q. q.now) c.first_with_prefix.result ∙ sym c.is_some.ensures

pub returns-clause-found : goal.returns-clause-found
returns-clause-found c = λ h. below c ∙ h

pub returns-clause-missed : goal.returns-clause-missed
returns-clause-missed c = λ none has. let is = below c in cc
