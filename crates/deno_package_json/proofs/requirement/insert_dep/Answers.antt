use Rattle.std.proofs.Common.{◌≡◌, bytes_eq, false, subst, sym, ◌∙◌}
use Rattle.std.specs.Prelude.{is_some}
use Rattle.indexmap.specs.IndexMap.{get_by}
use Rattle.deno_package_json.specs.Message.{ArePlaced, IsPlaced}
use Rattle.deno_package_json.specs.Requirements.{Required, Requirements, required}
use Rattle.deno_package_json.proofs.NewNames.{with_new-insert_entry}
use Rattle.deno_package_json.proofs.PlacedRefusals.{ArePlaced-with_new}
use Rattle.deno_package_json.proofs.requirement.insert_dep.Goals as goal

pub returns-clause-with_new : goal.returns-clause-with_new
returns-clause-with_new c =
    let absent : is_some (get_by (bytes_eq c.args.name.now) c.args.deps.now) ≡ false =
    sym c.contains_key.ensures ∙ c.if-contains_key.false in
    let found = c.in_ok-found.ensures.required ∙ (λ i. required (c.as_str.ensures i) (c.as_str-2.ensures i)) in
    with_new-insert_entry c.args.deps.now c.args.name.now c.args.value.now _ _ _ absent c.in_ok-try_clone.ensures found
    c.in_ok-insert.ensures.entries

pub returns-clause-placed : goal.returns-clause-placed
returns-clause-placed c =
    let Placed : Required → Type 0 = IsPlaced in
    let AllPlaced : Requirements → Type 0 = ArePlaced in
    let found = c.in_ok-found.ensures.required ∙ (λ i. required (c.as_str.ensures i) (c.as_str-2.ensures i)) in
    let one = subst Placed found c.in_ok-found.ensures.placed in
    λ h. subst AllPlaced (sym (returns-clause-with_new c)) (ArePlaced-with_new c.args.deps.now.entries c.args.name.now
    c.args.value.now one h)
