use Rattle.std.proofs.Common.{option_map, sym, ap, ◌∙◌, arith}
use Rattle.std.specs.Prelude.{option_and_then}
use Rattle.serde_json.specs.Data.{depth}
use Rattle.serde_json.specs.View.{view, members_view}
use Rattle.serde_json.proofs.Views.{view_of_ref, view-lookup}
use Rattle.package_exports.specs.Exported.{target}
use Rattle.package_exports.proofs.Targets.{item-depth, member-depth, under-member}
use Rattle.package_exports.proofs.exports.+targets.Goals as goal

pub first_target-target-found-requires : goal.first_target-target-found-requires
first_target-target-found-requires t c =
    let below = item-depth c.args.items.now c.loop-item.item-index c.item-item.result c.loop-item-test.true in
    let depth_is = ap (λ v. depth (view v)) c.item-item.is in
    (omega (arith, below, depth_is, c.decreases), tt)

pub under-target-requires : goal.under-target-requires
under-target-requires t c =
    let found = sym (view_of_ref c.get.result ∙ ap (option_map view) c.get.ensures.value
    ∙ view-lookup c.args.condition.now c.args.members.now.entries)
    ∙ ap (option_map (λ x. view x.now)) c.in-Some.is in
    let below =
    member-depth c.args.condition.now (members_view c.args.members.now.entries) (view c.in-Some.value.now) found in
    (omega (arith, below, c.requires), tt)

pub under-returns-in-Some : goal.under-returns-in-Some
under-returns-in-Some t c =
    let found = sym (view_of_ref c.get.result ∙ ap (option_map view) c.get.ensures.value
    ∙ view-lookup c.args.condition.now c.args.members.now.entries)
    ∙ ap (option_map (λ x. view x.now)) c.in-Some.is in
    c.target.ensures
    ∙ sym (under-member c.args.conditions.now c.args.condition.now (members_view c.args.members.now.entries)
    ∙ ap (option_and_then (target c.args.conditions.now)) found)

pub under-returns-in-None : goal.under-returns-in-None
under-returns-in-None t c =
    let found = sym (view_of_ref c.get.result ∙ ap (option_map view) c.get.ensures.value
    ∙ view-lookup c.args.condition.now c.args.members.now.entries)
    ∙ ap (option_map (λ x. view x.now)) c.in-None.is in
    sym (under-member c.args.conditions.now c.args.condition.now (members_view c.args.members.now.entries)
    ∙ ap (option_and_then (target c.args.conditions.now)) found)
