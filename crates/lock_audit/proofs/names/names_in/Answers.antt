use Rattle.std.proofs.Common.{◌≡◌, ◌∙◌, [], map, arith}
use Rattle.std.proofs.lemmas.Grind.{common_steps}
use Rattle.pnp_core.specs.Manifest.{rows, rows_under}
use Rattle.lock_audit.proofs.NameSets.{adds_none, adds_rows, are_names}
use Rattle.lock_audit.proofs.names.names_in.Goals as goal

pub loop-name-init : goal.loop-name-init
loop-name-init c =
    let same : c.into_iter-name-iterator.result ≡ c.args.registry.now.entries =
    c.into_iter-name-iterator.ensures.into_iter_gives ∙ c.iter-name-items.ensures.rest in
    (tt, tt, λ whole h. rw same at h)

pub loop-name-preserved : goal.loop-name-preserved
loop-name-preserved c = (
  tt,
  tt,
  λ whole h. (rw c.in-Some.ensures.steps at (c.loop-name.invariant.2 whole))
      (adds_rows c.loop-name.names c.put_names.new.names whole
      (rows_under (c.in-Some.name.now, c.in-Some.references.now.entries))
      (rows (map (λ named. (named.0, named.1.entries)) c.next.new.self)) c.in_ok-put_names.ensures h),
)

pub returns : goal.returns
returns c =
    let none : c.loop-name.name-iterator ≡ [] = grind (arith, common_steps) in
    are_names (record { resolutions = c.new.result; releases = c.new-2.result }) c.loop-name.names _ c.new.ensures.empty
    c.new-2.ensures.empty
    (c.loop-name.invariant.2 c.loop-name.names (rw none (adds_none c.loop-name.names)))
