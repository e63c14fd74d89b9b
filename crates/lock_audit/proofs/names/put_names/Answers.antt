use Rattle.std.proofs.Common.{◌≡◌, ◌∙◌, [], ◌∷◌, map, arith}
use Rattle.std.proofs.lemmas.Grind.{common_steps}
use Rattle.pnp_core.specs.Manifest.{locator, rows_under}
use Rattle.lock_audit.proofs.NameSets.{adds_none, adds_then}
use Rattle.lock_audit.proofs.names.put_names.Goals as goal

pub loop-reference-init : goal.loop-reference-init
loop-reference-init c =
    let same : c.into_iter-reference-iterator.result ≡ c.args.references.now.entries =
    c.into_iter-reference-iterator.ensures.into_iter_gives ∙ c.iter-reference-items.ensures.rest in
    (tt, tt, λ whole h. rw same at h)

pub loop-reference-preserved : goal.loop-reference-preserved
loop-reference-preserved c = (
  tt,
  tt,
  λ whole h. (rw c.in-Some.ensures.steps at (c.loop-reference.invariant.2 whole))
      (adds_then _ _ whole (locator c.args.name.now c.in-Some.reference.now ∷ [])
      (map (λ row. row.0) (rows_under (c.args.name.now, c.next.new.self)))
      (rw (c.as_str.ensures, c.as_str-in-loop-reference.ensures) at c.in_ok-put_name.ensures) h),
)

pub returns : goal.returns
returns c =
    let none : c.loop-reference.reference-iterator ≡ [] = grind (arith, common_steps) in
    c.loop-reference.invariant.2 c.loop-reference.names (rw none (adds_none c.loop-reference.names))
