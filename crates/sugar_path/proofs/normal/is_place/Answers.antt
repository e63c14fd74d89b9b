use Rattle.std.proofs.Common.{◌∷◌, [], ◌∙◌}
use Rattle.std.proofs.lemmas.Bool.Decides.{Decides-eqb}
use Rattle.std.proofs.lemmas.Slice.Eq.{strip_prefix_is}
use Rattle.sugar_path.proofs.Placed.{placed-loose, placed-rooted, loose-then, loose-else, rooted-then, rooted-else}
use Rattle.sugar_path.proofs.normal.is_place.Goals as goal

pub returns-then-eq : goal.returns-then-eq
returns-then-eq c =
    let cut = rw c.in-None.is at (strip_prefix_is Decides-eqb c.args.path.now (47 ∷ []) c.strip_prefix.result
    c.strip_prefix.ensures.cases) in
    loose-then c.args.path.now c.as_slice.result.now c.eq.result c.eq.ensures c.as_slice.ensures c.if-eq.true
    ∙ placed-loose c.args.path.now cut

pub returns-else-eq : goal.returns-else-eq
returns-else-eq c =
    let cut = rw c.in-None.is at (strip_prefix_is Decides-eqb c.args.path.now (47 ∷ []) c.strip_prefix.result
    c.strip_prefix.ensures.cases) in
    loose-else c.args.path.now c.as_slice.result.now c.eq.result _ c.eq.ensures c.as_slice.ensures c.if-eq.false
    c.are_steps.ensures ∙ placed-loose c.args.path.now cut

pub returns-then-is_empty : goal.returns-then-is_empty
returns-then-is_empty c =
    let cut = rw c.in-Some.is at (strip_prefix_is Decides-eqb c.args.path.now (47 ∷ []) c.strip_prefix.result
    c.strip_prefix.ensures.cases) in
    rooted-then c.in-Some.names.now c.is_empty.result c.is_empty.ensures c.if-is_empty.true
    ∙ placed-rooted c.args.path.now c.in-Some.names.now cut

pub returns-else-is_empty : goal.returns-else-is_empty
returns-else-is_empty c =
    let cut = rw c.in-Some.is at (strip_prefix_is Decides-eqb c.args.path.now (47 ∷ []) c.strip_prefix.result
    c.strip_prefix.ensures.cases) in
    rooted-else c.in-Some.names.now c.is_empty.result _ c.is_empty.ensures c.if-is_empty.false
    c.are_steps-else-is_empty.ensures ∙ placed-rooted c.args.path.now c.in-Some.names.now cut
