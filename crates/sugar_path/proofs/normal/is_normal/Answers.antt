use Rattle.std.proofs.Common.{◌∷◌, [], ◌∙◌, sym}
use Rattle.std.proofs.lemmas.Bool.Decides.{Decides-eqb, not_from_Decides}
use Rattle.std.proofs.lemmas.Slice.Eq.{strip_suffix_is, bytes_eq-Decides}
use Rattle.sugar_path.proofs.RouteTexts.{told-same, told-other}
use Rattle.sugar_path.proofs.Placed.{is_normal-open, is_normal-root, is_normal-roots, is_normal-closed}
use Rattle.sugar_path.proofs.normal.is_normal.Goals as goal

pub returns-in-None : goal.returns-in-None
returns-in-None c =
    let cut = rw c.in-None.is at (strip_suffix_is Decides-eqb c.args.path.now (47 ∷ []) c.strip_suffix.result
    c.strip_suffix.ensures.cases) in
    is_normal-open c.args.path.now _ cut c.is_place.ensures

pub returns-then-is_empty : goal.returns-then-is_empty
returns-then-is_empty c =
    let cut = rw c.in-Some.is at (strip_suffix_is Decides-eqb c.args.path.now (47 ∷ []) c.strip_suffix.result
    c.strip_suffix.ensures.cases) in
    c.if-is_empty.true ∙ is_normal-root c.args.path.now c.in-Some.front.now cut
    ((Decides-eqb _ 0).0 (sym c.is_empty.ensures ∙ c.if-is_empty.true))

pub returns-then-ne : goal.returns-then-ne
returns-then-ne c =
    let cut = rw c.in-Some.is at (strip_suffix_is Decides-eqb c.args.path.now (47 ∷ []) c.strip_suffix.result
    c.strip_suffix.ensures.cases) in
    is_normal-closed c.args.path.now c.in-Some.front.now _ cut
    (not_from_Decides _ (Decides-eqb _ 0) (sym c.is_empty.ensures ∙ c.if-is_empty.false))
    (not_from_Decides _ (bytes_eq-Decides c.in-Some.front.now (47 ∷ []))
    (told-other c.in-Some.front.now c.as_slice.result.now (47 ∷ []) c.ne.result c.ne.ensures c.if-ne.true
    c.as_slice.ensures))
    c.is_place-then-ne.ensures

pub returns-else-ne : goal.returns-else-ne
returns-else-ne c =
    let cut = rw c.in-Some.is at (strip_suffix_is Decides-eqb c.args.path.now (47 ∷ []) c.strip_suffix.result
    c.strip_suffix.ensures.cases) in
    c.if-ne.false
    ∙ is_normal-roots c.args.path.now c.in-Some.front.now cut
    (told-same c.in-Some.front.now c.as_slice.result.now (47 ∷ []) c.ne.result c.ne.ensures c.if-ne.false
    c.as_slice.ensures)
