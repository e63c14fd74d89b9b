use Rattle.std.proofs.Common.{◌∷◌, [], sym, ◌∙◌}
use Rattle.std.proofs.lemmas.Bool.Decides.{Decides-eqb, not_from_Decides}
use Rattle.std.proofs.lemmas.Slice.Eq.{strip_prefix_is, bytes_eq-Decides}
use Rattle.sugar_path.proofs.PlaceParts.{root-parts, rooted-parts, here-parts, loose-parts}
use Rattle.sugar_path.proofs.ways.parts_of_place.Goals as goal

pub returns-in-Some : goal.returns-in-Some
returns-in-Some c = λ r h.
    let cut = rw c.in-Some.is at (strip_prefix_is Decides-eqb c.args.place.now (47 ∷ []) c.strip_prefix.result
    c.strip_prefix.ensures.cases) in
    root-parts r c.args.place.now c.in-Some.names.now h cut ((Decides-eqb _ 0).0
    (sym c.is_empty.ensures ∙ c.if-is_empty.true))

pub returns-in-Some-2 : goal.returns-in-Some-2
returns-in-Some-2 c = λ r h.
    let cut = rw c.in-Some.is at (strip_prefix_is Decides-eqb c.args.place.now (47 ∷ []) c.strip_prefix.result
    c.strip_prefix.ensures.cases) in
    rooted-parts r c.args.place.now c.in-Some.names.now h cut
    (not_from_Decides _ (Decides-eqb _ 0) (sym c.is_empty.ensures ∙ c.if-is_empty.false))

pub returns-in-None : goal.returns-in-None
returns-in-None c = λ r h. here-parts r c.args.place.now h ((bytes_eq-Decides c.args.place.now c.as_slice.result.now).0
    (sym c.eq.ensures ∙ c.if-eq.true) ∙ c.as_slice.ensures)

pub returns-in-None-2 : goal.returns-in-None-2
returns-in-None-2 c = λ r h.
    let cut = rw c.in-None.is at (strip_prefix_is Decides-eqb c.args.place.now (47 ∷ []) c.strip_prefix.result
    c.strip_prefix.ensures.cases) in
    let other = not_from_Decides _ (bytes_eq-Decides c.args.place.now c.as_slice.result.now)
    (sym c.eq.ensures ∙ c.if-eq.false) in
    loose-parts r c.args.place.now h cut (λ e. other (e ∙ sym c.as_slice.ensures))
