use Rattle.std.proofs.Common.{sym, ◌∙◌}
use Rattle.std.proofs.lemmas.Bool.Decides.{Decides-eqb, not_from_Decides}
use Rattle.std.proofs.lemmas.Slice.Eq.{strip_prefix_is}
use Rattle.sugar_path.proofs.Below.{below-other, below-whole, below-more}
use Rattle.sugar_path.proofs.clean_path.CleanPath.is_below.Goals as goal

pub returns-in-None : goal.returns-in-None
returns-in-None c =
    let cut = rw (
      c.in-None.is,
      c.as_bytes-steps.ensures.value,
      c.as_bytes.ensures.value,
      c.as_str.ensures,
      c.as_str-2.ensures,
    ) at (strip_prefix_is Decides-eqb c.as_bytes-steps.result.now c.as_bytes.result.now
    c.strip_prefix.result c.strip_prefix.ensures.cases) in
    rw (← c.self.view_is, ← c.location.view_is) (below-other _ _ c.self.invariant c.location.invariant cut)

pub returns-then-is_empty : goal.returns-then-is_empty
returns-then-is_empty c =
    let cut = rw (
      c.in-Some.is,
      c.as_bytes-steps.ensures.value,
      c.as_bytes.ensures.value,
      c.as_str.ensures,
      c.as_str-2.ensures,
    ) at (strip_prefix_is Decides-eqb c.as_bytes-steps.result.now c.as_bytes.result.now
    c.strip_prefix.result c.strip_prefix.ensures.cases) in
    rw (c.if-is_empty.true, ← c.self.view_is, ← c.location.view_is)
    (below-whole _ _ _ c.self.invariant c.location.invariant cut
    ((Decides-eqb _ 0).0 (sym c.is_empty.ensures ∙ c.if-is_empty.true)))

pub returns-else-is_empty : goal.returns-else-is_empty
returns-else-is_empty c =
    let cut = rw (
      c.in-Some.is,
      c.as_bytes-steps.ensures.value,
      c.as_bytes.ensures.value,
      c.as_str.ensures,
      c.as_str-2.ensures,
    ) at (strip_prefix_is Decides-eqb c.as_bytes-steps.result.now c.as_bytes.result.now
    c.strip_prefix.result c.strip_prefix.ensures.cases) in
    rw (← c.self.view_is, ← c.location.view_is)
    (below-more _ _ _ c.self.invariant c.location.invariant cut
    (not_from_Decides _ (Decides-eqb _ 0) (sym c.is_empty.ensures ∙ c.if-is_empty.false)))
