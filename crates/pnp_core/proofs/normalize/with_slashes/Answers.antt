use Rattle.std.proofs.Common.{◌++◌, string_bytes, ap, sym, ◌∙◌, append_assoc, rules, lit<}
use Rattle.std.proofs.lemmas.Str.Pattern.{split_once_first}
use Rattle.pnp_core.proofs.Slashes.{slashed-none, slashed-first}
use Rattle.pnp_core.proofs.normalize.with_slashes.Goals as goal

pub loop-front-preserved : goal.loop-front-preserved
loop-front-preserved c =
    let cut = rw c.in-Some.is at (split_once_first 92 c.loop-front.rest.now c.split_once.result
    c.split_once.ensures.cases (lit< tt)) in (
      search rules,
      rw (c.in_ok-push_str-2.ensures.bytes, c.in_ok-push_str.ensures.bytes, append_assoc, append_assoc, cut.2, cut.1)
          (ap (λ s. string_bytes c.loop-front.slashed ++ s) (sym (slashed-first c.loop-front.rest.now cut.0))
          ∙ c.loop-front.invariant.1),
    )

pub returns : goal.returns
returns c =
    let none = rw c.in_default.is at (split_once_first 92 c.loop-front.rest.now c.split_once.result
    c.split_once.ensures.cases (lit< tt)) in
    rw c.in_ok-push_str-3.ensures.bytes (ap (λ s. string_bytes c.loop-front.slashed ++ s)
    (sym (slashed-none c.loop-front.rest.now none)) ∙ c.loop-front.invariant.1)
