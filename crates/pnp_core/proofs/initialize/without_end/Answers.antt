use Rattle.std.proofs.Common.{inl, inr, refl, lit<}
use Rattle.std.proofs.lemmas.Str.Pattern.{strip_suffix_char}
use Rattle.pnp_core.proofs.initialize.without_end.Goals as goal

pub returns-in-None : goal.returns-in-None
returns-in-None c = inl refl

pub returns-in-Some : goal.returns-in-Some
returns-in-Some c = inr (rw c.in-Some.is at (strip_suffix_char 47 c.args.text.now c.strip_suffix.result
    c.strip_suffix.ensures.cases (lit< tt)))
