use Rattle.std.proofs.Common.{refl, ap}
use Rattle.tree_core.proofs.Asking.{asks_as, asks_done, asks_fails, asks_starved}
use Rattle.swc_loader.specs.declared.resolution.FileName.TheVariants.{Real}
use Rattle.swc_loader.specs.Spelling.{canonical_name}
use Rattle.swc_loader.proofs.spelling.canonical.Goals as goal

pub returns-in_err-name : goal.returns-in_err-name
unfolding canonical_name
returns-in_err-name g c = asks_fails _ _ c.from_residual.ensures.1 c.in_err-name.ensures

pub returns-in-Some : goal.returns-in-Some
unfolding canonical_name
returns-in-Some g c = asks_as _ c.in_ok-name.ensures c.in-Some.is (asks_done refl)

pub returns-in_err-to_text-in-None : goal.returns-in_err-to_text-in-None
unfolding canonical_name
returns-in_err-to_text-in-None g c =
    asks_as _ c.in_ok-name.ensures c.in-None.is (asks_starved _ c.from_residual-in_err-to_text-in-None.ensures.1)

pub returns-in_ok-to_text-in-None : goal.returns-in_ok-to_text-in-None
unfolding canonical_name
returns-in_ok-to_text-in-None g c =
    asks_as _ c.in_ok-name.ensures c.in-None.is (asks_done (ap Real c.in_ok-to_text-in-None.ensures.text))
