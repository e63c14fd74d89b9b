use Rattle.std.proofs.Common.{refl, sym, ◌∙◌}
use Rattle.json_reading.proofs.Readings.{reads_stops, reads_then, some_then}
use Rattle.document_core.specs.Mapping.{mapping_of}
use Rattle.document_core.proofs.mapping.mapping_of.Goals as goal

pub returns-in_err-base_url : goal.returns-in_err-base_url
unfolding mapping_of
returns-in_err-base_url g c = reads_stops _ _ _ _ c.from_residual.ensures.1 c.in_err-base_url.ensures

pub returns-in_err-paths : goal.returns-in_err-paths
unfolding mapping_of
returns-in_err-paths g c =
    reads_then _ _ _ c.in_ok-base_url.ensures
    (reads_stops _ _ _ _ c.from_residual-in_err-paths.ensures.1 c.in_err-paths.ensures)

pub returns-in-Some : goal.returns-in-Some
unfolding mapping_of
returns-in-Some g c =
    some_then _ _ c.in_ok-base_url.ensures
    (some_then _ _ c.in_ok-paths.ensures (some_then _ _ (sym c.requires ∙ c.in-Some.is) refl))

pub returns-in-None : goal.returns-in-None
unfolding mapping_of
returns-in-None g c = rw (c.in_ok-base_url.ensures, c.in_ok-paths.ensures, sym c.requires ∙ c.in-None.is) refl
