use Rattle.std.proofs.Common.{codes, lt-ltb}
use Rattle.std.proofs.lemmas.Str.Pattern.{ends_text}
use Rattle.pnp_core.proofs.virtual_path.is_archive.Goals as goal

pub returns-then-segment-gt4 : goal.returns-then-segment-gt4
returns-then-segment-gt4 c =
    rw (lt-ltb _ _ c.if-segment-gt4.true) (ends_text _ (codes ".zip") c.args.segment.now c.ends_with.ensures.cases)
