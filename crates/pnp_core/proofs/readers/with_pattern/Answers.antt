use Rattle.std.proofs.Common.{refl}
use Rattle.std.specs.Str.{chars}
use Rattle.es_pattern.specs.Accepted.{pattern_of}
use Rattle.pnp_core.proofs.Hydrations.{pattern_refused}
use Rattle.pnp_core.proofs.readers.with_pattern.Goals as goal

pub returns-in_err-parse : goal.returns-in_err-parse
returns-in_err-parse c = rw (c.in-Some.is, ← c.as_str.ensures)
    (pattern_refused c.args.manifest (pattern_of (chars c.as_str.result.now)) c.in_err-parse.field-0.0
    c.from_residual.result c.from_residual.ensures.1 c.in_err-parse.ensures.none)

pub returns : goal.returns
returns c = rw (c.in-Some.is, ← c.as_str.ensures, c.in_ok-parse.ensures.reads, ← c.manifest.view_is) refl
