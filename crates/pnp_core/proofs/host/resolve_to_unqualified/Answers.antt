use Rattle.std.proofs.Common.{rules}
use Rattle.pnp_core.proofs.host.resolve_to_unqualified.Goals as goal

pub resolve_to_unqualified_via_manifest-requires-clause-ready :
    goal.resolve_to_unqualified_via_manifest-requires-clause-ready
resolve_to_unqualified_via_manifest-requires-clause-ready g c = c.requires.ready c.in-Some.manifest (search rules)
