use Rattle.std.proofs.Common.{sym}
use Rattle.resolver_core.proofs.Fitting.{deciding-matches}
use Rattle.resolver_core.proofs.requests.map_request.Goals as goal

pub by_wildcard-requires : goal.by_wildcard-requires
by_wildcard-requires g c =
    deciding-matches c.args.request.now.version c.args.patterns.now c.args.request.now.specifier.now
    c.in-Some-Starred.wildcard
    (sym (rw c.in-Some-Starred.field-0-is at c.in-Some-Starred.ensures))
