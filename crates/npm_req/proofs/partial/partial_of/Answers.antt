use Rattle.std.proofs.Common.{sym, ◌∙◌}
use Rattle.semver.specs.Parse.{version_parts}
use Rattle.npm_req.proofs.Components.{small_numbers}
use Rattle.npm_req.proofs.partial.partial_of.Goals as goal

pub returns-in-Some-clause-counted : goal.returns-in-Some-clause-counted
returns-in-Some-clause-counted c =
    let read = sym (c.in_ok-version.ensures {u = tt}) ∙ c.in-Some.is in
    rw c.without_build.ensures (small_numbers (version_parts c.args.text.now) c.in-Some.version read)
