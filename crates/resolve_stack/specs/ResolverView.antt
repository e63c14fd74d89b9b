-- What contracts see of the join as a resolver.
use Rattle.resolve_stack.specs.declared.pnp_resolver.KnownJoin.{KnownJoin}
use Rattle.resolve_stack.specs.declared.pnp_resolver.PnpResolver.{PnpResolver}
use Rattle.resolve_stack.specs.Known.{KnownSettings}
use Rattle.resolve_stack.specs.Settings.{ProjectSettings}

-- the project whose join it is
abbrev pub joined_project : PnpResolver → ProjectSettings
joined_project r = r.project.now

-- the project whose join it is, and the manifests that are known beforehand
abbrev pub joined_known : KnownJoin → KnownSettings
joined_known j = record { project = j.known.project.now; known = j.known.known.now }
