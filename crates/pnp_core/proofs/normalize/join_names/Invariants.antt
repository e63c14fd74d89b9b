use Rattle.std.proofs.Common.{◌≡◌, string_bytes, take}
use Rattle.pnp_core.specs.Slashed.{names_of}
use Rattle.pnp_core.specs.VirtualPath.{joined}
use Rattle.pnp_core.proofs.normalize.join_names.Given as goal

-- the names so far are written
abbrev pub invariant-loop-index : goal.invariant-loop-index
invariant-loop-index l = string_bytes l.text ≡ joined (names_of (take l.index l.names))
