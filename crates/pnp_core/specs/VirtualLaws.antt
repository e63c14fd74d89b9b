-- What holds of the parts of each path.
use Rattle.std.specs.Prelude.{◌≡◌, Bool, [], ◌++◌, Option, Some, None, IfSome}
use Rattle.pnp_core.specs.VirtualPath.{Segments, parts_of}

-- of a virtual path all that isn't the base, but what follows the archive
abbrev pub behind_base : Option (Segments × Segments) → Segments
behind_base None = []
behind_base (Some virtual) = virtual.0

-- the parts of a path are all its segments, one part behind the other, and its virtual part ends in the inner path
pub record PartsAreAll : Type 0 where
  pub all : (rooted : Bool) (ss : Segments) → let path =
      parts_of rooted ss in path.base ++ (behind_base path.virtual ++ path.archived) ≡ ss
  pub inner_last : (rooted : Bool) (ss : Segments)
      → IfSome (parts_of rooted ss).virtual (λ virtual. (front : Segments) × (virtual.0 ≡ front ++ virtual.1))
