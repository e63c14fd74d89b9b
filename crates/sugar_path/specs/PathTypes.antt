-- What clauses read of the path types.
use Rattle.std.specs.Prelude.{ℕ, Bool, true, false, List, []}
use Rattle.sugar_path.specs.declared.path.Path.{Path}
use Rattle.sugar_path.specs.declared.path.PathCow.{PathCow}
use Rattle.sugar_path.specs.declared.path.PathCow.TheVariants.{Borrowed, Owned}
use Rattle.sugar_path.specs.declared.path.CwdAnswer.{CwdAnswer}
use Rattle.sugar_path.specs.declared.path.CwdAnswer.TheVariants.{Known, Unknown}
use Rattle.sugar_path.specs.Path.{is_absolute}

-- the bytes of a `Path`
abbrev pub path_bytes : Path → List ℕ
path_bytes p = p.bytes.now

-- the bytes of a path that is borrowed or owned
abbrev pub cow_bytes : PathCow → List ℕ
cow_bytes (Borrowed p) = path_bytes p
cow_bytes (Owned p) = p

-- the path is borrowed and not a copy
abbrev pub is_borrowed : PathCow → Bool
is_borrowed (Borrowed p) = true
is_borrowed (Owned p) = false

-- the working folder where it is known, and else an empty path
abbrev pub folder_of : CwdAnswer → List ℕ
folder_of (Known p) = p
folder_of Unknown = []

abbrev pub is_known : CwdAnswer → Bool
is_known (Known p) = true
is_known Unknown = false

-- a known working folder is absolute
abbrev pub absolute_if_known : CwdAnswer → Bool
absolute_if_known (Known p) = is_absolute p
absolute_if_known Unknown = true
