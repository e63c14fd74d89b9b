-- What clauses read of the components' types.
use Rattle.std.specs.Prelude.{List, [], ◌∷◌, ◌++◌, ℕ, Option, Some, None}
use denote.Ref.{Bor}
use Rattle.sugar_path.specs.declared.component.Component.{Component}
use Rattle.sugar_path.specs.declared.component.Component.TheVariants.{RootDir, CurDir, ParentDir, Normal}
use Rattle.sugar_path.specs.Path.{parts}
use Rattle.sugar_path.specs.PathTypes.{path_bytes}
use Rattle.sugar_path.specs.Component.{Piece, Root, Here, Above, Name, pieces}

-- what a `Component` says
abbrev pub told : Component → Piece
told RootDir = Root
told CurDir = Here
told ParentDir = Above
told (Normal p) = Name (path_bytes p)

-- a component that there may be
abbrev pub told_if : Option Component → List Piece
told_if None = []
told_if (Some c) = told c ∷ []

-- the parts of what is left of a path
abbrev pub parts_if : Option (Bor (List ℕ)) → List (List ℕ)
parts_if None = []
parts_if (Some t) = parts t.now

-- the components that are still to come: the beginning, where it was not told yet, and those of the parts that are left
abbrev pub components_left : Option Component → Option (Bor (List ℕ)) → List Piece
components_left beginning rest = told_if beginning ++ pieces (parts_if rest)
