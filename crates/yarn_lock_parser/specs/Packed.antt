-- How an entry is kept: what most entries don't have takes no memory. Contracts of private functions alone read this.
use Rattle.std.specs.Prelude.{ℕ, Bool, ◌==◌, ◌&&◌, List, [], ◌∷◌, length}
use Rattle.yarn_lock_parser.specs.declared.descriptors.Descriptors.{Descriptors}
use Rattle.yarn_lock_parser.specs.declared.descriptors.Descriptors.TheVariants.{One, Several}
use Rattle.yarn_lock_parser.specs.declared.lists.Lists.{Lists}

-- the descriptors, in order
abbrev pub listed : Descriptors → List (List ℕ × List ℕ)
listed (One pair) = pair ∷ []
listed (Several pairs) = pairs.items

-- no list has an element
abbrev pub is_empty : Lists → Bool
is_empty l = (length l.dependencies.items == 0) && (length l.optional_dependencies.items == 0)
    && (length l.peer_dependencies.items == 0) && (length l.dependencies_meta.items == 0)
    && (length l.peer_dependencies_meta.items == 0)
