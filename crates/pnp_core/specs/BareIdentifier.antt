-- The package name and the subpath of a bare specifier.
use Rattle.std.specs.Prelude.{
  ◌≡◌,
  ℕ,
  Bool,
  ◌==◌,
  if◌then◌else◌,
  List,
  ◌∷◌,
  ◌++◌,
  length,
  Option,
  Some,
  None,
  get_or,
  nat_lt,
}
use Rattle.std.specs.List.{position_or_len, before_first, after_first}
use Rattle.pnp_core.specs.declared.error.Error.{Error}
use Rattle.pnp_core.specs.declared.error.Error.TheVariants.{BadSpecifier, NoMemory}
use Rattle.pnp_core.specs.Wording.{bad_specifier}

abbrev pub is_slash : ℕ → Bool
is_slash c = c == 47

abbrev pub has_slash : List ℕ → Bool
has_slash t = nat_lt (position_or_len is_slash t) (length t)

abbrev pub is_scoped : List ℕ → Bool
is_scoped t = get_or t 0 0 == 64

-- what stands before the first `/`, and all that follows it, where there is one
abbrev pub split_unscoped : List ℕ → List ℕ × Option (List ℕ)
split_unscoped t =
    (before_first is_slash t, (if has_slash t then Some (after_first is_slash t) else None))

-- a scope, a `/`, and then a name as one without scope
abbrev pub behind_scope : List ℕ → List ℕ × Option (List ℕ) → List ℕ × Option (List ℕ)
behind_scope scope rest = (scope ++ 47 ∷ rest.0, rest.1)

abbrev pub split_scoped : List ℕ → Option (List ℕ × Option (List ℕ))
split_scoped t =
    if has_slash t
    then Some (behind_scope (before_first is_slash t) (split_unscoped (after_first is_slash t)))
    else None

-- How a bare specifier falls into the name of a package and what is asked of that package. A scope and its `/` belong
-- to the name, so a scoped text is cut at its second `/`, any other text at its first. A scope alone is no name: None.
abbrev pub split_bare : List ℕ → Option (List ℕ × Option (List ℕ))
split_bare t = if is_scoped t then split_scoped t else Some (split_unscoped t)

-- the only refusal is that of a text that isn't split
abbrev pub IsSplitRefusal : List ℕ → Error → Type 0
IsSplitRefusal t (BadSpecifier refused) = (split_bare t ≡ None) × (refused ≡ bad_specifier t)
IsSplitRefusal t NoMemory = Unit {0}
IsSplitRefusal t _ = ⊥
