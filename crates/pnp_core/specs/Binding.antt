-- What a package's row binds a name to.
use Rattle.std.specs.Prelude.{
  ℕ,
  Bool,
  false,
  not,
  ◌&&◌,
  if◌then◌else◌,
  List,
  [],
  Option,
  Some,
  None,
  bytes_eq,
  option_and_then,
}
use Rattle.std.specs.List.{list_any}
use Rattle.pnp_core.specs.declared.manifest.Binding.{Binding}
use Rattle.pnp_core.specs.declared.manifest.Binding.TheVariants.{Bound, MissingPeer, Undeclared}
use Rattle.pnp_core.specs.declared.manifest.PackageLocator.{PackageLocator}
use Rattle.pnp_core.specs.declared.manifest.PackageDependency.{PackageDependency}
use Rattle.pnp_core.specs.declared.manifest.PackageDependency.TheVariants.{Reference, Alias}
use Rattle.std.specs.Option.{option_or}
use Rattle.pnp_core.specs.Manifest.{Contents, at, locator, locator_eq, top_level, package_at}

-- the locator that a binding of a name means
abbrev pub bound_to : List ℕ → PackageDependency → PackageLocator
bound_to name (Reference r) = locator name r
bound_to name (Alias n r) = locator n r

-- what a locator's row says of a name: nothing, null, or a binding
abbrev pub own : Contents → PackageLocator → List ℕ → Option (Option PackageDependency)
own m l name =
    option_and_then (λ p. at name p.package_dependencies) (package_at m.package_registry_data l)

-- a binding that isn't null
abbrev pub given : Option (Option PackageDependency) → Option PackageDependency
given None = None
given (Some dependency) = dependency

-- the fallback list names the locator
abbrev pub is_excluded : Contents → PackageLocator → Bool
is_excluded m l = references_have (at l.name m.fallback_exclusion_list)
  where
    references_have : Option (List (List ℕ)) → Bool
    references_have None = false
    references_have (Some references) = list_any (bytes_eq l.reference) references

abbrev pub is_root : Contents → PackageLocator → Bool
is_root m l = list_any (locator_eq l) m.dependency_tree_roots

-- a fallback is allowed to packages other than the top-level one, where it is on and the list doesn't exclude them
abbrev pub may_fall_back : Contents → PackageLocator → Bool
may_fall_back m o = not (bytes_eq o.name []) && m.enable_top_level_fallback && not (is_excluded m o)

-- the top-level row's binding if it isn't null, else the pool's
abbrev pub fallback : Contents → List ℕ → Option PackageDependency
fallback m name = option_or (given (own m top_level name)) (given (at name m.fallback_pool))

abbrev pub allowed_fallback : Contents → PackageLocator → List ℕ → Option PackageDependency
allowed_fallback m o name = if may_fall_back m o then fallback m name else None

-- with no binding of its own and no fallback: null is a peer that nobody provides
abbrev pub unbound : Option (Option PackageDependency) → Binding
unbound None = Undeclared
unbound (Some dependency) = MissingPeer

abbrev pub bound_or : Binding → List ℕ → Option PackageDependency → Binding
bound_or other name None = other
bound_or other name (Some dependency) = Bound (bound_to name dependency)

-- the binding of a name for an owner: its own, else a fallback that is allowed
abbrev pub bind : Contents → PackageLocator → List ℕ → Binding
bind m o name =
    bound_or (unbound (own m o name)) name
    (option_or (given (own m o name)) (allowed_fallback m o name))
