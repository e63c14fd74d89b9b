-- The messages, as texts.
use Rattle.std.specs.Prelude.{ℕ, Bool, true, false, if◌then◌else◌, List, [], ◌∷◌, ◌++◌, codes, bytes_eq}
use Rattle.sugar_path.specs.Path.{Path, text_of}
use Rattle.tree_core.specs.Builtins.{is_builtin}
use Rattle.pnp_core.specs.declared.error.BadSpecifier.{BadSpecifier}
use Rattle.pnp_core.specs.declared.error.FailedManifestHydration.{FailedManifestHydration}
use Rattle.pnp_core.specs.declared.error.UndeclaredDependency.{UndeclaredDependency}
use Rattle.pnp_core.specs.declared.error.MissingPeerDependency.{MissingPeerDependency}
use Rattle.pnp_core.specs.declared.error.HydrationCause.{HydrationCause}
use Rattle.pnp_core.specs.declared.error.HydrationCause.TheVariants.{
  NotText,
  NoPayload,
  BadJson,
  BadPattern,
  NoTopLevel,
}
use Rattle.pnp_core.specs.declared.manifest.PackageLocator.{PackageLocator}
use Rattle.pnp_core.specs.Manifest.{Contents}
use Rattle.pnp_core.specs.Binding.{is_root}

unfoldable pub bad_specifier : List ℕ → BadSpecifier
bad_specifier specifier = record { message = codes "Invalid specifier"; specifier = specifier }

unfoldable pub cause_message : HydrationCause → List ℕ
cause_message NotText = codes "We failed to read the content of the manifest."
cause_message NoPayload =
    codes "We failed to locate the PnP data payload inside its manifest file. Did you manually edit the file?"
cause_message BadJson = codes "We failed to parse the PnP data payload as proper JSON; Did you manually edit the file?"
cause_message BadPattern =
    codes "We failed to parse the PnP data payload as proper JSON; Did you manually edit the file?"
cause_message NoTopLevel = codes "The PnP data payload has no top-level row."

abbrev pub failed_hydration : HydrationCause → Path → FailedManifestHydration
failed_hydration cause p =
    record { message = cause_message cause; manifest_path = text_of p; cause = cause }

-- the specifier, where it says more than the name
unfoldable pub via : List ℕ → List ℕ → List ℕ
via name specifier = if bytes_eq name specifier then [] else codes " (via \"" ++ specifier ++ codes "\")"

-- why a builtin that isn't declared is refused
unfoldable pub ambiguous_builtin : List ℕ → List ℕ → List ℕ → List ℕ
ambiguous_builtin who name whose =
    who ++ codes " tried to access " ++ name
    ++ codes ". While this module is usually interpreted as a Node builtin, your resolver is running inside a non-Node resolution context where such builtins are ignored. Since " ++ name
    ++ codes " isn't otherwise declared in " ++ whose
    ++ codes " dependencies, this makes the require call ambiguous and unsound."

unfoldable pub ambiguous : List ℕ → List ℕ → List ℕ → List ℕ
ambiguous who name whose =
    who ++ codes " tried to access " ++ name ++ codes ", but it isn't declared in " ++ whose
    ++ codes " dependencies; this makes the require call ambiguous and unsound."

unfoldable pub required : List ℕ → List ℕ → List ℕ
required name specifier =
    10 ∷ 10 ∷ codes "Required package: " ++ name ++ via name specifier ++ 10 ∷ codes "Required by: "

-- an undeclared dependency: of a builtin's name or not, asked by a root of the dependency tree or not
unfoldable pub undeclared_message : Bool → Bool → PackageLocator → List ℕ → List ℕ → List ℕ → List ℕ
undeclared_message true true o specifier name path =
    ambiguous_builtin (codes "Your application") name (codes "your") ++ required name specifier ++ path
undeclared_message true false o specifier name path =
    ambiguous_builtin o.name name (o.name ++ codes "'s") ++ required name specifier ++ path
undeclared_message false true o specifier name path =
    ambiguous (codes "Your application") name (codes "your") ++ required name specifier ++ path
undeclared_message false false o specifier name path =
    ambiguous o.name name (codes "its") ++ required name specifier ++ o.name ++ codes "@" ++ o.reference
    ++ codes " (via " ++ path ++ codes ")"

-- what is told of a name that its owner doesn't bind, asked by a specifier from a file
abbrev pub undeclared : Contents → PackageLocator → List ℕ → List ℕ → List ℕ → UndeclaredDependency
undeclared m o specifier name path = record {
  message = undeclared_message (is_builtin specifier) (is_root m o) o specifier name path;
  request = specifier;
  dependency_name = name;
  issuer_locator = o;
  issuer_path = path;
}

-- a peer that nobody provides, asked by a root of the dependency tree or not
unfoldable pub missing_peer_message : Bool → PackageLocator → List ℕ → List ℕ → List ℕ → List ℕ
missing_peer_message true o specifier name path =
    codes "Your application tried to access " ++ name
    ++ codes " (a peer dependency); this isn't allowed as there is no ancestor to satisfy the requirement. Use a devDependency if needed."
    ++ required name specifier ++ path
missing_peer_message false o specifier name path =
    o.name ++ codes " tried to access " ++ name
    ++ codes " (a peer dependency) but it isn't provided by its ancestors; this makes the require call ambiguous and unsound."
    ++ required name specifier ++ o.name ++ codes "@" ++ o.reference ++ codes " (via " ++ path ++ codes ")"

-- what is told of a name that its owner binds to null, asked by a specifier from a file
abbrev pub missing_peer : Contents → PackageLocator → List ℕ → List ℕ → List ℕ → MissingPeerDependency
missing_peer m o specifier name path = record {
  message = missing_peer_message (is_root m o) o specifier name path;
  request = specifier;
  dependency_name = name;
  issuer_locator = o;
  issuer_path = path;
  broken_ancestors = [];
}
