-- What a refusal says to people, and what would help.
use Rattle.std.specs.Prelude.{ℕ, ◌++◌, List, [], ◌∷◌, codes, bytes_eq, if◌then◌else◌}
use Rattle.pnp_core.specs.declared.error.HydrationCause.{HydrationCause}
use Rattle.pnp_core.specs.declared.error.HydrationCause.TheVariants as cause
use Rattle.pnp_core.specs.declared.manifest.PackageLocator.{PackageLocator}
use Rattle.resolver_core.specs.declared.refusal.TsRefusal.{TsRefusal}
use Rattle.resolver_core.specs.declared.refusal.TsRefusal.TheVariants as mapped
use Rattle.resolve_stack.specs.declared.verdict.JoinRefusal.{JoinRefusal}
use Rattle.resolve_stack.specs.declared.verdict.JoinRefusal.TheVariants as refusal

-- why a manifest can't be read
abbrev pub cause_told : HydrationCause → List ℕ
cause_told cause.NotText = codes "there is no text"
cause_told cause.NoPayload = codes "it has no payload"
cause_told cause.BadJson = codes "its payload is no JSON of a manifest"
cause_told cause.BadPattern = codes "its ignore pattern is refused"
cause_told cause.NoTopLevel = codes "it has no row for the top-level package"

-- the package that asks; the top-level one has no name
abbrev pub issuer_told : PackageLocator → List ℕ
issuer_told issuer = if bytes_eq issuer.name [] then codes "the project" else issuer.name

-- a package lacks another one, and what would help
abbrev pub lacking_line : PackageLocator → List ℕ → List ℕ → List ℕ
lacking_line issuer dependency help =
    issuer_told issuer ++ codes " lacks " ++ dependency ++ help

-- what is wrong with a package that is bound
abbrev pub bound_line : List ℕ → List ℕ → List ℕ → List ℕ
bound_line name reference wrong = name ++ codes "@" ++ reference ++ wrong

-- what a refusal of the join says, and what would help
abbrev pub refusal_line : JoinRefusal → List ℕ
refusal_line (refusal.BadSpecifier specifier) =
    specifier ++ codes " names no package: behind a scope a name has to stand" ++ codes "\n"
refusal_line (refusal.FailedManifestHydration cause manifest) =
    manifest ++ codes " can't be read: " ++ cause_told cause ++ codes "\n"
refusal_line (refusal.UndeclaredDependency told) =
    lacking_line told.issuer_locator told.dependency_name (codes ": add it to its dependencies\n")
refusal_line (refusal.MissingPeerDependency told) =
    lacking_line told.issuer_locator told.dependency_name
    (codes ", its peer: add it where that is installed\n")
refusal_line (refusal.NotInRegistry name reference) =
    bound_line name reference (codes " has no row in the manifest: install again\n")
refusal_line (refusal.NotLocked name reference) =
    bound_line name reference (codes " has no entry in the lock: install again\n")
refusal_line (refusal.MalformedPackage path) =
    path ++ codes " is malformed: no JSON object, or a field is of another kind" ++ codes "\n"
refusal_line (refusal.OutOfRange range version) =
    version ++ codes " is locked, which isn't within " ++ range ++ codes "\n"
refusal_line (refusal.Archive location) =
    location ++ codes " lies inside an archive, and none is read: unplug the package" ++ codes "\n"
refusal_line (refusal.NotExported location key) =
    location ++ codes " exports under the project's conditions no " ++ key ++ codes "\n"
refusal_line (refusal.Outside file location) =
    file ++ codes " was found, which isn't below " ++ location ++ codes "\n"
refusal_line (refusal.NotFound text) = codes "nothing is found at " ++ text ++ codes "\n"
refusal_line refusal.BaseNotAFile =
    codes "what asks is no file, and the specifier is read from one" ++ codes "\n"

-- a line for each target's refusal
abbrev pub fault_lines : List JoinRefusal → List ℕ
fault_lines [] = []
fault_lines (refusal ∷ refusals) = codes "  " ++ refusal_line refusal ++ fault_lines refusals

-- the lines of a refusal; of a mapping that failed, with those of its targets
abbrev pub refusal_lines : TsRefusal JoinRefusal → List ℕ
refusal_lines (mapped.Inner refusal) = codes "refused: " ++ refusal_line refusal
refusal_lines (mapped.TsFault pattern inner) =
    codes "refused: " ++ codes "no target of " ++ pattern ++ codes " is found\n" ++ fault_lines inner
