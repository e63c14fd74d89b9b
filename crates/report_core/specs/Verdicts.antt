-- Verdicts as values of JSON: objects whose keys stand in byte order.
use Rattle.std.specs.Prelude.{ℕ, List, codes, map, Option, Some, None}
use Rattle.serde_json.specs.Data.{Data, Members, null, string, array, object, no_members, member}
use Rattle.serde_json.specs.View.{items_of}
use Rattle.swc_loader.specs.declared.resolution.FileName.{FileName}
use Rattle.swc_loader.specs.declared.resolution.FileName.TheVariants.{Real, Custom, Anon}
use Rattle.swc_loader.specs.declared.resolution.Found.{Found}
use Rattle.pnp_core.specs.declared.error.HydrationCause.{HydrationCause}
use Rattle.pnp_core.specs.declared.error.HydrationCause.TheVariants.{NotText, NoPayload, BadJson, BadPattern}
use Rattle.pnp_core.specs.declared.error.HydrationCause.TheVariants.{NoTopLevel}
use Rattle.resolve_stack.specs.declared.verdict.JoinRefusal.{JoinRefusal}
use Rattle.resolve_stack.specs.declared.verdict.JoinRefusal.TheVariants.{BadSpecifier, FailedManifestHydration}
use Rattle.resolve_stack.specs.declared.verdict.JoinRefusal.TheVariants.{UndeclaredDependency, MissingPeerDependency}
use Rattle.resolve_stack.specs.declared.verdict.JoinRefusal.TheVariants.{NotInRegistry, NotLocked, MalformedPackage}
use Rattle.resolve_stack.specs.declared.verdict.JoinRefusal.TheVariants.{OutOfRange, Archive, NotExported, Outside}
use Rattle.resolve_stack.specs.declared.verdict.JoinRefusal.TheVariants.{NotFound, BaseNotAFile}
use Rattle.resolver_core.specs.declared.refusal.TsRefusal.{TsRefusal}
use Rattle.resolver_core.specs.declared.refusal.TsRefusal.TheVariants.{Inner, TsFault}
use Rattle.pnp_core.specs.declared.manifest.PackageLocator.{PackageLocator}
use Rattle.swc_loader.specs.declared.resolution.Resolution.{Resolution}
use Rattle.resolve_stack.specs.declared.verdict.Verdict.{Verdict}
use Rattle.resolve_stack.specs.declared.verdict.Verdict.TheVariants.{Answered, Refused}
use Rattle.swc_loader.specs.declared.resolution.Via.{Via}
use Rattle.trail_texts.specs.TrailTexts.{text_or_null}

-- what answers: a file's text or a custom name
abbrev pub name_value : FileName → Data
name_value (Real t) = object (member (codes "real") (string t) no_members)
name_value (Custom t) = object (member (codes "custom") (string t) no_members)
name_value Anon = null

-- the row through which a file was found
abbrev pub via_value : Option Via → Data
via_value None = null
via_value (Some via) = object
    (member (codes "location") (string via.location)
    (member (codes "name") (string via.name)
    (member (codes "reference") (string via.reference) no_members)))

-- the file that was found
abbrev pub found_value : Option Found → Data
found_value None = null
found_value (Some found) = object
    (member (codes "file") (string found.file)
    (member (codes "via") (via_value found.via) no_members))

-- an answer, with the members that stand behind its own
abbrev pub answer_value : Members → Resolution → Data
answer_value last answer = object
    (member (codes "answer") (name_value answer.filename)
    (member (codes "found") (found_value answer.found)
    (member (codes "slug") (text_or_null answer.slug) last)))

abbrev pub cause_name : HydrationCause → List ℕ
cause_name NotText = codes "NotText"
cause_name NoPayload = codes "NoPayload"
cause_name BadJson = codes "BadJson"
cause_name BadPattern = codes "BadPattern"
cause_name NoTopLevel = codes "NoTopLevel"

-- a package, by its name and its reference
abbrev pub locator_value : PackageLocator → Data
locator_value l = object
    (member (codes "name") (string l.name)
    (member (codes "reference") (string l.reference) no_members))

-- a dependency that its issuer doesn't bind, by its kind
abbrev pub dependency_value : List ℕ → List ℕ → PackageLocator → List ℕ → List ℕ → List ℕ → Data
dependency_value kind name issuer message path request = object
    (member (codes "dependency") (string name)
    (member (codes "issuer") (locator_value issuer)
    (member (codes "kind") (string kind)
    (member (codes "message") (string message)
    (member (codes "path") (string path)
    (member (codes "request") (string request) no_members))))))

-- a bound package that has no row or no entry, by its kind
abbrev pub package_value : List ℕ → List ℕ → List ℕ → Data
package_value kind name reference = object
    (member (codes "kind") (string kind)
    (member (codes "name") (string name)
    (member (codes "reference") (string reference) no_members)))

-- a refusal that tells no more than its kind
abbrev pub kind_value : List ℕ → Data
kind_value kind = object (member (codes "kind") (string kind) no_members)

-- a refusal by its kind, with what it tells
abbrev pub refusal_value : JoinRefusal → Data
refusal_value (BadSpecifier specifier) = object
    (member (codes "kind") (string (codes "BadSpecifier"))
    (member (codes "specifier") (string specifier) no_members))
refusal_value (FailedManifestHydration cause manifest) = object
    (member (codes "cause") (string (cause_name cause))
    (member (codes "kind") (string (codes "FailedManifestHydration"))
    (member (codes "manifest") (string manifest) no_members)))
refusal_value (UndeclaredDependency told) =
    dependency_value (codes "UndeclaredDependency") told.dependency_name told.issuer_locator told.message
    told.issuer_path told.request
refusal_value (MissingPeerDependency told) =
    dependency_value (codes "MissingPeerDependency") told.dependency_name told.issuer_locator told.message
    told.issuer_path told.request
refusal_value (NotInRegistry name reference) = package_value (codes "NotInRegistry") name reference
refusal_value (NotLocked name reference) = package_value (codes "NotLocked") name reference
refusal_value (OutOfRange range version) = object
    (member (codes "kind") (string (codes "OutOfRange"))
    (member (codes "range") (string range)
    (member (codes "version") (string version) no_members)))
refusal_value (MalformedPackage path) = object
    (member (codes "kind") (string (codes "MalformedPackage"))
    (member (codes "path") (string path) no_members))
refusal_value (Archive location) = object
    (member (codes "kind") (string (codes "Archive"))
    (member (codes "location") (string location) no_members))
refusal_value (NotExported location key) = object
    (member (codes "key") (string key)
    (member (codes "kind") (string (codes "NotExported"))
    (member (codes "location") (string location) no_members)))
refusal_value (Outside file location) = object
    (member (codes "file") (string file)
    (member (codes "kind") (string (codes "Outside"))
    (member (codes "location") (string location) no_members)))
refusal_value (NotFound text) = object
    (member (codes "kind") (string (codes "NotFound"))
    (member (codes "text") (string text) no_members))
refusal_value BaseNotAFile = kind_value (codes "BaseNotAFile")

-- the refusal of a request: that of an inner request, or of a pattern whose targets all failed, with the refusal of
-- each one's last try
abbrev pub refused_value : TsRefusal JoinRefusal → Data
refused_value (Inner refusal) = refusal_value refusal
refused_value (TsFault pattern inner) = object
    (member (codes "inner") (array (items_of (map refusal_value inner)))
    (member (codes "kind") (string (codes "TsFault"))
    (member (codes "pattern") (string pattern) no_members)))

-- a verdict, with the members that stand behind its own
abbrev pub verdict_value : Members → Verdict → Data
verdict_value last (Answered answer) = answer_value last answer
verdict_value last (Refused refusal) =
    object (member (codes "refused") (refused_value refusal) last)
