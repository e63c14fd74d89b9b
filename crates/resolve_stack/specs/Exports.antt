-- The exports of a bound package: which file of it a subpath means, where the project gives conditions (after "Package
-- entry points" of Node).
-- A `do` here is over plans: a plan puts its questions, and the next one goes on by what it came to.
use Rattle.std.specs.Prelude.{ℕ, Bool, if◌then◌else◌, List, [], ◌++◌, Option, Some, None, option_and_then, unwrap_or}
use Rattle.std.specs.Prelude.{Result, Ok, Err, codes}
use Rattle.std.specs.Str.Lossy.{utf8_lossy}
use Rattle.serde_json.specs.Data.{Members}
use Rattle.std.specs.Borrow.{Bor}
use Rattle.sugar_path.specs.Front.{after}
use Rattle.sugar_path.specs.Path.{Path, text_of, clean}
use Rattle.tree_core.specs.Plan.{Plan, Done, file, read, ◌>>=◌, ◌>>=?◌}
use Rattle.package_exports.specs.Exported.{exported}
use Rattle.deno_package_json.specs.declared.error.PackageJsonLoadError.{PackageJsonLoadError}
use Rattle.deno_package_json.specs.declared.package_json.PackageJson.{PackageJson}
use Rattle.deno_package_json.specs.Package.{Package, package_of}
use Rattle.deno_package_json.specs.Loading.{from_text}
use Rattle.swc_loader.specs.Candidates.{is_closed}
use Rattle.swc_loader.specs.Located.{behind, is_whole}
use Rattle.swc_loader.specs.Search.{package_file}
use Rattle.resolve_stack.specs.declared.verdict.JoinRefusal.{JoinRefusal}
use Rattle.resolve_stack.specs.declared.verdict.JoinRefusal.TheVariants.{MalformedPackage, NotExported, NotFound}

-- the key that is looked up: `.` for the package itself, else `./` and the subpath
abbrev pub export_key : Path → Option (List ℕ) → List ℕ
export_key location None = codes "."
export_key location (Some subpath) =
    if is_whole location (Some subpath) then codes "." else codes "./" ++ subpath

-- the exports of a package, where it has some; a file that can't be loaded is refused
abbrev pub exports_or_malformed : Path → Result Package PackageJsonLoadError → Result (Option Members) JoinRefusal
exports_or_malformed package_json (Ok loaded) = Ok loaded.exports
exports_or_malformed package_json (Err fault) = Err (MalformedPackage (text_of package_json))

-- the exports that the bytes of a package.json say, with U+FFFD for what is no UTF-8
abbrev pub exports_in_content : Path → Option (List ℕ) → Result (Option Members) JoinRefusal
exports_in_content package_json None = Ok None
exports_in_content package_json (Some bytes) =
    exports_or_malformed package_json (from_text (text_of package_json) (utf8_lossy bytes))

unfoldable pub exports_in : Path → Plan (Result (Option Members) JoinRefusal)
exports_in package_json = do
  content ← read package_json
  Done (exports_in_content package_json content)

-- the exports of the package at a location, where its package.json is a file that has some
unfoldable pub exports_at : Path → Plan (Result (Option Members) JoinRefusal)
exports_at location = do
  there ← file (package_file location)
  if there then exports_in (package_file location) else Done (Ok None)

-- a target without the `./` that each begins with
abbrev pub without_dot_slash : List ℕ → List ℕ
without_dot_slash target = unwrap_or (after (codes "./") target) target

-- where a target stands behind the location
abbrev pub target_text : Path → List ℕ → List ℕ
target_text location target = behind location (without_dot_slash target)

abbrev pub file_or_not_found : List ℕ → Bool → Result (Option Path) JoinRefusal
file_or_not_found text there = if there then Ok (Some (clean [] text)) else Err (NotFound text)

-- the file that a text means by itself, with no ending and no folder tried
unfoldable pub file_at : List ℕ → Plan (Result (Option Path) JoinRefusal)
file_at text = do
  there ← file (clean [] text)
  Done (file_or_not_found text there)

-- only a closed text may mean a file
abbrev pub closed_file : List ℕ → Plan (Result (Option Path) JoinRefusal)
closed_file text = if is_closed text then file_at text else Done (Err (NotFound text))

-- the file that a target means; without target the package doesn't export the key
abbrev pub target_file : Path → List ℕ → Option (List ℕ) → Plan (Result (Option Path) JoinRefusal)
target_file location key None = Done (Err (NotExported (text_of location) key))
target_file location key (Some target) = closed_file (target_text location target)

-- the file that exports mean by a key; without exports none, so that the location is searched
abbrev pub file_by_exports : List (List ℕ) → Path → List ℕ → Option Members → Plan (Result (Option Path) JoinRefusal)
file_by_exports conditions location key None = Done (Ok None)
file_by_exports conditions location key (Some exports) = target_file location key (exported exports key conditions)

-- the file that the exports at a location mean by a key, where there are conditions
abbrev pub file_under : Option (List (List ℕ)) → Path → List ℕ → Plan (Result (Option Path) JoinRefusal)
file_under None location key = Done (Ok None)
file_under (Some conditions) location key = exports_at location >>=? file_by_exports conditions location key

-- what is seen of a package that is borrowed, where there is one: its exports
abbrev pub exports_seen : {X : Type 0} → Result (Option (Bor PackageJson)) X → Result (Option Members) X
exports_seen (Ok found) = Ok (option_and_then (λ p. (package_of p.now).exports) found)
exports_seen (Err x) = Err x
