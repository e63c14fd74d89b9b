-- The exports of a bound package, as the code asks for them.
use Rattle.std.proofs.Common.{◌≡◌, ℕ, true, false, List, Option, Some, None, is_some, option_map, IsSome, IfSome}
use Rattle.std.proofs.Common.{Result, Ok, Err, IsErrAnd, refl, ap}
use Rattle.std.specs.Borrow.{Bor}
use Rattle.serde_json.specs.Data.{Members}
use Rattle.sugar_path.specs.Path.{Path, text_of}
use Rattle.tree_core.specs.declared.tree.ReadError.{ReadError}
use Rattle.tree_core.specs.Plan.{Done}
use Rattle.tree_core.specs.Asks.{Asking, Asks}
use Rattle.package_exports.specs.Exported.{exported}
use Rattle.swc_loader.specs.Candidates.{is_closed}
use Rattle.deno_package_json.specs.declared.package_json.PackageJson.{PackageJson}
use Rattle.deno_package_json.specs.Package.{package_of}
use Rattle.package_readings.specs.declared.readings.ReadPackage.{ReadPackage}
use Rattle.package_readings.specs.Readings.{IsLoadedTo, IsRefused}
use Rattle.resolve_stack.specs.declared.verdict.JoinRefusal.{JoinRefusal}
use Rattle.resolve_stack.specs.declared.verdict.JoinRefusal.TheVariants.{MalformedPackage, NotFound}
use Rattle.resolve_stack.specs.Exports.{closed_file, exports_in_content, exports_or_malformed, exports_seen, file_at}
use Rattle.resolve_stack.specs.Exports.{file_by_exports, file_under, target_file}

-- the search under the conditions that are known, by the key that is made
pub asks_under : {old new : Asking} {r : Result (Result (Option Path) JoinRefusal) ReadError}
    (known given : Option (List (List ℕ))) (location : Path) (made key : List ℕ) → known ≡ given → made ≡ key →
    Asks old new r (file_under known location made) → Asks old new r (file_under given location key)
asks_under known given location made key same is h = rw (← same, ← is) h

-- the search by the exports that are known
pub asks_by_exports : {old new : Asking} {r : Result (Result (Option Path) JoinRefusal) ReadError}
    (conditions : List (List ℕ)) (location : Path) (key : List ℕ) (known given : Option Members) → known ≡ given →
    Asks old new r (file_by_exports conditions location key known) →
    Asks old new r (file_by_exports conditions location key given)
asks_by_exports conditions location key known given is h = rw (← is) h

-- a package.json that is refused is malformed
pub malformed : (file : Path) (content : List ℕ) → IsRefused content →
    exports_in_content file (Some content) ≡ Err (MalformedPackage (text_of file))
malformed file content refused = ap (exports_or_malformed file) (refused (text_of file)).1

-- one that is loaded has the exports of the package that is kept
pub loaded_exports : (file : Path) (content : List ℕ) (read : ReadPackage) → IsLoadedTo content read →
    exports_in_content file (Some content) ≡ Ok (package_of read.package_json).exports
loaded_exports file content read loaded = ap (exports_or_malformed file) (loaded.loads (text_of file))

-- an error borrows nothing
pub unseen_err : {X : Type 0} (r : Result (Option (Bor PackageJson)) X) (e : X) → IsErrAnd r (λ x. x ≡ e) →
    IsErrAnd (exports_seen r) (λ x. x ≡ e)
unseen_err (Ok found) e h = elim h [ ]
unseen_err (Err x) e h = h

-- the file that a closed text means, and the refusal of any other
pub asks_closed : {old new : Asking} {r : Result (Result (Option Path) JoinRefusal) ReadError} (text given : List ℕ) →
    text ≡ given → is_closed text ≡ true → Asks old new r (file_at text) → Asks old new r (closed_file given)
asks_closed text given same closed h = rw (← same, closed) h

pub asks_open : {old new : Asking} {r : Result (Result (Option Path) JoinRefusal) ReadError} (text given : List ℕ) →
    text ≡ given → is_closed text ≡ false → Asks old new r (Done (Err (NotFound text))) →
    Asks old new r (closed_file given)
asks_open text given same closed h = rw (← same, closed) h

-- what is made of nothing is nothing, and of something something
pub none_mapped : {A B : Type 0} (f : A → B) (o : Option A) → is_some o ≡ false → None ≡ option_map f o
none_mapped f None none = refl
none_mapped f (Some a) none = cc

pub some_mapped : {A B : Type 0} (f : A → B) (o : Option A) → is_some o ≡ true → IsSome (option_map f o)
some_mapped f None some = some
some_mapped f (Some a) some = refl

-- the target that the exports of a package give
pub asks_target : {old new : Asking} {r : Result (Result (Option Path) JoinRefusal) ReadError}
    (conditions : List (List ℕ)) (location : Path) (key : List ℕ) (exports : Option Members)
    (target : Option (List ℕ)) → IsSome exports → IfSome exports (λ e. target ≡ exported e key conditions) →
    Asks old new r (target_file location key target) →
    Asks old new r (file_by_exports conditions location key exports)
asks_target conditions location key (Some e) target there is h = rw (← is) h
asks_target conditions location key None target there is h = cc
