-- Loads by way of a reader of files, and of a cache.
use Rattle.std.specs.Prelude.{◌≡◌, ◌⊎◌, ℕ, List, Option, Some, None, Result, Ok, Err, option_map, option_and_then}
use Rattle.std.specs.Borrow.{MutBor}
use Rattle.std.proofs.Common.{inl, inr}
use Rattle.std.specs.FinMap as finite
use Rattle.std.specs.declared.alloc.Global.{Global}
use Rattle.std.specs.declared.rc.Rc.{Rc}
use Rattle.tree_core.specs.Tree.{Rose}
use Rattle.deno_package_json.specs.Cache.{Kept, shared}
use Rattle.deno_package_json.specs.Loading.{from_text}
use Rattle.deno_package_json.specs.Package.{package_of}
use Rattle.deno_package_json.specs.Reader.{Files, IsTextAt}
use Rattle.deno_package_json.specs.declared.error.PackageJsonLoadError.{PackageJsonLoadError}
use Rattle.deno_package_json.specs.declared.error.PackageJsonLoadError.TheVariants.{Io, NoMemory}
use Rattle.deno_package_json.specs.declared.package_json.PackageJson.{PackageJson}

-- what a load answers
abbrev pub Loaded : Type 0
Loaded = Result (Rc PackageJson Global) PackageJsonLoadError

-- the file at the path is refused: it couldn't be read, or this is the first fault of its text
abbrev pub IsFileRefused : Option Files → List ℕ → PackageJsonLoadError → Type 0
IsFileRefused files path (Io told) = told ≡ path
IsFileRefused files path NoMemory = Unit {0}
IsFileRefused files path e = (text : List ℕ) × IsTextAt files path text × (from_text path text ≡ Err e)

-- the package of the file at the path
abbrev pub LoadsFile : Option Files → List ℕ → Loaded → Type 0
LoadsFile files path (Ok rc) =
    (text : List ℕ) × IsTextAt files path text × (from_text path text ≡ Ok (package_of (shared rc)))
LoadsFile files path (Err e) = IsFileRefused files path e

-- a package that is kept is answered; only memory may be wanting
abbrev pub AnswersKept : PackageJson → Loaded → Type 0
AnswersKept p (Ok rc) = shared rc ≡ p
AnswersKept p (Err e) = e ≡ NoMemory

-- the package that is kept under the path, else that of the file
abbrev pub LoadsKept : Option PackageJson → Option Files → List ℕ → Loaded → Type 0
LoadsKept (Some p) files path result = AnswersKept p result
LoadsKept None files path result = LoadsFile files path result

-- `Io` has its cause: the reader's count of faults rose, or stands at its last value. It stays in every other case
abbrev pub IsCauseOf : ℕ → ℕ → PackageJsonLoadError → Type 0
IsCauseOf before now (Io path) = Rose before now
IsCauseOf before now e = now ≡ before

abbrev pub HasLoadCause : {A : Type 0} → ℕ → ℕ → Result A PackageJsonLoadError → Type 0
HasLoadCause before now (Ok p) = now ≡ before
HasLoadCause before now (Err e) = IsCauseOf before now e

-- after an answer the cache keeps it under the path, beside what it kept under other paths. A refused load leaves the
-- cache as it was
abbrev pub KeepsAnswer : Kept → Kept → List ℕ → Loaded → Type 0
KeepsAnswer old new path (Ok rc) = new ≡ finite.insert old path (shared rc)
KeepsAnswer old new path (Err e) = new ≡ old

-- what an optional loan holds as the call begins
abbrev pub held : {C : Type 0} → Option (MutBor C) → Option C
held loan = option_map (λ c. c.now) loan

-- what an optional loan holds at its end. A clause sees it there by its cases: none was made, or one was
abbrev pub left : {C : Type 0} → Unit {0} ⊎ ((MutBor C × Unit {0}) ⊎ ⊥) → Option C
left (inl nothing) = None
left (inr (inl loan)) = Some loan.0.now
left (inr (inr never)) = absurd never

-- a cache that was borrowed keeps the answer
abbrev pub KeepsIfBorrowed : Option Kept → Option Kept → List ℕ → Loaded → Type 0
KeepsIfBorrowed None None path result = Unit {0}
KeepsIfBorrowed None (Some new) path result = ⊥
KeepsIfBorrowed (Some old) None path result = ⊥
KeepsIfBorrowed (Some old) (Some new) path result = KeepsAnswer old new path result

-- what a cache, if there is one, keeps under a path
abbrev pub kept_at : List ℕ → Option Kept → Option PackageJson
kept_at path cache = option_and_then (λ kept. finite.get kept path) cache
