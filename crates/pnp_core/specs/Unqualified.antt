-- Where a bare specifier leads by a manifest alone: to the location of a package.
use Rattle.std.specs.Prelude.{◌≡◌, ℕ, List, Option, Some, None, Result, Ok, Err}
use Rattle.tree_core.specs.declared.tree.ReadError.{ReadError}
use Rattle.tree_core.specs.declared.tree.ReadError.TheVariants.{Fault, NoMemory}
use Rattle.pnp_core.specs.declared.error.Error.{Error}
use Rattle.pnp_core.specs.declared.manifest.PackageLocator.{PackageLocator}
use Rattle.pnp_core.specs.declared.manifest.Binding.{Binding}
use Rattle.pnp_core.specs.declared.manifest.Binding.TheVariants.{Bound, MissingPeer, Undeclared}
use Rattle.pnp_core.specs.declared.unqualified.Resolution.{Resolution}
use Rattle.pnp_core.specs.declared.unqualified.Resolution.TheVariants.{Resolved, Skipped}
use Rattle.pnp_core.specs.BareIdentifier.{split_bare}
use Rattle.pnp_core.specs.Binding.{bind}
use Rattle.pnp_core.specs.Manifest.{Contents, location_of}
use Rattle.pnp_core.specs.Owner.{owner_of_text, IsReady}
use Rattle.pnp_core.specs.Refusal.{Refusal, NoIdentifier, NoPeer, NotDeclared, NoRow, kind}
use Rattle.pnp_core.specs.Wording.{bad_specifier, missing_peer, undeclared}

-- what is asked: a specifier, and the path of the file that asks
pub record Asked : Type 0 where
  pub specifier : List ℕ
  pub parent : List ℕ

-- the location of a bound package's row, and the subpath
abbrev pub at_row : PackageLocator → Option (List ℕ) → Option (List ℕ) → Result Resolution Refusal
at_row bound subpath None = Err (NoRow bound)
at_row bound subpath (Some location) = Ok (Resolved location subpath)

-- by what the name is bound to
abbrev pub by_binding : Contents → Asked → PackageLocator → List ℕ × Option (List ℕ) → Binding
    → Result Resolution Refusal
by_binding m asked o split (Bound bound) = at_row bound split.1 (location_of m bound)
by_binding m asked o split MissingPeer = Err (NoPeer (missing_peer m o asked.specifier split.0 asked.parent))
by_binding m asked o split Undeclared = Err (NotDeclared (undeclared m o asked.specifier split.0 asked.parent))

-- a file that nothing owns is none of the manifest's
abbrev pub by_owner : Contents → Asked → List ℕ × Option (List ℕ) → Option PackageLocator → Result Resolution Refusal
by_owner m asked split None = Ok Skipped
by_owner m asked split (Some o) = by_binding m asked o split (bind m o split.0)

-- the specifier is read first
abbrev pub by_split : Contents → Asked → Option (List ℕ × Option (List ℕ)) → Result Resolution Refusal
by_split m asked None = Err (NoIdentifier (bad_specifier asked.specifier))
by_split m asked (Some split) = by_owner m asked split (owner_of_text m asked.parent)

unfoldable pub unqualified : Contents → List ℕ → List ℕ → Result Resolution Refusal
unqualified m specifier parent =
    by_split m (record { specifier = specifier; parent = parent }) (split_bare specifier)

abbrev pub told_by : {A : Type 0} → Result Refusal ReadError → Result A Refusal → Type 0
told_by (Ok refusal) r = r ≡ Err refusal
told_by (Err Fault) r = ⊥
told_by (Err NoMemory) r = Unit {0}

-- a call that asks no tree comes to this answer or refusal, unless memory is wanting
abbrev pub ComesTo : {A : Type 0} → Result A Error → Result A Refusal → Type 0
ComesTo (Ok a) r = r ≡ Ok a
ComesTo (Err e) r = told_by (kind e) r

-- by what a search for the manifest answered for the path of the file that asks
abbrev pub FollowsFrom : Result (Option Contents) Error → List ℕ → List ℕ → Result Resolution Error → Type 0
FollowsFrom (Err e) specifier parent result = result ≡ Err e
FollowsFrom (Ok None) specifier parent result = result ≡ Ok Skipped
FollowsFrom (Ok (Some m)) specifier parent result = ComesTo result (unqualified m specifier parent)

-- what a search for the manifest may answer for the path of a file
abbrev pub Search : Type 1
Search = Result (Option Contents) Error → Type 0

-- each manifest that the search may answer is ready
abbrev pub FindsReady : Search → Type 0
FindsReady may_answer = (m : Contents) → may_answer (Ok (Some m)) → IsReady m

-- some answer that the search may give leads to the result
abbrev pub IsFoundBy : Search → List ℕ → List ℕ → Result Resolution Error → Type 0
IsFoundBy may_answer specifier parent result =
    (found : Result (Option Contents) Error) × may_answer found × FollowsFrom found specifier parent result
