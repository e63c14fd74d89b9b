-- Each text of a lock file is a part of the text that it was read from. An empty text is a part of any text.
use Rattle.std.specs.Prelude.{◌≡◌, ◌++◌, ℕ, List, IfSome}
use Rattle.std.specs.List.{AllByRecursion}
use Rattle.yarn_lock_parser.specs.Entry.{Entry}
use Rattle.yarn_lock_parser.specs.Lock.{Lock}

-- what stands in a text between two of its places
pub record IsSlice (t slice : List ℕ) : Type 0 where
  pub prior : List ℕ
  pub rest : List ℕ
  pub is : t ≡ prior ++ (slice ++ rest)

abbrev pub ArePairsOf : List ℕ → List (List ℕ × List ℕ) → Type 0
ArePairsOf t pairs = AllByRecursion (λ pair. IsSlice t pair.0 × IsSlice t pair.1) pairs

abbrev pub AreNamedIn : {A : Type 0} → List ℕ → List (List ℕ × A) → Type 0
AreNamedIn t metas = AllByRecursion (λ meta. IsSlice t meta.0) metas

pub record IsEntryOf (t : List ℕ) (e : Entry) : Type 0 where
  pub name : IsSlice t e.name
  pub version : IsSlice t e.version
  pub resolved : IsSlice t e.resolved
  pub integrity : IsSlice t e.integrity
  pub dependencies : ArePairsOf t e.dependencies
  pub optional_dependencies : ArePairsOf t e.optional_dependencies
  pub peer_dependencies : ArePairsOf t e.peer_dependencies
  pub dependencies_meta : AreNamedIn t e.dependencies_meta
  pub peer_dependencies_meta : AreNamedIn t e.peer_dependencies_meta
  pub descriptors : ArePairsOf t e.descriptors

pub record IsLockOf (t : List ℕ) (lock : Lock) : Type 0 where
  pub entries : AllByRecursion (IsEntryOf t) lock.entries
  pub cache_key : IfSome lock.cache_key (IsSlice t)
