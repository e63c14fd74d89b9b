-- A whole lock file, and where and why a text is none.
-- A `do` here is over results: it goes on with what a step gives, and ends by the first error.
use Rattle.std.specs.Prelude.{
  ℕ,
  Bool,
  true,
  false,
  ◌+◌,
  ◌-◌,
  List,
  [],
  ◌∷◌,
  ◌≡◌,
  length,
  Option,
  Some,
  None,
  Result,
  Ok,
  Err,
  ok_or,
}
use Rattle.yarn_lock_parser.specs.declared.error.LockCause.{LockCause}
use Rattle.yarn_lock_parser.specs.declared.error.LockCause.TheVariants as causes
use Rattle.yarn_lock_parser.specs.declared.error.YarnLockError.{YarnLockError}
use Rattle.yarn_lock_parser.specs.declared.error.YarnLockError.TheVariants.{Parser, NoMemory}
use Rattle.yarn_lock_parser.specs.declared.header.Generator.{Generator}
use Rattle.yarn_lock_parser.specs.Header.{header_at}
use Rattle.yarn_lock_parser.specs.Metadata.{Metadata, metadata_at}
use Rattle.yarn_lock_parser.specs.Cut.{entry_texts}
use Rattle.yarn_lock_parser.specs.Entry.{◌>>=◌, Entry, entry_of}

pub record Lock : Type 0 where
  pub generator : Generator
  pub version : ℕ
  pub cache_key : Option (List ℕ)
  pub entries : List Entry

-- why a text is no lock file: the place, in bytes, where the refused part begins, and the cause
pub record Refusal : Type 0 where
  pub place : ℕ
  pub cause : LockCause

abbrev pub at_place : {A : Type 0} → ℕ → Result A LockCause → Result A Refusal
at_place place (Ok x) = Ok x
at_place place (Err cause) = Err (record { place = place; cause = cause })

-- the entries, the first of which begins at a place
abbrev pub entries_from : ℕ → List (List ℕ) → Result (List Entry) Refusal
entries_from place [] = Ok []
entries_from place (t ∷ ts) = do
  first ← at_place place (entry_of t)
  others ← entries_from (place + length t) ts
  Ok (first ∷ others)

-- where a rest of a text begins
abbrev pub place_in : List ℕ → List ℕ → ℕ
place_in t rest = length t - length rest

abbrev pub first_version : Metadata
first_version = record { version = 1; cache_key = None }

-- the metadata, which a lock file of version 1 doesn't have
unfoldable pub metadata_after : Bool → List ℕ → Option (Metadata × List ℕ)
metadata_after true t = Some (first_version, t)
metadata_after false t = metadata_at t

-- The reading of a text, of which there is one: header, metadata and entries, or the first refusal in this order.
unfoldable pub lock_of : List ℕ → Result Lock Refusal
lock_of t = do
  head ← at_place 0 (ok_or (header_at t) causes.Header)
  facts ← at_place (place_in t head.1) (ok_or (metadata_after head.0.is_first_version head.1) causes.Metadata)
  entries ← entries_from (place_in t facts.1) (entry_texts facts.1)
  Ok (record {
    generator = head.0.generator;
    version = facts.0.version;
    cache_key = facts.0.cache_key;
    entries =
        entries;
  })

-- what an error of the reader means of a reading: want of memory means nothing
abbrev pub Explains : {A : Type 0} → Result A Refusal → YarnLockError → Type 0
Explains read (Parser place cause) = read ≡ Err (record { place = place; cause = cause })
Explains read NoMemory = Unit {0}
