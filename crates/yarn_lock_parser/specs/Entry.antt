-- An entry of a lock file, and what a text is refused for as an entry.
-- A `do` here is over results: it goes on with what a step gives, and ends by the first error.
use Rattle.std.specs.Prelude.{
  ℕ,
  Bool,
  true,
  false,
  ◌==◌,
  ◌-◌,
  List,
  [],
  ◌∷◌,
  length,
  map,
  Result,
  Ok,
  Err,
  ok_or,
  slice_get,
}
use Rattle.std.specs.Option.{option_map_or}
use Rattle.yarn_lock_parser.specs.ByteSet.{is_blank}
pub use Rattle.sugar_path.specs.Results.{◌>>=◌}
use Rattle.yarn_lock_parser.specs.declared.error.LockCause.{LockCause}
use Rattle.yarn_lock_parser.specs.declared.error.LockCause.TheVariants.{
  LastLine,
  Descriptors,
  NoItem,
  Optional,
  NoVersion,
}
use Rattle.yarn_lock_parser.specs.declared.metas.DepMeta.{DepMeta}
use Rattle.yarn_lock_parser.specs.Descriptors.{descriptors_at}
use Rattle.yarn_lock_parser.specs.Metas.{as_meta}
use Rattle.yarn_lock_parser.specs.Fields.{Fields, fields_of}

pub record Entry : Type 0 where
  pub name : List ℕ
  pub version : List ℕ
  pub resolved : List ℕ
  pub integrity : List ℕ
  pub dependencies : List (List ℕ × List ℕ)
  pub optional_dependencies : List (List ℕ × List ℕ)
  pub peer_dependencies : List (List ℕ × List ℕ)
  pub dependencies_meta : List (List ℕ × DepMeta)
  pub peer_dependencies_meta : List (List ℕ × DepMeta)
  pub descriptors : List (List ℕ × List ℕ)

abbrev pub refuse_if : Bool → LockCause → Result (Unit {0}) LockCause
refuse_if true cause = Err cause
refuse_if false cause = Ok tt

-- a text that ends in a blank, so its last line has no line feed
unfoldable pub ends_in_blank : List ℕ → Bool
ends_in_blank t = option_map_or is_blank (slice_get t (length t - 1)) false

abbrev pub first_name : List (List ℕ × List ℕ) → List ℕ
first_name [] = []
first_name (d ∷ ds) = d.0

-- an entry is named by its first descriptor
abbrev pub entry_with : List (List ℕ × List ℕ) → Fields → Entry
entry_with found f = record {
  name = first_name found;
  version = f.version;
  resolved = f.resolved;
  integrity = f.integrity;
  dependencies = f.dependencies;
  optional_dependencies = f.optional_dependencies;
  peer_dependencies = f.peer_dependencies;
  dependencies_meta = map as_meta f.dependencies_meta;
  peer_dependencies_meta = map as_meta f.peer_dependencies_meta;
  descriptors = found;
}

-- the entry that a text is, or the first cause against it: an unfinished last line, the descriptors, no item, a meta's
-- flag, no version
unfoldable pub entry_of : List ℕ → Result Entry LockCause
entry_of t = do
  finished ← refuse_if (ends_in_blank t) LastLine
  head ← ok_or (descriptors_at t) Descriptors
  fields ← ok_or (fields_of head.1) NoItem
  readable ← refuse_if fields.is_spoilt Optional
  versioned ← refuse_if (length fields.version == 0) NoVersion
  Ok (entry_with head.0 fields)
