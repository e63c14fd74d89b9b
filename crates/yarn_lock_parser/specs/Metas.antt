-- What an entry says of its dependencies under a heading.
-- A `do` here is over readings: it goes on with what a reading gives, and gives nothing where one of them doesn't read.
use Rattle.std.specs.Prelude.{ℕ, Bool, true, false, if◌then◌else◌, List, [], ◌∷◌, bytes_eq, Option, Some, None, codes}
use Rattle.std.specs.Option.{option_or}
use Rattle.std.specs.List.{fold}
use Rattle.yarn_lock_parser.specs.ByteSet.{is_no_colon}
use Rattle.yarn_lock_parser.specs.declared.metas.DepMeta.{DepMeta}
use Rattle.sugar_path.specs.Front.{◌>>=◌, after}
use Rattle.yarn_lock_parser.specs.Front.{before_optional, after_line_end, run, line_at, quoted_at, some}
use Rattle.yarn_lock_parser.specs.Dependencies.{deeper, names_kind}

-- which metas a heading names
pub data MetaKind : Type 0 where
  Dependencies : MetaKind
  PeerDependencies : MetaKind

-- what the properties `optional` of a meta say
pub data Flag : Type 0 where
  Absent : Flag
  Known : Bool → Flag
  Unreadable : Flag

-- a property's key and value, below a meta with an indent of its own
unfoldable pub property_at : List ℕ → List ℕ → Option ((List ℕ × List ℕ) × List ℕ)
property_at indent t = do
  own ← deeper indent t
  value ← after (codes ": ") (run is_no_colon own.1).1
  rest ← line_at value
  Some (((run is_no_colon own.1).0, before_optional (13 ∷ []) rest.0), rest.1)

abbrev pub flag_of : List ℕ → Flag
flag_of value =
    if bytes_eq value (codes "true")
    then Known true
    else (if bytes_eq value (codes "false") then Known false else Unreadable)

-- A property `optional` gives the flag. One that is neither `true` nor `false` spoils it for good.
abbrev pub noted : Flag → List ℕ × List ℕ → Flag
noted Unreadable property = Unreadable
noted flag property = if bytes_eq property.0 (codes "optional") then flag_of property.1 else flag

-- what the properties say, one or more, below a meta with an indent of its own
unfoldable pub flag_under : List ℕ → List ℕ → Option (Flag × List ℕ)
flag_under indent t = do
  properties ← some (property_at indent) t
  Some (fold noted Absent properties.0, properties.1)

-- a meta's name, and what its properties say
unfoldable pub meta_at : List ℕ → List ℕ → Option ((List ℕ × Flag) × List ℕ)
meta_at indent t = do
  own ← deeper indent t
  name ← option_or (quoted_at own.1) (Some (run is_no_colon own.1))
  colon ← after (58 ∷ []) name.1
  body ← after_line_end colon
  flag ← flag_under own.0 body
  Some ((name.0, flag.0), flag.1)

-- which metas a heading names, and what follows its `:`
unfoldable pub meta_kind : List ℕ → Option (MetaKind × List ℕ)
meta_kind t =
    option_or (names_kind Dependencies (after (codes "dependenciesMeta:") t))
    (names_kind PeerDependencies (after (codes "peerDependenciesMeta:") t))

-- a heading with an indent, and the metas below it: one or more
unfoldable pub metas_at : List ℕ → List ℕ → Option ((MetaKind × List (List ℕ × Flag)) × List ℕ)
metas_at indent t = do
  kind ← meta_kind t
  body ← after_line_end kind.1
  found ← some (meta_at indent) body
  Some ((kind.0, found.0), found.1)

abbrev pub known : Flag → Option Bool
known Absent = None
known (Known b) = Some b
known Unreadable = None

abbrev pub as_meta : List ℕ × Flag → List ℕ × DepMeta
as_meta pair = (pair.0, record { optional = known pair.1 })
