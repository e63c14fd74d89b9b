-- What the items of an entry say, each kind for itself.
use Rattle.std.specs.Prelude.{ℕ, Bool, true, false, ◌||◌, List, [], Option, option_map}
use Rattle.std.specs.List.{fold, list_any}
use Rattle.yarn_lock_parser.specs.Dependencies.{Regular, Optional, Peer}
use Rattle.yarn_lock_parser.specs.Metas as metas
use Rattle.yarn_lock_parser.specs.Metas.{Flag, Absent, Known, Unreadable}
use Rattle.yarn_lock_parser.specs.Front.{some}
use Rattle.yarn_lock_parser.specs.Item.{item_at, Item, Version, Dependencies, Integrity, Resolved, Metas, Other}

-- the fields of an entry; what no item says is empty
pub record Fields : Type 0 where
  pub version : List ℕ
  pub resolved : List ℕ
  pub integrity : List ℕ
  pub dependencies : List (List ℕ × List ℕ)
  pub optional_dependencies : List (List ℕ × List ℕ)
  pub peer_dependencies : List (List ℕ × List ℕ)
  pub dependencies_meta : List (List ℕ × Flag)
  pub peer_dependencies_meta : List (List ℕ × Flag)
  -- a property `optional` is neither `true` nor `false`
  pub is_spoilt : Bool

abbrev pub no_fields : Fields
no_fields = record {
  version = [];
  resolved = [];
  integrity = [];
  dependencies = [];
  optional_dependencies = [];
  peer_dependencies = [];
  dependencies_meta = [];
  peer_dependencies_meta = [];
  is_spoilt = false;
}

abbrev pub is_unreadable : List ℕ × Flag → Bool
is_unreadable (name, Absent) = false
is_unreadable (name, Known b) = false
is_unreadable (name, Unreadable) = true

-- an item takes the place of an earlier one of its kind
abbrev pub with_item : Fields → Item → Fields
with_item f (Version text) = record f { version = text }
with_item f (Dependencies Regular pairs) = record f { dependencies = pairs }
with_item f (Dependencies Optional pairs) = record f { optional_dependencies = pairs }
with_item f (Dependencies Peer pairs) = record f { peer_dependencies = pairs }
with_item f (Integrity text) = record f { integrity = text }
with_item f (Resolved text) = record f { resolved = text }
with_item f (Metas metas.Dependencies pairs) =
    record f { dependencies_meta = pairs; is_spoilt = f.is_spoilt || list_any is_unreadable pairs }
with_item f (Metas metas.PeerDependencies pairs) =
    record f { peer_dependencies_meta = pairs; is_spoilt = f.is_spoilt || list_any is_unreadable pairs }
with_item f Other = f

-- what the items of a text say: as many as fit, and one at least; what follows the last is dropped
unfoldable pub fields_of : List ℕ → Option Fields
fields_of t = option_map (λ items. fold with_item no_fields items.0) (some item_at t)
