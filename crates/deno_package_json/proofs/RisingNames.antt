-- The texts of an object, put into a map one after another.
use Rattle.std.proofs.Common.{
  ◌≡◌,
  ℕ,
  Less,
  List,
  [],
  ◌∷◌,
  Option,
  Some,
  None,
  String,
  Global,
  string_bytes,
  string_cmp,
  bytes_eq,
}
use Rattle.std.specs.List.{AllByRecursion}
use Rattle.std.specs.List.Sorted.{IsStrictlySortedBy}
use Rattle.std.specs.Map.{keys_of}
use Rattle.std.specs.Prelude.{option_map}
use Rattle.indexmap.specs.IndexMap.{insert_all}
use Rattle.json_reading.proofs.RisingNames.{StandsBefore, IsRising, insert_all-rising}
use Rattle.serde_json.specs.View.{view, members_view}
use Rattle.serde_json.specs.declared.value.Value.{Value}
use Rattle.deno_package_json.specs.Fields.{before, table_of, text_of}

abbrev Entry : Type 0
Entry = String Global × Value

StandsBefore-table_of : (k : String Global) (es : List Entry) → AllByRecursion (λ l. string_cmp k l ≡ Less) (keys_of es)
    → AllByRecursion (StandsBefore (string_bytes k)) (table_of (members_view es))
StandsBefore-table_of k [] h = tt
StandsBefore-table_of k (e ∷ es) h = by_text (text_of (view e.1)) (StandsBefore-table_of k es h.1)
  where
    by_text : (o : Option (List ℕ)) → AllByRecursion (StandsBefore (string_bytes k)) (table_of (members_view es))
        → AllByRecursion (StandsBefore (string_bytes k)) (before (option_map (λ text. (string_bytes e.0, text)) o)
        (table_of (members_view es)))
    by_text None rest = rest
    by_text (Some t) rest = (h.0, rest)

pub IsRising-table_of : (es : List Entry) → IsStrictlySortedBy string_cmp (keys_of es)
    → IsRising (table_of (members_view es))
unfolding IsStrictlySortedBy
IsRising-table_of [] h = tt
IsRising-table_of (e ∷ es) h =
    by_text (text_of (view e.1)) (StandsBefore-table_of e.0 es h.0) (IsRising-table_of es h.1)
  where
    by_text : (o : Option (List ℕ)) → AllByRecursion (StandsBefore (string_bytes e.0)) (table_of (members_view es))
        → IsRising (table_of (members_view es))
        → IsRising (before (option_map (λ text. (string_bytes e.0, text)) o) (table_of (members_view es)))
    by_text None first rest = rest
    by_text (Some t) first rest = (first, rest)

-- an object has each name once, so the map has the object's texts in order
pub insert_all-table_of : (es : List Entry) → IsStrictlySortedBy string_cmp (keys_of es)
    → insert_all bytes_eq [] (table_of (members_view es)) ≡ table_of (members_view es)
insert_all-table_of es h = insert_all-rising (table_of (members_view es)) (IsRising-table_of es h)
