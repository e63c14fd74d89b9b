-- A tree of borrowed texts in which no number stands.
use Rattle.std.proofs.Common.{
  ◌≡◌,
  ℕ,
  List,
  Bool,
  true,
  false,
  ◌||◌,
  Some,
  Ordering,
  Less,
  Equal,
  Greater,
  refl,
  true≢false,
}
use Rattle.std.specs.Cmp.Lexicographic.{slice_cmp}
use Rattle.std.specs.Ordering.{nat_cmp, match_ordering}
use Rattle.json.specs.Json.{
  Json,
  null,
  boolean,
  number,
  string,
  array,
  object,
  Items,
  no_items,
  item,
  Members,
  no_members,
  member,
}
use Rattle.serde_json.specs.Data as value
use Rattle.serde_json.specs.Read.{of_json, of_items, of_members}
use Rattle.serde_json.specs.Written.{has_float, items_have_float, members_have_float}
use Rattle.json_reading.specs.Borrowed.{
  data_of,
  data_of_items,
  data_of_members,
  has_number,
  items_have_number,
  members_have_number,
}

first-lacks : (a b : Bool) → (a || b) ≡ false → a ≡ false
first-lacks true b lacks = absurd (true≢false lacks)
first-lacks false b lacks = refl

second-lacks : (a b : Bool) → (a || b) ≡ false → b ≡ false
second-lacks true b lacks = absurd (true≢false lacks)
second-lacks false b lacks = lacks

mutual
  -- it is JSON's value, and stands for that
  pub of_json-data_of : (j : Json) → has_number j ≡ false → of_json j ≡ Some (data_of j)
  of_json-data_of null lacks = refl
  of_json-data_of (boolean b) lacks = refl
  of_json-data_of (number s) lacks = absurd (true≢false lacks)
  of_json-data_of (string s) lacks = refl
  of_json-data_of (array js) lacks = rw (of_items-data_of js lacks) refl
  of_json-data_of (object ms) lacks = rw (of_members-data_of ms value.no_members lacks) refl

  of_items-data_of : (js : Items) → items_have_number js ≡ false → of_items js ≡ Some (data_of_items js)
  of_items-data_of no_items lacks = refl
  of_items-data_of (item j js) lacks = rw (
    of_json-data_of j (first-lacks (has_number j) (items_have_number js) lacks),
    of_items-data_of js (second-lacks (has_number j) (items_have_number js) lacks),
  ) refl

  of_members-data_of : (ms : Members) (found : value.Members) → members_have_number ms ≡ false
      → of_members ms found ≡ Some (data_of_members ms found)
  of_members-data_of no_members found lacks = refl
  of_members-data_of (member k j ms) found lacks =
      rw (of_json-data_of j (first-lacks (has_number j) (members_have_number ms) lacks))
      (of_members-data_of ms (value.put k (data_of j) found)
      (second-lacks (has_number j) (members_have_number ms) lacks))

neither : (a b : Bool) → a ≡ false → b ≡ false → (a || b) ≡ false
neither a b lacks none = rw (lacks, none) refl

put-at : (o : Ordering) (k l : List ℕ) (d e : value.Data) (ms : value.Members) → has_float d ≡ false
    → has_float e ≡ false → members_have_float ms ≡ false → members_have_float (value.put k d ms) ≡ false
    → members_have_float (match_ordering o (value.member k d (value.member l e ms)) (value.member l d ms)
    (value.member l e (value.put k d ms))) ≡ false
put-at Less k l d e ms one two rest more = neither _ _ one (neither _ _ two rest)
put-at Equal k l d e ms one two rest more = neither _ _ one rest
put-at Greater k l d e ms one two rest more = neither _ _ two more

put-no_float : (k : List ℕ) (d : value.Data) (ms : value.Members) → has_float d ≡ false → members_have_float ms ≡ false
    → members_have_float (value.put k d ms) ≡ false
put-no_float k d value.no_members one rest = neither _ _ one refl
put-no_float k d (value.member l e ms) one rest =
    put-at (slice_cmp nat_cmp k l) k l d e ms one (first-lacks _ _ rest) (second-lacks _ _ rest)
    (put-no_float k d ms one (second-lacks _ _ rest))

mutual
  -- and no float stands in it
  pub has_float-data_of : (j : Json) → has_number j ≡ false → has_float (data_of j) ≡ false
  has_float-data_of null lacks = refl
  has_float-data_of (boolean b) lacks = refl
  has_float-data_of (number s) lacks = absurd (true≢false lacks)
  has_float-data_of (string s) lacks = refl
  has_float-data_of (array js) lacks = items-no_float js lacks
  has_float-data_of (object ms) lacks = members-no_float ms value.no_members lacks refl

  items-no_float : (js : Items) → items_have_number js ≡ false → items_have_float (data_of_items js) ≡ false
  items-no_float no_items lacks = refl
  items-no_float (item j js) lacks =
      neither _ _ (has_float-data_of j (first-lacks _ _ lacks)) (items-no_float js (second-lacks _ _ lacks))

  members-no_float : (ms : Members) (found : value.Members) → members_have_number ms ≡ false
      → members_have_float found ≡ false → members_have_float (data_of_members ms found) ≡ false
  members-no_float no_members found lacks rest = rest
  members-no_float (member k j ms) found lacks rest =
      members-no_float ms (value.put k (data_of j) found) (second-lacks _ _ lacks)
      (put-no_float k (data_of j) found (has_float-data_of j (first-lacks _ _ lacks)) rest)
