-- The data that a tree of borrowed texts stands for (RFC 8259).
use Rattle.std.specs.Prelude.{Bool, true, false, ◌||◌, Option, Some, None}
use Rattle.json.specs.Json as json
use Rattle.serde_json.specs.Data.{
  Num,
  unsigned,
  Data,
  null,
  boolean,
  number,
  string,
  array,
  object,
  Items,
  no_items,
  item,
  Members,
  no_members,
  put,
}
use Rattle.serde_json.specs.Read.{number_of}

-- a number, and 0 for one that is too large for a float
abbrev pub number_or_zero : Option Num → Data
number_or_zero None = number (unsigned 0)
number_or_zero (Some n) = number n

-- the data of a tree: an object has each key once, in the byte order of the keys, with its last value
abbrev mutual
  pub data_of : json.Json → Data
  data_of json.null = null
  data_of (json.boolean b) = boolean b
  data_of (json.number s) = number_or_zero (number_of s)
  data_of (json.string s) = string s
  data_of (json.array js) = array (data_of_items js)
  data_of (json.object ms) = object (data_of_members ms no_members)

  pub data_of_items : json.Items → Items
  data_of_items json.no_items = no_items
  data_of_items (json.item j js) = item (data_of j) (data_of_items js)

  pub data_of_members : json.Members → Members → Members
  data_of_members json.no_members found = found
  data_of_members (json.member k j ms) found = data_of_members ms (put k (data_of j) found)

-- a number stands in the tree, at any depth
abbrev mutual
  pub has_number : json.Json → Bool
  has_number json.null = false
  has_number (json.boolean b) = false
  has_number (json.number s) = true
  has_number (json.string s) = false
  has_number (json.array js) = items_have_number js
  has_number (json.object ms) = members_have_number ms

  pub items_have_number : json.Items → Bool
  items_have_number json.no_items = false
  items_have_number (json.item j js) = has_number j || items_have_number js

  pub members_have_number : json.Members → Bool
  members_have_number json.no_members = false
  members_have_number (json.member k j ms) = has_number j || members_have_number ms
