-- A tree of borrowed texts beside the data that it stands for.
use Rattle.std.proofs.Common.{
  ◌≡◌,
  ◌<◌,
  ◌+◌,
  ℕ,
  List,
  [],
  ◌∷◌,
  length,
  get_or,
  drop,
  Ordering,
  Less,
  Equal,
  Greater,
  nat_cmp,
  Bool,
  true,
  false,
  cond,
  Option,
  Some,
  None,
  bytes_eq,
  Global,
  true≢false,
  refl,
  sym,
  ap,
  ◌∙◌,
}
use Rattle.std.proofs.lemmas.List.{drop_more}
use Rattle.std.proofs.lemmas.Slice.Eq.{bytes_eq-Decides}
use Rattle.std.specs.Borrow.{Bor}
use Rattle.std.specs.BTreeMap.{insert_entry}
use Rattle.std.specs.Cmp.Lexicographic.{slice_cmp}
use Rattle.std.specs.List.{AllByRecursion}
use Rattle.std.specs.List.Sorted.{IsStrictlySortedBy}
use Rattle.std.specs.Map.{keys_of}
use Rattle.std.specs.Ordering.{match_ordering}
use Rattle.std.specs.Prelude.{map, option_map}
use Rattle.json.specs.Json as json
use Rattle.json.specs.Find as found
use Rattle.json.specs.Value.{value_view, items_view, members_view}
use Rattle.json.specs.declared.value.Value.{Value}
use Rattle.serde_json.specs.Data.{Num, Data, Members, no_members, put, item}
use Rattle.serde_json.specs.Find.{get, get_member, as_array}
use Rattle.serde_json.specs.Read.{number_of}
use Rattle.serde_json.specs.View.{items_of}
use Rattle.serde_json.proofs.Views.{get_member-put, get_member-put_other}
use Rattle.json_reading.specs.Borrowed.{data_of, data_of_items, data_of_members, number_or_zero}
use Rattle.json_reading.specs.Kinds.{NamesRise, is_null, listed}

-- borrowed texts in the order of their bytes
abbrev pub by_text : Bor (List ℕ) → Bor (List ℕ) → Ordering
by_text a b = slice_cmp nat_cmp a.now b.now

-- what a borrowed value stands for
abbrev pub told : Value Global → Data
told v = data_of (value_view v)

null-number : (o : Option Num) → false ≡ is_null (number_or_zero o)
null-number None = refl
null-number (Some n) = refl

pub null-data_of : (j : json.Json) → found.is_null j ≡ is_null (data_of j)
null-data_of json.null = refl
null-data_of (json.boolean b) = refl
null-data_of (json.number s) = null-number (number_of s)
null-data_of (json.string s) = refl
null-data_of (json.array js) = refl
null-data_of (json.object ms) = refl

items-data_of : (vs : List (Value Global)) → items_of (map told vs) ≡ data_of_items (items_view vs)
items-data_of [] = refl
items-data_of (v ∷ vs) = ap (item (told v)) (items-data_of vs)

-- the items of an array
pub array-told : (v : Value Global) (vs : List (Value Global)) → value_view v ≡ json.array (items_view vs)
    → Some (items_of (map told vs)) ≡ as_array (told v)
array-told v vs is = rw is (ap Some (items-data_of vs))

-- what was put at a name, and else what is found there
get-put : (b : Bool) (name k : List ℕ) (d : Data) (ms : Members) → bytes_eq k name ≡ b
    → get_member name (put k d ms) ≡ cond b (Some d) (get_member name ms)
get-put true name k d ms is = rw (sym ((bytes_eq-Decides k name).0 is)) (get_member-put k d ms)
get-put false name k d ms is =
    get_member-put_other name k d ms (λ same. true≢false (sym ((bytes_eq-Decides k name).1 (sym same)) ∙ is))

abbrev either : Option Data → Option Data → Option Data
either None d = d
either (Some d) e = Some d

either-later : (later : Option json.Json) (b : Bool) (j : json.Json) (before : Option Data)
    → either (option_map data_of later) (cond b (Some (data_of j)) before) ≡ either
    (option_map data_of (found.later_or later (cond b (Some j) None))) before
either-later None true j before = refl
either-later None false j before = refl
either-later (Some l) b j before = refl

get-data_of_members : (name : List ℕ) (ms : json.Members) (before : Members)
    → get_member name (data_of_members ms before) ≡ either (option_map data_of (found.get_member name ms))
    (get_member name before)
get-data_of_members name json.no_members before = refl
get-data_of_members name (json.member k j ms) before =
    get-data_of_members name ms (put k (data_of j) before)
    ∙ ap (either (option_map data_of (found.get_member name ms)))
    (get-put (bytes_eq k name) name k (data_of j) before refl)
    ∙ either-later (found.get_member name ms) (bytes_eq k name) j (get_member name before)

either-none : (o : Option Data) → either o None ≡ o
either-none None = refl
either-none (Some d) = refl

get-number : (name : List ℕ) (o : Option Num) → get name (number_or_zero o) ≡ None
get-number name None = refl
get-number name (Some n) = refl

-- the member of a name is the last one
pub get-data_of : (name : List ℕ) (j : json.Json) → get name (data_of j) ≡ option_map data_of (found.get name j)
get-data_of name json.null = refl
get-data_of name (json.boolean b) = refl
get-data_of name (json.number s) = get-number name (number_of s)
get-data_of name (json.string s) = refl
get-data_of name (json.array js) = refl
get-data_of name (json.object ms) = get-data_of_members name ms no_members ∙ either-none _

told-member : (r : Option (Bor (Value Global)))
    → option_map (λ v. told v.now) r ≡ option_map data_of (option_map (λ v. value_view v.now) r)
told-member None = refl
told-member (Some v) = refl

pub member-told : (name : List ℕ) (v : Value Global) (r : Option (Bor (Value Global)))
    → option_map (λ v. value_view v.now) r ≡ found.get name (value_view v)
    → option_map (λ v. told v.now) r ≡ get name (told v)
member-told name v r is = told-member r ∙ ap (option_map data_of) is ∙ sym (get-data_of name (value_view v))

told-given : (r : Option (Value Global)) → option_map told r ≡ option_map data_of (option_map value_view r)
told-given None = refl
told-given (Some v) = refl

-- a member that is given up is the member of that name in the value's data
pub member-given : (name : List ℕ) (v : Value Global) (r : Option (Value Global))
    → option_map value_view r ≡ found.get name (value_view v) → option_map told r ≡ get name (told v)
member-given name v r is = told-given r ∙ ap (option_map data_of) is ∙ sym (get-data_of name (value_view v))

listed-match_ordering : (o : Ordering) (a b c : List (Bor (List ℕ) × Bor (Value Global)))
    → listed told (match_ordering o a b c) ≡ match_ordering o (listed told a) (listed told b) (listed told c)
listed-match_ordering Less a b c = refl
listed-match_ordering Equal a b c = refl
listed-match_ordering Greater a b c = refl

-- an entry that is put into a map is put among the members
listed-insert_entry : (es : List (Bor (List ℕ) × Bor (Value Global))) (k : Bor (List ℕ)) (v : Bor (Value Global))
    → listed told (insert_entry by_text es k v) ≡ put k.now (told v.now) (listed told es)
listed-insert_entry [] k v = refl
listed-insert_entry (e ∷ es) k v = listed-match_ordering (by_text k e.0) _ _ _ ∙ rw (listed-insert_entry es k v)

-- a member that is put into a map is put among the members that are read so far
pub one-more : (ms : List (Bor (List ℕ) × Value Global)) (i : ℕ) (m : Bor (List ℕ) × Value Global)
    (es new : List (Bor (List ℕ) × Bor (Value Global))) (v : Bor (Value Global))
    → i < length ms → m ≡ get_or ms i m → v.now ≡ m.1 → new ≡ insert_entry by_text es m.0 v
    → data_of_members (members_view (drop (i + 1) ms)) (listed told new) ≡ data_of_members (members_view (drop i ms))
    (listed told es)
one-more ms i m es new v lt is borrowed made =
    rw (made, listed-insert_entry es m.0 v, borrowed, drop_more ms i m lt, ← is) refl

all-before : (k : Bor (List ℕ)) (es : List (Bor (List ℕ) × Bor (Value Global)))
    → AllByRecursion (λ l. by_text k l ≡ Less) (keys_of es)
    → AllByRecursion (λ n. slice_cmp nat_cmp k.now n ≡ Less) (map (λ m. m.0.now) es)
all-before k [] h = tt
all-before k (e ∷ es) h = (h.0, all-before k es h.1)

-- the names of a map rise
pub rise-sorted : (es : List (Bor (List ℕ) × Bor (Value Global))) → IsStrictlySortedBy by_text (keys_of es)
    → NamesRise es
unfolding IsStrictlySortedBy
rise-sorted [] h = tt
rise-sorted (e ∷ es) h = (all-before e.0 es h.0, rise-sorted es h.1)
