-- A package that is written as JSON and loaded from that again.
use Rattle.std.proofs.Common.{
  ◌≡◌,
  ◌==◌,
  ◌||◌,
  ◌&&◌,
  ℕ,
  Bool,
  true,
  false,
  cond,
  List,
  [],
  ◌∷◌,
  ◌++◌,
  Option,
  Some,
  None,
  Less,
  Equal,
  Greater,
  Ordering,
  Ok,
  refl,
  sym,
  ap,
  ◌∙◌,
  codes,
  bytes_eq,
  append_assoc,
  append-nil,
}
use Rattle.std.specs.Prelude.{option_map, option_and_then, unwrap_or, map, fold, length}
use Rattle.std.specs.Cmp.Lexicographic.{slice_cmp}
use Rattle.std.specs.List.{AllByRecursion}
use Rattle.std.specs.List.Sorted.{IsStrictlySortedBy}
use Rattle.std.specs.Map.{keys_of}
use Rattle.std.specs.Ordering.{nat_cmp, match_ordering, ordering_reverse}
use Rattle.std.specs.Str.{trim, trim_start, trim_end, chars}
use Rattle.std.proofs.Math.Dec.{eqb-suc-zero}
use Rattle.std.proofs.lemmas.Cmp.{nat_list_cmp_total}
use Rattle.serde_json.specs.Data.{Data, null, boolean, number, string, array, object, Members, no_members, member, put}
use Rattle.serde_json.specs.Find.{get, get_member, as_str, as_array, as_object}
use Rattle.serde_json.specs.View.{items_of}
use Rattle.serde_json.specs.Written.{has_float, items_have_float, members_have_float}
use Rattle.json_reading.proofs.RisingNames.{StandsBefore, IsRising}
use Rattle.deno_package_json.specs.Exports.{exports_of, has_condition, has_mixed_exports, has_subpath}
use Rattle.deno_package_json.specs.Fields.{known_type, table_of, text_of, texts_of}
use Rattle.deno_package_json.specs.LoadedAgain.{
  HasOrderedTables,
  IsAsLoaded,
  IsOrdered,
  IsOrderedIfThere,
  LoadsAgain,
  TextLoadsAgain,
  loaded_again,
}
use Rattle.deno_package_json.specs.Loading.{from_value, package_in}
use Rattle.deno_package_json.specs.Package.{Package, Table, empty_package}
use Rattle.deno_package_json.specs.Value.{
  Fields,
  or_null,
  table_value,
  texts_value,
  value_of,
  with_fields,
  json_fields,
  text_fields,
  table_fields,
}

-- two tests that fail together
neither : (a b : Bool) → (a || b) ≡ false → (a ≡ false) × (b ≡ false)
neither true b h = cc
neither false b h = (refl, h)

-- ---- an object of texts, put one after another in order

abbrev text_members : Table → Members
text_members [] = no_members
text_members (e ∷ es) = member e.0 (string e.1) (text_members es)

table_of-text_members : (t : Table) → table_of (text_members t) ≡ t
table_of-text_members [] = refl
table_of-text_members (e ∷ es) = ap (λ rest. e ∷ rest) (table_of-text_members es)

put-last : (done : Table) (k v : List ℕ) → AllByRecursion (λ l. slice_cmp nat_cmp l k ≡ Less) (keys_of done)
    → put k (string v) (text_members done) ≡ text_members (done ++ (k, v) ∷ [])
put-last [] k v h = refl
put-last (d ∷ done) k v h = by_order (slice_cmp nat_cmp k d.0)
    (nat_list_cmp_total.antisymm k d.0 ∙ ap ordering_reverse h.0) (put-last done k v h.1)
  where
    by_order : (o : Ordering) → o ≡ Greater → put k (string v) (text_members done) ≡ text_members (done ++ (k, v) ∷ [])
        → match_ordering o (member k (string v) (text_members (d ∷ done))) (member d.0 (string v) (text_members done))
        (member d.0 (string d.1) (put k (string v) (text_members done))) ≡ text_members ((d ∷ done) ++ (k, v) ∷ [])
    by_order Less e later = cc
    by_order Equal e later = cc
    by_order Greater e later = ap (member d.0 (string d.1)) later

-- each name of the one stands before each of the other
abbrev AllBefore : List (List ℕ) → List (List ℕ) → Type 0
AllBefore done ks = AllByRecursion (λ d. AllByRecursion (λ k. slice_cmp nat_cmp d k ≡ Less) ks) done

heads : (done : List (List ℕ)) (k : List ℕ) (ks : List (List ℕ)) → AllBefore done (k ∷ ks)
    → AllByRecursion (λ d. slice_cmp nat_cmp d k ≡ Less) done
heads [] k ks h = tt
heads (d ∷ done) k ks h = (h.0.0, heads done k ks h.1)

tails : (done : Table) (e : List ℕ × List ℕ) (ks : List (List ℕ)) → AllBefore (keys_of done) (e.0 ∷ ks)
    → AllByRecursion (λ k. slice_cmp nat_cmp e.0 k ≡ Less) ks → AllBefore (keys_of (done ++ e ∷ [])) ks
tails [] e ks h first = (first, tt)
tails (d ∷ done) e ks h first = (h.0.1, tails done e ks h.1 first)

put_all : (es done : Table) → AllBefore (keys_of done) (keys_of es) → IsOrdered es
    → fold (λ found entry. put entry.0 (string entry.1) found) (text_members done) es ≡ text_members (done ++ es)
unfolding IsStrictlySortedBy
put_all [] done all ordered = ap text_members (sym (append-nil done))
put_all (e ∷ es) done all ordered =
    ap (λ ms. fold (λ found entry. put entry.0 (string entry.1) found) ms es)
    (put-last done e.0 e.1 (heads (keys_of done) e.0 (keys_of es) all))
    ∙ put_all es (done ++ e ∷ []) (tails done e (keys_of es) all ordered.0) ordered.1
    ∙ ap text_members (append_assoc done (e ∷ []) es)

-- ---- each field, read from what is written for it

table-again : (o : Option Table) → IsOrderedIfThere o → option_map table_of (as_object (or_null table_value o)) ≡ o
table-again None h = refl
table-again (Some t) h = ap (λ ms. Some (table_of ms)) (put_all t [] tt h) ∙ ap Some (table_of-text_members t)

texts_of-strings : (ts : List (List ℕ)) → texts_of (items_of (map string ts)) ≡ ts
texts_of-strings [] = refl
texts_of-strings (t ∷ ts) = ap (λ rest. t ∷ rest) (texts_of-strings ts)

texts-again : (o : Option (List (List ℕ))) → option_map texts_of (as_array (or_null texts_value o)) ≡ o
texts-again None = refl
texts-again (Some ts) = ap Some (texts_of-strings ts)

text-again : (o : Option (List ℕ)) → text_of (or_null string o) ≡ o
text-again None = refl
text-again (Some t) = refl

imports-again : (o : Option Members) → as_object (or_null object o) ≡ o
imports-again None = refl
imports-again (Some ms) = refl

exports-again : (o : Option Members) → unwrap_or (option_map has_condition o) false ≡ false
    → exports_of (or_null object o) ≡ o
exports-again None h = refl
exports-again (Some ms) h = rw h refl

mixed-again : (o : Option Members) → unwrap_or (option_map has_condition o) false ≡ false
    → unwrap_or (option_map (λ ms. has_subpath ms && has_condition ms) (as_object (or_null object o))) false ≡ false
mixed-again None h = refl
mixed-again (Some ms) h = rw h (by_test (has_subpath ms))
  where
    by_test : (b : Bool) → (b && false) ≡ false
    by_test true = refl
    by_test false = refl

fields-again : (p : Package) → IsAsLoaded p → package_in p.path (value_of p) ≡ loaded_again p
fields-again p h = λ i. record {
  path = p.path;
  exports = exports-again p.exports h.subpaths i;
  imports = imports-again p.imports i;
  bin = Some (unwrap_or p.bin null);
  main = text-again p.main i;
  «module» = text-again p.module i;
  name = text-again p.name i;
  version = text-again p.version i;
  typ = h.typ i;
  types = text-again p.types i;
  dependencies = table-again p.dependencies h.tables.dependencies i;
  dev_dependencies = table-again p.dev_dependencies h.tables.dev_dependencies i;
  scripts = table-again p.scripts h.tables.scripts i;
  workspaces = texts-again p.workspaces i;
}

pub loads_again : LoadsAgain
loads_again p h = from_tests h.whole (mixed-again p.exports h.subpaths)
  where
    from_tests : has_float (value_of p) ≡ false → has_mixed_exports (value_of p) ≡ false
        → from_value p.path (value_of p) ≡ Ok (loaded_again p)
    from_tests whole mixed = rw (whole, mixed) (ap Ok (fields-again p h))

-- ---- the text that is written

trim_start-brace : (t : List ℕ) → (u : List ℕ) × (trim_start (123 ∷ t) ≡ 123 ∷ u)
unfolding trim_start chars lib.Utf8.encode
trim_start-brace [] = ([], refl)
trim_start-brace (c ∷ t) = (_, refl)

trim_end-brace : (t : List ℕ) → (u : List ℕ) × (trim_end (123 ∷ t) ≡ 123 ∷ u)
unfolding trim_end chars lib.Utf8.encode
trim_end-brace [] = ([], refl)
trim_end-brace (c ∷ t) = (_, refl)

trim-brace : (t : List ℕ) → (length (trim (123 ∷ t)) == 0) ≡ false
trim-brace t = let start = trim_start-brace t in let end = trim_end-brace start.0 in
    rw (start.1, end.1) (eqb-suc-zero (length end.0))

pub text_loads_again : TextLoadsAgain
text_loads_again p h reads = rw (trim-brace _, reads) (loads_again p h)

-- ---- what a load answers is as the laws want it

before-keys : (k : List ℕ) (es : Table) → AllByRecursion (StandsBefore k) es
    → AllByRecursion (λ l. slice_cmp nat_cmp k l ≡ Less) (keys_of es)
before-keys k [] h = tt
before-keys k (e ∷ es) h = (h.0, before-keys k es h.1)

pub IsOrdered-rising : (es : Table) → IsRising es → IsOrdered es
unfolding IsStrictlySortedBy
IsOrdered-rising [] h = tt
IsOrdered-rising (e ∷ es) h = (before-keys e.0 es h.0, IsOrdered-rising es h.1)

-- no float comes into an object with a value that has none
put-whole : (k : List ℕ) (d : Data) (ms : Members) → has_float d ≡ false → members_have_float ms ≡ false
    → members_have_float (put k d ms) ≡ false
put-whole k d no_members whole rest = rw whole refl
put-whole k d (member l e ms) whole rest =
    let both = neither (has_float e) (members_have_float ms) rest in
    by_order (slice_cmp nat_cmp k l) both.0 both.1 (put-whole k d ms whole both.1)
  where
    by_order : (o : Ordering) → has_float e ≡ false → members_have_float ms ≡ false
        → members_have_float (put k d ms) ≡ false
        → members_have_float (match_ordering o (member k d (member l e ms)) (member l d ms) (member l e (put k d ms))) ≡
        false
    by_order Less one more later = rw whole rest
    by_order Equal one more later = rw (whole, more) refl
    by_order Greater one more later = rw (one, later) refl

with_fields-whole : (fields : Fields) (ms : Members) → AllByRecursion (λ field. has_float field.1 ≡ false) fields
    → members_have_float ms ≡ false → members_have_float (with_fields ms fields) ≡ false
with_fields-whole [] ms all whole = whole
with_fields-whole (f ∷ fields) ms all whole =
    with_fields-whole fields (put f.0 f.1 ms) all.1 (put-whole f.0 f.1 ms all.0 whole)

member-whole : (k : List ℕ) (ms : Members) → members_have_float ms ≡ false
    → has_float (unwrap_or (get_member k ms) null) ≡ false
member-whole k no_members whole = refl
member-whole k (member l e ms) whole =
    let both = neither (has_float e) (members_have_float ms) whole in
    by_order (slice_cmp nat_cmp k l) both.0 (member-whole k ms both.1)
  where
    by_order : (o : Ordering) → has_float e ≡ false → has_float (unwrap_or (get_member k ms) null) ≡ false
        → has_float (unwrap_or (match_ordering o (get_member k ms) (Some e) (get_member k ms)) null) ≡ false
    by_order Less one later = later
    by_order Equal one later = one
    by_order Greater one later = later

get-whole : (k : List ℕ) (d : Data) → has_float d ≡ false → has_float (unwrap_or (get k d) null) ≡ false
get-whole k null whole = refl
get-whole k (boolean b) whole = refl
get-whole k (number n) whole = refl
get-whole k (string s) whole = refl
get-whole k (array ds) whole = refl
get-whole k (object ms) whole = member-whole k ms whole

exports_of-whole : (d : Data) → has_float d ≡ false → has_float (or_null object (exports_of d)) ≡ false
exports_of-whole null whole = refl
exports_of-whole (boolean b) whole = refl
exports_of-whole (number n) whole = refl
exports_of-whole (string s) whole = refl
exports_of-whole (array ds) whole = rw whole refl
exports_of-whole (object ms) whole = by_test (has_condition ms)
  where
    by_test : (b : Bool) → members_have_float (cond b (member (codes ".") (object ms) no_members) ms) ≡ false
    by_test true = rw whole refl
    by_test false = whole

exports-whole : (o : Option Data) → has_float (unwrap_or o null) ≡ false
    → has_float (or_null object (option_and_then exports_of o)) ≡ false
exports-whole None whole = refl
exports-whole (Some d) whole = exports_of-whole d whole

as_object-whole : (d : Data) → has_float d ≡ false → has_float (or_null object (as_object d)) ≡ false
as_object-whole null whole = refl
as_object-whole (boolean b) whole = refl
as_object-whole (number n) whole = refl
as_object-whole (string s) whole = refl
as_object-whole (array ds) whole = refl
as_object-whole (object ms) whole = whole

imports-whole : (o : Option Data) → has_float (unwrap_or o null) ≡ false
    → has_float (or_null object (option_and_then as_object o)) ≡ false
imports-whole None whole = refl
imports-whole (Some d) whole = as_object-whole d whole

text-whole : (o : Option (List ℕ)) → has_float (or_null string o) ≡ false
text-whole None = refl
text-whole (Some t) = refl

put_texts-whole : (es : Table) (ms : Members) → members_have_float ms ≡ false
    → members_have_float (fold (λ found entry. put entry.0 (string entry.1) found) ms es) ≡ false
put_texts-whole [] ms whole = whole
put_texts-whole (e ∷ es) ms whole =
    put_texts-whole es (put e.0 (string e.1) ms) (put-whole e.0 (string e.1) ms refl whole)

table-whole : (o : Option Table) → has_float (or_null table_value o) ≡ false
table-whole None = refl
table-whole (Some t) = put_texts-whole t no_members refl

strings-whole : (ts : List (List ℕ)) → items_have_float (items_of (map string ts)) ≡ false
strings-whole [] = refl
strings-whole (t ∷ ts) = strings-whole ts

texts-whole : (o : Option (List (List ℕ))) → has_float (or_null texts_value o) ≡ false
texts-whole None = refl
texts-whole (Some ts) = strings-whole ts

value_of-whole : (p : Package) → has_float (or_null object p.exports) ≡ false
    → has_float (or_null object p.imports) ≡ false → has_float (unwrap_or p.bin null) ≡ false
    → has_float (value_of p) ≡ false
value_of-whole p exports imports bin =
    with_fields-whole (table_fields p) (with_fields (with_fields no_members (json_fields p)) (text_fields p)) (
      table-whole p.dependencies,
      (
        table-whole p.dev_dependencies,
        (table-whole p.scripts, (texts-whole p.workspaces, tt)),
      ),
    )
    (with_fields-whole (text_fields p) (with_fields no_members (json_fields p)) (
      text-whole p.main,
      (
        text-whole p.module,
        (text-whole p.name, (text-whole p.version, (refl, (text-whole p.types, tt)))),
      ),
    )
    (with_fields-whole (json_fields p) no_members (exports, (imports, (bin, tt))) refl))

typ-known : (o : Option (List ℕ)) → known_type (unwrap_or (option_map known_type o) (codes "none")) ≡ unwrap_or
    (option_map known_type o) (codes "none")
typ-known None = refl
typ-known (Some t) = by_test (bytes_eq t (codes "module") || bytes_eq t (codes "commonjs")) refl
  where
    by_test : (b : Bool) → (bytes_eq t (codes "module") || bytes_eq t (codes "commonjs")) ≡ b
        → known_type (cond b t (codes "none")) ≡ cond b t (codes "none")
    by_test true e = rw e refl
    by_test false e = refl

exports_of-subpaths : (d : Data) → unwrap_or (option_map has_condition (exports_of d)) false ≡ false
exports_of-subpaths null = refl
exports_of-subpaths (boolean b) = refl
exports_of-subpaths (number n) = refl
exports_of-subpaths (string s) = refl
exports_of-subpaths (array ds) = refl
exports_of-subpaths (object ms) = by_test (has_condition ms) refl
  where
    by_test : (b : Bool) → has_condition ms ≡ b
        → has_condition (cond b (member (codes ".") (object ms) no_members) ms) ≡ false
    by_test true e = refl
    by_test false e = e

exports-subpaths : (o : Option Data) → unwrap_or (option_map has_condition (option_and_then exports_of o)) false ≡ false
exports-subpaths None = refl
exports-subpaths (Some d) = exports_of-subpaths d

pub as_loaded : (path : List ℕ) (d : Data) → has_float d ≡ false → HasOrderedTables (package_in path d)
    → IsAsLoaded (package_in path d)
as_loaded path d whole tables = record {
  typ = typ-known (option_and_then as_str (get (codes "type") d));
  subpaths = exports-subpaths (get (codes "exports") d);
  tables = tables;
  whole = value_of-whole (package_in path d)
      (exports-whole (get (codes "exports") d) (get-whole (codes "exports") d whole))
      (imports-whole (get (codes "imports") d) (get-whole (codes "imports") d whole))
      (get-whole (codes "bin") d whole);
}

pub empty-as_loaded : (path : List ℕ) → IsAsLoaded (empty_package path)
empty-as_loaded path = record {
  typ = refl;
  subpaths = refl;
  tables = record { dependencies = tt; dev_dependencies = tt; scripts = tt };
  whole = value_of-whole (empty_package path) refl refl refl;
}
