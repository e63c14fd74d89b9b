-- The maps of a manifest that was read hold a key once.
use Rattle.std.proofs.Common.{
  ◌≡◌,
  ℕ,
  Bool,
  true,
  false,
  cond,
  List,
  [],
  ◌∷◌,
  map,
  codes,
  bytes_eq,
  Option,
  Some,
  None,
  Result,
  Ok,
  Err,
  refl,
  sym,
  ap,
  subst,
  ◌∙◌,
}
use Rattle.std.specs.Prelude.{option_map, option_and_then}
use Rattle.std.specs.List.{AllByRecursion, IsDistinct}
use Rattle.std.specs.Map.{keys_of, lookup}
use Rattle.std.specs.Str.{is_utf8, chars}
use Rattle.std.proofs.lemmas.Cmp.{nat_list_eq_equiv}
use Rattle.std.proofs.lemmas.Map.Keys.{IsDistinct-cons, IsDistinct-head, IsDistinct-tail}
use Rattle.std.proofs.lemmas.Map.Made.{keys_of-map_values}
use Rattle.std.proofs.lemmas.Option.{none-some, same_Some}
use Rattle.indexmap.specs.IndexMap.{insert_entry, insert_all}
use Rattle.serde_json.specs.Data.{Data, Items, no_items, item}
use Rattle.serde_json.specs.Find.{get, as_array, as_str, as_bool}
use Rattle.serde_json.specs.Written.{has_float}
use Rattle.serde_json.specs.Read.{read}
use Rattle.json_reading.specs.Reading.{◌>>=◌, items_by, list_by, two_by, pair_by, nullable_by, field_by, field_or}
use Rattle.es_pattern.specs.Tree.{Tree}
use Rattle.es_pattern.specs.Accepted.{pattern_of}
use Rattle.sugar_path.specs.Path.{Path, text_of, parent}
use Rattle.pnp_core.specs.declared.error.HydrationCause.{HydrationCause}
use Rattle.pnp_core.specs.declared.error.HydrationCause.TheVariants.{
  NotText,
  NoPayload,
  BadJson,
  BadPattern,
  NoTopLevel,
}
use Rattle.pnp_core.specs.declared.manifest.PackageLocator.{PackageLocator}
use Rattle.pnp_core.specs.Manifest.{Contents, Dependencies, Package, Registry, at, has_row, package_at, top_level}
use Rattle.pnp_core.specs.ManifestReading.{
  entries_of,
  named,
  dependency_in,
  dependencies_in,
  package_in,
  references_in,
  registry_in,
  fields_but_registry,
  with_registry,
  fields_in,
  with_pattern,
  with_pattern_text,
  from_fields,
  manifest_in,
  from_data,
  located,
  located_rows,
  located_registry,
  initialized,
  with_top_level,
  placed_at,
  from_payload,
  from_text,
  reading,
}
use Rattle.pnp_core.specs.Payload.{payload}
use Rattle.pnp_core.specs.NamesOnce.{HasNamesOnce, NamesStandOnce}

-- ---- an entry that is put into a map
keys-put : {A : Type 0} (P : List ℕ → Type 0) (es : List (List ℕ × A)) (name : List ℕ) (a : A)
    → AllByRecursion P (keys_of es) → P name → AllByRecursion P (keys_of (insert_entry bytes_eq es name a))
keys-put P [] name a all own = (own, tt)
keys-put {A} P (e ∷ es) name a all own = by_test (bytes_eq name e.0) (keys-put P es name a all.1 own)
  where
    by_test : (b : Bool) → AllByRecursion P (keys_of (insert_entry bytes_eq es name a))
        → AllByRecursion P (keys_of (cond b ((e.0, a) ∷ es) (e ∷ insert_entry bytes_eq es name a)))
    by_test true rest = all
    by_test false rest = (all.0, rest)

values-put : {A : Type 0} (P : A → Type 0) (es : List (List ℕ × A)) (name : List ℕ) (a : A)
    → AllByRecursion (λ e. P e.1) es → P a → AllByRecursion (λ e. P e.1) (insert_entry bytes_eq es name a)
values-put P [] name a all own = (own, tt)
values-put {A} P (e ∷ es) name a all own = by_test (bytes_eq name e.0) (values-put P es name a all.1 own)
  where
    by_test : (b : Bool) → AllByRecursion (λ e. P e.1) (insert_entry bytes_eq es name a)
        → AllByRecursion (λ e. P e.1) (cond b ((e.0, a) ∷ es) (e ∷ insert_entry bytes_eq es name a))
    by_test true rest = (own, all.1)
    by_test false rest = (all.0, rest)

distinct-put : {A : Type 0} (es : List (List ℕ × A)) (name : List ℕ) (a : A) → IsDistinct bytes_eq (keys_of es)
    → IsDistinct bytes_eq (keys_of (insert_entry bytes_eq es name a))
distinct-put [] name a distinct = IsDistinct-cons bytes_eq name [] tt distinct
distinct-put {A} (e ∷ es) name a distinct =
    by_test (bytes_eq name e.0) refl (distinct-put es name a (IsDistinct-tail bytes_eq e.0 (keys_of es) distinct))
  where
    by_test : (b : Bool) → bytes_eq name e.0 ≡ b
        → IsDistinct bytes_eq (keys_of (insert_entry bytes_eq es name a))
        → IsDistinct bytes_eq (keys_of (cond b ((e.0, a) ∷ es) (e ∷ insert_entry bytes_eq es name a)))
    by_test true same rest = distinct
    by_test false other rest =
        IsDistinct-cons bytes_eq e.0 (keys_of (insert_entry bytes_eq es name a))
        (keys-put (λ key. bytes_eq e.0 key ≡ false) es name a (IsDistinct-head bytes_eq e.0 (keys_of es) distinct)
        (nat_list_eq_equiv.symm e.0 name ∙ other)) rest

-- ---- entries that are put in turn
distinct-all : {A : Type 0} (es xs : List (List ℕ × A)) → IsDistinct bytes_eq (keys_of es)
    → IsDistinct bytes_eq (keys_of (insert_all bytes_eq es xs))
distinct-all es [] distinct = distinct
distinct-all es (x ∷ xs) distinct =
    distinct-all (insert_entry bytes_eq es x.0 x.1) xs (distinct-put es x.0 x.1 distinct)

values-all : {A : Type 0} (P : A → Type 0) (es xs : List (List ℕ × A)) → AllByRecursion (λ e. P e.1) es
    → AllByRecursion (λ e. P e.1) xs → AllByRecursion (λ e. P e.1) (insert_all bytes_eq es xs)
values-all P es [] all own = all
values-all P es (x ∷ xs) all own =
    values-all P (insert_entry bytes_eq es x.0 x.1) xs (values-put P es x.0 x.1 all own.0) own.1

distinct-none : IsDistinct bytes_eq []
unfolding IsDistinct
distinct-none = tt

distinct-entries : {A : Type 0} (pairs : List (List ℕ × A)) → IsDistinct bytes_eq (keys_of (entries_of pairs))
distinct-entries pairs = distinct-all [] pairs distinct-none

looked_up : {A : Type 0} (P : A → Type 0) (test : List ℕ → Bool) (es : List (List ℕ × A)) (a : A)
    → AllByRecursion (λ e. P e.1) es → lookup test es ≡ Some a → P a
looked_up P test [] a all e = absurd (none-some a e)
looked_up {A} P test (entry ∷ es) a all e = by_test (test entry.0) (looked_up P test es a all.1) e
  where
    by_test : (b : Bool) → (lookup test es ≡ Some a → P a) → cond b (Some entry.1) (lookup test es) ≡ Some a → P a
    by_test true rest is = subst P (same_Some entry.1 a is) all.0
    by_test false rest is = rest is

-- ---- lists and pairs that are read
all-items : {A : Type 0} (f : Data → Option A) (P : A → Type 0) → ((d : Data) (a : A) → f d ≡ Some a → P a)
    → (ds : Items) (xs : List A) → items_by f ds ≡ Some xs → AllByRecursion P xs
all-items f P each no_items xs e = subst (AllByRecursion P) (same_Some [] xs e) tt
all-items {A} f P each (item d ds) xs e = by_parts (f d) (items_by f ds) (each d) (all-items f P each ds) e
  where
    by_parts : (first : Option A) (rest : Option (List A)) → ((a : A) → first ≡ Some a → P a)
        → ((ys : List A) → rest ≡ Some ys → AllByRecursion P ys)
        → (first >>= λ a. rest >>= λ ys. Some (a ∷ ys)) ≡ Some xs → AllByRecursion P xs
    by_parts None rest own others is = absurd (none-some xs is)
    by_parts (Some a) None own others is = absurd (none-some xs is)
    by_parts (Some a) (Some ys) own others is =
        subst (AllByRecursion P) (same_Some (a ∷ ys) xs is) (own a refl, others ys refl)

all-listed : {A : Type 0} (f : Data → Option A) (P : A → Type 0) → ((d : Data) (a : A) → f d ≡ Some a → P a)
    → (d : Data) (xs : List A) → list_by f d ≡ Some xs → AllByRecursion P xs
all-listed {A} f P each d xs e = by_kind (as_array d) e
  where
    by_kind : (o : Option Items) → (o >>= items_by f) ≡ Some xs → AllByRecursion P xs
    by_kind None is = absurd (none-some xs is)
    by_kind (Some ds) is = all-items f P each ds xs is

second-of_two : {A B : Type 0} (f : Data → Option A) (g : Data → Option B) (P : B → Type 0)
    → ((d : Data) (b : B) → g d ≡ Some b → P b) → (ds : Items) (pair : A × B) → two_by f g ds ≡ Some pair → P pair.1
second-of_two f g P each no_items pair e = absurd (none-some pair e)
second-of_two f g P each (item a no_items) pair e = absurd (none-some pair e)
second-of_two {A} {B} f g P each (item a (item b no_items)) pair e = by_parts (f a) (g b) (each b) e
  where
    by_parts : (first : Option A) (second : Option B) → ((x : B) → second ≡ Some x → P x)
        → (first >>= λ x. second >>= λ y. Some (x, y)) ≡ Some pair → P pair.1
    by_parts None second own is = absurd (none-some pair is)
    by_parts (Some x) None own is = absurd (none-some pair is)
    by_parts (Some x) (Some y) own is = subst P (ap (λ (p : A × B). p.1) (same_Some (x, y) pair is)) (own y refl)
second-of_two f g P each (item a (item b (item c rest))) pair e = absurd (none-some pair e)

second-of_pair : {A B : Type 0} (f : Data → Option A) (g : Data → Option B) (P : B → Type 0)
    → ((d : Data) (b : B) → g d ≡ Some b → P b) → (d : Data) (pair : A × B) → pair_by f g d ≡ Some pair → P pair.1
second-of_pair {A} {B} f g P each d pair e = by_kind (as_array d) e
  where
    by_kind : (o : Option Items) → (o >>= two_by f g) ≡ Some pair → P pair.1
    by_kind None is = absurd (none-some pair is)
    by_kind (Some ds) is = second-of_two f g P each ds pair is

mapped-some : {A B : Type 0} (f : A → B) (o : Option A) (b : B) → option_map f o ≡ Some b
    → (a : A) × (o ≡ Some a) × (f a ≡ b)
mapped-some f None b e = absurd (none-some b e)
mapped-some f (Some a) b e = (a, refl, same_Some (f a) b e)

all-named : {A : Type 0} (P : A → Type 0) (pairs : List (Option (List ℕ) × A)) → AllByRecursion (λ e. P e.1) pairs
    → AllByRecursion (λ e. P e.1) (map named pairs)
all-named P [] all = tt
all-named P (x ∷ xs) all = (all.0, all-named P xs all.1)

-- ---- the maps of a manifest, as they are read
abbrev BindsOnce : Package → Type 0
BindsOnce row = IsDistinct bytes_eq (keys_of row.package_dependencies)

pub record AreReferences (references : List (List ℕ × Package)) : Type 0 where
  pub once : IsDistinct bytes_eq (keys_of references)
  pub rows : AllByRecursion (λ e. BindsOnce e.1) references

pub record AreRows (registry : Registry) : Type 0 where
  pub once : IsDistinct bytes_eq (keys_of registry)
  pub each : AllByRecursion (λ e. AreReferences e.1) registry

dependencies-once : (d : Data) (bound : Dependencies) → dependencies_in d ≡ Some bound
    → IsDistinct bytes_eq (keys_of bound)
dependencies-once d bound e =
    let made = mapped-some entries_of (list_by (pair_by as_str (nullable_by dependency_in)) d) bound e in
    subst (λ es. IsDistinct bytes_eq (keys_of es)) made.2 (distinct-entries made.0)

field-read : {A : Type 0} (key : List ℕ) (f : Data → Option A) (P : A → Type 0)
    → ((d : Data) (a : A) → f d ≡ Some a → P a) → (d : Data) (a : A) → field_by key f d ≡ Some a → P a
field-read {A} key f P each d a e = by_member (get key d) e
  where
    by_member : (o : Option Data) → (o >>= f) ≡ Some a → P a
    by_member None is = absurd (none-some a is)
    by_member (Some v) is = each v a is

abbrev row_of : List ℕ → Bool → Dependencies → Package
row_of location discard bound = record {
  package_location = location;
  discard_from_lookup = discard;
  package_dependencies = bound;
}

package-once : (d : Data) (row : Package) → package_in d ≡ Some row → BindsOnce row
unfolding package_in
package-once d row e =
    by_parts (field_by (codes "packageLocation") as_str d) (field_or (codes "discardFromLookup") false as_bool d)
    (field_by (codes "packageDependencies") dependencies_in d)
    (field-read (codes "packageDependencies") dependencies_in (λ bound. IsDistinct bytes_eq (keys_of bound))
    dependencies-once d) e
  where
    by_parts : (location : Option (List ℕ)) (discard : Option Bool) (bound : Option Dependencies)
        → ((x : Dependencies) → bound ≡ Some x → IsDistinct bytes_eq (keys_of x))
        → (location >>= λ l. discard >>= λ b. bound >>= λ x. Some (row_of l b x)) ≡ Some row → BindsOnce row
    by_parts None discard bound own is = absurd (none-some row is)
    by_parts (Some l) None bound own is = absurd (none-some row is)
    by_parts (Some l) (Some b) None own is = absurd (none-some row is)
    by_parts (Some l) (Some b) (Some x) own is = subst BindsOnce (same_Some (row_of l b x) row is) (own x refl)

references-once : (d : Data) (references : List (List ℕ × Package)) → references_in d ≡ Some references
    → AreReferences references
references-once d references e =
    let made = mapped-some (λ pairs. entries_of (map named pairs)) (list_by (pair_by (nullable_by as_str) package_in) d)
    references e in
    let rows = all-listed (pair_by (nullable_by as_str) package_in) (λ pair. BindsOnce pair.1)
    (second-of_pair (nullable_by as_str) package_in BindsOnce package-once) d made.0 made.1 in
    subst AreReferences made.2 (record {
      once = distinct-entries (map named made.0);
      rows = values-all BindsOnce [] (map named made.0) tt (all-named BindsOnce made.0 rows);
    })

registry-once : (d : Data) (registry : Registry) → registry_in d ≡ Some registry → AreRows registry
registry-once d registry e =
    let made = mapped-some (λ pairs. entries_of (map named pairs))
    (list_by (pair_by (nullable_by as_str) references_in) d) registry e in
    let each = all-listed (pair_by (nullable_by as_str) references_in) (λ pair. AreReferences pair.1)
    (second-of_pair (nullable_by as_str) references_in AreReferences references-once) d made.0 made.1 in
    subst AreRows made.2 (record {
      once = distinct-entries (map named made.0);
      each = values-all AreReferences [] (map named made.0) tt (all-named AreReferences made.0 each);
    })

-- ---- the manifest
abbrev HasRows : Contents → Type 0
HasRows m = AreRows m.package_registry_data

abbrev Read : Type 0
Read = Contents × Option (List ℕ)

fields-once : (d : Data) (read : Read) → fields_in d ≡ Some read → HasRows read.0
unfolding fields_in
fields-once d read e =
    by_parts (fields_but_registry d) (field_by (codes "packageRegistryData") registry_in d)
    (field-read (codes "packageRegistryData") registry_in AreRows registry-once d) e
  where
    by_parts : (first : Option Read) (registry : Option Registry) → ((x : Registry) → registry ≡ Some x → AreRows x)
        → (first >>= λ r. registry >>= λ x. Some (with_registry r.0 x, r.1)) ≡ Some read → HasRows read.0
    by_parts None registry own is = absurd (none-some read is)
    by_parts (Some r) None own is = absurd (none-some read is)
    by_parts (Some r) (Some x) own is =
        subst (λ (y : Read). HasRows y.0) (same_Some (with_registry r.0 x, r.1) read is) (own x refl)

pattern-kept : (r m : Contents) (text : Option (List ℕ)) → with_pattern_text r text ≡ Ok m → HasRows r → HasRows m
pattern-kept r m None e rows = let same : r ≡ m = cc in subst HasRows same rows
pattern-kept r m (Some text) e rows = by_tree (pattern_of (chars text)) e
  where
    by_tree : (o : Option Tree) → with_pattern r o ≡ Ok m → HasRows m
    by_tree None is = absurd (cc)
    by_tree (Some tree) is =
        let same : record r { ignore_pattern_data = Some tree } ≡ m = cc in subst HasRows same rows

manifest-once : (d : Data) (m : Contents) → manifest_in d ≡ Ok m → HasRows m
manifest-once d m e = by_fields (has_float d) (fields_in d) (fields-once d) e
  where
    by_fields : (float : Bool) (o : Option Read) → ((read : Read) → o ≡ Some read → HasRows read.0)
        → cond float (Err BadJson) (from_fields o) ≡ Ok m → HasRows m
    by_fields true o own is = absurd (cc)
    by_fields false None own is = absurd (cc)
    by_fields false (Some read) own is = pattern-kept read.0 m read.1 is (own read refl)

-- ---- locations that are read from the manifest's folder
located-rows : (dir : List ℕ) (references : List (List ℕ × Package)) → AllByRecursion (λ e. BindsOnce e.1) references
    → AllByRecursion (λ e. BindsOnce e.1) (located_rows dir references)
located-rows dir [] all = tt
located-rows dir (row ∷ rows) all = (all.0, located-rows dir rows all.1)

located-references : (dir : List ℕ) (references : List (List ℕ × Package)) → AreReferences references
    → AreReferences (located_rows dir references)
located-references dir references are = record {
  once = subst (IsDistinct bytes_eq) (sym (keys_of-map_values (located dir) references)) are.once;
  rows = located-rows dir references are.rows;
}

located-each : (dir : List ℕ) (registry : Registry) → AllByRecursion (λ e. AreReferences e.1) registry
    → AllByRecursion (λ e. AreReferences e.1) (located_registry dir registry)
located-each dir [] all = tt
located-each dir (entry ∷ entries) all = (located-references dir entry.1 all.0, located-each dir entries all.1)

located-once : (dir : List ℕ) (registry : Registry) → AreRows registry → AreRows (located_registry dir registry)
located-once dir registry are = record {
  once = subst (IsDistinct bytes_eq) (sym (keys_of-map_values (located_rows dir) registry)) are.once;
  each = located-each dir registry are.each;
}

top_level-once : (p : Path) (read : Result Contents HydrationCause) (m : Contents) → placed_at p read ≡ Ok m
    → ((r : Contents) → read ≡ Ok r → HasRows r) → HasRows m
top_level-once p (Err cause) m e own = absurd (cc)
top_level-once p (Ok r) m e own = by_row (has_row r top_level) e
  where
    by_row : (b : Bool) → cond b (Ok (initialized p r)) (Err NoTopLevel) ≡ Ok m → HasRows m
    by_row true is =
        let same : initialized p r ≡ m = cc in
        subst HasRows same (located-once (text_of (parent p)) r.package_registry_data (own r refl))
    by_row false is = absurd (cc)

data-once : (o : Option Data) (m : Contents) → from_data o ≡ Ok m → HasRows m
data-once None m e = absurd (cc)
data-once (Some d) m e = manifest-once d m e

payload-once : (p : Path) (o : Option (List ℕ)) (m : Contents) → from_payload p o ≡ Ok m → HasRows m
payload-once p None m e = absurd (cc)
payload-once p (Some text) m e = top_level-once p (from_data (read text)) m e (data-once (read text))

reading-once : (content : Option (List ℕ)) (p : Path) (m : Contents) → reading content p ≡ Ok m → HasRows m
reading-once None p m e = absurd (cc)
reading-once (Some bytes) p m e = by_text (is_utf8 bytes) e
  where
    by_text : (b : Bool) → cond b (from_text p bytes) (Err NotText) ≡ Ok m → HasRows m
    by_text true is = payload-once p (payload bytes) m is
    by_text false is = absurd (cc)

-- ---- what a look-up finds in such maps
names-once : (m : Contents) → HasRows m → (owner : PackageLocator) (row : Package)
    → package_at m.package_registry_data owner ≡ Some row → BindsOnce row
names-once m are owner row e =
    by_name (at owner.name m.package_registry_data)
    (λ references. looked_up AreReferences (bytes_eq owner.name) m.package_registry_data references are.each) e
  where
    by_name : (o : Option (List (List ℕ × Package)))
        → ((references : List (List ℕ × Package)) → o ≡ Some references → AreReferences references)
        → option_and_then (at owner.reference) o ≡ Some row → BindsOnce row
    by_name None found is = absurd (none-some row is)
    by_name (Some references) found is =
        looked_up BindsOnce (bytes_eq owner.reference) references row (found references refl).rows is

pub names_stand_once : NamesStandOnce
names_stand_once = λ content p m e.
    let are = reading-once content p m e in
    record {
      packages = are.once;
      references = λ name references is.
          (looked_up AreReferences (bytes_eq name) m.package_registry_data references are.each is).once;
      names = names-once m are;
    }
