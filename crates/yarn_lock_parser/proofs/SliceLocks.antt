-- What a lock file says are slices of its text.
use Rattle.std.proofs.Common.{
  ◌≡◌,
  ◌==◌,
  ◌+◌,
  ℕ,
  Bool,
  true,
  false,
  List,
  [],
  ◌∷◌,
  length,
  map,
  refl,
  ap,
  Option,
  Some,
  None,
  Result,
  Ok,
  Err,
}
use Rattle.std.specs.Prelude.{option_map, unwrap_or, codes, IfSome, IfOk, ok_or}
use Rattle.std.specs.List.{AllByRecursion, fold}
use Rattle.std.specs.Char.{is_ascii_digit}
use Rattle.yarn_lock_parser.specs.Dependencies as kinds
use Rattle.yarn_lock_parser.specs.declared.error.LockCause.{LockCause}
use Rattle.yarn_lock_parser.specs.declared.error.LockCause.TheVariants as causes
use Rattle.yarn_lock_parser.specs.Metas as meta_kinds
use Rattle.yarn_lock_parser.specs.Metas.{Flag}
use Rattle.yarn_lock_parser.specs.Front.{IsRest, front, some, some_run}
use Rattle.yarn_lock_parser.specs.Cut.{after_first_empty_line, entry_text, entry_texts}
use Rattle.yarn_lock_parser.specs.Descriptors.{descriptors_at}
use Rattle.yarn_lock_parser.specs.Header.{header_at}
use Rattle.yarn_lock_parser.specs.Item.{Item, Version, Dependencies, Integrity, Resolved, Metas, Other, item_at}
use Rattle.yarn_lock_parser.specs.Fields.{Fields, no_fields, with_item, fields_of}
use Rattle.yarn_lock_parser.specs.Metadata.{Metadata, after_compression, cache_key, after_key, metadata_at}
use Rattle.yarn_lock_parser.specs.Metas.{as_meta}
use Rattle.yarn_lock_parser.specs.Entry.{◌>>=◌, Entry, entry_of, ends_in_blank, refuse_if, first_name, entry_with}
use Rattle.yarn_lock_parser.specs.Lock.{Lock, at_place, entries_from, first_version, metadata_after, place_in, lock_of}
use Rattle.yarn_lock_parser.specs.Slices.{IsSlice, ArePairsOf, AreNamedIn, IsEntryOf, IsLockOf}
use Rattle.yarn_lock_parser.proofs.Rests as rests
use Rattle.yarn_lock_parser.proofs.Rests.{mapped, behind, after-rest, after_blanks-later}
use Rattle.yarn_lock_parser.proofs.BodyRests.{header_at-rest, version_line-rest, metadata_after-rest}
use Rattle.yarn_lock_parser.proofs.ItemRests.{item_at-later}
use Rattle.yarn_lock_parser.proofs.Locks.{entry_text-cut}
use Rattle.yarn_lock_parser.proofs.SliceParts.{
  empty-slice,
  within,
  rest-slice,
  slice-behind,
  front-slice,
  some-all,
  every-all,
}
use Rattle.yarn_lock_parser.proofs.SliceItems.{
  pairs-within,
  named-within,
  descriptors_at-slices,
  descriptors_at-rest,
  IsItemOf,
  item-spreads,
  item_at-slices,
}

-- ---- fields

record AreFieldsOf (t : List ℕ) (f : Fields) : Type 0 where
  version : IsSlice t f.version
  resolved : IsSlice t f.resolved
  integrity : IsSlice t f.integrity
  dependencies : ArePairsOf t f.dependencies
  optional_dependencies : ArePairsOf t f.optional_dependencies
  peer_dependencies : ArePairsOf t f.peer_dependencies
  dependencies_meta : AreNamedIn t f.dependencies_meta
  peer_dependencies_meta : AreNamedIn t f.peer_dependencies_meta

no_fields-slices : (t : List ℕ) → AreFieldsOf t no_fields
no_fields-slices t = record {
  version = empty-slice t;
  resolved = empty-slice t;
  integrity = empty-slice t;
  dependencies = tt;
  optional_dependencies = tt;
  peer_dependencies = tt;
  dependencies_meta = tt;
  peer_dependencies_meta = tt;
}

with_item-slices : (t : List ℕ) (f : Fields) (i : Item) → AreFieldsOf t f → IsItemOf t i → AreFieldsOf t (with_item f i)
with_item-slices t f (Version text) h s = record {
  version = s;
  resolved = h.resolved;
  integrity = h.integrity;
  dependencies = h.dependencies;
  optional_dependencies = h.optional_dependencies;
  peer_dependencies =
      h.peer_dependencies;
  dependencies_meta = h.dependencies_meta;
  peer_dependencies_meta = h.peer_dependencies_meta;
}
with_item-slices t f (Dependencies kinds.Regular pairs) h s =
    record {
      version = h.version;
      resolved = h.resolved;
      integrity = h.integrity;
      dependencies = s;
      optional_dependencies = h.optional_dependencies;
      peer_dependencies = h.peer_dependencies;
      dependencies_meta =
          h.dependencies_meta;
      peer_dependencies_meta = h.peer_dependencies_meta;
    }
with_item-slices t f (Dependencies kinds.Optional pairs) h s =
    record {
      version = h.version;
      resolved = h.resolved;
      integrity = h.integrity;
      dependencies = h.dependencies;
      optional_dependencies = s;
      peer_dependencies = h.peer_dependencies;
      dependencies_meta = h.dependencies_meta;
      peer_dependencies_meta = h.peer_dependencies_meta;
    }
with_item-slices t f (Dependencies kinds.Peer pairs) h s =
    record {
      version = h.version;
      resolved = h.resolved;
      integrity = h.integrity;
      dependencies = h.dependencies;
      optional_dependencies = h.optional_dependencies;
      peer_dependencies = s;
      dependencies_meta = h.dependencies_meta;
      peer_dependencies_meta = h.peer_dependencies_meta;
    }
with_item-slices t f (Integrity text) h s = record {
  version = h.version;
  resolved = h.resolved;
  integrity = s;
  dependencies = h.dependencies;
  optional_dependencies = h.optional_dependencies;
  peer_dependencies =
      h.peer_dependencies;
  dependencies_meta = h.dependencies_meta;
  peer_dependencies_meta = h.peer_dependencies_meta;
}
with_item-slices t f (Resolved text) h s = record {
  version = h.version;
  resolved = s;
  integrity = h.integrity;
  dependencies = h.dependencies;
  optional_dependencies = h.optional_dependencies;
  peer_dependencies =
      h.peer_dependencies;
  dependencies_meta = h.dependencies_meta;
  peer_dependencies_meta = h.peer_dependencies_meta;
}
with_item-slices t f (Metas meta_kinds.Dependencies pairs) h s =
    record {
      version = h.version;
      resolved = h.resolved;
      integrity = h.integrity;
      dependencies = h.dependencies;
      optional_dependencies = h.optional_dependencies;
      peer_dependencies = h.peer_dependencies;
      dependencies_meta = s;
      peer_dependencies_meta = h.peer_dependencies_meta;
    }
with_item-slices t f (Metas meta_kinds.PeerDependencies pairs) h s =
    record {
      version = h.version;
      resolved = h.resolved;
      integrity = h.integrity;
      dependencies = h.dependencies;
      optional_dependencies = h.optional_dependencies;
      peer_dependencies = h.peer_dependencies;
      dependencies_meta =
          h.dependencies_meta;
      peer_dependencies_meta = s;
    }
with_item-slices t f Other h s = h

fold-slices : (t : List ℕ) (items : List Item) (f : Fields) → AreFieldsOf t f → AllByRecursion (IsItemOf t) items
    → AreFieldsOf t (fold with_item f items)
fold-slices t [] f h s = h
fold-slices t (i ∷ items) f h s = fold-slices t items (with_item f i) (with_item-slices t f i h s.0) s.1

fields_of-slices : (t : List ℕ) (f : Fields) → fields_of t ≡ Some f → AreFieldsOf t f
unfolding fields_of
fields_of-slices t f e =
    let items = mapped (λ (x : List Item × List ℕ). fold with_item no_fields x.0) (some item_at t) f e in
    rw (← items.2) (fold-slices t items.0.0 no_fields (no_fields-slices t)
    (some-all IsItemOf item-spreads item_at item_at-later item_at-slices t items.0 items.1))

-- ---- an entry

-- where two parts of an entry are right one after the other, the first is, and then the next
ok_step : {A B P X : Type 0} (read : Result A X) (next : A → Result B X) (y : B) → (read >>= next) ≡ Ok y
    → ((x : A) → read ≡ Ok x → next x ≡ Ok y → P) → P
ok_step (Ok x) next y e go = go x refl e
ok_step (Err cause) next y e go = cc

found_if_ok : {A C : Type 0} (o : Option A) (cause : C) (x : A) → ok_or o cause ≡ Ok x → o ≡ Some x
found_if_ok None cause x e = cc
found_if_ok (Some y) cause x e = let same : y ≡ x = cc in ap Some same

as_meta-named : (t : List ℕ) (metas : List (List ℕ × Flag)) → AreNamedIn t metas → AreNamedIn t (map as_meta metas)
as_meta-named t [] s = tt
as_meta-named t (meta ∷ metas) s = (s.0, as_meta-named t metas s.1)

first_name-slice : (t : List ℕ) (found : List (List ℕ × List ℕ)) → ArePairsOf t found → IsSlice t (first_name found)
first_name-slice t [] s = empty-slice t
first_name-slice t (d ∷ ds) s = s.0.0

entry_with-slices : (t : List ℕ) (found : List (List ℕ × List ℕ)) (r : List ℕ) (f : Fields) → ArePairsOf t found
    → IsRest t r → AreFieldsOf r f → IsEntryOf t (entry_with found f)
entry_with-slices t found r f pairs rest h =
    let part = rest-slice rest in record {
      name = first_name-slice t found pairs;
      version = within part h.version;
      resolved = within part h.resolved;
      integrity = within part h.integrity;
      dependencies = pairs-within part f.dependencies h.dependencies;
      optional_dependencies = pairs-within part f.optional_dependencies h.optional_dependencies;
      peer_dependencies = pairs-within part f.peer_dependencies h.peer_dependencies;
      dependencies_meta =
          as_meta-named t f.dependencies_meta (named-within part f.dependencies_meta h.dependencies_meta);
      peer_dependencies_meta = as_meta-named t f.peer_dependencies_meta
          (named-within part f.peer_dependencies_meta h.peer_dependencies_meta);
      descriptors = pairs;
    }

pub entry_of-slices : (t : List ℕ) (e : Entry) → entry_of t ≡ Ok e → IsEntryOf t e
unfolding entry_of
entry_of-slices t e h =
    ok_step (refuse_if (ends_in_blank t) causes.LastLine) _ e h (λ finished finished-is h₁.
    ok_step (ok_or (descriptors_at t) causes.Descriptors) _ e h₁ (λ head head-is h₂.
    ok_step (ok_or (fields_of head.1) causes.NoItem) _ e h₂ (λ fields fields-is h₃.
    ok_step (refuse_if fields.is_spoilt causes.Optional) _ e h₃ (λ readable readable-is h₄.
    ok_step (refuse_if (length fields.version == 0) causes.NoVersion) (λ versioned. Ok (entry_with head.0 fields)) e h₄
    (λ versioned versioned-is h₅.
    let is : entry_with head.0 fields ≡ e = cc in
    let found = found_if_ok (descriptors_at t) causes.Descriptors head head-is in
    let said = found_if_ok (fields_of head.1) causes.NoItem fields fields-is in
    rw (← is) (entry_with-slices t head.0 head.1 fields (descriptors_at-slices t head found)
    (descriptors_at-rest t head found) (fields_of-slices head.1 fields said))
    )))))

-- ---- entries

entry_text-slice : (t : List ℕ) (x : List ℕ × List ℕ) → entry_text t ≡ Some x → IsSlice t x.0
unfolding entry_text
entry_text-slice [] x e = cc
entry_text-slice (c ∷ cs) x e =
    let rest = unwrap_or (after_first_empty_line (c ∷ cs)) [] in
    let parts : (front (c ∷ cs) rest, rest) ≡ x = cc in
    rw (← parts) (front-slice (c ∷ cs) rest)

read_at_place : {A : Type 0} (place : ℕ) (read : Result A LockCause) (x : A) → at_place place read ≡ Ok x → read ≡ Ok x
read_at_place place (Ok y) x e = let same : y ≡ x = cc in ap Ok same
read_at_place place (Err cause) x e = cc

entry-within : {t s : List ℕ} → IsSlice t s → (e : Entry) → IsEntryOf s e → IsEntryOf t e
entry-within a e h = record {
  name = within a h.name;
  version = within a h.version;
  resolved = within a h.resolved;
  integrity = within a h.integrity;
  dependencies = pairs-within a e.dependencies h.dependencies;
  optional_dependencies = pairs-within a e.optional_dependencies h.optional_dependencies;
  peer_dependencies = pairs-within a e.peer_dependencies h.peer_dependencies;
  dependencies_meta = named-within a e.dependencies_meta h.dependencies_meta;
  peer_dependencies_meta = named-within a e.peer_dependencies_meta h.peer_dependencies_meta;
  descriptors = pairs-within a e.descriptors h.descriptors;
}

entries_from-slices : (t : List ℕ) (place : ℕ) (ts : List (List ℕ)) (es : List Entry) → AllByRecursion (IsSlice t) ts
    → entries_from place ts ≡ Ok es → AllByRecursion (IsEntryOf t) es
entries_from-slices t place [] es slices e = let is : [] ≡ es = cc in rw (← is) tt
entries_from-slices t place (s ∷ ts) es slices e =
    ok_step _ _ es e (λ first first-is e₁. ok_step (entries_from (place + length s) ts) (λ others. Ok (first ∷ others))
    es e₁ (λ others others-is e₂.
    let is : first ∷ others ≡ es = cc in
    let entry = entry_of-slices s first (read_at_place place (entry_of s) first first-is) in
    rw (← is) (entry-within slices.0 first entry, entries_from-slices t (place + length s) ts others slices.1 others-is)
    ))

all-within : {t s : List ℕ} → IsSlice t s → (es : List Entry) → AllByRecursion (IsEntryOf s) es
    → AllByRecursion (IsEntryOf t) es
all-within a [] h = tt
all-within a (e ∷ es) h = (entry-within a e h.0, all-within a es h.1)

-- ---- metadata

cache_key-slice : (t : List ℕ) (x : List ℕ × List ℕ) → cache_key t ≡ Some x → IsSlice t x.0
unfolding cache_key
cache_key-slice t x e =
    rests.step _ _ _ e (λ name name-is e₁. rests.step _ _ _ e₁
    (λ key key-is e₂. rests.step (some_run is_ascii_digit key)
    (λ digits. Some (
      front key (unwrap_or (after_compression digits.1) digits.1),
      unwrap_or (after_compression digits.1) digits.1,
    )) x e₂ (λ digits digits-is e₃.
    let is : front key (unwrap_or (after_compression digits.1) digits.1) ≡ x.0 = cc in
    rw (← is) (slice-behind (behind (after_blanks-later t name name-is).rest_is
    (after-rest (codes "cacheKey: ") name key key-is)) (front-slice key _))
    )))

key-slice : (s t : List ℕ) → IsRest s t → (o : Option (List ℕ × List ℕ)) → cache_key t ≡ o
    → IfSome (option_map (λ key. key.0) o) (IsSlice s)
key-slice s t r None e = tt
key-slice s t r (Some x) e = slice-behind r (cache_key-slice t x e)

metadata_at-slice : (t : List ℕ) (x : Metadata × List ℕ) → metadata_at t ≡ Some x → IfSome x.0.cache_key (IsSlice t)
unfolding metadata_at
metadata_at-slice t x e =
    rests.step _ _ _ e (λ version version-is e₁. rests.step (after_first_empty_line (after_key version.1)) _ x e₁
    (λ rest rest-is e₂.
    let is = ap (λ (y : Metadata × List ℕ). y.0.cache_key) (rests.inside _ x e₂) in
    rw (← is) (key-slice t version.1 (version_line-rest t version version-is) (cache_key version.1) refl)
    ))

metadata_after-slice : (b : Bool) (t : List ℕ) (x : Metadata × List ℕ) → metadata_after b t ≡ Some x
    → IfSome x.0.cache_key (IsSlice t)
unfolding metadata_after
metadata_after-slice true t x e = let is : first_version ≡ x.0 = cc in rw (← is) tt
metadata_after-slice false t x e = metadata_at-slice t x e

key-behind : {s t : List ℕ} → IsRest s t → (o : Option (List ℕ)) → IfSome o (IsSlice t) → IfSome o (IsSlice s)
key-behind r None h = tt
key-behind r (Some key) h = slice-behind r h

-- ---- the whole

lock_of-slices : (t : List ℕ) (lock : Lock) → lock_of t ≡ Ok lock → IsLockOf t lock
unfolding lock_of
lock_of-slices t lock e =
    ok_step (at_place 0 (ok_or (header_at t) causes.Header)) _ lock e (λ head head-is e₁.
    ok_step (at_place (place_in t head.1) (ok_or (metadata_after head.0.is_first_version head.1) causes.Metadata)) _
    lock e₁ (λ facts facts-is e₂.
    ok_step (entries_from (place_in t facts.1) (entry_texts facts.1))
    (λ entries. Ok (record {
      generator = head.0.generator;
      version = facts.0.version;
      cache_key = facts.0.cache_key;
      entries = entries;
    })) lock e₂ (λ entries entries-is e₃.
    let is : record {
      generator = head.0.generator;
      version = facts.0.version;
      cache_key = facts.0.cache_key;
      entries =
          entries;
    } ≡ lock = cc in
    let header =
    header_at-rest t head (found_if_ok (header_at t) causes.Header head (read_at_place 0 _ head head-is)) in
    let said = found_if_ok (metadata_after head.0.is_first_version head.1) causes.Metadata facts
    (read_at_place (place_in t head.1) _ facts facts-is) in
    let body = behind header (metadata_after-rest head.0.is_first_version head.1 facts said) in
    let texts = every-all IsSlice (λ s u a r slice. slice-behind r slice) entry_text
    (λ u x found. (entry_text-cut u x found).later) entry_text-slice facts.1 in
    rw (← is) (record {
      entries = all-within (rest-slice body) entries (entries_from-slices facts.1 (place_in t facts.1)
          (entry_texts facts.1) entries texts entries-is);
      cache_key = key-behind header facts.0.cache_key (metadata_after-slice head.0.is_first_version head.1 facts said);
    })
    )))

pub slices_if_ok : {E : Type 0} (t : List ℕ) (read : Result Lock E) → IfOk read (λ lock. lock_of t ≡ Ok lock)
    → IfOk read (IsLockOf t)
slices_if_ok t (Ok lock) e = lock_of-slices t lock e
slices_if_ok t (Err refusal) e = tt
