-- Each field of an entry is what the last item of its kind says.
use Rattle.std.proofs.Common.{◌≡◌, List, [], ◌∷◌, ◌++◌, refl, ap, ◌∙◌, Option, Some, None}
use Rattle.std.specs.Prelude.{unwrap_or}
use Rattle.std.specs.List.{filter_map, fold}
use Rattle.yarn_lock_parser.specs.Dependencies as kinds
use Rattle.yarn_lock_parser.specs.Metas as meta_kinds
use Rattle.yarn_lock_parser.specs.Item.{Item, Version, Dependencies, Integrity, Resolved, Metas, Other}
use Rattle.yarn_lock_parser.specs.Fields.{Fields, no_fields, with_item}
use Rattle.yarn_lock_parser.specs.Laws.{
  IsOfLastItem,
  LastItemCounts,
  version_in,
  resolved_in,
  integrity_in,
  dependencies_in,
  optional_dependencies_in,
  peer_dependencies_in,
  dependencies_meta_in,
  peer_dependencies_meta_in,
}

-- each field by itself
abbrev by_fields : Fields → Item → Fields
by_fields f i = record {
  version = unwrap_or (version_in i) f.version;
  resolved = unwrap_or (resolved_in i) f.resolved;
  integrity = unwrap_or (integrity_in i) f.integrity;
  dependencies = unwrap_or (dependencies_in i) f.dependencies;
  optional_dependencies = unwrap_or (optional_dependencies_in i) f.optional_dependencies;
  peer_dependencies = unwrap_or (peer_dependencies_in i) f.peer_dependencies;
  dependencies_meta = unwrap_or (dependencies_meta_in i) f.dependencies_meta;
  peer_dependencies_meta = unwrap_or (peer_dependencies_meta_in i) f.peer_dependencies_meta;
  is_spoilt = (with_item f i).is_spoilt;
}

with_item-fields : (f : Fields) (i : Item) → with_item f i ≡ by_fields f i
with_item-fields f (Version text) = refl
with_item-fields f (Dependencies kinds.Regular pairs) = refl
with_item-fields f (Dependencies kinds.Optional pairs) = refl
with_item-fields f (Dependencies kinds.Peer pairs) = refl
with_item-fields f (Integrity text) = refl
with_item-fields f (Resolved text) = refl
with_item-fields f (Metas meta_kinds.Dependencies metas) = refl
with_item-fields f (Metas meta_kinds.PeerDependencies metas) = refl
with_item-fields f Other = refl

-- a field that an item of its kind replaces, and no other
abbrev Replaces : {A : Type 0} → (Fields → A) → (Item → Option A) → Type 0
Replaces field says = (f : Fields) (i : Item) → field (with_item f i) ≡ unwrap_or (says i) (field f)

unsaid : {A : Type 0} (field : Fields → A) (says : Item → Option A) → Replaces field says
    → (f : Fields) (items : List Item) → filter_map says items ≡ [] → field (fold with_item f items) ≡ field f
unsaid field says step f [] h = refl
unsaid {A} field says step f (i ∷ items) h = by_said (says i) refl h (unsaid field says step (with_item f i) items)
  where
    by_said : (o : Option A) → says i ≡ o → filter_map says (i ∷ items) ≡ []
        → (filter_map says items ≡ [] → field (fold with_item (with_item f i) items) ≡ field (with_item f i))
        → field (fold with_item (with_item f i) items) ≡ field f
    by_said None is h rest = rest (rw is at h) ∙ (step f i ∙ ap (λ (o : Option A). unwrap_or o (field f)) is)
    by_said (Some x) is h rest = let wrong = rw is at h in cc

fold-append : (f : Fields) (items later : List Item)
    → fold with_item f (items ++ later) ≡ fold with_item (fold with_item f items) later
fold-append f [] later = refl
fold-append f (i ∷ items) later = fold-append (with_item f i) items later

of_last : {A : Type 0} (field : Fields → A) (says : Item → Option A) → Replaces field says → IsOfLastItem field says
of_last {A} field says step = record {
  last = λ items later item said is none.
      ap field (fold-append no_fields items (item ∷ later))
      ∙ (unsaid field says step (with_item (fold with_item no_fields items) item) later none
      ∙ (step (fold with_item no_fields items) item
      ∙ ap (λ (o : Option A). unwrap_or o (field (fold with_item no_fields items))) is));
  none = λ items none. unsaid field says step no_fields items none;
}

pub last_item-counts : LastItemCounts
last_item-counts = record {
  version = of_last (λ f. f.version) version_in (λ f i. ap (λ (g : Fields). g.version) (with_item-fields f i));
  resolved = of_last (λ f. f.resolved) resolved_in (λ f i. ap (λ (g : Fields). g.resolved) (with_item-fields f i));
  integrity = of_last (λ f. f.integrity) integrity_in (λ f i. ap (λ (g : Fields). g.integrity) (with_item-fields f i));
  dependencies =
      of_last (λ f. f.dependencies) dependencies_in (λ f i. ap (λ (g : Fields). g.dependencies) (with_item-fields f i));
  optional_dependencies = of_last (λ f. f.optional_dependencies) optional_dependencies_in
      (λ f i. ap (λ (g : Fields). g.optional_dependencies) (with_item-fields f i));
  peer_dependencies = of_last (λ f. f.peer_dependencies) peer_dependencies_in
      (λ f i. ap (λ (g : Fields). g.peer_dependencies) (with_item-fields f i));
  dependencies_meta = of_last (λ f. f.dependencies_meta) dependencies_meta_in
      (λ f i. ap (λ (g : Fields). g.dependencies_meta) (with_item-fields f i));
  peer_dependencies_meta = of_last (λ f. f.peer_dependencies_meta) peer_dependencies_meta_in
      (λ f i. ap (λ (g : Fields). g.peer_dependencies_meta) (with_item-fields f i));
}
