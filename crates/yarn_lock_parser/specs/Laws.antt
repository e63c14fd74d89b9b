-- What holds of the reading, whatever the text.
use Rattle.std.specs.Prelude.{
  ◌≡◌,
  ◌⊎◌,
  ◌++◌,
  ◌&&◌,
  ◌||◌,
  not,
  ℕ,
  Bool,
  true,
  false,
  List,
  [],
  ◌∷◌,
  Option,
  Some,
  None,
  bytes_eq,
  codes,
  IsTrue,
}
use Rattle.std.specs.List.{concat, filter_map, fold, list_all, list_any}
use Rattle.yarn_lock_parser.specs.ByteSet.{is_blank}
use Rattle.yarn_lock_parser.specs.Dependencies as kinds
use Rattle.yarn_lock_parser.specs.Metas as meta_kinds
use Rattle.yarn_lock_parser.specs.Cut.{entry_texts}
use Rattle.yarn_lock_parser.specs.Item.{Item, Version, Dependencies, Integrity, Resolved, Metas, Other}
use Rattle.yarn_lock_parser.specs.Metas.{Flag, Absent, flag_of, noted}
use Rattle.yarn_lock_parser.specs.Fields.{Fields, is_unreadable, no_fields, with_item}

-- the texts of the entries, joined, are the text that they are cut from
abbrev pub EntriesAreTheText : Type 0
EntriesAreTheText = (t : List ℕ) → concat (entry_texts t) ≡ t

-- a line feed, or a carriage return and a line feed
abbrev pub IsLineEnd : List ℕ → Type 0
IsLineEnd t = (t ≡ 10 ∷ []) ⊎ (t ≡ 13 ∷ 10 ∷ [])

-- where a line begins: at the front, or behind a line feed
abbrev pub IsBeforeLine : List ℕ → Type 0
IsBeforeLine t = (t ≡ []) ⊎ ((front : List ℕ) × (t ≡ front ++ 10 ∷ []))

-- a text whose last line has only blanks
pub record EndsWithEmptyLine (t : List ℕ) : Type 0 where
  pub prior : List ℕ
  pub blanks : List ℕ
  pub line_end : List ℕ
  pub is : t ≡ prior ++ (blanks ++ line_end)
  pub begins : IsBeforeLine prior
  pub are_blank : list_all is_blank blanks ≡ true
  pub ends : IsLineEnd line_end

abbrev pub AllButLast : (List ℕ → Type 0) → List (List ℕ) → Type 0
AllButLast P [] = Unit {0}
AllButLast P (t ∷ []) = Unit {0}
AllButLast P (t ∷ u ∷ us) = P t × AllButLast P (u ∷ us)

-- each text of an entry but the last one ends with its empty line
abbrev pub EntriesEndWithEmptyLines : Type 0
EntriesEndWithEmptyLines = (t : List ℕ) → AllButLast EndsWithEmptyLine (entry_texts t)

abbrev pub is_optional : List ℕ × List ℕ → Bool
is_optional property = bytes_eq property.0 (codes "optional")

-- a property `optional` that is neither `true` nor `false`
abbrev pub is_neither : List ℕ × List ℕ → Bool
is_neither property =
    is_optional property && not (bytes_eq property.1 (codes "true") || bytes_eq property.1 (codes "false"))

-- what properties say is unreadable exactly where some property `optional` is neither `true` nor `false`
abbrev pub UnreadableByOne : Type 0
UnreadableByOne =
    (name : List ℕ) (properties : List (List ℕ × List ℕ))
    → is_unreadable (name, fold noted Absent properties) ≡ list_any is_neither properties

-- an item with a meta that is unreadable
abbrev pub is_spoilt : Item → Bool
is_spoilt (Metas kind metas) = list_any is_unreadable metas
is_spoilt (Version text) = false
is_spoilt (Dependencies kind pairs) = false
is_spoilt (Integrity text) = false
is_spoilt (Resolved text) = false
is_spoilt Other = false

-- the items of an entry are spoilt exactly where some item is
abbrev pub SpoiltByOne : Type 0
SpoiltByOne = (items : List Item) → (fold with_item no_fields items).is_spoilt ≡ list_any is_spoilt items

-- what an item says, where it is of a kind
abbrev pub version_in : Item → Option (List ℕ)
version_in (Version text) = Some text
version_in _ = None

abbrev pub resolved_in : Item → Option (List ℕ)
resolved_in (Resolved text) = Some text
resolved_in _ = None

abbrev pub integrity_in : Item → Option (List ℕ)
integrity_in (Integrity text) = Some text
integrity_in _ = None

abbrev pub dependencies_in : Item → Option (List (List ℕ × List ℕ))
dependencies_in (Dependencies kinds.Regular pairs) = Some pairs
dependencies_in _ = None

abbrev pub optional_dependencies_in : Item → Option (List (List ℕ × List ℕ))
optional_dependencies_in (Dependencies kinds.Optional pairs) = Some pairs
optional_dependencies_in _ = None

abbrev pub peer_dependencies_in : Item → Option (List (List ℕ × List ℕ))
peer_dependencies_in (Dependencies kinds.Peer pairs) = Some pairs
peer_dependencies_in _ = None

abbrev pub dependencies_meta_in : Item → Option (List (List ℕ × Flag))
dependencies_meta_in (Metas meta_kinds.Dependencies metas) = Some metas
dependencies_meta_in _ = None

abbrev pub peer_dependencies_meta_in : Item → Option (List (List ℕ × Flag))
peer_dependencies_meta_in (Metas meta_kinds.PeerDependencies metas) = Some metas
peer_dependencies_meta_in _ = None

-- a field of an entry is what the last item of its kind says, whatever other items stand around it; with no such item
-- it is empty
pub record IsOfLastItem {A : Type 0} (field : Fields → A) (says : Item → Option A) : Type 0 where
  pub last : (items later : List Item) (item : Item) (said : A) → says item ≡ Some said → filter_map says later ≡ []
      → field (fold with_item no_fields (items ++ item ∷ later)) ≡ said
  pub none : (items : List Item) → filter_map says items ≡ [] → field (fold with_item no_fields items) ≡ field no_fields

-- each field of an entry, by the items of its kind alone
pub record LastItemCounts : Type 0 where
  pub version : IsOfLastItem (λ f. f.version) version_in
  pub resolved : IsOfLastItem (λ f. f.resolved) resolved_in
  pub integrity : IsOfLastItem (λ f. f.integrity) integrity_in
  pub dependencies : IsOfLastItem (λ f. f.dependencies) dependencies_in
  pub optional_dependencies : IsOfLastItem (λ f. f.optional_dependencies) optional_dependencies_in
  pub peer_dependencies : IsOfLastItem (λ f. f.peer_dependencies) peer_dependencies_in
  pub dependencies_meta : IsOfLastItem (λ f. f.dependencies_meta) dependencies_meta_in
  pub peer_dependencies_meta : IsOfLastItem (λ f. f.peer_dependencies_meta) peer_dependencies_meta_in

-- where no property `optional` is neither word, the last one gives the flag
abbrev pub LastFlagCounts : Type 0
LastFlagCounts =
    (properties later : List (List ℕ × List ℕ)) (last : List ℕ × List ℕ) →
    list_any is_neither properties ≡ false → IsTrue (is_optional last) → list_any is_optional later ≡ false →
    fold noted Absent (properties ++ last ∷ later) ≡ flag_of last.1
