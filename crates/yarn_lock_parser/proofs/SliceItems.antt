-- What the items of an entry say are slices of the text.
use Rattle.std.proofs.Common.{◌≡◌, ℕ, List, [], ◌∷◌, ap, Option, Some}
use Rattle.std.specs.Prelude.{codes}
use Rattle.std.specs.List.{AllByRecursion}
use Rattle.yarn_lock_parser.specs.ByteSet.{
  is_blank,
  is_version_byte,
  is_unquoted_byte,
  is_name_byte,
  is_no_line_end,
  is_no_colon,
  is_no_at,
  is_descriptor_byte,
}
use Rattle.yarn_lock_parser.specs.Dependencies.{DependencyKind}
use Rattle.yarn_lock_parser.specs.Metas.{MetaKind}
use Rattle.yarn_lock_parser.specs.Metas.{Flag}
use Rattle.sugar_path.specs.Front.{◌>>=◌, after}
use Rattle.yarn_lock_parser.specs.Front.{after_optional, after_line_end, run, some_run, front, IsRest, every}
use Rattle.yarn_lock_parser.specs.Descriptors.{
  before_colon,
  descriptor_at,
  next_descriptor,
  parted,
  each_parted,
  descriptors_on,
  descriptors_at,
}
use Rattle.yarn_lock_parser.specs.Items.{version_at, integrity_at, resolved_at}
use Rattle.yarn_lock_parser.specs.Dependencies.{trimmed, line_rest, dependency_version, dependency_at, dependencies_at}
use Rattle.yarn_lock_parser.specs.Metas.{flag_under, meta_at, metas_at}
use Rattle.yarn_lock_parser.specs.Item.{
  Item,
  Version as IsVersion,
  Dependencies,
  Integrity,
  Resolved,
  Metas,
  Other,
  reads_as,
  keyed_at,
  indented_at,
  item_at,
}
use Rattle.yarn_lock_parser.specs.Slices.{IsSlice, ArePairsOf, AreNamedIn}
use Rattle.yarn_lock_parser.proofs.Rests.{
  step,
  mapped,
  tested,
  either_form,
  behind,
  after-rest,
  after_optional-rest,
  after_line_end-later,
  run-rest,
  some_run-later,
  line_at-later,
}
use Rattle.yarn_lock_parser.proofs.Shorter.{
  descriptor_at-later,
  next_descriptor-later,
  deeper-later,
  dependency_at-later,
  meta_at-later,
}
use Rattle.yarn_lock_parser.proofs.ItemRests.{one_of-rest, at_value-rest, dependency_kind-rest, meta_kind-rest}
use Rattle.yarn_lock_parser.proofs.SliceParts.{
  within,
  rest-slice,
  slice-behind,
  front-slice,
  run-slice,
  some_run-slice,
  line_at-slice,
  quoted_at-slice,
  before-slice,
  trimmed-slice,
  every-all,
  some-all,
}

abbrev IsPairOf : List ℕ → List ℕ × List ℕ → Type 0
IsPairOf t pair = IsSlice t pair.0 × IsSlice t pair.1

-- ---- descriptors

descriptor_at-slice : (t : List ℕ) (x : List ℕ × List ℕ) → descriptor_at t ≡ Some x → IsSlice t x.0
unfolding descriptor_at
descriptor_at-slice t x e = step (some_run is_descriptor_byte (after_optional (34 ∷ []) t))
    (λ text. Some (text.0, after_optional (34 ∷ []) text.1)) x e (λ text text-is e₁.
    let is : text.0 ≡ x.0 = cc in
    rw (← is) (slice-behind (after_optional-rest (34 ∷ []) t) (some_run-slice is_descriptor_byte _ text text-is)))

next_descriptor-slice : (t : List ℕ) (x : List ℕ × List ℕ) → next_descriptor t ≡ Some x → IsSlice t x.0
unfolding next_descriptor
next_descriptor-slice t x e = step _ _ _ e (λ comma comma-is e₁.
    slice-behind (behind (after_optional-rest (34 ∷ []) t) (after-rest (codes ", ") _ comma comma-is))
    (descriptor_at-slice comma x e₁))

parted-slices : (t : List ℕ) (x : List ℕ × List ℕ) → parted t ≡ Some x → IsPairOf t x
unfolding parted
parted-slices t x e = step _ _ _ e (λ requirement requirement-is e₁.
    let end = behind (after_optional-rest (codes "@") t) (run-rest is_no_at (after_optional (codes "@") t)) in
    let is : (front t (run is_no_at (after_optional (codes "@") t)).1, requirement) ≡ x = cc in
    rw (← is) (front-slice t _, rest-slice (behind end (after-rest (codes "@") _ requirement requirement-is))))

each_parted-slices : (t : List ℕ) (ds : List (List ℕ)) (found : List (List ℕ × List ℕ)) → AllByRecursion (IsSlice t) ds
    → each_parted ds ≡ Some found → ArePairsOf t found
each_parted-slices t [] found slices e = let is : [] ≡ found = cc in rw (← is) tt
each_parted-slices t (d ∷ ds) found slices e =
    step (parted d) (λ first. each_parted ds >>= λ others. Some (first ∷ others)) found e (λ first first-is e₁.
    step (each_parted ds) (λ others. Some (first ∷ others)) found e₁ (λ others others-is e₂.
    let is : first ∷ others ≡ found = cc in
    let parts = parted-slices d first first-is in
    rw (← is) ((within slices.0 parts.0, within slices.0 parts.1), each_parted-slices t ds others slices.1 others-is)))

descriptors_on-slices : (t : List ℕ) (found : List (List ℕ × List ℕ)) → descriptors_on t ≡ Some found
    → ArePairsOf t found
unfolding descriptors_on
descriptors_on-slices t found e = step (descriptor_at t) (λ first. each_parted
    (first.0 ∷ (every next_descriptor first.1).0)) found e (λ first first-is e₁.
    let further = every-all IsSlice (λ s u a r slice. slice-behind r slice) next_descriptor next_descriptor-later
    next_descriptor-slice first.1 in
    let rest = (descriptor_at-later t first first-is).rest_is in
    each_parted-slices t (first.0 ∷ (every next_descriptor first.1).0) found
    (descriptor_at-slice t first first-is, all-behind rest (every next_descriptor first.1).0 further) e₁)
  where
    all-behind : {s u : List ℕ} → IsRest s u → (ds : List (List ℕ)) → AllByRecursion (IsSlice u) ds
        → AllByRecursion (IsSlice s) ds
    all-behind r [] slices = tt
    all-behind r (d ∷ ds) slices = (slice-behind r slices.0, all-behind r ds slices.1)

before_colon-slice : (t x : List ℕ) → before_colon t ≡ Some x → IsSlice t x
unfolding before_colon
before_colon-slice t x e =
    either_form _ _ x (IsSlice t x) e (before-slice (58 ∷ 13 ∷ []) t x) (before-slice (58 ∷ []) t x)

pub pairs-within : {t s : List ℕ} → IsSlice t s → (pairs : List (List ℕ × List ℕ)) → ArePairsOf s pairs
    → ArePairsOf t pairs
pairs-within a [] slices = tt
pairs-within a (pair ∷ pairs) slices = ((within a slices.0.0, within a slices.0.1), pairs-within a pairs slices.1)

pub descriptors_at-slices : (t : List ℕ) (x : List (List ℕ × List ℕ) × List ℕ) → descriptors_at t ≡ Some x
    → ArePairsOf t x.0
unfolding descriptors_at
descriptors_at-slices t x e = step _ _ _ e (λ first first-is e₁. step _ _ _ e₁
    (λ text text-is e₂. step (descriptors_on text) (λ found. Some (found, first.1)) x e₂ (λ found found-is e₃.
    let is : found ≡ x.0 = cc in
    rw (← is) (pairs-within (within (line_at-slice t first first-is) (before_colon-slice first.0 text text-is)) found
    (descriptors_on-slices text found found-is)))))

pub descriptors_at-rest : (t : List ℕ) (x : List (List ℕ × List ℕ) × List ℕ) → descriptors_at t ≡ Some x → IsRest t x.1
unfolding descriptors_at
descriptors_at-rest t x e = step _ _ _ e (λ first first-is e₁. step _ _ _ e₁
    (λ text text-is e₂. step (descriptors_on text) (λ found. Some (found, first.1)) x e₂ (λ found found-is e₃.
    let is : first.1 ≡ x.1 = cc in
    rw (← is) (line_at-later t first first-is).rest_is)))

-- ---- items of one text

version_at-slice : (t : List ℕ) (x : List ℕ × List ℕ) → version_at t ≡ Some x → IsSlice t x.0
unfolding version_at
version_at-slice t x e =
    step _ _ _ e (λ end end-is e₁. step _ _ _ e₁ (λ value value-is e₂.
    step (after_line_end (after_optional (34 ∷ []) (run is_version_byte (after_optional (34 ∷ []) value)).1))
    (λ rest. Some ((run is_version_byte (after_optional (34 ∷ []) value)).0, rest)) x e₂ (λ rest rest-is e₃.
    let is : (run is_version_byte (after_optional (34 ∷ []) value)).0 ≡ x.0 = cc in
    rw (← is) (slice-behind (behind (after_optional-rest (34 ∷ []) t)
    (behind (after-rest (codes "version") _ end end-is) (behind (at_value-rest end value value-is)
    (after_optional-rest (34 ∷ []) value)))) (run-slice is_version_byte _))
    )))

integrity_at-slice : (t : List ℕ) (x : List ℕ × List ℕ) → integrity_at t ≡ Some x → IsSlice t x.0
unfolding integrity_at
integrity_at-slice t x e =
    step _ _ _ e (λ end end-is e₁. step _ _ _ e₁ (λ value value-is e₂.
    let is : run is_unquoted_byte (after_optional (34 ∷ []) value) ≡ x = cc in
    let word = one_of-rest (codes "checksum") (codes "integrity") _ end end-is in
    rw (← is) (slice-behind (behind (after_optional-rest (34 ∷ []) t)
    (behind word (behind (at_value-rest end value value-is) (after_optional-rest (34 ∷ []) value))))
    (run-slice is_unquoted_byte _))
    ))

resolved_at-slice : (t : List ℕ) (x : List ℕ × List ℕ) → resolved_at t ≡ Some x → IsSlice t x.0
unfolding resolved_at
resolved_at-slice t x e =
    step _ _ _ e (λ end end-is e₁. step _ _ _ e₁ (λ value value-is e₂. step _ _ _ e₂ (λ quote quote-is e₃.
    step _ _ _ e₃ (λ text text-is e₄. step _ _ _ e₄ (λ closed closed-is e₅. step (after_line_end closed)
    (λ rest. Some (text.0, rest)) x e₅ (λ rest rest-is e₆.
    let is : text.0 ≡ x.0 = cc in
    let word = one_of-rest (codes "resolved") (codes "resolution") _ end end-is in
    rw (← is) (slice-behind (behind (after_optional-rest (34 ∷ []) t)
    (behind word (behind (at_value-rest end value value-is) (after-rest (34 ∷ []) value quote quote-is))))
    (some_run-slice is_unquoted_byte quote text text-is))
    ))))))

-- ---- dependencies

line_rest-slice : (t : List ℕ) (x : List ℕ × List ℕ) → line_rest t ≡ Some x → IsSlice t x.0
unfolding line_rest
line_rest-slice t x e = let found = tested _ _ _ e in rw (← found.1) (run-slice is_no_line_end t)

dependency_version-slice : (t : List ℕ) (x : List ℕ × List ℕ) → dependency_version t ≡ Some x → IsSlice t x.0
unfolding dependency_version
dependency_version-slice t x e = step _ _ _ e (λ version version-is e₁.
    let is : version.0 ≡ x.0 = cc in
    let text = either_form _ _ version (IsSlice (run is_blank t).1 version.0) version-is (quoted_at-slice _ version)
    (line_rest-slice _ version) in
    rw (← is) (slice-behind (run-rest is_blank t) text))

dependency_at-slices : (indent t : List ℕ) (x : (List ℕ × List ℕ) × List ℕ) → dependency_at indent t ≡ Some x
    → IsPairOf t x.0
unfolding dependency_at
dependency_at-slices indent t x e =
    step _ _ _ e (λ own own-is e₁. step _ _ _ e₁ (λ name name-is e₂. step _ _ _ e₂
    (λ mark mark-is e₃. step _ _ _ e₃ (λ version version-is e₄.
    let is : (trimmed name.0, version.0) ≡ x.0 = cc in
    let key = (deeper-later indent t own own-is).rest_is in
    let marked =
    either_form _ _ mark (IsRest name.1 mark) mark-is (after-rest (58 ∷ []) _ mark) (after-rest (32 ∷ []) _ mark) in
    let value = behind key (behind (some_run-later is_name_byte _ name name-is).rest_is marked) in
    rw (← is) (
      within (slice-behind key (some_run-slice is_name_byte _ name name-is)) (trimmed-slice name.0),
      slice-behind value (dependency_version-slice mark version version-is),
    )
    ))))

pub dependencies_at-slices : (indent t : List ℕ) (x : (DependencyKind × List (List ℕ × List ℕ)) × List ℕ)
    → dependencies_at indent t ≡ Some x → ArePairsOf t x.0.1
unfolding dependencies_at
dependencies_at-slices indent t x e =
    step _ _ _ e (λ kind kind-is e₁. step _ _ _ e₁ (λ body body-is e₂. step _ _ _ e₂ (λ found found-is e₃.
    let whole : ((kind.0, found.0), found.1) ≡ x = cc in
    let is = ap (λ (y : (DependencyKind × List (List ℕ × List ℕ)) × List ℕ). y.0.1) whole in
    let below = behind (dependency_kind-rest t kind kind-is) (after_line_end-later _ body body-is).rest_is in
    let slices = some-all IsPairOf (λ s u a r pair. (slice-behind r pair.0, slice-behind r pair.1))
    (dependency_at indent) (dependency_at-later indent) (dependency_at-slices indent) body found found-is in
    rw (← is) (pairs-within (rest-slice below) found.0 slices)
    )))

-- ---- metas

meta_at-slice : (indent t : List ℕ) (x : (List ℕ × Flag) × List ℕ) → meta_at indent t ≡ Some x → IsSlice t x.0.0
unfolding meta_at
meta_at-slice indent t x e =
    step _ _ _ e (λ own own-is e₁. step _ _ _ e₁ (λ name name-is e₂. step (after (58 ∷ []) name.1) _ _ e₂
    (λ colon colon-is e₃. step (after_line_end colon) _ _ e₃
    (λ body body-is e₄. step (flag_under own.0 body) (λ flag. Some ((name.0, flag.0), flag.1)) x e₄
    (λ flag flag-is e₅.
    let whole : ((name.0, flag.0), flag.1) ≡ x = cc in
    let is = ap (λ (y : (List ℕ × Flag) × List ℕ). y.0.0) whole in
    let named =
    either_form _ _ name (IsSlice own.1 name.0) name-is (quoted_at-slice own.1 name) (unquoted own.1 name) in
    rw (← is) (slice-behind (deeper-later indent t own own-is).rest_is named)
    )))))
  where
    unquoted : (s : List ℕ) (y : List ℕ × List ℕ) → Some (run is_no_colon s) ≡ Some y → IsSlice s y.0
    unquoted s y found = let same : run is_no_colon s ≡ y = cc in rw (← same) (run-slice is_no_colon s)

abbrev IsMetaOf : List ℕ → List ℕ × Flag → Type 0
IsMetaOf t meta = IsSlice t meta.0

pub named-within : {A : Type 0} {t s : List ℕ} → IsSlice t s → (metas : List (List ℕ × A)) → AreNamedIn s metas
    → AreNamedIn t metas
named-within a [] slices = tt
named-within a (meta ∷ metas) slices = (within a slices.0, named-within a metas slices.1)

pub metas_at-slices : (indent t : List ℕ) (x : (MetaKind × List (List ℕ × Flag)) × List ℕ) → metas_at indent t ≡ Some x
    → AreNamedIn t x.0.1
unfolding metas_at
metas_at-slices indent t x e =
    step _ _ _ e (λ kind kind-is e₁. step _ _ _ e₁ (λ body body-is e₂. step _ _ _ e₂ (λ found found-is e₃.
    let whole : ((kind.0, found.0), found.1) ≡ x = cc in
    let is = ap (λ (y : (MetaKind × List (List ℕ × Flag)) × List ℕ). y.0.1) whole in
    let below = behind (meta_kind-rest t kind kind-is) (after_line_end-later _ body body-is).rest_is in
    let slices = some-all IsMetaOf (λ s u a r slice. slice-behind r slice) (meta_at indent) (meta_at-later indent)
    (meta_at-slice indent) body found found-is in
    rw (← is) (named-within (rest-slice below) found.0 slices)
    )))

-- ---- items

abbrev pub IsItemOf : List ℕ → Item → Type 0
IsItemOf t (IsVersion text) = IsSlice t text
IsItemOf t (Dependencies kind pairs) = ArePairsOf t pairs
IsItemOf t (Integrity text) = IsSlice t text
IsItemOf t (Resolved text) = IsSlice t text
IsItemOf t (Metas kind pairs) = AreNamedIn t pairs
IsItemOf t Other = Unit {0}

pub item-spreads : (s t : List ℕ) (i : Item) → IsRest s t → IsItemOf t i → IsItemOf s i
item-spreads s t (IsVersion text) r slice = slice-behind r slice
item-spreads s t (Dependencies kind pairs) r slices = pairs-within (rest-slice r) pairs slices
item-spreads s t (Integrity text) r slice = slice-behind r slice
item-spreads s t (Resolved text) r slice = slice-behind r slice
item-spreads s t (Metas kind pairs) r slices = named-within (rest-slice r) pairs slices
item-spreads s t Other r slice = tt

reads_as-slices : {A : Type 0} (form : A → Item) (t : List ℕ) (read : Option (A × List ℕ)) (x : Item × List ℕ)
    → ((y : A × List ℕ) → read ≡ Some y → IsItemOf t (form y.0)) → reads_as form read ≡ Some x → IsItemOf t x.0
reads_as-slices form t read x says e =
    let found = mapped _ read x e in
    let is : form found.0.0 ≡ x.0 = ap (λ (y : Item × List ℕ). y.0) found.2 in
    rw (← is) (says found.0 found.1)

keyed_at-slices : (indent t : List ℕ) (x : Item × List ℕ) → keyed_at indent t ≡ Some x → IsItemOf t x.0
unfolding keyed_at
keyed_at-slices indent t x e =
    either_form _ _ x (IsItemOf t x.0) e (reads_as-slices _ t _ x (version_at-slice t))
    (λ e₁. either_form _ _ x (IsItemOf t x.0) e₁ (reads_as-slices _ t _ x (dependencies_at-slices indent t))
    (λ e₂. either_form _ _ x (IsItemOf t x.0) e₂ (reads_as-slices _ t _ x (integrity_at-slice t))
    (λ e₃. either_form _ _ x (IsItemOf t x.0) e₃ (reads_as-slices _ t _ x (resolved_at-slice t))
    (reads_as-slices _ t _ x (metas_at-slices indent t)))))

indented_at-slices : (t : List ℕ) (x : Item × List ℕ) → indented_at t ≡ Some x → IsItemOf t x.0
unfolding indented_at
indented_at-slices t x e = step _ _ _ e (λ indent indent-is e₁. item-spreads t indent.1 x.0
    (some_run-later is_blank t indent indent-is).rest_is (keyed_at-slices indent.0 indent.1 x e₁))

pub item_at-slices : (t : List ℕ) (x : Item × List ℕ) → item_at t ≡ Some x → IsItemOf t x.0
unfolding item_at
item_at-slices t x e =
    either_form _ _ x (IsItemOf t x.0) e (indented_at-slices t x) (reads_as-slices _ t _ x (λ y found. tt))
