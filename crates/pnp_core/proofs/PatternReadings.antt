-- The ignore pattern of a manifest that was read.
use Rattle.std.proofs.Common.{
  ◌≡◌,
  ℕ,
  Bool,
  true,
  false,
  cond,
  List,
  [],
  codes,
  Option,
  Some,
  None,
  Result,
  Ok,
  Err,
  refl,
  sym,
  ap,
  subst,
  ◌∙◌,
}
use Rattle.std.specs.Str.{chars}
use Rattle.std.proofs.lemmas.Option.{none-some, same_Some, some_pair_parts}
use Rattle.serde_json.specs.Data.{Data, null, boolean, number, string, array, object}
use Rattle.serde_json.specs.Find.{get, as_str, as_bool}
use Rattle.serde_json.specs.Written.{has_float}
use Rattle.json_reading.specs.Reading.{◌>>=◌, nullable_by, present_or, field_by, field_or}
use Rattle.es_pattern.specs.Tree.{Tree}
use Rattle.es_pattern.specs.Accepted.{pattern_of}
use Rattle.es_pattern.specs.Grammar.{IsPattern}
use Rattle.es_pattern.specs.Faults.{IsClear, IsFirstFault}
use Rattle.es_pattern.specs.declared.error.PatternError.{PatternError}
use Rattle.es_pattern.proofs.Accepting.{pattern_tells}
use Rattle.pnp_core.specs.declared.error.HydrationCause.{HydrationCause}
use Rattle.pnp_core.specs.declared.error.HydrationCause.TheVariants.{BadJson, BadPattern}
use Rattle.pnp_core.specs.declared.manifest.PackageLocator.{PackageLocator}
use Rattle.pnp_core.specs.Manifest.{Contents, Dependencies, Registry}
use Rattle.pnp_core.specs.ManifestReading.{
  dependencies_in,
  roots_in,
  exclusions_in,
  registry_in,
  fields_but_registry,
  with_registry,
  fields_in,
  with_pattern,
  with_pattern_text,
  from_fields,
  manifest_in,
}
use Rattle.pnp_core.specs.PatternReading.{HasPatternText, PatternRead}

abbrev key : List ℕ
key = codes "ignorePatternData"

abbrev Read : Type 0
Read = Contents × Option (List ℕ)

-- the text of a pattern that stands in a member, if one does
abbrev Told : Option Data → Option (List ℕ) → Type 0
Told (Some (string s)) p = p ≡ Some s
Told o p = p ≡ None

text_read : (o : Option Data) (p : Option (List ℕ)) → present_or None (nullable_by as_str) o ≡ Some p → Told o p
text_read None p e = sym (same_Some None p e)
text_read (Some null) p e = sym (same_Some None p e)
text_read (Some (boolean b)) p e = absurd (none-some p e)
text_read (Some (number n)) p e = absurd (none-some p e)
text_read (Some (string s)) p e = sym (same_Some (Some s) p e)
text_read (Some (array ds)) p e = absurd (none-some p e)
text_read (Some (object ms)) p e = absurd (none-some p e)

text_there : (o : Option Data) (text : List ℕ) → Told o (Some text) → o ≡ Some (string text)
text_there None text e = absurd (none-some text (sym e))
text_there (Some null) text e = absurd (none-some text (sym e))
text_there (Some (boolean b)) text e = absurd (none-some text (sym e))
text_there (Some (number n)) text e = absurd (none-some text (sym e))
text_there (Some (string s)) text e = ap (λ t. Some (string t)) (sym (same_Some text s e))
text_there (Some (array ds)) text e = absurd (none-some text (sym e))
text_there (Some (object ms)) text e = absurd (none-some text (sym e))

no_text : (o : Option Data) (p : Option (List ℕ)) → ((text : List ℕ) → o ≡ Some (string text) → ⊥) → Told o p → p ≡ None
no_text None p none told = told
no_text (Some null) p none told = told
no_text (Some (boolean b)) p none told = told
no_text (Some (number n)) p none told = told
no_text (Some (string s)) p none told = absurd (none s refl)
no_text (Some (array ds)) p none told = told
no_text (Some (object ms)) p none told = told

-- the fields of a manifest but its registry, by what each is read as
abbrev put_together : Option Bool → Option (Option (List ℕ)) → Option (List PackageLocator) → Option Dependencies
    → Option (List (List ℕ × List (List ℕ))) → Option Read
put_together fallback pattern roots pool exclusions = do
  a ← fallback
  b ← pattern
  c ← roots
  d ← pool
  e ← exclusions
  Some (
    record {
      manifest_dir = [];
      manifest_path = [];
      enable_top_level_fallback = a;
      ignore_pattern_data = None;
      dependency_tree_roots = c;
      fallback_pool = d;
      fallback_exclusion_list = e;
      package_registry_data = [];
    },
    b,
  )

parts_of : (fallback : Option Bool) (pattern : Option (Option (List ℕ))) (roots : Option (List PackageLocator))
    (pool : Option Dependencies) (exclusions : Option (List (List ℕ × List (List ℕ)))) (m : Contents)
    (p : Option (List ℕ))
    → put_together fallback pattern roots pool exclusions ≡ Some (m, p) → (m.ignore_pattern_data ≡ None)
    × (pattern ≡ Some p)
parts_of None pattern roots pool exclusions m p e = absurd (none-some {A = Read} (m, p) e)
parts_of (Some a) None roots pool exclusions m p e = absurd (none-some {A = Read} (m, p) e)
parts_of (Some a) (Some b) None pool exclusions m p e = absurd (none-some {A = Read} (m, p) e)
parts_of (Some a) (Some b) (Some c) None exclusions m p e = absurd (none-some {A = Read} (m, p) e)
parts_of (Some a) (Some b) (Some c) (Some d) None m p e = absurd (none-some {A = Read} (m, p) e)
parts_of (Some a) (Some b) (Some c) (Some d) (Some x) m p e =
    let made : Contents = record {
      manifest_dir = [];
      manifest_path = [];
      enable_top_level_fallback = a;
      ignore_pattern_data = None;
      dependency_tree_roots = c;
      fallback_pool = d;
      fallback_exclusion_list = x;
      package_registry_data = [];
    } in
    let same = some_pair_parts {A = Contents} {B = Option (List ℕ)} made m b p e in
    (ap (λ (n : Contents). n.ignore_pattern_data) (sym same.0), ap Some same.1)

-- what was read has no pattern yet, and the text of one that stands in the value
but_registry : (d : Data) (m : Contents) (p : Option (List ℕ)) → fields_but_registry d ≡ Some (m, p)
    → (m.ignore_pattern_data ≡ None) × Told (get key d) p
unfolding fields_but_registry
but_registry d m p e =
    let parts = parts_of (field_by (codes "enableTopLevelFallback") as_bool d)
    (field_or key None (nullable_by as_str) d) (field_by (codes "dependencyTreeRoots") roots_in d)
    (field_by (codes "fallbackPool") dependencies_in d) (field_by (codes "fallbackExclusionList") exclusions_in d) m
    p e in
    (parts.0, text_read (get key d) p parts.1)

abbrev with_rows : Option Read → Option Registry → Option Read
with_rows first registry = do
  read ← first
  rows ← registry
  Some (with_registry read.0 rows, read.1)

fields : (d : Data) (m : Contents) (p : Option (List ℕ)) → fields_in d ≡ Some (m, p) → (m.ignore_pattern_data ≡ None)
    × Told (get key d) p
unfolding fields_in
fields d m p e = by_parts (fields_but_registry d) (field_by (codes "packageRegistryData") registry_in d) refl e
  where
    by_parts : (first : Option Read) (registry : Option Registry) → fields_but_registry d ≡ first
        → with_rows first registry ≡ Some (m, p) → (m.ignore_pattern_data ≡ None) × Told (get key d) p
    by_parts None registry is x = absurd (none-some {A = Read} (m, p) x)
    by_parts (Some read) None is x = absurd (none-some {A = Read} (m, p) x)
    by_parts (Some read) (Some registry) is x =
        let same = some_pair_parts {A = Contents} {B = Option (List ℕ)} (with_registry read.0 registry) m read.1 p x in
        let before = but_registry d read.0 read.1 is in (
          ap (λ (n : Contents). n.ignore_pattern_data) (sym same.0) ∙ before.0,
          subst (λ (q : Option (List ℕ)). Told (get key d) q) same.1 before.1,
        )

-- what a value's manifest was made of
abbrev MadeOf : Data → Result Contents HydrationCause → Type 0
MadeOf d result = (r : Contents) × (p : Option (List ℕ)) × (has_float d ≡ false) × (fields_in d ≡ Some (r, p))
    × (with_pattern_text r p ≡ result)

made_of : (d : Data) (result : Result Contents HydrationCause) → (result ≡ Err BadJson → ⊥) → manifest_in d ≡ result
    → MadeOf d result
made_of d result other e = by_fields (has_float d) (fields_in d) refl refl e
  where
    by_fields : (b : Bool) (o : Option Read) → has_float d ≡ b → fields_in d ≡ o
        → cond b (Err BadJson) (from_fields o) ≡ result → MadeOf d result
    by_fields true o float is x = absurd (other (sym x))
    by_fields false None float is x = absurd (other (sym x))
    by_fields false (Some read) float is x = (read.0, read.1, float, is, x)

with_tree : (r m : Contents) (o : Option Tree) → with_pattern r o ≡ Ok m → (tree : Tree) × (o ≡ Some tree)
    × (m.ignore_pattern_data ≡ Some tree)
with_tree r m None e = absurd (cc)
with_tree r m (Some tree) e = (
  tree,
  refl,
  let same : record r { ignore_pattern_data = Some tree } ≡ m = cc in
      ap (λ (n : Contents). n.ignore_pattern_data) (sym same),
)

without_tree : (r : Contents) (o : Option Tree) → with_pattern r o ≡ Err BadPattern → o ≡ None
without_tree r None e = refl
without_tree r (Some tree) e = absurd (cc)

-- the tree of a manifest's pattern is that of the text in its value
tree_of_text : (d : Data) (m : Contents) (text : List ℕ) → manifest_in d ≡ Ok m → HasPatternText d text → (tree : Tree)
    × (pattern_of (chars text) ≡ Some tree) × (m.ignore_pattern_data ≡ Some tree)
tree_of_text d m text e has =
    let made = made_of d (Ok m) (λ x. cc) e in
    let told : made.1 ≡ Some text = subst (λ (o : Option Data). Told o made.1) has (fields d made.0 made.1 made.3).1 in
    with_tree made.0 m (pattern_of (chars text)) (subst (λ (q : Option (List ℕ)). with_pattern_text made.0 q ≡ Ok m)
    told made.4)

by_grammar : (d : Data) (m : Contents) (text : List ℕ) (tree : Tree) → manifest_in d ≡ Ok m → HasPatternText d text
    → (m.ignore_pattern_data ≡ Some tree → IsPattern (chars text) tree × IsClear (chars text))
    × (IsPattern (chars text) tree × IsClear (chars text) → m.ignore_pattern_data ≡ Some tree)
by_grammar d m text tree e has =
    let found = tree_of_text d m text e has in
    let tells = pattern_tells.accepted (chars text) tree in
    (λ is. tells.0 (found.1 ∙ sym found.2 ∙ is), λ h. found.2 ∙ sym found.1 ∙ tells.1 h)

no_pattern : (d : Data) (m : Contents) → manifest_in d ≡ Ok m → ((text : List ℕ) → HasPatternText d text → ⊥)
    → m.ignore_pattern_data ≡ None
no_pattern d m e none =
    let made = made_of d (Ok m) (λ x. cc) e in
    let read = fields d made.0 made.1 made.3 in
    let told : made.1 ≡ None = no_text (get key d) made.1 none read.1 in
    let same : Ok made.0 ≡ Ok m = subst (λ (q : Option (List ℕ)). with_pattern_text made.0 q ≡ Ok m) told made.4 in
    let one : made.0 ≡ m = cc in
    ap (λ (n : Contents). n.ignore_pattern_data) (sym one) ∙ read.0

abbrev Refused : Data → Type 0
Refused d = (m : Contents) × (text : List ℕ) × (e : PatternError) × (has_float d ≡ false)
    × (fields_in d ≡ Some (m, Some text)) × HasPatternText d text × IsFirstFault (chars text) e

refused_by : (d : Data) (r : Contents) (p : Option (List ℕ)) → has_float d ≡ false → fields_in d ≡ Some (r, p)
    → Told (get key d) p → with_pattern_text r p ≡ Err BadPattern → Refused d
refused_by d r None float is told e = absurd (cc)
refused_by d r (Some text) float is told e =
    let fault = (pattern_tells.refused (chars text)).0 (without_tree r (pattern_of (chars text)) e) in
    (r, text, fault.0, float, is, text_there (get key d) text told, fault.1)

refusal : (d : Data) → manifest_in d ≡ Err BadPattern → Refused d
refusal d e = let made = made_of d (Err BadPattern) (λ x. cc) e in
    refused_by d made.0 made.1 made.2 made.3 (fields d made.0 made.1 made.3).1 made.4

is_refused : (d : Data) → Refused d → manifest_in d ≡ Err BadPattern
is_refused d (m, text, e, float, is, has, fault) =
    rw (float, is, (pattern_tells.refused (chars text)).1 (e, fault)) refl

pub pattern_read : PatternRead
pattern_read = record {
  given = λ d m text e has. let found = tree_of_text d m text e has in (found.0, found.2);
  tree = by_grammar;
  none = no_pattern;
  refused = λ d. (refusal d, is_refused d);
}
