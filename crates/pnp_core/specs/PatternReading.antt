-- What the reading of a manifest says of its ignore pattern, by the grammar of patterns and their faults: a reader need
-- not know by which steps a pattern's text is read.
use Rattle.std.specs.Prelude.{◌≡◌, ◌↔◌, ℕ, false, List, codes, Some, None, Ok, Err}
use Rattle.std.specs.Str.{chars}
use Rattle.serde_json.specs.Data.{Data, string}
use Rattle.serde_json.specs.Find.{get}
use Rattle.serde_json.specs.Written.{has_float}
use Rattle.es_pattern.specs.Tree.{Tree}
use Rattle.es_pattern.specs.Grammar.{IsPattern}
use Rattle.es_pattern.specs.Faults.{IsClear, IsFirstFault}
use Rattle.es_pattern.specs.declared.error.PatternError.{PatternError}
use Rattle.pnp_core.specs.declared.error.HydrationCause.TheVariants.{BadPattern}
use Rattle.pnp_core.specs.Manifest.{Contents}
use Rattle.pnp_core.specs.ManifestReading.{fields_in, manifest_in}

-- this text stands under `ignorePatternData` in a value
abbrev pub HasPatternText : Data → List ℕ → Type 0
HasPatternText d text = get (codes "ignorePatternData") d ≡ Some (string text)

-- The manifest of a value has a pattern where a text stands under `ignorePatternData`, the one that the grammar gives
-- for the text, in which nothing is refused; and none where no text stands there. A value is refused for its pattern
-- exactly where it holds no float, all fields of a manifest can be read, and that text has a first fault.
pub record PatternRead : Type 0 where
  pub given : (d : Data) (m : Contents) (text : List ℕ) → manifest_in d ≡ Ok m → HasPatternText d text → (tree : Tree)
      × (m.ignore_pattern_data ≡ Some tree)
  pub tree : (d : Data) (m : Contents) (text : List ℕ) (tree : Tree) → manifest_in d ≡ Ok m → HasPatternText d text
      → (m.ignore_pattern_data ≡ Some tree) ↔ (IsPattern (chars text) tree × IsClear (chars text))
  pub none : (d : Data) (m : Contents) → manifest_in d ≡ Ok m → ((text : List ℕ) → HasPatternText d text → ⊥)
      → m.ignore_pattern_data ≡ None
  pub refused :
      (d : Data)
      → (manifest_in d ≡ Err BadPattern) ↔ ((m : Contents) × (text : List ℕ) × (e : PatternError)
      × (has_float d ≡ false) × (fields_in d ≡ Some (m, Some text)) × HasPatternText d text
      × IsFirstFault (chars text) e)
