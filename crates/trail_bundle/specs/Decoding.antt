-- What a decoding of a text comes to.
use Rattle.std.specs.Prelude.{◌≡◌, ◌<◌, ℕ, List}
use Rattle.trail_bundle.specs.Bundle.{Bundle, IsBundle}
use Rattle.trail_bundle.specs.BundleText.{bundle_text}
use Rattle.trail_bundle.specs.Lines.{first_lines}

-- Some bundle's text has this many first lines of a text as its own first lines; the end of a text counts as a line.
pub record BeginsABundle (lines : ℕ) (text : List ℕ) : Type 0 where
  pub bundle : Bundle
  pub is_bundle : IsBundle bundle
  pub begins : first_lines lines text ≡ first_lines lines (bundle_text bundle)

-- The least number of first lines with which no bundle's text begins.
pub record IsWrongBy (line : ℕ) (text : List ℕ) : Type 0 where
  pub wrong : BeginsABundle line text → ⊥
  pub least : (lines : ℕ) → lines < line → BeginsABundle lines text
