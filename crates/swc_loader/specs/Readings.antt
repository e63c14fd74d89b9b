-- What contents were parsed to, kept by their bytes.
use Rattle.std.specs.Prelude.{◌≡◌, ℕ, List, Option, Some, option_map, map, bytes_eq, slice_get}
use Rattle.std.specs.Map.{lookup}
use Rattle.serde_json.specs.declared.value.Value.{Value}
use Rattle.serde_json.specs.View.{view}
use Rattle.json_reading.specs.Bytes.{json_of}

-- what bytes are parsed to: the value that they are as JSON, or none where they are no JSON
abbrev pub IsReadingOf : List ℕ → Option Value → Type 0
IsReadingOf bytes value = option_map view value ≡ json_of bytes

-- what is kept for bytes is what they are parsed to
abbrev pub AreReadings : List (List ℕ × Option Value) → Type 0
AreReadings kept =
    (bytes : List ℕ) (value : Option Value) → lookup (bytes_eq bytes) kept ≡ Some value → IsReadingOf bytes value

-- at a place stands what bytes are parsed to
abbrev pub IsReadAt : List (List ℕ × Option Value) → ℕ → List ℕ → Type 0
IsReadAt kept place bytes =
    (value : Option Value) × (slice_get (map (λ e. e.1) kept) place ≡ Some value) × IsReadingOf bytes value

-- what is kept now for bytes was kept for them before
abbrev pub AreKeptOf : {A : Type 0} → List (List ℕ × A) → List (List ℕ × A) → Type 0
AreKeptOf {A = A} before now =
    (bytes : List ℕ) (value : A) → lookup (bytes_eq bytes) now ≡ Some value
    → lookup (bytes_eq bytes) before ≡ Some value
