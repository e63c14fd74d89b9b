-- The metadata that lock files have from version 2 on.
-- A `do` here is over readings: it goes on with what a reading gives, and gives nothing where one of them doesn't read.
use Rattle.std.specs.Prelude.{ℕ, if◌then◌else◌, List, Option, Some, None, option_map, unwrap_or, nat_le, codes}
use Rattle.std.specs.Str.Parse.{digits_value}
use Rattle.std.specs.Option.{option_map_or}
use Rattle.std.specs.Char.{is_ascii_digit}
use Rattle.yarn_lock_parser.specs.ByteSet.{is_white_space}
use Rattle.sugar_path.specs.Front.{◌>>=◌, after}
use Rattle.yarn_lock_parser.specs.Front.{after_blanks, after_line_end, run, some_run, front}
use Rattle.yarn_lock_parser.specs.Cut.{after_first_empty_line}

pub record Metadata : Type 0 where
  pub version : ℕ
  pub cache_key : Option (List ℕ)

-- the number that digits spell, at most 255
unfoldable pub version_number : List ℕ → Option ℕ
version_number digits =
    if nat_le (digits_value 10 digits) 255 then Some (digits_value 10 digits) else None

-- a version's number
unfoldable pub number_at : List ℕ → Option (ℕ × List ℕ)
number_at t = do
  digits ← some_run is_ascii_digit t
  version ← version_number digits.0
  Some (version, digits.1)

-- what follows a `c` and digits
unfoldable pub after_compression : List ℕ → Option (List ℕ)
after_compression t = do
  digits ← after (codes "c") t
  level ← some_run is_ascii_digit digits
  Some level.1

-- the cache key: digits, and a `c` and digits that may follow them
unfoldable pub cache_key : List ℕ → Option (List ℕ × List ℕ)
cache_key t = do
  name ← after_blanks t
  key ← after (codes "cacheKey: ") name
  digits ← some_run is_ascii_digit key
  Some (front key (unwrap_or (after_compression digits.1) digits.1), unwrap_or (after_compression digits.1) digits.1)

-- what follows a cache key that may stand at the front
abbrev pub after_key : List ℕ → List ℕ
after_key t = option_map_or (λ key. key.1) (cache_key t) t

-- the line `__metadata:`, and the version on the next
unfoldable pub version_line : List ℕ → Option (ℕ × List ℕ)
version_line t = do
  first ← after (codes "__metadata:") t
  second ← after_line_end first
  name ← after_blanks second
  value ← after (codes "version: ") name
  version ← number_at value
  rest ← after_line_end version.1
  Some (version.0, rest)

-- The version, a cache key that may follow it, all up to and including the next line of only blanks, and white space.
-- That line may be what is left of the key's own.
unfoldable pub metadata_at : List ℕ → Option (Metadata × List ℕ)
metadata_at t = do
  version ← version_line t
  rest ← after_first_empty_line (after_key version.1)
  Some (
    record {
      version = version.0;
      cache_key = option_map (λ key. key.0) (cache_key version.1);
    },
    (run is_white_space rest).1,
  )
