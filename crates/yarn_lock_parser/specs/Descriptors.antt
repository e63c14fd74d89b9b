-- The descriptors on an entry's first line.
-- A `do` here is over readings: it goes on with what a reading gives, and gives nothing where one of them doesn't read.
use Rattle.std.specs.Prelude.{ℕ, List, [], ◌∷◌, ◌++◌, Option, Some, option_map, codes}
use Rattle.std.specs.Option.{option_or}
use Rattle.yarn_lock_parser.specs.ByteSet.{is_descriptor_byte, is_no_at}
use Rattle.sugar_path.specs.Front.{◌>>=◌, after, before}
use Rattle.yarn_lock_parser.specs.Front.{after_optional, run, some_run, line_at, front, every}

-- the line's text before its `:`, which a carriage return may follow
unfoldable pub before_colon : List ℕ → Option (List ℕ)
before_colon t = option_or (before (58 ∷ 13 ∷ []) t) (before (58 ∷ []) t)

-- a descriptor's text, between optional quotes
unfoldable pub descriptor_at : List ℕ → Option (List ℕ × List ℕ)
descriptor_at t = do
  text ← some_run is_descriptor_byte (after_optional (34 ∷ []) t)
  Some (text.0, after_optional (34 ∷ []) text.1)

-- a descriptor behind an optional quote, a comma and a space
unfoldable pub next_descriptor : List ℕ → Option (List ℕ × List ℕ)
next_descriptor t = do
  rest ← after (codes ", ") (after_optional (34 ∷ []) t)
  descriptor_at rest

-- name and requirement: the name ends at the first `@` that isn't its first byte
unfoldable pub parted : List ℕ → Option (List ℕ × List ℕ)
parted t = do
  requirement ← after (codes "@") (run is_no_at (after_optional (codes "@") t)).1
  Some (front t (run is_no_at (after_optional (codes "@") t)).1, requirement)

abbrev pub each_parted : List (List ℕ) → Option (List (List ℕ × List ℕ))
each_parted [] = Some []
each_parted (t ∷ ts) = do
  first ← parted t
  others ← each_parted ts
  Some (first ∷ others)

-- what was found stands before what is found further on
abbrev pub put_before : {A : Type 0} → List A → Option (List A) → Option (List A)
put_before found more = option_map (λ others. found ++ others) more

-- the descriptors on a line; what follows the last that can be read is passed over
unfoldable pub descriptors_on : List ℕ → Option (List (List ℕ × List ℕ))
descriptors_on t = do
  first ← descriptor_at t
  each_parted (first.0 ∷ (every next_descriptor first.1).0)

-- the descriptors of an entry's first line
unfoldable pub descriptors_at : List ℕ → Option (List (List ℕ × List ℕ) × List ℕ)
descriptors_at t = do
  first ← line_at t
  text ← before_colon first.0
  found ← descriptors_on text
  Some (found, first.1)
