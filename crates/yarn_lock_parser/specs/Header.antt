-- The comment lines that a lock file begins with.
-- A `do` here is over readings: it goes on with what a reading gives, and gives nothing where one of them doesn't read.
use Rattle.std.specs.Prelude.{ℕ, Bool, List, Option, Some, codes, is_some, unwrap_or}
use Rattle.std.specs.Option.{option_map_or}
use Rattle.yarn_lock_parser.specs.ByteSet.{is_white_space}
use Rattle.yarn_lock_parser.specs.declared.header.Generator.{Generator}
use Rattle.yarn_lock_parser.specs.declared.header.Generator.TheVariants.{Yarn, Bun}
use Rattle.sugar_path.specs.Front.{◌>>=◌, after}
use Rattle.yarn_lock_parser.specs.Front.{run, line_at}

pub record Header : Type 0 where
  pub generator : Generator
  pub is_first_version : Bool

-- what follows the line that Bun adds
unfoldable pub after_bun_line : List ℕ → Option (List ℕ)
after_bun_line t = do
  third ← line_at t
  bun ← after (codes "# bun") third.0
  Some third.1

-- Two lines, or three where the third begins with `# bun`, and any white space. The second line tells version 1.
unfoldable pub header_at : List ℕ → Option (Header × List ℕ)
header_at t = do
  first ← line_at t
  second ← line_at first.1
  Some (
    record {
      generator = option_map_or (λ _. Bun) (after_bun_line second.1) Yarn;
      is_first_version = is_some (after (codes "# yarn lockfile v1") second.0);
    },
    (run is_white_space (unwrap_or (after_bun_line second.1) second.1)).1,
  )
