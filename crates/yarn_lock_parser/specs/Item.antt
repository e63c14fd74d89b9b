-- The items of an entry, each by the first form that fits at its place.
-- A `do` here is over readings: it goes on with what a reading gives, and gives nothing where one of them doesn't read.
use Rattle.std.specs.Prelude.{ℕ, List, Option, option_map}
use Rattle.std.specs.Option.{option_or}
use Rattle.sugar_path.specs.Front.{◌>>=◌}
use Rattle.yarn_lock_parser.specs.ByteSet.{is_blank}
use Rattle.yarn_lock_parser.specs.Front.{line_at, some_run}
use Rattle.yarn_lock_parser.specs.Items.{version_at, integrity_at, resolved_at}
use Rattle.yarn_lock_parser.specs.Dependencies.{DependencyKind, dependencies_at}
use Rattle.yarn_lock_parser.specs.Metas.{Flag, MetaKind, metas_at}

pub data Item : Type 0 where
  Version : List ℕ → Item
  Dependencies : DependencyKind → List (List ℕ × List ℕ) → Item
  Integrity : List ℕ → Item
  Resolved : List ℕ → Item
  Metas : MetaKind → List (List ℕ × Flag) → Item
  -- a line that says nothing here
  Other : Item

abbrev pub reads_as : {A : Type 0} → (A → Item) → Option (A × List ℕ) → Option (Item × List ℕ)
reads_as form read = option_map (λ r. (form r.0, r.1)) read

-- an item behind its indent
unfoldable pub keyed_at : List ℕ → List ℕ → Option (Item × List ℕ)
keyed_at indent t =
    option_or (reads_as Version (version_at t))
    (option_or (reads_as (λ d. Dependencies d.0 d.1) (dependencies_at indent t))
    (option_or (reads_as Integrity (integrity_at t))
    (option_or (reads_as Resolved (resolved_at t))
    (reads_as (λ m. Metas m.0 m.1) (metas_at indent t)))))

-- the item behind one blank or more
unfoldable pub indented_at : List ℕ → Option (Item × List ℕ)
indented_at t = do
  indent ← some_run is_blank t
  keyed_at indent.0 indent.1

unfoldable pub item_at : List ℕ → Option (Item × List ℕ)
item_at t = option_or (indented_at t) (reads_as (λ _. Other) (line_at t))
