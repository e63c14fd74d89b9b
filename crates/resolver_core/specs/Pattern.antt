-- The patterns of a mapping, as TypeScript's `paths` has them: which settings are accepted, which patterns match a
-- specifier, and which one decides. The `do` here is over results.
use Rattle.std.specs.Prelude.{
  ◌≡◌,
  ℕ,
  ◌+◌,
  Bool,
  false,
  nat_le,
  bytes_eq,
  length,
  List,
  [],
  ◌∷◌,
  ◌++◌,
  filter,
  Option,
  Some,
  None,
  Result,
  Ok,
  Err,
  find,
}
use Rattle.std.specs.List.{list_all}
use Rattle.std.specs.Option.{option_or}
use Rattle.sugar_path.specs.Results.{◌>>=◌}
use Rattle.star_texts.specs.Star.{around_star, without_ends}
use Rattle.swc_loader.specs.declared.ts_version.TsVersion.{TsVersion}
use Rattle.swc_loader.specs.declared.ts_version.TsVersion.TheVariants.{V1, V2}
use Rattle.resolver_core.specs.declared.pattern.Pattern.{Pattern}
use Rattle.resolver_core.specs.declared.pattern.Pattern.TheVariants.{Exact, Starred}
use Rattle.resolver_core.specs.declared.pattern.Wildcard.{Wildcard}
use Rattle.resolver_core.specs.declared.pattern.TsError.{TsError}
use Rattle.resolver_core.specs.declared.pattern.TsError.TheVariants.{
  EmptyTargets,
  TwoWildcards,
  ExactNeedsOne,
  NoMemory,
}

-- the settings of a mapping: patterns, each with its targets
abbrev pub Paths : Type 0
Paths = List (List ℕ × List (List ℕ))

-- a pattern without `*` has one target
abbrev pub exact : ℕ → List ℕ → List ℕ → List (List ℕ) → Result Pattern TsError
exact at text target [] = Ok (Exact text target)
exact at text target (other ∷ more) = Err (ExactNeedsOne at)

abbrev pub pattern_without_star : ℕ → List ℕ → List (List ℕ) → Result Pattern TsError
pattern_without_star at text [] = Err (EmptyTargets at)
pattern_without_star at text (target ∷ more) = exact at text target more

-- a wildcard by its text, the parts around its first `*`, its targets, and what stands around another `*` behind it: it
-- holds no second one
abbrev pub wildcard : ℕ → List ℕ → List ℕ × List ℕ → List (List ℕ) → Option (List ℕ × List ℕ) → Result Pattern TsError
wildcard at text parts targets None =
    Ok (Starred (record { text = text; prefix = parts.0; suffix = parts.1; targets = targets }))
wildcard at text parts targets (Some others) = Err (TwoWildcards at)

-- a pattern that has targets, by what stands around its `*`
abbrev pub by_star : ℕ → List ℕ → List ℕ → List (List ℕ) → Option (List ℕ × List ℕ) → Result Pattern TsError
by_star at text target more None = exact at text target more
by_star at text target more (Some parts) = wildcard at text parts (target ∷ more) (around_star parts.1)

-- the pattern at a place of the settings, or the first cause for which it is refused
abbrev pub pattern_of : ℕ → List ℕ → List (List ℕ) → Result Pattern TsError
pattern_of at text [] = Err (EmptyTargets at)
pattern_of at text (target ∷ more) = by_star at text target more (around_star text)

-- the patterns from a place on, or the first one's cause that is refused
abbrev pub patterns_from : ℕ → Paths → Result (List Pattern) TsError
patterns_from at [] = Ok []
patterns_from at (p ∷ ps) = do
  pattern ← pattern_of at p.0 p.1
  rest ← patterns_from (at + 1) ps
  Ok (pattern ∷ rest)

-- the patterns of settings in the order given, or the first cause for which the settings are refused
abbrev pub patterns_of : Paths → Result (List Pattern) TsError
patterns_of paths = patterns_from 0 paths

-- what a specifier must end in for a wildcard: under version 1 what stands behind the `*` is ignored
abbrev pub ending : TsVersion → Wildcard → List ℕ
ending V1 w = []
ending V2 w = w.suffix

-- what of a specifier the `*` of a wildcard stands for: what is left between the text before the `*` and the ending
abbrev pub rest_of : TsVersion → List ℕ → Wildcard → List ℕ
rest_of version s w = without_ends s w.prefix (ending version w)

-- A wildcard matches a specifier that is the text before its `*`, a rest, which may be empty, and the ending.
abbrev pub matches_wildcard : TsVersion → List ℕ → Wildcard → Bool
matches_wildcard version s w = bytes_eq s (w.prefix ++ (rest_of version s w ++ ending version w))

-- the pattern is a wildcard that matches
abbrev pub fits : TsVersion → List ℕ → Pattern → Bool
fits version s (Exact text target) = false
fits version s (Starred w) = matches_wildcard version s w

-- the pattern is an exact one that matches: its own text alone
abbrev pub is_exactly : List ℕ → Pattern → Bool
is_exactly s (Exact text target) = bytes_eq s text
is_exactly s (Starred w) = false

-- how long the text before a pattern's `*` is
abbrev pub length_before : Pattern → ℕ
length_before (Exact text target) = 0
length_before (Starred w) = length w.prefix

-- no pattern of these has a longer text before its `*`
abbrev pub is_longest : List Pattern → Pattern → Bool
is_longest ps p = list_all (λ q. nat_le (length_before q) (length_before p)) ps

-- the first of patterns with the longest text before its `*`
abbrev pub first_longest : List Pattern → Option Pattern
first_longest ps = find (is_longest ps) ps

-- The pattern that decides alone: the first exact one that matches, else of the wildcards that match the first with the
-- longest text before its `*`.
abbrev pub deciding : TsVersion → List Pattern → List ℕ → Option Pattern
deciding version ps s = option_or (find (is_exactly s) ps) (first_longest (filter (fits version s) ps))

-- the settings are read as this says, unless memory is wanting
abbrev pub IsReadAs : {A : Type 0} → Result A TsError → Result A TsError → Type 0
IsReadAs (Ok a) reading = reading ≡ Ok a
IsReadAs (Err (EmptyTargets at)) reading = reading ≡ Err (EmptyTargets at)
IsReadAs (Err (TwoWildcards at)) reading = reading ≡ Err (TwoWildcards at)
IsReadAs (Err (ExactNeedsOne at)) reading = reading ≡ Err (ExactNeedsOne at)
IsReadAs (Err NoMemory) reading = Unit {0}
