-- The look-ups by which the pattern that decides is found without a scan. No public clause names them.
use Rattle.std.specs.Prelude.{
  ◌≡◌,
  ℕ,
  ◌+◌,
  ◌≤◌,
  ◌==◌,
  ◌&&◌,
  Bool,
  true,
  false,
  bytes_eq,
  length,
  List,
  [],
  ◌∷◌,
  Option,
  Some,
  None,
  find,
  slice_get,
  if◌then◌else◌,
}
use Rattle.std.specs.List.{AllByRecursion, list_any}
use Rattle.std.specs.Map.{lookup}
use Rattle.std.specs.Option.{option_or}
use Rattle.swc_loader.specs.declared.ts_version.TsVersion.{TsVersion}
use Rattle.resolver_core.specs.declared.pattern.Pattern.{Pattern}
use Rattle.resolver_core.specs.declared.pattern.Pattern.TheVariants.{Exact, Starred}
use Rattle.resolver_core.specs.Pattern.{fits, is_exactly, length_before}

abbrev pub or_none : Option (List ℕ) → List ℕ
or_none None = []
or_none (Some places) = places

-- places by the text that they are kept under
abbrev pub Kept : Type 0
Kept = List (List ℕ × List ℕ)

-- the places that are kept under a text
abbrev pub places_at : Kept → List ℕ → List ℕ
places_at kept text = or_none (lookup (bytes_eq text) kept)

-- the places at which a test holds, counted from a number on
abbrev pub places_from : (Pattern → Bool) → ℕ → List Pattern → List ℕ
places_from test at [] = []
places_from test at (p ∷ ps) = if test p then (at ∷ places_from test (at + 1) ps) else places_from test (at + 1) ps

-- a wildcard with this text before its `*`
abbrev pub is_behind : List ℕ → Pattern → Bool
is_behind text (Exact other target) = false
is_behind text (Starred w) = bytes_eq text w.prefix

-- what there is, if it passes a test
abbrev pub that_passes : {X : Type 0} → (X → Bool) → Option X → Option X
that_passes test None = None
that_passes test (Some x) = if test x then Some x else None

-- of the patterns at places the first that passes a test
abbrev pub first_passing : (Pattern → Bool) → List Pattern → List ℕ → Option Pattern
first_passing test ps [] = None
first_passing test ps (n ∷ ns) = option_or (that_passes test (slice_get ps n)) (first_passing test ps ns)

-- a wildcard that matches, with a text of this length before its `*`
abbrev pub fits_behind : TsVersion → List ℕ → ℕ → Pattern → Bool
fits_behind version s len p = fits version s p && (length_before p == len)

-- the first wildcard that matches, by the lengths of the texts before the `*` in this order
abbrev pub by_lengths : TsVersion → List ℕ → List Pattern → List ℕ → Option Pattern
by_lengths version s ps [] = None
by_lengths version s ps (len ∷ more) = option_or (find (fits_behind version s len) ps) (by_lengths version s ps more)

-- the length of a wildcard's text before its `*` is among these
abbrev pub HasLength : List ℕ → Pattern → Type 0
HasLength lengths (Exact text target) = Unit {0}
HasLength lengths (Starred w) = list_any (λ len. len == length w.prefix) lengths ≡ true

-- numbers, the greatest first
abbrev pub IsFalling : List ℕ → Type 0
IsFalling [] = Unit {0}
IsFalling (n ∷ ns) = AllByRecursion (λ m. m ≤ n) ns × IsFalling ns

-- what is kept for patterns tells each of them
pub record IsKeptFor (ps : List Pattern) (exact starred : Kept) (lengths : List ℕ) : Type 0 where
  pub exactly : (text : List ℕ) → places_at exact text ≡ places_from (is_exactly text) 0 ps
  pub behind : (text : List ℕ) → places_at starred text ≡ places_from (is_behind text) 0 ps
  pub known : AllByRecursion (HasLength lengths) ps
