-- A law of the two versions of settings.
use Rattle.std.specs.Prelude.{◌≡◌, ℕ, List, []}
use Rattle.std.specs.List.{AllByRecursion}
use Rattle.swc_loader.specs.declared.resolution.FileName.{FileName}
use Rattle.swc_loader.specs.declared.ts_version.TsVersion.{TsVersion}
use Rattle.resolver_core.specs.declared.pattern.Pattern.{Pattern}
use Rattle.resolver_core.specs.declared.pattern.Pattern.TheVariants.{Exact, Starred}
use Rattle.resolver_core.specs.Mapping.{Mapping, mapped}

-- no text stands behind the pattern's `*`
abbrev pub EndsInStar : Pattern → Type 0
EndsInStar (Exact text target) = Unit {0}
EndsInStar (Starred w) = w.suffix ≡ []

abbrev pub in_version : TsVersion → Mapping → Mapping
in_version version m = record m { version = version }

-- Where no pattern has text behind its `*`, the versions map each request alike: to the same tries, and the same end
-- behind them.
abbrev pub VersionsAlike : Type 0
VersionsAlike =
    (m : Mapping) (v w : TsVersion) → AllByRecursion EndsInStar m.patterns → (base : FileName) (s : List ℕ)
    → mapped (in_version v m) base s ≡ mapped (in_version w m) base s
