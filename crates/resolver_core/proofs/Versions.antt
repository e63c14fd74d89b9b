-- Where no pattern has text behind its `*`, the versions map each request alike.
use Rattle.std.proofs.Common.{
  ◌≡◌,
  ℕ,
  Bool,
  true,
  false,
  cond,
  List,
  [],
  ◌∷◌,
  filter,
  find,
  Option,
  Some,
  None,
  refl,
  sym,
  ap,
  ◌∙◌,
}
use Rattle.std.specs.List.{AllByRecursion}
use Rattle.std.specs.Option.{option_or}
use Rattle.swc_loader.specs.declared.resolution.FileName.{FileName}
use Rattle.swc_loader.specs.declared.ts_version.TsVersion.{TsVersion}
use Rattle.swc_loader.specs.declared.ts_version.TsVersion.TheVariants.{V1, V2}
use Rattle.resolver_core.specs.declared.pattern.Pattern.{Pattern}
use Rattle.resolver_core.specs.declared.pattern.Pattern.TheVariants.{Exact, Starred}
use Rattle.resolver_core.specs.declared.pattern.Wildcard.{Wildcard}
use Rattle.resolver_core.specs.Pattern.{ending, fits, is_exactly, first_longest, is_longest, deciding}
use Rattle.resolver_core.specs.Mapping.{Mapping, Passed, Last, plain, is_passed, by_pattern}
use Rattle.resolver_core.specs.Laws.{EndsInStar, in_version, VersionsAlike}
use Rattle.resolver_core.proofs.Longest.{all_by}

ending-none : (v : TsVersion) (w : Wildcard) → w.suffix ≡ [] → ending v w ≡ []
ending-none V1 w none = refl
ending-none V2 w none = none

endings-alike : (v u : TsVersion) (w : Wildcard) → w.suffix ≡ [] → ending v w ≡ ending u w
endings-alike v u w none = ending-none v w none ∙ sym (ending-none u w none)

fits-alike : (v u : TsVersion) (s : List ℕ) (p : Pattern) → EndsInStar p → fits v s p ≡ fits u s p
fits-alike v u s (Exact text target) none = refl
fits-alike v u s (Starred w) none = rw (endings-alike v u w none) refl

filter-alike : {X : Type 0} (p q : X → Bool) (xs : List X) → AllByRecursion (λ x. p x ≡ q x) xs
    → filter p xs ≡ filter q xs
filter-alike p q [] a = refl
filter-alike p q (x ∷ xs) a = rw (a.0, filter-alike p q xs a.1) refl

-- what a filter keeps, and what is found, has what each element has
all-kept : {X : Type 0} (P : X → Type 0) (q : X → Bool) (xs : List X) → AllByRecursion P xs
    → AllByRecursion P (filter q xs)
all-kept P q [] a = tt
all-kept {X = X} P q (x ∷ xs) a = by_test (q x) (all-kept P q xs a.1)
  where
    by_test : (b : Bool) → AllByRecursion P (filter q xs) → AllByRecursion P (cond b (x ∷ filter q xs) (filter q xs))
    by_test true rest = (a.0, rest)
    by_test false rest = rest

-- what holds of what is found, if anything is
abbrev HoldsOf : {X : Type 0} → (X → Type 0) → Option X → Type 0
HoldsOf P None = Unit {0}
HoldsOf P (Some x) = P x

all-found : {X : Type 0} (P : X → Type 0) (q : X → Bool) (xs : List X) → AllByRecursion P xs → HoldsOf P (find q xs)
all-found P q [] a = tt
all-found {X = X} P q (x ∷ xs) a = by_test (q x) (all-found P q xs a.1)
  where
    by_test : (b : Bool) → HoldsOf P (find q xs) → HoldsOf P (cond b (Some x) (find q xs))
    by_test true rest = a.0
    by_test false rest = rest

either-holds : {X : Type 0} (P : X → Type 0) (a b : Option X) → HoldsOf P a → HoldsOf P b → HoldsOf P (option_or a b)
either-holds P None b h k = k
either-holds P (Some x) b h k = h

deciding-ends : (v : TsVersion) (ps : List Pattern) (s : List ℕ) → AllByRecursion EndsInStar ps
    → HoldsOf EndsInStar (deciding v ps s)
deciding-ends v ps s all =
    either-holds EndsInStar (find (is_exactly s) ps) (first_longest (filter (fits v s) ps))
    (all-found EndsInStar (is_exactly s) ps all) (all-found EndsInStar (is_longest (filter (fits v s) ps))
    (filter (fits v s) ps) (all-kept EndsInStar (fits v s) ps all))

deciding-alike : (v u : TsVersion) (ps : List Pattern) (s : List ℕ) → AllByRecursion EndsInStar ps
    → deciding v ps s ≡ deciding u ps s
deciding-alike v u ps s all = ap (λ qs. option_or (find (is_exactly s) ps) (first_longest qs))
    (filter-alike (fits v s) (fits u s) ps (all_by (λ p none. fits-alike v u s p none) ps all))

by_pattern-alike : (m : Mapping) (v u : TsVersion) (base : FileName) (s : List ℕ) (o : Option Pattern)
    → HoldsOf EndsInStar o → by_pattern (in_version v m) base s o ≡ by_pattern (in_version u m) base s o
by_pattern-alike m v u base s None none = refl
by_pattern-alike m v u base s (Some (Exact text target)) none = refl
by_pattern-alike m v u base s (Some (Starred w)) none = rw (endings-alike v u w none) refl

pub versions_alike : VersionsAlike
versions_alike m v u all base s = by_test (is_passed base s)
  where
    by_test : (b : Bool) → cond b (Passed (Last (plain base s)))
        (by_pattern (in_version v m) base s (deciding v m.patterns s)) ≡ cond b (Passed (Last (plain base s)))
        (by_pattern (in_version u m) base s (deciding u m.patterns s))
    by_test true = refl
    by_test false = by_pattern-alike m v u base s (deciding v m.patterns s) (deciding-ends v m.patterns s all)
        ∙ ap (λ o. by_pattern (in_version u m) base s o) (deciding-alike v u m.patterns s all)
