-- Which wildcards match a specifier, by the text before their `*` and its length.
use Rattle.std.proofs.Common.{
  ◌≡◌,
  ℕ,
  ◌<◌,
  ◌≤◌,
  ◌==◌,
  ◌&&◌,
  Bool,
  true,
  false,
  List,
  [],
  ◌∷◌,
  ◌++◌,
  length,
  take,
  filter,
  find,
  Option,
  Some,
  None,
  bytes_eq,
  refl,
  sym,
  ap,
  ◌∙◌,
  arith,
  length-append,
}
use Rattle.std.specs.List.{AllByRecursion, list_any}
use Rattle.std.specs.Option.{option_or}
use Rattle.std.proofs.lemmas.Bool.{eqb-true, eq-eqb, ne_eqb, false_from_ne_true, and_parts}
use Rattle.std.proofs.lemmas.List.{take_at, length-take-le}
use Rattle.std.proofs.lemmas.Slice.Eq.{bytes_eq-Decides}
use Rattle.swc_loader.specs.declared.ts_version.TsVersion.{TsVersion}
use Rattle.resolver_core.specs.declared.pattern.Pattern.{Pattern}
use Rattle.resolver_core.specs.declared.pattern.Pattern.TheVariants.{Exact, Starred}
use Rattle.resolver_core.specs.declared.pattern.Wildcard.{Wildcard}
use Rattle.resolver_core.specs.Pattern.{
  ending,
  rest_of,
  matches_wildcard,
  fits,
  is_exactly,
  length_before,
  is_longest,
  first_longest,
  deciding,
}
use Rattle.resolver_core.specs.Lookups.{is_behind, fits_behind, by_lengths, HasLength, IsFalling}
use Rattle.resolver_core.proofs.Longest.{
  find-alike,
  find-fails,
  find-filter,
  find-passes,
  found_by,
  found_by-longest,
  all_by,
}

-- a specifier that a wildcard matches begins with the text before its `*`
begins : (version : TsVersion) (s : List ℕ) (w : Wildcard) → matches_wildcard version s w ≡ true → s ≡ w.prefix
    ++ (rest_of version s w ++ ending version w)
begins version s w h = (bytes_eq-Decides s (w.prefix ++ (rest_of version s w ++ ending version w))).0 h

behind-alike : (version : TsVersion) (s : List ℕ) (n : ℕ) → n ≤ length s → (p : Pattern)
    → (is_behind (take n s) p && fits version s p) ≡ fits_behind version s n p
behind-alike version s n le (Exact text target) = refl
behind-alike version s n le (Starred w) = by_test (matches_wildcard version s w) refl
  where
    same_length : matches_wildcard version s w ≡ true → length w.prefix ≡ n → bytes_eq (take n s) w.prefix ≡ true
    same_length h len =
        let whole = begins version s w h in
        let front : take n s ≡ w.prefix =
        ap (λ t. take n t) whole ∙ take_at w.prefix (rest_of version s w ++ ending version w) n len in
        (bytes_eq-Decides (take n s) w.prefix).1 front

    same_text : bytes_eq (take n s) w.prefix ≡ true → length w.prefix ≡ n
    same_text h = let same : take n s ≡ w.prefix = (bytes_eq-Decides (take n s) w.prefix).0 h in ap length (sym same)
        ∙ length-take-le n s le

    by_length : (b : Bool) → (length w.prefix == n) ≡ b → matches_wildcard version s w ≡ true
        → bytes_eq (take n s) w.prefix ≡ b
    by_length true e h = same_length h (eqb-true (length w.prefix) n e)
    by_length false e h = false_from_ne_true (bytes_eq (take n s) w.prefix)
        (λ same. let is : (length w.prefix == n) ≡ true = eq-eqb (length w.prefix) n (same_text same) in cc)

    and-true : (a : Bool) → (a && true) ≡ a
    and-true true = refl
    and-true false = refl

    and-false : (a : Bool) → (a && false) ≡ false
    and-false true = refl
    and-false false = refl

    by_test : (b : Bool) → matches_wildcard version s w ≡ b
        → (bytes_eq (take n s) w.prefix && b) ≡ (b && (length w.prefix == n))
    by_test true e = and-true (bytes_eq (take n s) w.prefix) ∙ by_length (length w.prefix == n) refl e
    by_test false e = and-false (bytes_eq (take n s) w.prefix)

every : {X : Type 0} {P : X → Type 0} → ((x : X) → P x) → (xs : List X) → AllByRecursion P xs
every f [] = tt
every f (x ∷ xs) = (f x, every f xs)

-- among the wildcards behind a specifier's front, those that match are of its length
pub found-behind : (version : TsVersion) (s : List ℕ) (n : ℕ) (ps : List Pattern) → n ≤ length s
    → find (fits version s) (filter (is_behind (take n s)) ps) ≡ find (fits_behind version s n) ps
found-behind version s n ps le = find-filter (fits version s) (is_behind (take n s)) ps
    ∙ find-alike (λ p. is_behind (take n s) p && fits version s p) (fits_behind version s n) ps
    (every (behind-alike version s n le) ps)

-- no wildcard matches a specifier that is shorter than the text before its `*`
pub none-behind : (version : TsVersion) (s : List ℕ) (n : ℕ) (ps : List Pattern) → length s < n
    → find (fits_behind version s n) ps ≡ None
none-behind version s n ps short = find-fails (fits_behind version s n) ps (every apart ps)
  where
    apart : (p : Pattern) → fits_behind version s n p ≡ false
    apart (Exact text target) = refl
    apart (Starred w) = by_test (matches_wildcard version s w) refl
      where
        by_test : (b : Bool) → matches_wildcard version s w ≡ b → (b && (length w.prefix == n)) ≡ false
        by_test true e =
            let whole : length s ≡ length (w.prefix ++ (rest_of version s w ++ ending version w)) =
            ap length (begins version s w e) in
            let parts = length-append w.prefix (rest_of version s w ++ ending version w) in
            ne_eqb (length w.prefix) n (λ same. absurd (omega (arith, whole, parts, same, short)))
        by_test false e = refl

-- What is found by lengths is the first of the greatest length.
pub by_lengths-longest : (version : TsVersion) (s : List ℕ) (ps : List Pattern) (lengths : List ℕ)
    → AllByRecursion (HasLength lengths) ps → IsFalling lengths
    → by_lengths version s ps lengths ≡ first_longest (filter (fits version s) ps)
by_lengths-longest version s ps lengths known falls =
    same lengths ∙ found_by-longest (fits version s) length_before lengths ps falls (all_by has ps known)
  where
    same : (ns : List ℕ) → by_lengths version s ps ns ≡ found_by (fits version s) length_before ps ns
    same [] = refl
    same (n ∷ ns) = rw (same ns) refl

    has : (p : Pattern) → HasLength lengths p → fits version s p ≡ true
        → list_any (λ n. n == length_before p) lengths ≡ true
    has (Exact text target) h passes = cc
    has (Starred w) h passes = h

-- A wildcard that decides matches.
pub deciding-matches : (version : TsVersion) (ps : List Pattern) (s : List ℕ) (w : Wildcard)
    → deciding version ps s ≡ Some (Starred w) → matches_wildcard version s w ≡ true
deciding-matches version ps s w h = by_exact (find (is_exactly s) ps) refl h
  where
    by_exact : (o : Option Pattern) → find (is_exactly s) ps ≡ o
        → option_or o (first_longest (filter (fits version s) ps)) ≡ Some (Starred w)
        → matches_wildcard version s w ≡ true
    by_exact None none found = (and_parts (fits version s (Starred w))
        (is_longest (filter (fits version s) ps) (Starred w))
        (find-passes (λ p. fits version s p && is_longest (filter (fits version s) ps) p) ps (Starred w)
        (sym (find-filter (is_longest (filter (fits version s) ps)) (fits version s) ps) ∙ found))).0
    by_exact (Some p) there found =
        let never : false ≡ true = find-passes (is_exactly s) ps (Starred w) (there ∙ found) in
        cc
