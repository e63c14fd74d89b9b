-- The reading of patterns.
use Rattle.std.proofs.Common.{
  ◌≡◌,
  ◌+◌,
  ℕ,
  List,
  [],
  ◌∷◌,
  ◌++◌,
  Result,
  Ok,
  Err,
  IsErrAnd,
  refl,
  sym,
  ap,
  ◌∙◌,
  append_assoc,
}
use Rattle.std.proofs.lemmas.List.{append-nil}
use Rattle.resolver_core.specs.declared.pattern.Pattern.{Pattern}
use Rattle.sugar_path.specs.Results.{◌>>=◌}
use Rattle.resolver_core.specs.declared.pattern.TsError.{TsError}
use Rattle.resolver_core.specs.declared.pattern.TsError.TheVariants.{
  EmptyTargets,
  TwoWildcards,
  ExactNeedsOne,
  NoMemory,
}
use Rattle.resolver_core.specs.Pattern.{Paths, IsReadAs, pattern_of, patterns_from}

-- what is read so far, and then the rest
abbrev pub after : List Pattern → Result (List Pattern) TsError → Result (List Pattern) TsError
after ps reading = reading >>= λ rest. Ok (ps ++ rest)

-- One more pattern is read.
pub after-more : {whole : Result (List Pattern) TsError} {p : Pattern} (ps : List Pattern) (n : ℕ)
    (x : List ℕ × List (List ℕ)) (xs : Paths) → pattern_of n x.0 x.1 ≡ Ok p
    → whole ≡ after ps (patterns_from n (x ∷ xs)) → whole ≡ after (ps ++ p ∷ []) (patterns_from (n + 1) xs)
after-more {p = p} ps n x xs is h = h ∙ rw is (by_rest (patterns_from (n + 1) xs))
  where
    by_rest : (rest : Result (List Pattern) TsError)
        → after ps (rest >>= λ more. Ok (p ∷ more)) ≡ after (ps ++ p ∷ []) rest
    by_rest (Ok more) = ap (λ qs. Ok qs) (sym (append_assoc ps (p ∷ []) more))
    by_rest (Err e) = refl

-- All are read.
pub after-none : {whole : Result (List Pattern) TsError} (ps : List Pattern) (n : ℕ) (xs : Paths) → xs ≡ []
    → whole ≡ after ps (patterns_from n xs) → whole ≡ Ok ps
after-none ps n xs none h = h ∙ rw none (ap (λ qs. Ok qs) (append-nil ps))

-- A pattern is refused.
pub after-refused : {whole : Result (List Pattern) TsError} (ps : List Pattern) (n : ℕ) (x : List ℕ × List (List ℕ))
    (xs : Paths) (e : TsError) (r : Result (List Pattern) TsError) → IsErrAnd r (λ raised. raised ≡ e)
    → IsReadAs {A = Pattern} (Err e) (pattern_of n x.0 x.1) → whole ≡ after ps (patterns_from n (x ∷ xs))
    → IsReadAs r whole
after-refused ps n x xs e (Ok _) is reading h = elim is [ ]
after-refused {whole = whole} ps n x xs e (Err raised) is reading h = rw is (by_cause e reading)
  where
    refused : (cause : TsError) → pattern_of n x.0 x.1 ≡ Err cause → whole ≡ Err cause
    refused cause known = h ∙ rw known refl

    by_cause : (cause : TsError) → IsReadAs {A = Pattern} (Err cause) (pattern_of n x.0 x.1)
        → IsReadAs {A = List Pattern} (Err cause) whole
    by_cause (EmptyTargets at) known = refused (EmptyTargets at) known
    by_cause (TwoWildcards at) known = refused (TwoWildcards at) known
    by_cause (ExactNeedsOne at) known = refused (ExactNeedsOne at) known
    by_cause NoMemory known = tt
