-- The bytes of a file, as a text or none, and a pattern that is refused.
use Rattle.std.proofs.Common.{
  ◌≡◌,
  ◌⊎◌,
  inl,
  inr,
  ℕ,
  Bool,
  true,
  false,
  cond,
  List,
  Option,
  None,
  Some,
  IsUtf8,
  Result,
  Ok,
  Err,
  refl,
  sym,
  subst,
}
use Rattle.std.specs.Prelude.{IsErrAnd}
use Rattle.std.specs.Str.{is_utf8}
use Rattle.std.proofs.lemmas.Str.{IsUtf8-from_is_utf8, is_utf8-from_IsUtf8}
use Rattle.sugar_path.specs.Path.{Path}
use Rattle.es_pattern.specs.Tree.{Tree}
use Rattle.es_pattern.specs.declared.error.PatternError.{PatternError}
use Rattle.es_pattern.specs.declared.error.PatternError.TheVariants.{Syntax, Unsupported, CountTooLarge, NoMemory}
use Rattle.pnp_core.specs.declared.error.HydrationCause.TheVariants.{NotText}
use Rattle.pnp_core.specs.declared.error.ReadManifestError.{ReadManifestError}
use Rattle.pnp_core.specs.Manifest.{Contents}
use Rattle.pnp_core.specs.ManifestReading.{reading, from_text, with_pattern, of_pattern, IsReadAs}

-- bytes that are UTF-8 are read as a text, and others are none
pub reading-text : (bytes : List ℕ) (p : Path) → IsUtf8 bytes → reading (Some bytes) p ≡ from_text p bytes
reading-text bytes p h = rw (is_utf8-from_IsUtf8 bytes h) refl

pub reading-other : (bytes : List ℕ) (p : Path) → ¬ IsUtf8 bytes → reading (Some bytes) p ≡ Err NotText
reading-other bytes p h = by_test (is_utf8 bytes) refl
  where
    by_test : (b : Bool) → is_utf8 bytes ≡ b → cond b (from_text p bytes) (Err NotText) ≡ Err NotText
    by_test true is = absurd (h (IsUtf8-from_is_utf8 bytes is))
    by_test false is = refl

-- an error of a pattern's reading, as a manifest's reading tells it
read_as_error : (m : Contents) (o : Option Tree) (e : PatternError) → (o ≡ None) ⊎ (e ≡ NoMemory)
    → IsReadAs {A = Contents} (Err (of_pattern e)) (with_pattern m o)
read_as_error m o (Syntax place) (inl none) = rw none refl
read_as_error m o (Unsupported place) (inl none) = rw none refl
read_as_error m o (CountTooLarge place) (inl none) = rw none refl
read_as_error m o NoMemory told = tt
read_as_error m o (Syntax place) (inr memory) = absurd (cc)
read_as_error m o (Unsupported place) (inr memory) = absurd (cc)
read_as_error m o (CountTooLarge place) (inr memory) = absurd (cc)

pub pattern_refused : (m : Contents) (o : Option Tree) (e : PatternError) (r : Result Contents ReadManifestError)
    → IsErrAnd r (λ x. x ≡ of_pattern e) → (o ≡ None) ⊎ (e ≡ NoMemory) → IsReadAs r (with_pattern m o)
pattern_refused m o e (Ok n) is told = elim is [ ]
pattern_refused m o e (Err x) is told = subst (λ (y : ReadManifestError). IsReadAs {A = Contents} (Err y)
    (with_pattern m o)) (sym is) (read_as_error m o e told)
