-- Entries of requests: which are those of one request.
use Rattle.std.proofs.Common.{◌≡◌, ℕ, true, false, List, [], ◌∷◌, refl, ap, ◌∙◌}
use Rattle.std.specs.List.{AllByRecursion, IsDistinct}
use Rattle.std.proofs.lemmas.Slice.Eq.{bytes_eq-Decides}
use Rattle.sugar_path.proofs.Bools.{and_left, and_right, and_both}
use Rattle.swc_loader.specs.declared.resolution.FileName.{FileName}
use Rattle.swc_loader.specs.declared.resolution.FileName.TheVariants.{Real, Custom, Anon}
use Rattle.resolver_core.specs.Caching.{name_eq}
use Rattle.session_core.specs.declared.latest.Entry.{Entry}
use Rattle.session_core.specs.Entries.{is_for, same_request}

name_eq-is : (a b : FileName) → name_eq a b ≡ true → a ≡ b
name_eq-is (Real a) (Real b) h = ap Real ((bytes_eq-Decides a b).0 h)
name_eq-is (Real a) (Custom b) h = cc
name_eq-is (Real a) Anon h = cc
name_eq-is (Custom a) (Real b) h = cc
name_eq-is (Custom a) (Custom b) h = ap Custom ((bytes_eq-Decides a b).0 h)
name_eq-is (Custom a) Anon h = cc
name_eq-is Anon (Real b) h = cc
name_eq-is Anon (Custom b) h = cc
name_eq-is Anon Anon h = refl

name_eq-refl : (a : FileName) → name_eq a a ≡ true
name_eq-refl (Real a) = (bytes_eq-Decides a a).1 refl
name_eq-refl (Custom a) = (bytes_eq-Decides a a).1 refl
name_eq-refl Anon = refl

-- an entry of a request has its importer and its specifier
pub importer-is : (importer : FileName) (specifier : List ℕ) (e : Entry) → is_for importer specifier e ≡ true →
    e.importer ≡ importer
importer-is importer specifier e h = name_eq-is e.importer importer (and_left _ _ h)

pub specifier-is : (importer : FileName) (specifier : List ℕ) (e : Entry) → is_for importer specifier e ≡ true →
    e.specifier ≡ specifier
specifier-is importer specifier e h =
    (bytes_eq-Decides e.specifier specifier).0 (and_right (name_eq e.importer importer) _ h)

-- of an entry of a request, another is of the same request just where it is of that one
pub same_request-is : (importer : FileName) (specifier : List ℕ) (e f : Entry) → is_for importer specifier e ≡ true →
    same_request e f ≡ is_for importer specifier f
same_request-is importer specifier e f h =
    ap (λ i. is_for i e.specifier f) (importer-is importer specifier e h)
    ∙ ap (λ s. is_for importer s f) (specifier-is importer specifier e h)

-- no other is of the same request
pub apart-first : (importer : FileName) (specifier : List ℕ) (e : Entry) (es : List Entry) →
    is_for importer specifier e ≡ true → AllByRecursion (λ f. is_for importer specifier f ≡ false) es →
    IsDistinct same_request es → IsDistinct same_request (e ∷ es)
unfolding IsDistinct
apart-first importer specifier e es h others d = (all_of es others, d)
  where
    all_of : (es : List Entry) → AllByRecursion (λ f. is_for importer specifier f ≡ false) es →
        AllByRecursion (λ f. same_request e f ≡ false) es
    all_of [] all = tt
    all_of (f ∷ es) all = (same_request-is importer specifier e f h ∙ all.0, all_of es all.1)

-- an entry is that of its own request
pub is_for-itself : (e : Entry) → is_for e.importer e.specifier e ≡ true
is_for-itself e = and_both _ _ (name_eq-refl e.importer) ((bytes_eq-Decides e.specifier e.specifier).1 refl)
