-- Equality of requirements: two are equal where their comparators, alternative by alternative, or their tags are equal.
use Rattle.std.proofs.Common.{◌≡◌, Bool, true, false, ◌==◌, ◌&&◌, bytes_eq, refl, sym, ap, ◌∙◌}
use Rattle.std.specs.Bool.{Decides}
use Rattle.std.specs.Cmp.{IsEquivalence, decided, unsigned_Decides}
use Rattle.std.specs.Cmp.Lexicographic.{bytes_decides, pointwise, pointwise_decides}
use Rattle.std.proofs.lemmas.Bool.Decides.{Decides-and}
use Rattle.semver.specs.Parse.{Parts}
use Rattle.npm_req.specs.Requirement.{Requirement}
use Rattle.npm_req.specs.declared.comparator.Comparator.{Comparator}
use Rattle.npm_req.specs.declared.comparator.Comparator.TheVariants.{Never, Bound}
use Rattle.npm_req.specs.declared.comparator.Relation.{Relation}
use Rattle.npm_req.specs.declared.comparator.Relation.TheVariants.{Equal, AtLeast, Above, Below, AtMost}
use Rattle.npm_req.specs.declared.requirement.Meaning.{Meaning}
use Rattle.npm_req.specs.declared.requirement.Meaning.TheVariants.{Range, Tag}

-- whether two relations are one
abbrev pub same_relation : Relation → Relation → Bool
same_relation Equal Equal = true
same_relation AtLeast AtLeast = true
same_relation Above Above = true
same_relation Below Below = true
same_relation AtMost AtMost = true
same_relation r s = false

-- whether two versions are equal, builds too
abbrev pub same_version : Parts → Parts → Bool
same_version v w = (v.0 == w.0) && ((v.1 == w.1) && ((v.2 == w.2) && (bytes_eq v.3 w.3 && bytes_eq v.4 w.4)))

-- whether two comparators are equal
abbrev pub same_comparator : Comparator → Comparator → Bool
same_comparator Never Never = true
same_comparator Never (Bound s w) = false
same_comparator (Bound r v) Never = false
same_comparator (Bound r v) (Bound s w) = same_relation r s && same_version v w

-- whether two texts mean the same alternatives, or the same tag
abbrev pub same_meaning : Meaning → Meaning → Bool
same_meaning (Range a) (Range b) = pointwise (pointwise same_comparator) a b
same_meaning (Range a) (Tag t) = false
same_meaning (Tag s) (Range b) = false
same_meaning (Tag s) (Tag t) = bytes_eq s t

-- whether two requirements are equal: what their texts mean counts, and not the texts
abbrev pub same_requirement : Requirement → Requirement → Bool
same_requirement a b = same_meaning a.meaning b.meaning

same_relation-refl : (r : Relation) → same_relation r r ≡ true
same_relation-refl Equal = refl
same_relation-refl AtLeast = refl
same_relation-refl Above = refl
same_relation-refl Below = refl
same_relation-refl AtMost = refl

same_relation-is : (r s : Relation) → same_relation r s ≡ true → r ≡ s
same_relation-is Equal Equal e = refl
same_relation-is AtLeast AtLeast e = refl
same_relation-is Above Above e = refl
same_relation-is Below Below e = refl
same_relation-is AtMost AtMost e = refl
same_relation-is r s e = cc

same_relation-Decides : (r s : Relation) → Decides (same_relation r s) (r ≡ s)
same_relation-Decides r s = (same_relation-is r s, λ e. ap (same_relation r) (sym e) ∙ same_relation-refl r)

-- two versions are equal exactly where the test says so
abbrev pub same_version-Decides : (v w : Parts) → Decides (same_version v w) (v ≡ w)
same_version-Decides v w =
    let each = Decides-and _ _ (unsigned_Decides v.0 w.0) (Decides-and _ _ (unsigned_Decides v.1 w.1)
    (Decides-and _ _ (unsigned_Decides v.2 w.2) (Decides-and _ _ (bytes_decides v.3 w.3)
    (bytes_decides v.4 w.4)))) in (
      λ e. let h = each.0 e in (λ i. (h.0 i, h.1.0 i, h.1.1.0 i, h.1.1.1.0 i, h.1.1.1.1 i)),
      λ e. each.1 (ap (λ p. p.0) e, (ap (λ p. p.1) e, (ap (λ p. p.2) e, (ap (λ p. p.3) e, ap (λ p. p.4) e)))),
    )

pub same_comparator-Decides : (c d : Comparator) → Decides (same_comparator c d) (c ≡ d)
same_comparator-Decides Never Never = (λ e. refl, λ e. refl)
same_comparator-Decides Never (Bound s w) = (λ e. cc, λ e. cc)
same_comparator-Decides (Bound r v) Never = (λ e. cc, λ e. cc)
same_comparator-Decides (Bound r v) (Bound s w) =
    let both = Decides-and _ _ (same_relation-Decides r s) (same_version-Decides v w) in
    (λ e. let h = both.0 e in cc, λ e. both.1 (cc, cc))

pub same_meaning-Decides : (m n : Meaning) → Decides (same_meaning m n) (m ≡ n)
same_meaning-Decides (Range a) (Range b) =
    let all = pointwise_decides (pointwise_decides same_comparator-Decides) a b in
    (λ e. ap Range (all.0 e), λ e. all.1 cc)
same_meaning-Decides (Range a) (Tag t) = (λ e. cc, λ e. cc)
same_meaning-Decides (Tag s) (Range b) = (λ e. cc, λ e. cc)
same_meaning-Decides (Tag s) (Tag t) = let name = bytes_decides s t in (λ e. ap Tag (name.0 e), λ e. name.1 cc)

pub same_version-equivalence : IsEquivalence same_version
same_version-equivalence = decided same_version same_version-Decides

pub same_comparator-equivalence : IsEquivalence same_comparator
same_comparator-equivalence = decided same_comparator same_comparator-Decides

meaning_equivalence : IsEquivalence same_meaning
meaning_equivalence = decided same_meaning same_meaning-Decides

pub same_requirement-equivalence : IsEquivalence same_requirement
same_requirement-equivalence = record {
  refl = λ a. meaning_equivalence.refl a.meaning;
  symm = λ a b. meaning_equivalence.symm a.meaning b.meaning;
  congr = λ a b c e. meaning_equivalence.congr a.meaning b.meaning c.meaning e;
}
