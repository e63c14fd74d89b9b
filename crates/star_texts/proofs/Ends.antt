-- What stands between the ends of a text.
use Rattle.std.proofs.Common.{
  ◌≡◌,
  ◌≢◌,
  ◌+◌,
  ◌-◌,
  ℕ,
  List,
  ◌++◌,
  length,
  drop,
  Option,
  Some,
  None,
  Bor,
  bytes_eq,
  refl,
  sym,
  ap,
  ◌∙◌,
  arith,
}
use Rattle.std.specs.Prelude.{option_map, MatchOption}
use Rattle.std.specs.Str.Pattern.{FindsTextPrefix, FindsTextSuffix, StripsPrefix, StripsSuffix}
use Rattle.std.proofs.Math.Seq.{drop-append_seam, take-append_seam}
use Rattle.std.proofs.lemmas.List.{length-append}
use Rattle.std.proofs.lemmas.Option.{cond_some}
use Rattle.std.proofs.lemmas.Slice.Eq.{bytes_eq-Decides}
use Rattle.star_texts.specs.Star.{rest_between, without_ends}
use Rattle.star_texts.specs.Laws.{RestStandsBetween}

ends_off : (before rest behind : List ℕ) → without_ends (before ++ (rest ++ behind)) before behind ≡ rest
ends_off before rest behind =
    let whole : length (before ++ (rest ++ behind)) ≡ length before + length (rest ++ behind) =
    length-append before (rest ++ behind) in
    let inner : length (rest ++ behind) ≡ length rest + length behind = length-append rest behind in
    let left : length (before ++ (rest ++ behind)) - (length before + length behind) ≡ length rest =
    omega (arith, whole, inner) in
    rw (drop-append_seam before (rest ++ behind), left) (take-append_seam rest behind)

-- the three make the text
between-made : (before rest behind : List ℕ) → rest_between (before ++ (rest ++ behind)) before behind ≡ Some rest
between-made before rest behind =
    let off = ends_off before rest behind in
    let same = (bytes_eq-Decides (before ++ (rest ++ behind)) (before ++ (rest ++ behind))).1 refl in
    rw off (rw same refl)

between-parts : (text before behind rest : List ℕ) → rest_between text before behind ≡ Some rest → text ≡ before
    ++ (rest ++ behind)
between-parts text before behind rest e =
    let found = cond_some (bytes_eq text (before ++ (without_ends text before behind ++ behind)))
    (without_ends text before behind) rest e in
    (bytes_eq-Decides text (before ++ (without_ends text before behind ++ behind))).0 found.0
    ∙ ap (λ xs. before ++ (xs ++ behind)) found.1

pub rest_stands_between : RestStandsBetween
rest_stands_between text before behind rest = (
  between-parts text before behind rest,
  λ h. ap (λ xs. rest_between xs before behind) h
      ∙ between-made before rest behind,
)

-- nothing stands between where the three never make the text
pub between-none : (text before behind : List ℕ) → ((rest : List ℕ) → text ≢ before ++ (rest ++ behind))
    → rest_between text before behind ≡ None
between-none text before behind none = by_answer (rest_between text before behind) refl
  where
    by_answer : (o : Option (List ℕ)) → rest_between text before behind ≡ o → o ≡ None
    by_answer None is = refl
    by_answer (Some rest) is = absurd (none rest (between-parts text before behind rest is))

-- std's `strip_prefix` and `strip_suffix`
pub prefix_kept : (front text : List ℕ) (r : Option (Bor (List ℕ)))
    → MatchOption r (FindsTextPrefix front text None) (λ x. StripsPrefix (FindsTextPrefix front) text x.now)
    → MatchOption r ((rest : List ℕ) → text ≢ front ++ rest) (λ x. text ≡ front ++ x.now)
prefix_kept front text None h = h
prefix_kept front text (Some x) h = h.1.1 ∙ ap (λ xs. front ++ xs) (sym h.2)

pub suffix_kept : (end text : List ℕ) (r : Option (Bor (List ℕ)))
    → MatchOption r (FindsTextSuffix end text None) (λ x. StripsSuffix (FindsTextSuffix end) text x.now)
    → MatchOption r ((rest : List ℕ) → text ≢ rest ++ end) (λ x. text ≡ x.now ++ end)
suffix_kept end text None h = h
suffix_kept end text (Some x) h = h.1.1 ∙ ap (λ xs. xs ++ end) (sym h.2)

pub between-suffix : (text before left behind : List ℕ) (r : Option (Bor (List ℕ))) → text ≡ before ++ left
    → MatchOption r ((rest : List ℕ) → left ≢ rest ++ behind) (λ x. left ≡ x.now ++ behind)
    → option_map (λ x. x.now) r ≡ rest_between text before behind
between-suffix text before left behind None made h =
    sym (between-none text before behind (λ rest e. h rest (same rest e)))
  where
    same : (rest : List ℕ) → text ≡ before ++ (rest ++ behind) → left ≡ rest ++ behind
    same rest e = sym (drop-append_seam before left) ∙ ap (drop (length before)) (sym made ∙ e)
        ∙ drop-append_seam before (rest ++ behind)
between-suffix text before left behind (Some x) made h =
    sym ((rest_stands_between text before behind x.now).1 (made ∙ ap (λ xs. before ++ xs) h))
