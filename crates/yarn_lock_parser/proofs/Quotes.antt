-- The quotes at a text's end.
use Rattle.std.proofs.Common.{
  ◌≡◌,
  ◌==◌,
  ◌≢◌,
  ◌⊎◌,
  ◌-◌,
  inl,
  inr,
  ℕ,
  Bool,
  true,
  false,
  List,
  [],
  ◌∷◌,
  ◌++◌,
  length,
  take,
  drop,
  refl,
  sym,
  ap,
  ◌∙◌,
  Option,
  Some,
  None,
  reverse,
  arith,
  lit<,
}
use Rattle.std.specs.Prelude.{IfSome}
use Rattle.std.specs.Str.Pattern.{
  CutsPrefixes,
  CutsSuffixes,
  FindsCharPrefix,
  FindsCharSuffix,
  IsTrimEndMatches,
  IsTrimStartMatches,
}
use Rattle.std.proofs.Math.Seq.{drop-length}
use Rattle.std.proofs.lemmas.List.{reverse-append, reverse-reverse, take-append-drop}
use Rattle.std.proofs.lemmas.Bool.Decides.{eqb_tells}
use Rattle.std.proofs.lemmas.Str.{len_utf8_ascii}
use Rattle.yarn_lock_parser.specs.ByteSet.{is_quote}
use Rattle.sugar_path.specs.Front.{before}
use Rattle.yarn_lock_parser.specs.Front.{run}
use Rattle.yarn_lock_parser.specs.Dependencies.{before_quotes, trimmed}
use Rattle.sugar_path.proofs.Words.{before-some, before-append, before-lacks}
use Rattle.yarn_lock_parser.proofs.Cuts.{run-cons, run-nil}

pub before_quotes-quote : (s t : List ℕ) → before (34 ∷ []) s ≡ Some t → before_quotes s ≡ before_quotes t
unfolding before_quotes
before_quotes-quote s t e =
    let turned : reverse s ≡ 34 ∷ reverse t = ap reverse (before-some (34 ∷ []) s t e) ∙ reverse-append t (34 ∷ []) in
    rw (turned, run-cons is_quote 34 (reverse t)) refl

passes : (c : ℕ) → (c == 34) ≡ true → ((c == 34) ≡ true) × (c ≡ 34) ⊎ ((c == 34) ≡ false) × (c ≢ 34) → c ≡ 34
passes c f (inl w) = w.1
passes c f (inr w) = absurd (cc)

pub before_quotes-none : (s : List ℕ) → before (34 ∷ []) s ≡ None → before_quotes s ≡ s
unfolding before_quotes
before_quotes-none s e = by_turned (reverse s) refl
  where
    by_test : (c : ℕ) (cs : List ℕ) → reverse s ≡ c ∷ cs → (b : Bool) → (c == 34) ≡ b
        → reverse (run is_quote (reverse s)).1 ≡ s
    by_test c cs h true f =
        let quote : c ≡ 34 = passes c f (eqb_tells c 34) in
        let ends : s ≡ reverse cs ++ (34 ∷ []) =
        sym (reverse-reverse s) ∙ ap reverse (h ∙ ap (λ x. x ∷ cs) quote) ∙ reverse-append (34 ∷ []) cs in
        let found : before (34 ∷ []) s ≡ Some (reverse cs) =
        ap (before (34 ∷ [])) ends ∙ before-append (34 ∷ []) (reverse cs) in
        absurd (cc)
    by_test c cs h false f =
        ap reverse (ap (λ x. (run is_quote x).1) h ∙ rw (run-cons is_quote c cs, f) refl ∙ sym h) ∙ reverse-reverse s

    by_turned : (r : List ℕ) → reverse s ≡ r → reverse (run is_quote (reverse s)).1 ≡ s
    by_turned [] h = ap reverse (ap (λ x. (run is_quote x).1) h ∙ run-nil is_quote ∙ sym h) ∙ reverse-reverse s
    by_turned (c ∷ cs) h = by_test c cs h (c == 34) refl

-- ---- std's cuts of quotes

-- a quote at the end is cut off
suffix-cut : (m r : List ℕ) (n : ℕ) → FindsCharSuffix 34 m (Some n) → r ≡ take (length m - n) m → m ≡ r ++ (34 ∷ [])
unfolding lib.Utf8.encode
suffix-cut m r n found is =
    let last : drop (length m - n) m ≡ 34 ∷ [] = found.1.split ∙ ap (λ x. 34 ∷ x) (drop-length m) in
    sym (take-append-drop (length m - n) m) ∙ ap (λ x. take (length m - n) m ++ x) last
    ∙ ap (λ x. x ++ (34 ∷ [])) (sym is)

suffixes-cut : (s r : List ℕ) (ns : List ℕ) → CutsSuffixes (FindsCharSuffix 34) s ns r
    → before_quotes s ≡ before_quotes r
suffixes-cut s r [] h = ap before_quotes (sym h)
suffixes-cut s r (n ∷ ns) (m, cut, ends, is) =
    let found : before (34 ∷ []) m ≡ Some r =
    ap (before (34 ∷ [])) (suffix-cut m r n ends is) ∙ before-append (34 ∷ []) r in
    suffixes-cut s m ns cut ∙ before_quotes-quote m r found

trimmed-end : (s r : List ℕ) → IsTrimEndMatches (FindsCharSuffix 34) s r → before_quotes s ≡ r
unfolding lib.Utf8.encode
trimmed-end s r (cuts, (o, found, nothing)) = suffixes-cut s r cuts.0 cuts.1 ∙ by_last o found nothing
  where
    by_last : (o : Option ℕ) → FindsCharSuffix 34 r o → IfSome o (λ n. n ≡ 0) → before_quotes r ≡ r
    by_last None lacks zero_len = before_quotes-none r (before-lacks (34 ∷ []) r lacks)
    by_last (Some n) found zero_len = absurd (omega (arith, found.0, zero_len, len_utf8_ascii 34 (lit< tt)))

-- a quote in front is cut off
prefix-cut : (m r : List ℕ) (n : ℕ) → FindsCharPrefix 34 m (Some n) → r ≡ drop n m → m ≡ 34 ∷ r
unfolding lib.Utf8.encode
prefix-cut m r n found is = found.split ∙ ap (λ x. 34 ∷ x) (sym is)

prefixes-cut : (s r : List ℕ) (ns : List ℕ) → CutsPrefixes (FindsCharPrefix 34) s ns r
    → (run is_quote s).1 ≡ (run is_quote r).1
prefixes-cut s r [] h = ap (λ x. (run is_quote x).1) (sym h)
prefixes-cut s r (n ∷ ns) (m, cut, begins, is) =
    prefixes-cut s m ns cut ∙ ap (λ x. (run is_quote x).1) (prefix-cut m r n begins is)
    ∙ ap (λ (x : List ℕ × List ℕ). x.1) (run-cons is_quote 34 r)

no_quote : (r : List ℕ) → ((rest : List ℕ) → r ≢ 34 ∷ rest) → (run is_quote r).1 ≡ r
no_quote [] lacks = run-nil is_quote
no_quote (c ∷ cs) lacks = by_test (eqb_tells c 34)
  where
    by_test : ((c == 34) ≡ true) × (c ≡ 34) ⊎ ((c == 34) ≡ false) × (c ≢ 34) → (run is_quote (c ∷ cs)).1 ≡ c ∷ cs
    by_test (inl w) = absurd (lacks cs (ap (λ x. x ∷ cs) w.1))
    by_test (inr w) = rw (run-cons is_quote c cs, w.0) refl

trimmed-front : (s r : List ℕ) → IsTrimStartMatches (FindsCharPrefix 34) s r → (run is_quote s).1 ≡ r
unfolding lib.Utf8.encode
trimmed-front s r (cuts, (o, found, nothing)) = prefixes-cut s r cuts.0 cuts.1 ∙ by_last o found nothing
  where
    by_last : (o : Option ℕ) → FindsCharPrefix 34 r o → IfSome o (λ n. n ≡ 0) → (run is_quote r).1 ≡ r
    by_last None lacks zero_len = no_quote r lacks
    by_last (Some n) found zero_len = absurd (omega (arith, found.ends, zero_len, len_utf8_ascii 34 (lit< tt)))

-- quotes cut off in front, and then at the end
pub trimmed-both : (s m r : List ℕ) → IsTrimStartMatches (FindsCharPrefix 34) s m
    → IsTrimEndMatches (FindsCharSuffix 34) m r → r ≡ trimmed s
trimmed-both s m r front end = sym (ap before_quotes (trimmed-front s m front) ∙ trimmed-end m r end)
