-- Ranges are read exactly where the grammar has them.
use Rattle.std.proofs.Common.{
  ◌≡◌,
  ◌<◌,
  ◌≤◌,
  ◌==◌,
  ◌⊎◌,
  inl,
  inr,
  ℕ,
  zero,
  suc,
  Bool,
  true,
  false,
  cond,
  List,
  [],
  ◌∷◌,
  ◌++◌,
  length,
  length-append,
  refl,
  sym,
  ap,
  ◌∙◌,
  subst,
  Option,
  Some,
  None,
  Result,
  Ok,
  Err,
  arith,
}
use Rattle.std.specs.Prelude.{◌&&◌, ◌||◌, codes, is_some, option_and_then, option_map}
use Rattle.std.specs.List.{list_all}
use Rattle.sugar_path.specs.Front.{after}
use Rattle.semver.specs.Parse.{digits_from}
use Rattle.npm_req.specs.Comparators.{comparators}
use Rattle.npm_req.specs.Front.{after_all, is_space}
use Rattle.npm_req.specs.Grammar.{
  unmarked,
  IsPart,
  IsParts,
  no_more,
  further,
  IsHyphen,
  IsAlternative,
  in_parts,
  hyphened,
  IsRange,
  last,
  and_next,
  RangesAgree,
}
use Rattle.npm_req.specs.Part.{Reading, part}
use Rattle.npm_req.specs.Partial.{partial_of}
use Rattle.npm_req.specs.Range.{
  ◌>>=◌,
  after_hyphen,
  alternative,
  alternative_with,
  alternatives,
  and_others,
  hyphen_of,
  parts_of,
  up_to,
}
use Rattle.npm_req.specs.Word.{after_bars, after_word, ends_alternative, ends_part, word}
use Rattle.npm_req.specs.declared.comparator.Comparator.{Comparator}
use Rattle.npm_req.specs.declared.comparator.Operator.TheVariants as op
use Rattle.npm_req.specs.declared.partial.Partial.{Partial}
use Rattle.npm_req.proofs.Endings.{end_of_all}
use Rattle.npm_req.proofs.Grammars.{after_all-behind, front-parts}
use Rattle.npm_req.proofs.PartGrammars.{
  IsPlain,
  pair_same,
  byte-some,
  mark-parts,
  partial-plain,
  partial-sound,
  partial-complete,
  part-sound,
  part-complete,
  word-parts,
  word-whole,
}

-- ---- lengths

after_all-length : (t : List ℕ) → length (after_all is_space t) ≤ length t
after_all-length t =
    let ends = end_of_all is_space t in omega (arith, ap length ends.1, length-append ends.0 (after_all is_space t))

part-shorter : (t s : List ℕ) (cs : List Comparator) → IsPart t s cs → length s < length t
part-shorter t s cs g =
    let plain = partial-plain g.word g.partial g.read in
    omega (
      arith,
      ap length g.is,
      ap length plain.is,
      length-append g.mark (g.spaces ++ (g.sign ++ (g.word ++ s))),
      length-append g.spaces (g.sign ++ (g.word ++ s)),
      length-append g.sign (g.word ++ s),
      length-append g.word s,
    )

-- ---- where an alternative ends

bars-some : (t r : List ℕ) → after_bars t ≡ Some r → t ≡ codes "||" ++ r
bars-some t r h = by_first (after (codes "|") t) refl h
  where
    by_first : (o : Option (List ℕ)) → after (codes "|") t ≡ o → option_and_then (after (codes "|")) o ≡ Some r
        → t ≡ codes "||" ++ r
    by_first None e h = cc
    by_first (Some s) e h = byte-some 124 t s e ∙ ap (λ x. 124 ∷ x) (byte-some 124 s r h)

bars-none : after_bars [] ≡ None
unfolding after
bars-none = refl

bars-behind : (r : List ℕ) → after_bars (codes "||" ++ r) ≡ Some r
unfolding after
bars-behind r = refl

-- an alternative ends at the text's end or at bars
ends-cases : (t : List ℕ) → ends_alternative t ≡ true → (t ≡ []) ⊎ ((r : List ℕ) × (t ≡ codes "||" ++ r))
ends-cases [] h = inl refl
ends-cases (c ∷ cs) h = by_bars (after_bars (c ∷ cs)) refl h
  where
    by_bars : (o : Option (List ℕ)) → after_bars (c ∷ cs) ≡ o → is_some o ≡ true → (c ∷ cs ≡ [])
        ⊎ ((r : List ℕ) × (c ∷ cs ≡ codes "||" ++ r))
    by_bars None e h = cc
    by_bars (Some r) e h = inr (r, bars-some (c ∷ cs) r e)

ends-bars : (r : List ℕ) → ends_alternative (codes "||" ++ r) ≡ true
unfolding after
ends-bars r = refl

part-end : part [] ≡ Err 0
unfolding part after
part-end = refl

part-bars : (r : List ℕ) → (n : ℕ) × (part (codes "||" ++ r) ≡ Err n)
unfolding part after
part-bars r = (length (codes "||" ++ r), refl)

part-dash : (r : List ℕ) → (n : ℕ) × (part (codes "- " ++ r) ≡ Err n)
unfolding part after digits_from
part-dash r = (length (codes "- " ++ r), refl)

-- no part begins where an alternative ends
part-goes_on : (t s : List ℕ) (cs : List Comparator) → part t ≡ Ok (cs, s) → ends_alternative t ≡ false
part-goes_on t s cs h = by_test (ends_alternative t) refl
  where
    by_case : (t ≡ []) ⊎ ((r : List ℕ) × (t ≡ codes "||" ++ r)) → ends_alternative t ≡ false
    by_case (inl e) = let wrong = sym part-end ∙ (ap part (sym e) ∙ h) in cc
    by_case (inr (r, e)) = let wrong = sym (part-bars r).1 ∙ (ap part (sym e) ∙ h) in cc

    by_test : (b : Bool) → ends_alternative t ≡ b → ends_alternative t ≡ false
    by_test true e = by_case (ends-cases t e)
    by_test false e = e

-- ---- parts

abbrev read_as : {A : Type 0} → A → List ℕ → Reading A
read_as x rest = Ok (x, rest)

abbrev parts_behind : ℕ → List Comparator × List ℕ → Reading (List Comparator)
parts_behind n first = parts_of n (after_all is_space first.1) >>= λ others. Ok (first.0 ++ others.0, others.1)

abbrev with_first : List Comparator → Reading (List Comparator) → Reading (List Comparator)
with_first first o = o >>= λ others. read_as (first ++ others.0) others.1

parts-sound : (n : ℕ) (t rest : List ℕ) (cs : List Comparator) → length t ≤ n → parts_of n t ≡ Ok (cs, rest)
    → IsParts t rest cs
parts-sound zero [] rest cs le h =
    let each = pair_same ([], []) (cs, rest) h in
    let nothing = each.0 in
    let same = each.1 in
    subst (IsParts [] rest) nothing (subst (λ (x : List ℕ). IsParts [] x []) same (no_more refl))
parts-sound zero (c ∷ t) rest cs le h = absurd (omega (arith, le))
parts-sound (suc n) t rest cs le h = by_test (ends_alternative t) refl h (parts-sound n)
  where
    by_others : (s : List ℕ) (first : List Comparator) → IsPart t s first → (o : Reading (List Comparator))
        → parts_of n (after_all is_space s) ≡ o → with_first first o ≡ read_as cs rest
        → ((u rest : List ℕ) (ds : List Comparator) → length u ≤ n → parts_of n u ≡ Ok (ds, rest) → IsParts u rest ds)
        → IsParts t rest cs
    by_others s first g (Err e) is h again = cc
    by_others s first g (Ok (ds, r)) is h again =
        let each = pair_same (first ++ ds, r) (cs, rest) h in
        let joined = each.0 in
        let same = each.1 in
        let small : length (after_all is_space s) ≤ n =
        omega (arith, le, after_all-length s, part-shorter t s first g) in
        subst (IsParts t rest) joined (subst (λ (x : List ℕ). IsParts t x (first ++ ds)) same
        (further g (again (after_all is_space s) r ds small is)))

    by_part : (o : Reading (List Comparator)) → part t ≡ o → (o >>= parts_behind n) ≡ Ok (cs, rest)
        → ((u rest : List ℕ) (ds : List Comparator) → length u ≤ n → parts_of n u ≡ Ok (ds, rest) → IsParts u rest ds)
        → IsParts t rest cs
    by_part (Err e) is h again = cc
    by_part (Ok (first, s)) is h again =
        by_others s first (part-sound t s first is) (parts_of n (after_all is_space s)) refl h again

    by_test : (b : Bool) → ends_alternative t ≡ b → cond b (read_as [] t) (part t >>= parts_behind n) ≡ Ok (cs, rest)
        → ((u rest : List ℕ) (ds : List Comparator) → length u ≤ n → parts_of n u ≡ Ok (ds, rest) → IsParts u rest ds)
        → IsParts t rest cs
    by_test true e h again =
        let each = pair_same ([], t) (cs, rest) h in
        let nothing = each.0 in
        let same = each.1 in
        subst (IsParts t rest) nothing (subst (λ (x : List ℕ). IsParts t x []) same (no_more e))
    by_test false e h again = by_part (part t) refl h again

parts-complete : (n : ℕ) (t rest : List ℕ) (cs : List Comparator) → length t ≤ n → IsParts t rest cs
    → parts_of n t ≡ Ok (cs, rest)
parts-complete zero t rest cs le (no_more e) = refl
parts-complete (suc n) t rest cs le (no_more e) = rw e refl
parts-complete zero t rest cs le (further {s = s} {cs = first} g others) =
    absurd (omega (arith, le, part-shorter t s first g))
parts-complete (suc n) t rest cs le (further {s = s} {cs = first} {ds = ds} g others) =
    let found = part-complete t s first g in
    let small : length (after_all is_space s) ≤ n = omega (arith, le, after_all-length s, part-shorter t s first g) in
    let again = parts-complete n (after_all is_space s) rest ds small others in
    rw (part-goes_on t s first found, found, again) refl

parts-rest : (t rest : List ℕ) (cs : List Comparator) → IsParts t rest cs → (length rest ≤ length t)
    × (ends_alternative rest ≡ true)
parts-rest t rest cs (no_more e) = (omega arith, e)
parts-rest t rest cs (further {s = s} {cs = first} {ds = ds} g others) =
    let again = parts-rest (after_all is_space s) rest ds others in
    (omega (arith, again.0, after_all-length s, part-shorter t s first g), again.1)

no_length : (t : List ℕ) → length t ≤ 0 → t ≡ []
no_length [] h = refl
no_length (c ∷ cs) h = absurd (omega (arith, h))

-- ---- two partial versions around `-`

hyphen-parts : (t r : List ℕ) → after_hyphen t ≡ Some r → (s : List ℕ)
    × ((list_all is_space s ≡ true) × ((m : List ℕ)
    × ((list_all is_space m ≡ true) × (t ≡ s ++ (codes "- " ++ (m ++ r))))))
hyphen-parts t r h = by_dash (front-parts is_space t) (after (codes "-") (after_all is_space t)) refl h
  where
    by_space : (s : List ℕ) × ((list_all is_space s ≡ true) × (t ≡ s ++ after_all is_space t)) → (u : List ℕ)
        → after (codes "-") (after_all is_space t) ≡ Some u → (o : Option (List ℕ)) → after (codes " ") u ≡ o
        → option_map (after_all is_space) o ≡ Some r → (s : List ℕ)
        × ((list_all is_space s ≡ true) × ((m : List ℕ)
        × ((list_all is_space m ≡ true) × (t ≡ s ++ (codes "- " ++ (m ++ r))))))
    by_space front u e None f h = cc
    by_space front u e (Some v) f h =
        let same : after_all is_space v ≡ r = cc in
        let more = front-parts is_space v in
        let dash = byte-some 45 (after_all is_space t) u e in
        let space = byte-some 32 u v f in (
          front.0,
          (
            front.1.0,
            (
              more.0,
              (
                more.1.0,
                front.1.1
                    ∙ ap (λ x. front.0 ++ x) (dash ∙ ap (λ x. 45 ∷ x)
                    (space ∙ ap (λ x. 32 ∷ x) (more.1.1 ∙ ap (λ x. more.0 ++ x) same))),
              ),
            ),
          ),
        )

    by_dash : (s : List ℕ) × ((list_all is_space s ≡ true) × (t ≡ s ++ after_all is_space t)) → (o : Option (List ℕ))
        → after (codes "-") (after_all is_space t) ≡ o
        → option_map (after_all is_space) (option_and_then (after (codes " ")) o) ≡ Some r → (s : List ℕ)
        × ((list_all is_space s ≡ true) × ((m : List ℕ)
        × ((list_all is_space m ≡ true) × (t ≡ s ++ (codes "- " ++ (m ++ r))))))
    by_dash front None e h = cc
    by_dash front (Some u) e h = by_space front u e (after (codes " ") u) refl h

-- behind a part stands no dash at once
spaces-some : (s r : List ℕ) → ends_part (s ++ (codes "- " ++ r)) ≡ true → 0 < length s
unfolding after
spaces-some [] r h = cc
spaces-some (c ∷ cs) r h = omega arith

hyphen-sound : (t rest : List ℕ) (cs : List Comparator) (second : List ℕ) (low : Partial)
    → after_hyphen (after_word t) ≡ Some second → partial_of (word t) ≡ Some low → hyphen_of low second ≡ Ok (cs, rest)
    → IsHyphen t rest cs
unfolding hyphen_of
hyphen-sound t rest cs second low dash first h = by_high (partial_of (word second)) refl h
  where
    by_end : (high : Partial) → partial_of (word second) ≡ Some high → (b : Bool)
        → ends_alternative (after_all is_space (after_word second)) ≡ b
        → cond b (read_as (comparators op.AtLeast low ++ comparators op.AtMost high)
        (after_all is_space (after_word second))) (Err (length (after_all is_space (after_word second)))) ≡ Ok
        (cs, rest) → IsHyphen t rest cs
    by_end high e false f h = cc
    by_end high e true f h =
        let each = pair_same (
          comparators op.AtLeast low ++ comparators op.AtMost high,
          after_all is_space (after_word second),
        ) (cs, rest) h in
        let made = each.0 in
        let same = each.1 in
        let within = word-parts t in
        let around = hyphen-parts (after_word t) second dash in
        let within_second = word-parts second in
        let behind = front-parts is_space (after_word second) in
        record {
          first = word t;
          spaces = around.0;
          further_spaces = around.1.1.0;
          second = word second;
          last_spaces = behind.0;
          low = low;
          high = high;
          is = within.0 ∙ ap (λ x. word t ++ x) (around.1.1.1.1
              ∙ ap (λ x. around.0 ++ (codes "- " ++ (around.1.1.0 ++ x)))
              (within_second.0 ∙ ap (λ x. word second ++ x) (behind.1.1 ∙ ap (λ x. behind.0 ++ x) same)));
          first_read = partial-sound (word t) low first;
          second_read = partial-sound (word second) high e;
          some_spaces = spaces-some around.0 (around.1.1.0 ++ second) (ap ends_part (sym around.1.1.1.1) ∙ within.1);
          are_spaces = around.1.0;
          are_further_spaces = around.1.1.1.0;
          are_last_spaces = behind.1.0;
          ends = subst (λ (x : List ℕ). ends_alternative x ≡ true) same f;
          means = sym made;
        }

    by_high : (o : Option Partial) → partial_of (word second) ≡ o
        → up_to low second o (after_all is_space (after_word second)) ≡ Ok (cs, rest) → IsHyphen t rest cs
    by_high None e h = cc
    by_high (Some high) e h = by_end high e (ends_alternative (after_all is_space (after_word second))) refl h

-- where spaces stand, a part may end
spaces-end : (s t : List ℕ) → list_all is_space s ≡ true → 0 < length s → ends_part (s ++ t) ≡ true
spaces-end [] t h some = absurd (omega (arith, some))
spaces-end (c ∷ cs) t h some = by_test (c == 32) h
  where
    by_test : (b : Bool) → (b && list_all is_space cs) ≡ true → (b || is_some (after_bars (c ∷ (cs ++ t)))) ≡ true
    by_test true h = refl
    by_test false h = cc

spaces-end_too : (s t : List ℕ) → list_all is_space s ≡ true → ends_alternative t ≡ true → ends_part (s ++ t) ≡ true
spaces-end_too [] [] h e = refl
spaces-end_too [] (c ∷ cs) h e = by_test (c == 32) e
  where
    by_test : (b : Bool) → is_some (after_bars (c ∷ cs)) ≡ true → (b || is_some (after_bars (c ∷ cs))) ≡ true
    by_test true e = refl
    by_test false e = e
spaces-end_too (c ∷ cs) t h e = spaces-end (c ∷ cs) t h (omega arith)

plain-stays : (t rest : List ℕ) → IsPlain t → after_all is_space (t ++ rest) ≡ t ++ rest
plain-stays t rest p =
    let whole : t ++ rest ≡ p.first ∷ (p.others ++ rest) = ap (λ x. x ++ rest) p.is in
    let first : after_all is_space (p.first ∷ (p.others ++ rest)) ≡ p.first ∷ (p.others ++ rest) =
    rw (mark-parts p.first p.unmarked_first).1.1 refl in
    ap (after_all is_space) whole ∙ (first ∙ sym whole)

end-stays : (t : List ℕ) → ends_alternative t ≡ true → after_all is_space t ≡ t
end-stays t h = by_case (ends-cases t h)
  where
    by_case : (t ≡ []) ⊎ ((r : List ℕ) × (t ≡ codes "||" ++ r)) → after_all is_space t ≡ t
    by_case (inl e) = rw e refl
    by_case (inr (r, e)) = rw e refl

after_hyphen-behind : (s m t : List ℕ) → list_all is_space s ≡ true → list_all is_space m ≡ true
    → after_all is_space t ≡ t → after_hyphen (s ++ (codes "- " ++ (m ++ t))) ≡ Some t
unfolding after
after_hyphen-behind s m t h k stays =
    rw (after_all-behind is_space s (codes "- " ++ (m ++ t)) h) (ap Some (after_all-behind is_space m t k ∙ stays))

abbrev high_by : Partial → List ℕ → List ℕ → Reading (List Comparator)
high_by low second w = up_to low second (partial_of w) (after_all is_space (after_word second))

hyphen-complete : (t rest : List ℕ) (cs : List Comparator) → IsHyphen t rest cs
    → alternative_with t (after_hyphen (after_word t)) (partial_of (word t)) ≡ Ok (cs, rest)
unfolding hyphen_of
hyphen-complete t rest cs g =
    let second = g.second ++ (g.last_spaces ++ rest) in
    let dash = codes "- " ++ (g.further_spaces ++ second) in
    let first_plain = partial-plain g.first g.low g.first_read in
    let second_plain = partial-plain g.second g.high g.second_read in
    let word_first = word-whole g.first (g.spaces ++ dash) first_plain.all_solid
    (spaces-end g.spaces dash g.are_spaces g.some_spaces) in
    let first_word : word t ≡ g.first = ap word g.is ∙ word_first.0 in
    let first_rest : after_word t ≡ g.spaces ++ dash = ap after_word g.is ∙ word_first.1 in
    let found : after_hyphen (after_word t) ≡ Some second = ap after_hyphen first_rest
    ∙ after_hyphen-behind g.spaces g.further_spaces second g.are_spaces g.are_further_spaces
    (plain-stays g.second (g.last_spaces ++ rest) second_plain) in
    let low_read : partial_of (word t) ≡ Some g.low =
    ap partial_of first_word ∙ partial-complete g.first g.low g.first_read in
    let word_second = word-whole g.second (g.last_spaces ++ rest) second_plain.all_solid
    (spaces-end_too g.last_spaces rest g.are_last_spaces g.ends) in
    let behind : after_all is_space (after_word second) ≡ rest = ap (after_all is_space) word_second.1
    ∙ (after_all-behind is_space g.last_spaces rest g.are_last_spaces ∙ end-stays rest g.ends) in
    rw (found, low_read, word_second.0, partial-complete g.second g.high g.second_read, behind, g.ends)
    (ap (λ (x : List Comparator). read_as x rest) (sym g.means))

-- ---- alternatives

dash-goes_on : (r : List ℕ) → ends_alternative (codes "- " ++ r) ≡ false
unfolding after
dash-goes_on r = refl

none_at_dash : (r u rest : List ℕ) (ds : List Comparator) → u ≡ codes "- " ++ r → ¬ (IsParts u rest ds)
none_at_dash r u rest ds e (no_more h) = let wrong = sym (dash-goes_on r) ∙ (ap ends_alternative (sym e) ∙ h) in cc
none_at_dash r u rest ds e (further {s = s} {cs = first} g others) =
    let wrong = sym (part-dash r).1 ∙ (ap part (sym e) ∙ part-complete u s first g) in cc

-- where a partial version stands before a dash no parts are read
no_parts : (t second rest : List ℕ) (low : Partial) (cs : List Comparator) → after_hyphen (after_word t) ≡ Some second
    → partial_of (word t) ≡ Some low → ¬ (IsParts t rest cs)
no_parts t second rest low cs dash first parts = by_parts t rest cs refl parts
  where
    within : (t ≡ word t ++ after_word t) × (ends_part (after_word t) ≡ true)
    within = word-parts t

    alone : IsPart t (after_word t) (comparators op.Equal low)
    alone = record {
      mark = [];
      operator = op.Equal;
      spaces = [];
      sign = [];
      word = word t;
      partial = low;
      is =
          within.0;
      marked = unmarked;
      are_spaces = refl;
      signed = inl refl;
      read = partial-sound (word t) low first;
      ends = within.1;
      means = refl;
    }

    read_alone : part t ≡ Ok (comparators op.Equal low, after_word t)
    read_alone = part-complete t (after_word t) (comparators op.Equal low) alone

    around : (s : List ℕ) × ((list_all is_space s ≡ true)
        × ((m : List ℕ) × ((list_all is_space m ≡ true) × (after_word t ≡ s ++ (codes "- " ++ (m ++ second))))))
    around = hyphen-parts (after_word t) second dash

    at_dash : after_all is_space (after_word t) ≡ codes "- " ++ (around.1.1.0 ++ second)
    at_dash = ap (after_all is_space) around.1.1.1.1
        ∙ after_all-behind is_space around.0 (codes "- " ++ (around.1.1.0 ++ second)) around.1.0

    by_parts : (u end : List ℕ) (all : List Comparator) → u ≡ t → ¬ (IsParts u end all)
    by_parts u end all e (no_more h) = let wrong =
        sym (part-goes_on t (after_word t) (comparators op.Equal low) read_alone) ∙ (ap ends_alternative (sym e) ∙ h) in
        cc
    by_parts u end all e (further {s = s} {cs = one} {ds = ds} g others) =
        let found = sym read_alone ∙ (ap part (sym e) ∙ part-complete u s one g) in
        let same = (pair_same (comparators op.Equal low, after_word t) (one, s) found).1 in
        none_at_dash (around.1.1.0 ++ second) (after_all is_space s) end ds
        (ap (after_all is_space) (sym same) ∙ at_dash) others

alternative-sound : (t rest : List ℕ) (cs : List Comparator)
    → alternative_with t (after_hyphen (after_word t)) (partial_of (word t)) ≡ Ok (cs, rest) → IsAlternative t rest cs
alternative-sound t rest cs h = by_both (after_hyphen (after_word t)) refl (partial_of (word t)) refl h
  where
    by_both : (o : Option (List ℕ)) → after_hyphen (after_word t) ≡ o → (p : Option Partial) → partial_of (word t) ≡ p
        → alternative_with t o p ≡ Ok (cs, rest) → IsAlternative t rest cs
    by_both None e p f h = in_parts (parts-sound (length t) t rest cs (omega arith) h)
    by_both (Some second) e None f h = in_parts (parts-sound (length t) t rest cs (omega arith) h)
    by_both (Some second) e (Some low) f h = hyphened (hyphen-sound t rest cs second low e f h)

alternative-complete : (t rest : List ℕ) (cs : List Comparator) → IsAlternative t rest cs
    → alternative_with t (after_hyphen (after_word t)) (partial_of (word t)) ≡ Ok (cs, rest)
alternative-complete t rest cs (hyphened g) = hyphen-complete t rest cs g
alternative-complete t rest cs (in_parts g) = by_both (after_hyphen (after_word t)) refl (partial_of (word t)) refl
  where
    by_both : (o : Option (List ℕ)) → after_hyphen (after_word t) ≡ o → (p : Option Partial) → partial_of (word t) ≡ p
        → alternative_with t o p ≡ Ok (cs, rest)
    by_both None e p f = parts-complete (length t) t rest cs (omega arith) g
    by_both (Some second) e None f = parts-complete (length t) t rest cs (omega arith) g
    by_both (Some second) e (Some low) f = absurd (no_parts t second rest low cs e f g)

alternative-rest : (t rest : List ℕ) (cs : List Comparator) → IsAlternative t rest cs → (length rest ≤ length t)
    × (ends_alternative rest ≡ true)
alternative-rest t rest cs (in_parts g) = parts-rest t rest cs g
alternative-rest t rest cs (hyphened g) = (
  omega (
    arith,
    ap length g.is,
    length-append g.first (g.spaces
        ++ (codes "- " ++ (g.further_spaces ++ (g.second ++ (g.last_spaces ++ rest))))),
    length-append g.spaces (codes "- " ++ (g.further_spaces ++ (g.second ++ (g.last_spaces ++ rest)))),
    length-append g.further_spaces (g.second ++ (g.last_spaces ++ rest)),
    length-append g.second (g.last_spaces ++ rest),
    length-append g.last_spaces rest,
  ),
  g.ends,
)

-- ---- ranges

abbrev made_of : List (List Comparator) → Result (List (List Comparator)) ℕ
made_of made = Ok made

abbrev alternative_behind : ℕ → List Comparator × List ℕ → Result (List (List Comparator)) ℕ
alternative_behind n first = and_others first.0 (after_bars first.1) (alternatives n)

read_alternative : (t : List ℕ) → alternative t ≡ alternative_with (after_all is_space t)
    (after_hyphen (after_word (after_all is_space t))) (partial_of (word (after_all is_space t)))
unfolding alternative
read_alternative t = refl

inside : (x y : List (List Comparator)) → made_of x ≡ made_of y → x ≡ y
inside x y h = cc

bars-nothing : (t : List ℕ) → ends_alternative t ≡ true → after_bars t ≡ None → t ≡ []
bars-nothing t h e = by_case (ends-cases t h)
  where
    by_case : (t ≡ []) ⊎ ((r : List ℕ) × (t ≡ codes "||" ++ r)) → t ≡ []
    by_case (inl nothing) = nothing
    by_case (inr (r, is)) = let wrong = sym e ∙ (ap after_bars is ∙ bars-behind r) in cc

ranges-sound : (n : ℕ) (t : List ℕ) (made : List (List Comparator)) → length t ≤ n → alternatives n t ≡ Ok made
    → IsRange t made
ranges-sound zero t made le h = by_first (alternative t) refl h
  where
    by_first : (o : Reading (List Comparator)) → alternative t ≡ o
        → (o >>= λ first. made_of (first.0 ∷ [])) ≡ made_of made → IsRange t made
    by_first (Err e) is h = cc
    by_first (Ok (cs, rest)) is h =
        let found = alternative-sound (after_all is_space t) rest cs (sym (read_alternative t) ∙ is) in
        let after = alternative-rest (after_all is_space t) rest cs found in
        let empty : rest ≡ [] = no_length rest (omega (arith, after.0, after_all-length t, le)) in
        subst (IsRange t) (inside (cs ∷ []) made h) (last (subst
        (λ (x : List ℕ). IsAlternative (after_all is_space t) x cs) empty found))
ranges-sound (suc n) t made le h = by_first (alternative t) refl h (ranges-sound n)
  where
    by_others : (cs : List Comparator) (rest next : List ℕ) → IsAlternative (after_all is_space t) rest cs
        → after_bars rest ≡ Some next → (o : Result (List (List Comparator)) ℕ) → alternatives n next ≡ o
        → (o >>= λ read. made_of (cs ∷ read)) ≡ made_of made
        → ((u : List ℕ) (more : List (List Comparator)) → length u ≤ n → alternatives n u ≡ Ok more → IsRange u more)
        → IsRange t made
    by_others cs rest next found bars (Err e) is h again = cc
    by_others cs rest next found bars (Ok others) is h again =
        let here = bars-some rest next bars in
        let after = alternative-rest (after_all is_space t) rest cs found in
        let small : length next ≤ n = omega (arith, after.0, after_all-length t, le, ap length here) in
        subst (IsRange t) (inside (cs ∷ others) made h) (and_next
        (subst (λ (x : List ℕ). IsAlternative (after_all is_space t) x cs) here found) (again next others small is))

    by_bars : (cs : List Comparator) (rest : List ℕ) → IsAlternative (after_all is_space t) rest cs
        → (o : Option (List ℕ)) → after_bars rest ≡ o → and_others cs o (alternatives n) ≡ made_of made
        → ((u : List ℕ) (more : List (List Comparator)) → length u ≤ n → alternatives n u ≡ Ok more → IsRange u more)
        → IsRange t made
    by_bars cs rest found None bars h again =
        let empty = bars-nothing rest (alternative-rest (after_all is_space t) rest cs found).1 bars in
        subst (IsRange t) (inside (cs ∷ []) made h) (last (subst
        (λ (x : List ℕ). IsAlternative (after_all is_space t) x cs) empty found))
    by_bars cs rest found (Some next) bars h again =
        by_others cs rest next found bars (alternatives n next) refl h again

    by_first : (o : Reading (List Comparator)) → alternative t ≡ o → (o >>= alternative_behind n) ≡ made_of made
        → ((u : List ℕ) (more : List (List Comparator)) → length u ≤ n → alternatives n u ≡ Ok more → IsRange u more)
        → IsRange t made
    by_first (Err e) is h again = cc
    by_first (Ok (cs, rest)) is h again = by_bars cs rest (alternative-sound (after_all is_space t) rest cs
        (sym (read_alternative t) ∙ is)) (after_bars rest) refl h again

ranges-complete : (n : ℕ) (t : List ℕ) (made : List (List Comparator)) → length t ≤ n → IsRange t made
    → alternatives n t ≡ Ok made
ranges-complete zero t made le (last {cs = cs} g) =
    rw (read_alternative t ∙ alternative-complete (after_all is_space t) [] cs g) refl
ranges-complete (suc n) t made le (last {cs = cs} g) =
    rw (read_alternative t ∙ alternative-complete (after_all is_space t) [] cs g, bars-none) refl
ranges-complete zero t made le (and_next {next = next} {cs = cs} g others) = let after =
    alternative-rest (after_all is_space t) (codes "||" ++ next) cs g in
    absurd (omega (arith, after.0, after_all-length t, le))
ranges-complete (suc n) t made le (and_next {next = next} {cs = cs} {others = others} g more) =
    let after = alternative-rest (after_all is_space t) (codes "||" ++ next) cs g in
    let small : length next ≤ n = omega (arith, after.0, after_all-length t, le) in
    rw (
      read_alternative t ∙ alternative-complete (after_all is_space t) (codes "||" ++ next) cs g,
      bars-behind next,
      ranges-complete n next others small more,
    ) refl

pub ranges-agree : RangesAgree
ranges-agree t made = (ranges-sound (length t) t made (omega arith), ranges-complete (length t) t made (omega arith))
