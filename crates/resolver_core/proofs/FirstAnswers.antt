-- What a mapping answers is made of its first inner answer.
use Rattle.std.proofs.Common.{
  ◌≡◌,
  ◌⊎◌,
  inl,
  inr,
  ℕ,
  Bool,
  true,
  false,
  cond,
  List,
  [],
  ◌∷◌,
  ◌++◌,
  map,
  Option,
  Some,
  None,
  Result,
  Ok,
  Err,
  refl,
  sym,
  ap,
  ◌∙◌,
  append_assoc,
}
use Rattle.std.specs.Prelude.{◌&&◌, ◌==◌, not, get_or}
use Rattle.std.specs.List.{AllByRecursion}
use Rattle.sugar_path.specs.Path.{is_absolute, join}
use Rattle.swc_loader.specs.declared.resolution.FileName.{FileName}
use Rattle.swc_loader.specs.declared.resolution.FileName.TheVariants.{Real}
use Rattle.swc_loader.specs.declared.resolution.Resolution.{Resolution}
use Rattle.resolver_core.specs.declared.pattern.Pattern.{Pattern}
use Rattle.resolver_core.specs.declared.pattern.Pattern.TheVariants.{Exact, Starred}
use Rattle.resolver_core.specs.declared.refusal.TsRefusal.{TsRefusal}
use Rattle.resolver_core.specs.Pattern.{rest_of, deciding}
use Rattle.resolver_core.specs.Mapping.{
  Mapping,
  Try,
  Tries,
  Last,
  First,
  Mapped,
  Passed,
  Unchecked,
  OrUnchecked,
  OrFault,
  is_in_modules,
  masked,
  plain,
  with_slug,
  unchecked,
  here,
  is_passed,
  slug_of,
  with_rest,
  tries_of,
  by_targets,
  by_pattern,
  mapped,
  with_refusal,
  passed,
  or_unchecked,
  or_fault,
}
use Rattle.resolver_core.specs.MappingOnTree.{
  Tells,
  answered_by,
  tried_on,
  or_next_on,
  first_on,
  or_more_on,
  targets_on,
  mapped_on,
  Fails,
  IsFirstAnswer,
  listed,
  all_listed,
  tries_in,
  IsUncheckedAnswer,
  FirstAnswerDecides,
}
use Rattle.resolver_core.proofs.Longest.{all-append}

-- a try whose answer tells the same file
abbrev SameFile : Try → Type 0
SameFile x = (r : Resolution) → (x.answer r).found ≡ r.found

masked-file : (base : FileName) (s : List ℕ) (r : Resolution) → (masked base s r).found ≡ r.found
masked-file base s r = by_tests (is_in_modules r.filename) (is_in_modules base)
  where
    by_tests : (a b : Bool) → (cond (a && not b) (record r { filename = Real s }) r).found ≡ r.found
    by_tests true true = refl
    by_tests true false = refl
    by_tests false b = refl

-- the first answer among tries and more behind them
with_later : {X : Type 0} (inner : Tells X) (xs more : List Try) (r : Resolution) → IsFirstAnswer inner xs r
    → IsFirstAnswer inner (xs ++ more) r
with_later inner xs more r a = record {
  before = a.before;
  by = a.by;
  later = a.later ++ more;
  in_order = ap (λ ys. ys ++ more) a.in_order ∙ append_assoc a.before (a.by ∷ a.later) more;
  failed = a.failed;
  answer = a.answer;
  answered = a.answered;
  made_of = a.made_of;
  same_file = a.same_file;
}

-- behind tries that fail
with_earlier : {X : Type 0} (inner : Tells X) (xs more : List Try) (r : Resolution) → AllByRecursion (Fails inner) xs
    → IsFirstAnswer inner more r → IsFirstAnswer inner (xs ++ more) r
with_earlier inner xs more r fail a = record {
  before = xs ++ a.before;
  by = a.by;
  later = a.later;
  in_order = ap (λ ys. xs ++ ys) a.in_order ∙ sym (append_assoc xs a.before (a.by ∷ a.later));
  failed = all-append (Fails inner) xs a.before fail a.failed;
  answer = a.answer;
  answered = a.answered;
  made_of = a.made_of;
  same_file = a.same_file;
}

-- a try that is answered at once
at_once : {X : Type 0} (inner : Tells X) (x : Try) (later : List Try) (r : Resolution) (o : Result Resolution X)
    → SameFile x → (inner x.base x.specifier).result ≡ o → answered_by x o ≡ Ok r → IsFirstAnswer inner (x ∷ later) r
at_once inner x later r (Ok a) same is h =
    let e : x.answer (masked x.base x.specifier a) ≡ r = cc in
    record {
      before = [];
      by = x;
      later = later;
      in_order = refl;
      failed = tt;
      answer = a;
      answered = is;
      made_of = sym e;
      same_file = ap (λ (p : Resolution). p.found) (sym e) ∙ same (masked x.base x.specifier a)
          ∙ masked-file x.base x.specifier a;
    }
at_once inner x later r (Err e) same is h = cc

fails : {X : Type 0} (inner : Tells X) (x : Try) (e : X) (o : Result Resolution X)
    → (inner x.base x.specifier).result ≡ o → answered_by x o ≡ Err e → Fails inner x
fails inner x e (Ok a) is h = cc
fails inner x e (Err d) is h = (d, is)

first-answer : {X : Type 0} (inner : Tells X) (ts : Tries) (r : Resolution) → AllByRecursion SameFile (listed ts)
    → (first_on inner ts).result ≡ Ok r → IsFirstAnswer inner (listed ts) r
first-answer inner (Last x) r same h = at_once inner x [] r (inner x.base x.specifier).result same.0 refl h
first-answer {X = X} inner (First x ts) r same h =
    by_result (tried_on inner x).result refl h (λ g. first-answer inner ts r same.1 g)
  where
    by_result : (o : Result Resolution X) → (tried_on inner x).result ≡ o
        → (or_next_on (first_on inner ts) o).result ≡ Ok r
        → ((first_on inner ts).result ≡ Ok r → IsFirstAnswer inner (listed ts) r)
        → IsFirstAnswer inner (x ∷ listed ts) r
    by_result (Ok a) is h rest = let e : (tried_on inner x).result ≡ Ok r = is ∙ h in
        at_once inner x (listed ts) r (inner x.base x.specifier).result same.0 refl e
    by_result (Err d) is h rest = with_earlier inner (x ∷ []) (listed ts) r
        (fails inner x d (inner x.base x.specifier).result refl is, tt) (rest h)

first-fails : {X : Type 0} (inner : Tells X) (ts : Tries) (e : X) → (first_on inner ts).result ≡ Err e
    → AllByRecursion (Fails inner) (listed ts)
first-fails inner (Last x) e h = (fails inner x e (inner x.base x.specifier).result refl h, tt)
first-fails {X = X} inner (First x ts) e h = by_result (tried_on inner x).result refl h (λ g. first-fails inner ts e g)
  where
    by_result : (o : Result Resolution X) → (tried_on inner x).result ≡ o
        → (or_next_on (first_on inner ts) o).result ≡ Err e
        → ((first_on inner ts).result ≡ Err e → AllByRecursion (Fails inner) (listed ts))
        → AllByRecursion (Fails inner) (x ∷ listed ts)
    by_result (Ok a) is h rest = cc
    by_result (Err d) is h rest = (fails inner x d (inner x.base x.specifier).result refl is, rest h)

targets-answer : {X : Type 0} (inner : Tells X) (targets : List Tries) (r : Resolution)
    → AllByRecursion SameFile (all_listed targets) → (targets_on inner targets).result ≡ Ok r
    → IsFirstAnswer inner (all_listed targets) r
targets-answer inner [] r same h = cc
targets-answer {X = X} inner (ts ∷ rest) r same h =
    by_result (first_on inner ts).result refl h (λ g. targets-answer inner rest r
    (behind-all (listed ts) (all_listed rest) same) g)
  where
    behind-all : (xs ys : List Try) → AllByRecursion SameFile (xs ++ ys) → AllByRecursion SameFile ys
    behind-all [] ys a = a
    behind-all (x ∷ xs) ys a = behind-all xs ys a.1

    front-all : (xs ys : List Try) → AllByRecursion SameFile (xs ++ ys) → AllByRecursion SameFile xs
    front-all [] ys a = tt
    front-all (x ∷ xs) ys a = (a.0, front-all xs ys a.1)

    next_ok : (x : X) (o : Result Resolution (List X)) → with_refusal x o ≡ Ok r → o ≡ Ok r
    next_ok x (Ok a) h = h
    next_ok x (Err xs) h = cc

    by_result : (o : Result Resolution X) → (first_on inner ts).result ≡ o
        → (or_more_on (targets_on inner rest) o).result ≡ Ok r
        → ((targets_on inner rest).result ≡ Ok r → IsFirstAnswer inner (all_listed rest) r)
        → IsFirstAnswer inner (listed ts ++ all_listed rest) r
    by_result (Ok a) is h again = let e : (first_on inner ts).result ≡ Ok r = let same_answer : a ≡ r = cc in is
        ∙ ap Ok same_answer in with_later inner (listed ts) (all_listed rest) r
        (first-answer inner ts r (front-all (listed ts) (all_listed rest) same) e)
    by_result (Err d) is h again = with_earlier inner (listed ts) (all_listed rest) r (first-fails inner ts d is)
        (again (next_ok d (targets_on inner rest).result h))

-- each try of a mapped request tells the file of its inner answer
same-targets : (folder base : FileName) (s : List ℕ) (targets : List (List ℕ))
    → AllByRecursion SameFile (all_listed (map (tries_of folder base s) targets))
same-targets folder base s [] = tt
same-targets folder base s (target ∷ rest) =
    ((λ r. refl), ((λ r. refl), ((λ r. refl), same-targets folder base s rest)))

same-by_targets : (folder base : FileName) (s text prefix : List ℕ) (targets : List (List ℕ))
    → AllByRecursion SameFile (tries_in (by_targets folder base s text prefix targets))
same-by_targets folder base s text [] targets = same-targets folder base s targets
same-by_targets folder base s text (c ∷ prefix) [] = tt
same-by_targets folder base s text (c ∷ prefix) (target ∷ []) = ((λ r. refl), ((λ r. refl), ((λ r. refl), tt)))
same-by_targets folder base s text (c ∷ prefix) (target ∷ other ∷ more) =
    same-targets folder base s (target ∷ other ∷ more)

same-by_pattern : (m : Mapping) (base : FileName) (s : List ℕ) (o : Option Pattern)
    → AllByRecursion SameFile (tries_in (by_pattern m base s o))
same-by_pattern m base s None = by_test (get_or s 0 0 == 46)
  where
    by_test : (b : Bool) → AllByRecursion SameFile (tries_in
        (cond b (Passed (Last (plain base s))) (Passed (First (plain base (join m.base_url s)) (Last (plain base s))))))
    by_test true = ((λ r. refl), tt)
    by_test false = ((λ r. refl), ((λ r. refl), tt))
same-by_pattern m base s (Some (Exact text target)) = by_test (is_absolute target)
  where
    by_test : (b : Bool) → AllByRecursion SameFile (tries_in
        (cond b (Unchecked (unchecked target (slug_of target)))
        (OrUnchecked (Last (record {
          base = Real m.base_url;
          specifier = here target;
          answer =
              with_slug (slug_of target);
        })) (unchecked (join m.base_url target) (slug_of target)))))
    by_test true = tt
    by_test false = ((λ r. refl), tt)
same-by_pattern m base s (Some (Starred w)) =
    same-by_targets (Real m.base_url) base s w.text w.prefix (map (with_rest (rest_of m.version s w)) w.targets)

same-mapped : (m : Mapping) (base : FileName) (s : List ℕ) → AllByRecursion SameFile (tries_in (mapped m base s))
same-mapped m base s = by_test (is_passed base s)
  where
    by_test : (b : Bool) → AllByRecursion SameFile (tries_in
        (cond b (Passed (Last (plain base s))) (by_pattern m base s (deciding m.version m.patterns s))))
    by_test true = ((λ r. refl), tt)
    by_test false = same-by_pattern m base s (deciding m.version m.patterns s)

-- an answer that nothing checks tells no file
abbrev NoFile : Mapped → Type 0
NoFile (Passed ts) = Unit {0}
NoFile (Unchecked r) = r.found ≡ None
NoFile (OrUnchecked ts r) = r.found ≡ None
NoFile (OrFault text targets) = Unit {0}

no-file-targets : (folder base : FileName) (s text prefix : List ℕ) (targets : List (List ℕ))
    → NoFile (by_targets folder base s text prefix targets)
no-file-targets folder base s text [] targets = tt
no-file-targets folder base s text (c ∷ prefix) [] = tt
no-file-targets folder base s text (c ∷ prefix) (target ∷ []) = refl
no-file-targets folder base s text (c ∷ prefix) (target ∷ other ∷ more) = tt

no-file-pattern : (m : Mapping) (base : FileName) (s : List ℕ) (o : Option Pattern) → NoFile (by_pattern m base s o)
no-file-pattern m base s None = by_test (get_or s 0 0 == 46)
  where
    by_test : (b : Bool) → NoFile (cond b (Passed (Last (plain base s)))
        (Passed (First (plain base (join m.base_url s)) (Last (plain base s)))))
    by_test true = tt
    by_test false = tt
no-file-pattern m base s (Some (Exact text target)) = by_test (is_absolute target)
  where
    by_test : (b : Bool) → NoFile (cond b (Unchecked (unchecked target (slug_of target)))
        (OrUnchecked (Last (record {
          base = Real m.base_url;
          specifier = here target;
          answer =
              with_slug (slug_of target);
        })) (unchecked (join m.base_url target) (slug_of target))))
    by_test true = refl
    by_test false = refl
no-file-pattern m base s (Some (Starred w)) =
    no-file-targets (Real m.base_url) base s w.text w.prefix (map (with_rest (rest_of m.version s w)) w.targets)

no-file-mapped : (m : Mapping) (base : FileName) (s : List ℕ) → NoFile (mapped m base s)
no-file-mapped m base s = by_test (is_passed base s)
  where
    by_test : (b : Bool) → NoFile (cond b (Passed (Last (plain base s)))
        (by_pattern m base s (deciding m.version m.patterns s)))
    by_test true = tt
    by_test false = no-file-pattern m base s (deciding m.version m.patterns s)

decides : {X : Type 0} (inner : Tells X) (mp : Mapped) (r : Resolution) → AllByRecursion SameFile (tries_in mp)
    → NoFile mp → (mapped_on inner mp).result ≡ Ok r → IsUncheckedAnswer inner mp r
    ⊎ IsFirstAnswer inner (tries_in mp) r
decides {X = X} inner (Passed ts) r same none h =
    inr (first-answer inner ts r same (by_result (first_on inner ts).result h))
  where
    by_result : (o : Result Resolution X) → passed o ≡ Ok r → o ≡ Ok r
    by_result (Ok a) h = let e : a ≡ r = cc in ap Ok e
    by_result (Err x) h = cc
decides inner (Unchecked u) r same none h =
    let e : u ≡ r = cc in
    inl (record { is = ap Some e; failed = tt; no_file = ap (λ (p : Resolution). p.found) (sym e) ∙ none })
decides {X = X} inner (OrUnchecked ts u) r same none h = by_result (first_on inner ts).result refl h
  where
    by_result : (o : Result Resolution X) → (first_on inner ts).result ≡ o → or_unchecked {Y = TsRefusal X} u o ≡ Ok r
        → IsUncheckedAnswer inner (OrUnchecked ts u) r ⊎ IsFirstAnswer inner (listed ts) r
    by_result (Ok a) is h = let e : a ≡ r = cc in inr (first-answer inner ts r same (is ∙ ap Ok e))
    by_result (Err x) is h =
        let e : u ≡ r = cc in
        inl (record {
          is = ap Some e;
          failed = first-fails inner ts x is;
          no_file =
              ap (λ (p : Resolution). p.found) (sym e) ∙ none;
        })
decides {X = X} inner (OrFault text targets) r same none h =
    inr (targets-answer inner targets r same (by_result (targets_on inner targets).result h))
  where
    by_result : (o : Result Resolution (List X)) → or_fault text o ≡ Ok r → o ≡ Ok r
    by_result (Ok a) h = let e : a ≡ r = cc in ap Ok e
    by_result (Err xs) h = cc

pub first_answer_decides : (X : Type 0) → FirstAnswerDecides X
first_answer_decides X = record {
  decides = λ inner m base s r h. decides inner (mapped m base s) r
      (same-mapped m base s) (no-file-mapped m base s) h;
}
