-- What is noted of entries, and what is found by it.
use Rattle.std.proofs.Common.{◌≡◌, ◌≤◌, ◌<◌, ◌-◌, ◌^◌, ◌||◌, ◌⊎◌, inl, inr, ℕ, zero, suc, Bool, true, false, cond}
use Rattle.std.proofs.Common.{nat_eq, bytes_eq, List, [], ◌∷◌, ◌++◌, take, Option, Some, None, IfSome, IfNone, refl}
use Rattle.std.proofs.Common.{sym, ap, ◌∙◌, subst, arith, append_assoc}
use Rattle.std.specs.Prelude.{slice_get}
use Rattle.std.specs.List.{AllByRecursion, IsDistinct}
use Rattle.std.specs.Map.{lookup, keys_of}
use Rattle.std.specs.BTreeMap.{is_at}
use Rattle.std.specs.BTreeMap.Range.{range_contains}
use Rattle.std.specs.Ordering.{nat_cmp, is_eq, is_le, is_lt}
use Rattle.std.specs.Cmp.{nat_cmp_is}
use Rattle.std.proofs.lemmas.Map.Lookups.{exact_unsigned, exact_pairs}
use Rattle.std.specs.declared.cmp.Ordering.{Ordering}
use Rattle.std.specs.declared.cmp.Ordering.TheVariants.{Less, Equal, Greater}
use Rattle.std.specs.declared.ops.Bound.TheVariants.{Included}
use Rattle.std.proofs.lemmas.Slice.Eq.{bytes_eq-Decides}
use Rattle.std.proofs.lemmas.Bool.Decides.{Decides-eqb}
use Rattle.tree_core.specs.declared.question.Question.{Question}
use Rattle.tree_core.specs.declared.question.Reply.{Reply}
use Rattle.tree_core.specs.Question.{path_asked}
use Rattle.session_core.specs.declared.latest.Entry.{Entry}
use Rattle.session_core.specs.declared.index.Noted.{Noted}
use Rattle.session_core.specs.declared.index.Sought.{Sought}
use Rattle.session_core.specs.declared.index.Sought.TheVariants.{Request, Path}
use Rattle.session_core.specs.Entries.{asks}
use Rattle.session_core.specs.Numbered.{IsNumbered}
use Rattle.session_core.specs.Index.{request_hash, path_hash, fits, hash_of, noted_cmp, note_of, is_noted, noted_under}
use Rattle.session_core.specs.Index.{AreNoted, IsNotedEntry, StayNoted, OthersStayNoted, FailsAt}
use Rattle.session_core.proofs.Lists.{all-take}
use Rattle.session_core.proofs.Numbers.{lookup-at, below-differ, last-apart, last-below}
use Rattle.session_core.proofs.Requests.{importer-is, specifier-is}

or_cases : (a b : Bool) → (a || b) ≡ true → (a ≡ true) ⊎ (b ≡ true)
or_cases true b h = inl refl
or_cases false b h = inr h

exact_noted : (a b : Noted) → is_at (noted_cmp a) b ≡ true → a ≡ b
exact_noted a b h =
    ap (λ (p : ℕ × ℕ). record { hash = p.0; number = p.1 })
    (exact_pairs nat_cmp nat_cmp exact_unsigned exact_unsigned (a.hash, a.number) (b.hash, b.number)
    (equal_is (noted_cmp a b) h))
  where
    equal_is : (r : Ordering) → is_eq r ≡ true → r ≡ Equal
    equal_is Less h = cc
    equal_is Equal h = refl
    equal_is Greater h = cc

is_le-zero : (n : ℕ) → is_le (nat_cmp 0 n) ≡ true
is_le-zero zero = ap is_le (sym (nat_cmp_is 0 0 Equal refl))
is_le-zero (suc n) = ap is_le (sym (nat_cmp_is 0 (suc n) Less (omega arith)))

not_lt-greatest : (greatest n : ℕ) → n ≤ greatest → is_lt (nat_cmp greatest n) ≡ false
not_lt-greatest greatest n le = by_test (nat_eq greatest n) refl
  where
    by_test : (b : Bool) → nat_eq greatest n ≡ b → is_lt (nat_cmp greatest n) ≡ false
    by_test true e = ap is_lt (sym (nat_cmp_is greatest n Equal ((Decides-eqb greatest n).0 e)))
    by_test false e =
        let differ : greatest ≡ n → ⊥ = λ same. let again : nat_eq greatest n ≡ true =
        (Decides-eqb greatest n).1 same in cc in
        ap is_lt (sym (nat_cmp_is greatest n Greater (omega (arith, le, differ))))

in-range : (hash n : ℕ) → n < 2 ^ 64 →
    range_contains noted_cmp (Included (note_of hash 0)) (Included (note_of hash (2 ^ 64 - 1))) (note_of hash n) ≡ true
in-range hash n small =
    let same : nat_cmp hash hash ≡ Equal = sym (nat_cmp_is hash hash Equal refl) in
    rw (same, is_le-zero n, not_lt-greatest (2 ^ 64 - 1) n (omega (arith, small))) refl

-- what is noted under a hash is found there
pub found-under : (F : ℕ → Type 0) (noted : List Noted) (hash n : ℕ) → is_noted noted hash n ≡ true → n < 2 ^ 64 →
    AllByRecursion (λ x. F x.number) (noted_under hash noted) → F n
found-under F [] hash n h small all = cc
found-under F (x ∷ noted) hash n h small all =
    by_cases (or_cases (is_at (noted_cmp (note_of hash n)) x) (is_noted noted hash n) h)
    (range_contains noted_cmp (Included (note_of hash 0)) (Included (note_of hash (2 ^ 64 - 1))) x) refl all
    (λ later rest. found-under F noted hash n later small rest)
  where
    by_cases : (is_at (noted_cmp (note_of hash n)) x ≡ true) ⊎ (is_noted noted hash n ≡ true) → (b : Bool) →
        range_contains noted_cmp (Included (note_of hash 0)) (Included (note_of hash (2 ^ 64 - 1))) x ≡ b
        → AllByRecursion (λ x. F x.number) (cond b (x ∷ noted_under hash noted) (noted_under hash noted))
        → (is_noted noted hash n ≡ true → AllByRecursion (λ x. F x.number) (noted_under hash noted) → F n) → F n
    by_cases (inl e) true is all later = let same : note_of hash n ≡ x = exact_noted (note_of hash n) x e in
        subst F (ap (λ (y : Noted). y.number) (sym same)) all.0
    by_cases (inl e) false is all later = let same : note_of hash n ≡ x = exact_noted (note_of hash n) x e in
        let inside = in-range hash n small in let again =
        ap (range_contains noted_cmp (Included (note_of hash 0)) (Included (note_of hash (2 ^ 64 - 1)))) same in cc
    by_cases (inr e) true is all later = later e all.1
    by_cases (inr e) false is all later = later e all

-- a number more
pub kept-inserted : (b c : Bool) → c ≡ true → cond b true c ≡ true
kept-inserted true c h = refl
kept-inserted false c h = h

pub noted-apart : (hash number other : ℕ) (under : ℕ) → nat_eq number other ≡ false →
    is_at (noted_cmp (note_of hash number)) (note_of under other) ≡ false
noted-apart hash number other under apart = by_test (is_at (noted_cmp (note_of hash number)) (note_of under other)) refl
  where
    by_test : (b : Bool) → is_at (noted_cmp (note_of hash number)) (note_of under other) ≡ b → b ≡ false
    by_test true e =
        let same = exact_noted (note_of hash number) (note_of under other) e in
        let again : nat_eq number other ≡ true = (Decides-eqb number other).1 (ap (λ (x : Noted). x.number) same) in cc
    by_test false e = refl

-- the paths of a trail stay noted
paths-kept : (old new : List Noted) (n : ℕ) (steps : List (Question × Reply)) →
    ((hash : ℕ) → is_noted old hash n ≡ true → is_noted new hash n ≡ true) → AreNoted old n steps → AreNoted new n steps
paths-kept old new n [] kept all = tt
paths-kept old new n (s ∷ steps) kept all =
    (kept (path_hash (path_asked s.0)) all.0, paths-kept old new n steps kept all.1)

pub entry-kept : (old new : List Noted) (n : ℕ) (e : Entry) →
    ((hash : ℕ) → is_noted old hash n ≡ true → is_noted new hash n ≡ true) → IsNotedEntry old n e → IsNotedEntry new n e
entry-kept old new n e kept h = record {
  request = kept (request_hash e.importer e.specifier) h.request;
  paths = paths-kept old new n e.outcome.trail kept h.paths;
}

pub stay-then : (a b c : List Noted) → StayNoted a b → StayNoted b c → StayNoted a c
stay-then a b c first second = record { stays = λ hash n h. second.stays hash n (first.stays hash n h) }

pub others-then : (number : ℕ) (a b c : List Noted) → OthersStayNoted number a b → OthersStayNoted number b c →
    OthersStayNoted number a c
others-then number a b c first second =
    record { stays = λ hash n apart h. second.stays hash n apart (first.stays hash n apart h) }

pub stay-self : (a : List Noted) → StayNoted a a
stay-self a = record { stays = λ hash n h. h }

pub others-self : (number : ℕ) (a : List Noted) → OthersStayNoted number a a
others-self number a = record { stays = λ hash n apart h. h }

pub paths-stay : (old new : List Noted) (n : ℕ) (steps : List (Question × Reply)) → StayNoted old new →
    AreNoted old n steps → AreNoted new n steps
paths-stay old new n steps stay = paths-kept old new n steps (λ hash h. stay.stays hash n h)

pub paths-more : (noted : List Noted) (n : ℕ) (front : List (Question × Reply)) (s : Question × Reply) →
    AreNoted noted n front → is_noted noted (path_hash (path_asked s.0)) n ≡ true → AreNoted noted n (front ++ s ∷ [])
paths-more noted n [] s all h = (h, tt)
paths-more noted n (x ∷ front) s all h = (all.0, paths-more noted n front s all.1 h)

-- an entry that is sought is noted under the hash
noted-sought : (sought : Sought) (noted : List Noted) (n : ℕ) (e : Entry) → IsNotedEntry noted n e →
    fits sought e ≡ true → is_noted noted (hash_of sought) n ≡ true
noted-sought (Request importer specifier) noted n e h fit =
    let P : ℕ → Type 0 = λ hash. is_noted noted hash n ≡ true in
    subst P (ap (λ i. request_hash i e.specifier) (importer-is importer.now specifier.now e fit)
    ∙ ap (request_hash importer.now) (specifier-is importer.now specifier.now e fit)) h.request
noted-sought (Path path) noted n e h fit = on_path e.outcome.trail h.paths fit
  where
    on_path : (steps : List (Question × Reply)) → AreNoted noted n steps →
        asks (λ asked. bytes_eq asked path.now) steps ≡ true → is_noted noted (path_hash path.now) n ≡ true
    on_path [] all fit = cc
    on_path (s ∷ steps) all fit =
        elim (or_cases (bytes_eq (path_asked s.0) path.now) (asks (λ asked. bytes_eq asked path.now) steps) fit) [
          | inl e ↦ let P : List ℕ → Type 0 = λ p. is_noted noted (path_hash p) n ≡ true in
              subst P ((bytes_eq-Decides (path_asked s.0) path.now).0 e) all.0
          | inr e ↦ on_path steps all.1 e
        ]

-- each entry is noted
abbrev pub AllNoted : List Noted → List (ℕ × Entry) → Type 0
AllNoted noted es = AllByRecursion (λ e. IsNotedEntry noted e.0 e.1) es

-- Where each number under the hash fails, each entry does.
pub none-sought : (sought : Sought) (noted : List Noted) (es : List (ℕ × Entry)) → AllNoted noted es →
    IsDistinct nat_eq (keys_of es) → AllByRecursion (λ e. e.0 < 2 ^ 64) es →
    AllByRecursion (λ x. FailsAt (fits sought) es x.number) (noted_under (hash_of sought) noted) →
    AllByRecursion (λ e. fits sought e.1 ≡ false) es
none-sought sought noted es all distinct small failed = from [] es refl all small
  where
    fails : (front rest : List (ℕ × Entry)) (n : ℕ) (e : Entry) → es ≡ front ++ (n, e) ∷ rest →
        IsNotedEntry noted n e → n < 2 ^ 64 → (b : Bool) → fits sought e ≡ b → b ≡ false
    fails front rest n e split h low true fit =
        let failed_here : FailsAt (fits sought) es n =
        found-under (FailsAt (fits sought) es) noted (hash_of sought) n (noted-sought sought noted n e h fit) low
        failed in
        let at : lookup (nat_eq n) es ≡ Some e = rw split (lookup-at front rest n e (rw split at distinct)) in
        let no : fits sought e ≡ false = rw at at failed_here in
        cc
    fails front rest n e split h low false fit = refl

    from : (front rest : List (ℕ × Entry)) → es ≡ front ++ rest → AllNoted noted rest →
        AllByRecursion (λ e. e.0 < 2 ^ 64) rest → AllByRecursion (λ e. fits sought e.1 ≡ false) rest
    from front [] split all small = tt
    from front (x ∷ rest) split all small = (
      fails front rest x.0 x.1 split all.0 small.0 (fits sought x.1) refl,
      from (front ++ x ∷ []) rest (split ∙ sym (append_assoc front (x ∷ []) rest)) all.1 small.1,
    )

-- what is noted of each entry
pub all-kept : (old new : List Noted) (es : List (ℕ × Entry)) →
    ((n : ℕ) (e : Entry) → IsNotedEntry old n e → IsNotedEntry new n e) → AllNoted old es → AllNoted new es
all-kept old new [] kept all = tt
all-kept old new (x ∷ es) kept all = (kept x.0 x.1 all.0, all-kept old new es kept all.1)

pub all-others : (number : ℕ) (old new : List Noted) (es : List (ℕ × Entry)) →
    ((n : ℕ) (e : Entry) → nat_eq number n ≡ false → IsNotedEntry old n e → IsNotedEntry new n e) →
    AllByRecursion (λ x. nat_eq number x.0 ≡ false) es → AllNoted old es → AllNoted new es
all-others number old new [] kept others all = tt
all-others number old new (x ∷ es) kept others all =
    (kept x.0 x.1 others.0 all.0, all-others number old new es kept others.1 all.1)

-- after an entry was put in front, and the last was forgotten
pub all-put : (before after : List Noted) (cap n : ℕ) (e : Entry) (es : List (ℕ × Entry)) (last : Option (ℕ × Entry))
    → last ≡ slice_get es (cap - 1) → IsNumbered n es → AllNoted before es → IsNotedEntry before n e →
    ((m : ℕ) (x : Entry) → IfSome last (λ gone. nat_eq gone.0 m ≡ false) → IsNotedEntry before m x →
    IsNotedEntry after m x) → AllNoted after ((n, e) ∷ take (cap - 1) es)
all-put before after cap n e es last is numbered all here kept =
    by_last last (rw is (last-below (cap - 1) n es (below-differ n es numbered.below)))
    (rw is (last-apart (cap - 1) es numbered.numbers)) kept
  where
    each : (gone : ℕ × Entry) →
        ((m : ℕ) (x : Entry) → nat_eq gone.0 m ≡ false → IsNotedEntry before m x → IsNotedEntry after m x) →
        AllByRecursion (λ x. nat_eq gone.0 x.0 ≡ false) (take (cap - 1) es) → AllNoted after (take (cap - 1) es)
    each gone kept apart =
        all-others gone.0 before after (take (cap - 1) es) kept apart
        (all-take (λ x. IsNotedEntry before x.0 x.1) (cap - 1) es all)

    by_last : (o : Option (ℕ × Entry)) → IfSome o (λ gone. nat_eq gone.0 n ≡ false) →
        IfSome o (λ gone. AllByRecursion (λ x. nat_eq gone.0 x.0 ≡ false) (take (cap - 1) es))
        → ((m : ℕ) (x : Entry) → IfSome o (λ gone. nat_eq gone.0 m ≡ false) → IsNotedEntry before m x →
        IsNotedEntry after m x) → AllNoted after ((n, e) ∷ take (cap - 1) es)
    by_last None first others kept = (
      kept n e tt here,
      all-kept before after (take (cap - 1) es) (λ m x h. kept m x tt h)
          (all-take (λ x. IsNotedEntry before x.0 x.1) (cap - 1) es all),
    )
    by_last (Some gone) first others kept = (kept n e first here, each gone kept others)

-- numbers that are below a small one are small
pub all-small : (next : ℕ) (es : List (ℕ × Entry)) → next ≤ 2 ^ 64 → AllByRecursion (λ e. e.0 < next) es →
    AllByRecursion (λ e. e.0 < 2 ^ 64) es
all-small next [] le all = tt
all-small next (x ∷ es) le all = (let lt = all.0 in omega (arith, lt, le), all-small next es le all.1)

pub if_none-then : {X : Type 0} (o : Option X) (P Q : Type 0) → (P → Q) → IfNone o P → IfNone o Q
if_none-then None P Q f h = f h
if_none-then (Some x) P Q f h = tt
