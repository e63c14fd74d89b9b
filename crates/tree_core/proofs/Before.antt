-- The last key in front of a text, and what it says of files above and below a path.
use Rattle.sugar_path.proofs.Bools.{and_left, and_right}
use Rattle.std.proofs.Common.{
  ◌≡◌,
  ◌&&◌,
  ◌<◌,
  ◌+◌,
  ◌⊎◌,
  inl,
  inr,
  ℕ,
  Bool,
  true,
  false,
  not,
  cond,
  List,
  [],
  ◌∷◌,
  ◌++◌,
  map,
  Option,
  Some,
  None,
  IsSome,
  IfSome,
  IfNone,
  is_some,
  String,
  string_bytes,
  nat_eq,
  length,
  take,
  get_or,
  refl,
  sym,
  ap,
  ◌∙◌,
  subst,
  append_assoc,
  arith,
}
use Rattle.std.specs.Borrow.{Bor}
use Rattle.std.specs.List.{starts_with, common_prefix_len, AllByRecursion}
use Rattle.std.specs.List.Sorted.{IsStrictlySortedBy}
use Rattle.std.specs.Ordering.{nat_cmp, is_le, ordering_then, ordering_reverse}
use Rattle.std.specs.Cmp.{ranked}
use Rattle.std.specs.Cmp.Lexicographic.{slice_cmp, nat_list_cmp_total}
use Rattle.std.specs.declared.alloc.Global.{Global}
use Rattle.std.specs.declared.cmp.Ordering.{Ordering}
use Rattle.std.specs.declared.cmp.Ordering.TheVariants.{Less, Equal, Greater}
use Rattle.std.specs.declared.ops.Bound.TheVariants.{Excluded, Unbounded}
use Rattle.std.specs.BTreeMap.Range.{entries_between}
use Rattle.std.specs.FinMap as finite
use Rattle.std.specs.String.{string_cmp}
use Rattle.std.specs.Map.{keys_of}
use Rattle.std.proofs.Math.Seq.{get_or-append_seam, take-append_seam}
use Rattle.std.proofs.lemmas.Bool.Decides.{Decides-eqb}
use Rattle.std.proofs.lemmas.List.{append-nil}
use Rattle.std.proofs.lemmas.Slice.Eq.{starts_is}
use Rattle.tree_core.specs.Tree.{Files, TreeFile, IsValidTree, is_root_text, is_file, stands_above}
use Rattle.tree_core.specs.Memory.{files_of, NoneAbove, conflict}
use Rattle.tree_core.specs.Before.{HasNoLater, SharesNoFile}
use Rattle.tree_core.proofs.Above.{continues, above-continues, continues-from, above-is, above-shorter}
use Rattle.tree_core.proofs.Prefixes.{starts_with-between}
use Rattle.tree_core.proofs.Keys.{keys-files_of}
use Rattle.tree_core.proofs.Conflicts.{
  Has,
  same_text,
  same_text-Decides,
  or_cases,
  or_left,
  or_right,
  has-head,
  has-tail,
  has-key,
  key-has,
  file-apart,
  is-conflict,
  is-no_conflict,
}

abbrev Entry : Type 0
Entry = String Global × TreeFile

abbrev texts : List Entry → List (List ℕ)
texts es = map (λ e. string_bytes e.0) es

abbrev entries_before : String Global → List Entry → List Entry
entries_before text es = entries_between string_cmp Unbounded (Excluded text) es

-- ---- the last of the entries in front of a text
in-last : (text : String Global) (es f : List Entry) (last : Entry) → entries_before text es ≡ f ++ last ∷ []
    → Has (texts es) (string_bytes last.0) × (is_le (string_cmp text last.0) ≡ false)
in-last text [] [] last e = cc
in-last text [] (x ∷ f) last e = cc
in-last text (e ∷ es) f last is = by_test (is_le (string_cmp text e.0)) refl f is (λ g. in-last text es g last)
  where
    by_test : (b : Bool) → is_le (string_cmp text e.0) ≡ b → (f : List Entry)
        → cond (not b) (e ∷ entries_before text es) (entries_before text es) ≡ f ++ last ∷ []
        → ((g : List Entry) → entries_before text es ≡ g ++ last ∷ [] → Has (texts es) (string_bytes last.0)
        × (is_le (string_cmp text last.0) ≡ false))
        → Has (string_bytes e.0 ∷ texts es) (string_bytes last.0) × (is_le (string_cmp text last.0) ≡ false)
    by_test true h f is rest =
        (has-tail (string_bytes e.0) (string_bytes last.0) (texts es) (rest f is).0, (rest f is).1)
    by_test false h [] is rest =
        let same : e ≡ last = cc in
        let P : Entry → Type 0 =
        λ x. Has (string_bytes e.0 ∷ texts es) (string_bytes x.0) × (is_le (string_cmp text x.0) ≡ false) in
        subst P same (has-head (string_bytes e.0) (texts es), h)
    by_test false h (x ∷ f) is rest =
        let tails : entries_before text es ≡ f ++ last ∷ [] = cc in
        (has-tail (string_bytes e.0) (string_bytes last.0) (texts es) (rest f tails).0, (rest f tails).1)

apart_from : (text q k : List ℕ) → is_le (slice_cmp nat_cmp text k) ≡ true → is_le (slice_cmp nat_cmp text q) ≡ false
    → same_text q k ≡ true → ⊥
apart_from text q k in_front behind same =
    let told : is_le (slice_cmp nat_cmp text k) ≡ false =
    ap (λ (u : List ℕ). is_le (slice_cmp nat_cmp text u)) (sym ((same_text-Decides q k).0 same)) ∙ behind in
    cc

none-before : (text : String Global) (es : List Entry) (q : List ℕ) → Has (texts es) q
    → is_le (slice_cmp nat_cmp (string_bytes text) q) ≡ false → entries_before text es ≡ [] → ⊥
none-before text [] q has behind e = cc
none-before text (x ∷ es) q has behind e = by_test (is_le (string_cmp text x.0)) refl e
    (or_cases (same_text q (string_bytes x.0)) _ has) (λ h. none-before text es q h behind)
  where
    by_test : (b : Bool) → is_le (string_cmp text x.0) ≡ b
        → cond (not b) (x ∷ entries_before text es) (entries_before text es) ≡ []
        → (same_text q (string_bytes x.0) ≡ true) ⊎ Has (texts es) q
        → (Has (texts es) q → entries_before text es ≡ [] → ⊥) → ⊥
    by_test false h e w rest = cc
    by_test true h e (inl w) rest = apart_from (string_bytes text) q (string_bytes x.0) h behind w
    by_test true h e (inr w) rest = rest w e

all-later : (k : String Global) (es : List Entry) (p : List ℕ)
    → AllByRecursion (λ y. string_cmp k y ≡ Less) (keys_of es) → Has (texts es) p
    → slice_cmp nat_cmp (string_bytes k) p ≡ Less
all-later k [] p all has = cc
all-later k (x ∷ es) p all has = by_case (or_cases (same_text p (string_bytes x.0)) _ has) (all-later k es p all.1)
  where
    by_case : (same_text p (string_bytes x.0) ≡ true) ⊎ Has (texts es) p
        → (Has (texts es) p → slice_cmp nat_cmp (string_bytes k) p ≡ Less) → slice_cmp nat_cmp (string_bytes k) p ≡ Less
    by_case (inl w) rest =
        ap (slice_cmp nat_cmp (string_bytes k)) ((same_text-Decides p (string_bytes x.0)).0 w) ∙ all.0
    by_case (inr w) rest = rest w

is_le-same : (q k : List ℕ) → q ≡ k → is_le (slice_cmp nat_cmp q k) ≡ true
is_le-same q k same = by_order (slice_cmp nat_cmp q k) refl (nat_list_cmp_total.antisymm q k)
  where
    by_order : (r : Ordering) → slice_cmp nat_cmp q k ≡ r
        → slice_cmp nat_cmp q k ≡ ordering_reverse (slice_cmp nat_cmp k q) → is_le r ≡ true
    by_order Less e flip = refl
    by_order Equal e flip = refl
    by_order Greater e flip =
        let turned : slice_cmp nat_cmp k q ≡ Greater =
        ap (λ (u : List ℕ). slice_cmp nat_cmp u q) (sym same) ∙ ap (slice_cmp nat_cmp q) same ∙ e in
        let less : Greater ≡ ordering_reverse Greater = sym e ∙ flip ∙ ap ordering_reverse turned in
        cc

last-is : (text : String Global) (es f : List Entry) (last : Entry) (q : List ℕ)
    → IsStrictlySortedBy string_cmp (keys_of es) → Has (texts es) q
    → is_le (slice_cmp nat_cmp (string_bytes text) q) ≡ false → entries_before text es ≡ f ++ last ∷ []
    → is_le (slice_cmp nat_cmp q (string_bytes last.0)) ≡ true
unfolding IsStrictlySortedBy
last-is text [] f last q sorted has behind is = cc
last-is text (x ∷ es) f last q sorted has behind is =
    by_test (is_le (string_cmp text x.0)) refl f is (or_cases (same_text q (string_bytes x.0)) _ has)
    (λ g h. last-is text es g last q sorted.1 h behind)
  where
    by_test : (b : Bool) → is_le (string_cmp text x.0) ≡ b → (f : List Entry)
        → cond (not b) (x ∷ entries_before text es) (entries_before text es) ≡ f ++ last ∷ []
        → (same_text q (string_bytes x.0) ≡ true) ⊎ Has (texts es) q
        → ((g : List Entry) → Has (texts es) q → entries_before text es ≡ g ++ last ∷ []
        → is_le (slice_cmp nat_cmp q (string_bytes last.0)) ≡ true)
        → is_le (slice_cmp nat_cmp q (string_bytes last.0)) ≡ true
    by_test true h f is (inl w) rest = absurd (apart_from (string_bytes text) q (string_bytes x.0) h behind w)
    by_test true h f is (inr w) rest = rest f w is
    by_test false h [] is (inl w) rest =
        let same : x ≡ last = cc in
        is_le-same q (string_bytes last.0) ((same_text-Decides q (string_bytes x.0)).0 w
        ∙ ap (λ (e : Entry). string_bytes e.0) same)
    by_test false h [] is (inr w) rest =
        let none : entries_before text es ≡ [] = cc in absurd (none-before text es q w behind none)
    by_test false h (y ∷ f) is (inl w) rest =
        let tails : entries_before text es ≡ f ++ last ∷ [] = cc in
        let later = all-later x.0 es (string_bytes last.0) sorted.0 (in-last text es f last tails).0 in
        ap (λ (u : List ℕ). is_le (slice_cmp nat_cmp u (string_bytes last.0)))
        ((same_text-Decides q (string_bytes x.0)).0 w) ∙ ap is_le later
    by_test false h (y ∷ f) is (inr w) rest = let tails : entries_before text es ≡ f ++ last ∷ [] = cc in rest f w tails

-- ---- in the words of the files
less-from : (a b : List ℕ) → is_le (slice_cmp nat_cmp b a) ≡ false → slice_cmp nat_cmp a b ≡ Less
less-from a b h = by_order (slice_cmp nat_cmp b a) refl h
  where
    by_order : (r : Ordering) → slice_cmp nat_cmp b a ≡ r → is_le r ≡ false → slice_cmp nat_cmp a b ≡ Less
    by_order Less e le = cc
    by_order Equal e le = cc
    by_order Greater e le = nat_list_cmp_total.antisymm a b ∙ ap ordering_reverse e

less-to : (a b : List ℕ) → slice_cmp nat_cmp a b ≡ Less → is_le (slice_cmp nat_cmp b a) ≡ false
less-to a b e = ap is_le (nat_list_cmp_total.antisymm b a ∙ ap ordering_reverse e)

pub last-file : (text : String Global) (es r f : List Entry) (last : Entry) → IsStrictlySortedBy string_cmp (keys_of es)
    → r ≡ entries_before text es → r ≡ f ++ last ∷ [] → (IsSome (finite.get (files_of es) (string_bytes last.0)))
    × (slice_cmp nat_cmp (string_bytes last.0) (string_bytes text) ≡ Less)
last-file text es r f last sorted is told =
    let found = in-last text es f last (sym is ∙ told) in
    let P : List (List ℕ) → Type 0 = λ ks. Has ks (string_bytes last.0) in (
      key-has (files_of es) (string_bytes last.0) (subst P (sym (keys-files_of es sorted)) found.0),
      less-from (string_bytes last.0) (string_bytes text) found.1,
    )

pub last-no_later : (text : String Global) (es r f : List Entry) (last : Entry)
    → IsStrictlySortedBy string_cmp (keys_of es) → r ≡ entries_before text es → r ≡ f ++ last ∷ []
    → HasNoLater (files_of es) (string_bytes text) (Some (string_bytes last.0))
last-no_later text es r f last sorted is told = λ q there less.
    let P : List (List ℕ) → Type 0 = λ ks. Has ks q in
    last-is text es f last q sorted (subst P (keys-files_of es sorted) (has-key (files_of es) q there))
    (less-to q (string_bytes text) less) (sym is ∙ told)

pub none-no_later : (text : String Global) (es r : List Entry) → IsStrictlySortedBy string_cmp (keys_of es)
    → r ≡ entries_before text es → r ≡ [] → HasNoLater (files_of es) (string_bytes text) None
none-no_later text es r sorted is told = λ q there less.
    let P : List (List ℕ) → Type 0 = λ ks. Has ks q in
    none-before text es q (subst P (keys-files_of es sorted) (has-key (files_of es) q there))
    (less-to q (string_bytes text) less) (sym is ∙ told)

-- ---- a file above a path
starts_with-nil : (k : List ℕ) → starts_with nat_eq k [] ≡ true
starts_with-nil [] = refl
starts_with-nil (c ∷ k) = refl

-- two texts compare as what follows a front that they share
behind-front : (q a b : List ℕ) → slice_cmp nat_cmp (q ++ a) (q ++ b) ≡ slice_cmp nat_cmp a b
behind-front [] a b = refl
behind-front (d ∷ q) a b = by_rank (nat_cmp d d) refl (behind-front q a b)
  where
    by_rank : (r : Ordering) → r ≡ nat_cmp d d → slice_cmp nat_cmp (q ++ a) (q ++ b) ≡ slice_cmp nat_cmp a b
        → ordering_then r (slice_cmp nat_cmp (q ++ a) (q ++ b)) ≡ slice_cmp nat_cmp a b
    by_rank Less e rest = let lt : d < d = ranked d d Less e in absurd (omega arith)
    by_rank Equal e rest = rest
    by_rank Greater e rest = let lt : d < d = ranked d d Greater e in absurd (omega arith)

prefix-less : (q : List ℕ) (c : ℕ) (z : List ℕ) → slice_cmp nat_cmp q (q ++ c ∷ z) ≡ Less
prefix-less q c z = ap (λ k. slice_cmp nat_cmp k (q ++ c ∷ z)) (sym (append-nil q)) ∙ behind-front q [] (c ∷ z)

above-less : (q path : List ℕ) (c : ℕ) → continues q path ≡ true → slice_cmp nat_cmp q (path ++ c ∷ []) ≡ Less
above-less q path c above =
    let is = above-is q path above in
    ap (slice_cmp nat_cmp q) (ap (λ p. p ++ c ∷ []) is.1 ∙ append_assoc q (47 ∷ is.0) (c ∷ []))
    ∙ prefix-less q 47 (is.0 ++ c ∷ [])

-- what begins with a text and is not below it shares just the text with a path below
shared-above : (q x k : List ℕ) → starts_with nat_eq k q ≡ true → continues q k ≡ false
    → common_prefix_len nat_eq (q ++ 47 ∷ x) k ≡ length q
shared-above [] x [] h apart = refl
shared-above [] x (c ∷ k) h apart = by_test (nat_eq 47 c) apart
  where
    by_test : (b : Bool) → (b && starts_with nat_eq k []) ≡ false → cond b (1 + common_prefix_len nat_eq x k) 0 ≡ 0
    by_test true e = let any = starts_with-nil k in cc
    by_test false e = refl
shared-above (d ∷ q) x [] h apart = cc
shared-above (d ∷ q) x (c ∷ k) h apart =
    let same : nat_eq d c ≡ true = and_left (nat_eq d c) _ h in
    let rest = shared-above q x k (and_right (nat_eq d c) _ h) (ap (λ b. b && continues q k) (sym same) ∙ apart) in
    ap (λ b. cond b (1 + common_prefix_len nat_eq (q ++ 47 ∷ x) k) 0) same
    ∙ (let more : 1 + common_prefix_len nat_eq (q ++ 47 ∷ x) k ≡ length (d ∷ q) = omega (arith, rest) in more)

above-shares : (t : Files) (q path k : List ℕ) (c : ℕ) → IsValidTree t → IsSome (finite.get t q)
    → IsSome (finite.get t k) → continues q path ≡ true → slice_cmp nat_cmp k (path ++ c ∷ []) ≡ Less
    → is_le (slice_cmp nat_cmp q k) ≡ true → length q ≡ common_prefix_len nat_eq path k
above-shares t q path k c valid there other above less le =
    let is = above-is q path above in
    let begins : starts_with nat_eq (path ++ c ∷ []) q ≡ true =
    (starts_is Decides-eqb (path ++ c ∷ []) q (starts_with nat_eq (path ++ c ∷ []) q) refl).1
    ((47 ∷ is.0) ++ c ∷ []) (ap (λ p. p ++ c ∷ []) is.1 ∙ append_assoc q (47 ∷ is.0) (c ∷ [])) in
    sym (ap (λ p. common_prefix_len nat_eq p k) is.1
    ∙ shared-above q is.0 k (starts_with-between q k (path ++ c ∷ []) le less begins)
    (sym (above-continues q k (file-apart t q valid there)) ∙ valid.apart q k there other))

not_above : (b : Bool) → (b ≡ true → ⊥) → b ≡ false
not_above true h = absurd (h refl)
not_above false h = refl

-- So none is above where the last one in front of the path, with a byte behind it, shares no such file with the path.
pub none-above : (t : Files) (path k text : List ℕ) (c : ℕ) → IsValidTree t → IsSome (finite.get t k)
    → slice_cmp nat_cmp k text ≡ Less → HasNoLater t text (Some k) → text ≡ path ++ c ∷ [] → SharesNoFile t path k
    → NoneAbove t path
none-above t path k text c valid other less last is_text none = λ q there. not_above (stands_above q path) (λ above.
    let goes_on = continues-from q path (file-apart t q valid there) above in
    none q there above (above-shares t q path k c valid there other goes_on
    (ap (slice_cmp nat_cmp k) (sym is_text)
    ∙ less) (last q there (ap (slice_cmp nat_cmp q) is_text ∙ above-less q path c goes_on))))

pub none-above-first : (t : Files) (path text : List ℕ) (c : ℕ) → IsValidTree t → HasNoLater t text None → text ≡ path
    ++ c ∷ [] → NoneAbove t path
none-above-first t path text c valid last is_text = λ q there. not_above (stands_above q path) (λ above.
    last q there (ap (slice_cmp nat_cmp q) is_text
    ∙ above-less q path c (continues-from q path (file-apart t q valid there) above)))

-- where a path goes on behind what stands above it
pub above-at : (q path : List ℕ) (n : ℕ) → n ≡ length q → continues q path ≡ true → (n < length path)
    × (get_or path n 0 ≡ 47) × (take n path ≡ q)
above-at q path n at above =
    let is = above-is q path above in
    let inside : length q < length path = above-shorter q path above in
    let slash : get_or path (length q) 0 ≡ 47 = rw is.1 (get_or-append_seam q 47 is.0 0) in
    rw at (inside, slash, ap (take (length q)) is.1 ∙ take-append_seam q (47 ∷ is.0))

pub none_then : {A : Type 0} (P Q : Type 0) (o : Option A) → IfNone o P → (P → Q) → IfNone o Q
none_then P Q None h then = then h
none_then P Q (Some x) h then = tt

-- ---- a file below a path
not_less-empty : (k : List ℕ) → slice_cmp nat_cmp k [] ≡ Less → ⊥
not_less-empty [] less = cc
not_less-empty (z ∷ k) less = cc

-- A `0` follows `/`, so what is below a path is in front of the path with a `0` behind it.
below-less : (path q : List ℕ) → continues path q ≡ true → slice_cmp nat_cmp q (path ++ 48 ∷ []) ≡ Less
below-less path q below = let is = above-is path q below in ap (λ k. slice_cmp nat_cmp k (path ++ 48 ∷ [])) is.1
    ∙ behind-front path (47 ∷ is.0) (48 ∷ [])

-- what stands between one below a path and that text is below too
below-between : (p rest k : List ℕ) → is_le (slice_cmp nat_cmp (p ++ 47 ∷ rest) k) ≡ true
    → slice_cmp nat_cmp k (p ++ 48 ∷ []) ≡ Less → continues p k ≡ true
below-between [] rest [] le less = cc
below-between [] rest (z ∷ k) le less = by_ranks (nat_cmp 47 z) (nat_cmp z 48) refl refl le less
  where
    by_ranks : (r s : Ordering) → r ≡ nat_cmp 47 z → s ≡ nat_cmp z 48
        → is_le (ordering_then r (slice_cmp nat_cmp rest k)) ≡ true → ordering_then s (slice_cmp nat_cmp k []) ≡ Less
        → continues [] (z ∷ k) ≡ true
    by_ranks Less Less e f le less =
        let a : 47 < z = ranked 47 z Less e in let b : z < 48 = ranked z 48 Less f in absurd (omega arith)
    by_ranks Equal Less e f le less =
        let a : 47 ≡ z = ranked 47 z Equal e in rw ((Decides-eqb 47 z).1 a) (starts_with-nil k)
    by_ranks Less Equal e f le less = absurd (not_less-empty k less)
    by_ranks Equal Equal e f le less = absurd (not_less-empty k less)
    by_ranks r Greater e f le less = cc
    by_ranks Greater s e f le less = cc
below-between (x ∷ p) rest [] le less = cc
below-between (x ∷ p) rest (z ∷ k) le less =
    by_ranks (nat_cmp x z) (nat_cmp z x) refl refl (below-between p rest k) le less
  where
    by_ranks : (r s : Ordering) → r ≡ nat_cmp x z → s ≡ nat_cmp z x
        → (is_le (slice_cmp nat_cmp (p ++ 47 ∷ rest) k) ≡ true → slice_cmp nat_cmp k (p ++ 48 ∷ []) ≡ Less
        → continues p k ≡ true)
        → is_le (ordering_then r (slice_cmp nat_cmp (p ++ 47 ∷ rest) k)) ≡ true
        → ordering_then s (slice_cmp nat_cmp k (p ++ 48 ∷ [])) ≡ Less → continues (x ∷ p) (z ∷ k) ≡ true
    by_ranks Equal Equal e f more le less = rw ((Decides-eqb x z).1 (ranked x z Equal e)) (more le less)
    by_ranks Equal Less e f more le less =
        let a : x ≡ z = ranked x z Equal e in let b : z < x = ranked z x Less f in absurd (omega arith)
    by_ranks Less Less e f more le less =
        let a : x < z = ranked x z Less e in let b : z < x = ranked z x Less f in absurd (omega arith)
    by_ranks Less Equal e f more le less =
        let a : x < z = ranked x z Less e in let b : z ≡ x = ranked z x Equal f in absurd (omega arith)
    by_ranks r Greater e f more le less = cc
    by_ranks Greater s e f more le less = cc

-- so none is below where the last one in front of that text isn't
none-below : (t : Files) (path k text : List ℕ) → is_root_text path ≡ false → slice_cmp nat_cmp k text ≡ Less
    → HasNoLater t text (Some k) → text ≡ path ++ 48 ∷ [] → stands_above path k ≡ false → (q : List ℕ)
    → is_file t q ≡ true → stands_above path q ≡ false
none-below t path k text under less last is_text apart q there = not_above (stands_above path q) (λ below.
    let goes_on = continues-from path q under below in
    let is = above-is path q goes_on in
    let le : is_le (slice_cmp nat_cmp q k) ≡ true =
    last q there (ap (slice_cmp nat_cmp q) is_text ∙ below-less path q goes_on) in
    let other = sym (above-continues path k under) ∙ apart in
    let found = below-between path is.0 k (ap (λ p. is_le (slice_cmp nat_cmp p k)) (sym is.1) ∙ le)
    (ap (slice_cmp nat_cmp k) (sym is_text) ∙ less) in
    cc)

none-below-first : (t : Files) (path text : List ℕ) → is_root_text path ≡ false → HasNoLater t text None → text ≡ path
    ++ 48 ∷ [] → (q : List ℕ) → is_file t q ≡ true → stands_above path q ≡ false
none-below-first t path text under last is_text q there = not_above (stands_above path q) (λ below.
    last q there (ap (slice_cmp nat_cmp q) is_text ∙ below-less path q (continues-from path q under below)))

-- ---- whether a file is in the way, as the last one in front of that text tells it
pub first-tells : (t : Files) (path text : List ℕ) → IsValidTree t → is_root_text path ≡ false → HasNoLater t text None
    → text ≡ path ++ 48 ∷ [] → is_some (conflict t path) ≡ false
first-tells t path text valid under last is_text =
    is-no_conflict t path (none-below-first t path text under last is_text)
    (none-above-first t path text 48 valid last is_text)

pub below-tells : (t : Files) (path k : List ℕ) → is_file t k ≡ true → stands_above path k ≡ true
    → is_some (conflict t path) ≡ true
below-tells t path k there below =
    is-conflict t path k there (or_left (stands_above path k) (stands_above k path) below)

pub last-tells : (t : Files) (path k text : List ℕ) (o : Option (Bor (List ℕ))) → IsValidTree t
    → is_root_text path ≡ false → is_file t k ≡ true → slice_cmp nat_cmp k text ≡ Less → HasNoLater t text (Some k)
    → text ≡ path ++ 48 ∷ [] → stands_above path k ≡ false
    → IfSome o (λ p. is_file t p.now ≡ true) → IfSome o (λ p. stands_above p.now path ≡ true)
    → IfNone o (SharesNoFile t path k) → is_some (conflict t path) ≡ is_some o
last-tells t path k text (Some p) valid under other less last is_text apart there above none =
    is-conflict t path p.now there (or_right (stands_above path p.now) (stands_above p.now path) above)
last-tells t path k text None valid under other less last is_text apart there above none =
    is-no_conflict t path (none-below t path k text under less last is_text apart)
    (none-above t path k text 48 valid other less last is_text none)
