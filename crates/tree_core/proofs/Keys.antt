-- The paths of a tree's files, in byte order, as a map of texts has them.
use Rattle.std.proofs.Common.{
  ◌≡◌,
  ◌&&◌,
  ℕ,
  Bool,
  true,
  false,
  not,
  cond,
  List,
  [],
  ◌∷◌,
  map,
  Option,
  Some,
  None,
  String,
  string_bytes,
  nat_eq,
  refl,
  sym,
  ap,
  ◌∙◌,
  length,
  arith,
}
use Rattle.std.specs.List.{find, starts_with, AllByRecursion}
use Rattle.std.specs.List.Sorted.{IsStrictlySortedBy}
use Rattle.std.specs.Ordering.{nat_cmp, is_lt, is_le}
use Rattle.std.specs.Cmp.Lexicographic.{slice_cmp, nat_list_cmp_total}
use Rattle.std.specs.declared.alloc.Global.{Global}
use Rattle.std.specs.declared.cmp.Ordering.{Ordering}
use Rattle.std.specs.declared.cmp.Ordering.TheVariants.{Less, Equal, Greater}
use Rattle.std.specs.declared.ops.Bound.TheVariants.{Included, Unbounded}
use Rattle.std.specs.BTreeMap.Range.{entries_between}
use Rattle.std.specs.FinMap as finite
use Rattle.std.specs.FinMap.Entries.{is_sorted, put, below_all}
use Rattle.std.specs.String.{string_cmp}
use Rattle.std.specs.Map.{keys_of}
use Rattle.sugar_path.proofs.Bools.{and_left, and_right}
use Rattle.tree_core.specs.Tree.{TreeFile}
use Rattle.tree_core.specs.Memory.{files_of}
use Rattle.tree_core.proofs.Prefixes.{is_le-prefix, starts_with-between}

put-first : (k : List ℕ) (v : TreeFile) (es : List (List ℕ × TreeFile)) → below_all (slice_cmp nat_cmp) k es ≡ true
    → put (slice_cmp nat_cmp) k v es ≡ (k, v) ∷ es
put-first k v [] h = refl
put-first k v (e ∷ es) h = by_order (slice_cmp nat_cmp k e.0) refl (and_left (is_lt (slice_cmp nat_cmp k e.0)) _ h)
  where
    by_order : (r : Ordering) → slice_cmp nat_cmp k e.0 ≡ r → is_lt r ≡ true
        → put (slice_cmp nat_cmp) k v (e ∷ es) ≡ (k, v) ∷ e ∷ es
    by_order Less is lt = rw is refl
    by_order Equal is lt = cc
    by_order Greater is lt = cc

-- a map of entries in order has just these
entries-from_entries : (es : List (List ℕ × TreeFile)) → is_sorted (slice_cmp nat_cmp) es ≡ true
    → finite.entries (finite.from_entries {R = slice_cmp nat_cmp} es) ≡ es
entries-from_entries [] h = by_length (finite.entries (finite.empty {R = slice_cmp nat_cmp}))
    (sym (finite.len-entries (finite.empty {R = slice_cmp nat_cmp})) ∙ finite.len-empty (slice_cmp nat_cmp) TreeFile)
  where
    by_length : (es : List (List ℕ × TreeFile)) → length es ≡ 0 → es ≡ []
    by_length [] e = refl
    by_length (x ∷ es) e = absurd (omega arith)
entries-from_entries (e ∷ es) h =
    finite.entries-insert nat_list_cmp_total (finite.from_entries es) e.0 e.1
    ∙ ap (put (slice_cmp nat_cmp) e.0 e.1) (entries-from_entries es
    (and_right (below_all (slice_cmp nat_cmp) e.0 es) _ h))
    ∙ put-first e.0 e.1 es (and_left (below_all (slice_cmp nat_cmp) e.0 es) _ h)

below-texts : (k : String Global) (es : List (String Global × TreeFile))
    → AllByRecursion (λ q. string_cmp k q ≡ Less) (keys_of es)
    → below_all (slice_cmp nat_cmp) (string_bytes k) (map (λ e. (string_bytes e.0, e.1)) es) ≡ true
below-texts k [] h = refl
below-texts k (e ∷ es) h = rw h.0 (below-texts k es h.1)

sorted-texts : (es : List (String Global × TreeFile)) → IsStrictlySortedBy string_cmp (keys_of es)
    → is_sorted (slice_cmp nat_cmp) (map (λ e. (string_bytes e.0, e.1)) es) ≡ true
unfolding IsStrictlySortedBy
sorted-texts [] h = refl
sorted-texts (e ∷ es) h = rw (below-texts e.0 es h.0) (sorted-texts es h.1)

-- the paths of the files are the texts of the map's keys
pub keys-files_of : (es : List (String Global × TreeFile)) → IsStrictlySortedBy string_cmp (keys_of es)
    → finite.keys (files_of es) ≡ map (λ e. string_bytes e.0) es
keys-files_of es h = ap (λ (fs : List (List ℕ × TreeFile)). map (λ (f : List ℕ × TreeFile). f.0) fs)
    (entries-from_entries (map (λ e. (string_bytes e.0, e.1)) es) (sorted-texts es h)) ∙ both es
  where
    both : (es : List (String Global × TreeFile))
        → map (λ (f : List ℕ × TreeFile). f.0) (map (λ (e : String Global × TreeFile). (string_bytes e.0, e.1)) es) ≡
        map (λ e. string_bytes e.0) es
    both [] = refl
    both (e ∷ es) = ap (λ (ks : List (List ℕ)). string_bytes e.0 ∷ ks) (both es)

-- the first entry's text, where that begins with a text
abbrev pub if_first : List ℕ → List (String Global × TreeFile) → Option (List ℕ)
if_first pre [] = None
if_first pre (e ∷ es) = cond (starts_with nat_eq (string_bytes e.0) pre) (Some (string_bytes e.0)) None

none-after : (pre k : List ℕ) (es : List (String Global × TreeFile)) → is_le (slice_cmp nat_cmp pre k) ≡ true
    → starts_with nat_eq k pre ≡ false → AllByRecursion (λ q. slice_cmp nat_cmp k (string_bytes q) ≡ Less) (keys_of es)
    → find (λ p. starts_with nat_eq p pre) (map (λ e. string_bytes e.0) es) ≡ None
none-after pre k [] le not_it after = refl
none-after pre k (e ∷ es) le not_it after =
    by_test (starts_with nat_eq (string_bytes e.0) pre) (starts_with-between pre k (string_bytes e.0) le after.0)
    (none-after pre k es le not_it after.1)
  where
    by_test : (b : Bool) → (b ≡ true → starts_with nat_eq k pre ≡ true)
        → find (λ p. starts_with nat_eq p pre) (map (λ e. string_bytes e.0) es) ≡ None
        → cond b (Some (string_bytes e.0)) (find (λ p. starts_with nat_eq p pre) (map (λ e. string_bytes e.0) es)) ≡
        None
    by_test true begins rest = let told = begins refl in cc
    by_test false begins rest = rest

-- In byte order, the first key that begins with a text is the first one from that text on, or none does.
find-from : (pre : String Global) (es : List (String Global × TreeFile)) → IsStrictlySortedBy string_cmp (keys_of es)
    → find (λ p. starts_with nat_eq p (string_bytes pre)) (map (λ e. string_bytes e.0) es) ≡ if_first (string_bytes pre)
    (entries_between string_cmp (Included pre) Unbounded es)
unfolding IsStrictlySortedBy
find-from pre [] h = refl
find-from pre (e ∷ es) h =
    by_tests (starts_with nat_eq (string_bytes e.0) (string_bytes pre)) (is_le (string_cmp pre e.0)) refl refl
    (find-from pre es h.1)
  where
    by_tests : (b c : Bool) → starts_with nat_eq (string_bytes e.0) (string_bytes pre) ≡ b
        → is_le (string_cmp pre e.0) ≡ c
        → find (λ p. starts_with nat_eq p (string_bytes pre)) (map (λ e. string_bytes e.0) es) ≡ if_first
        (string_bytes pre) (entries_between string_cmp (Included pre) Unbounded es)
        → cond b (Some (string_bytes e.0)) (find (λ p. starts_with nat_eq p (string_bytes pre))
        (map (λ e. string_bytes e.0) es))
        ≡ if_first (string_bytes pre) (cond (c && not false)
        (e ∷ entries_between string_cmp (Included pre) Unbounded es)
        (entries_between string_cmp (Included pre) Unbounded es))
    by_tests true true begins from rest = rw begins refl
    by_tests true false begins from rest = let le = is_le-prefix (string_bytes pre) (string_bytes e.0) begins in cc
    by_tests false true begins from rest =
        rw begins (none-after (string_bytes pre) (string_bytes e.0) es from begins h.0)
    by_tests false false begins from rest = rest

pub find-keys : (pre : String Global) (es r fs : List (String Global × TreeFile))
    → IsStrictlySortedBy string_cmp (keys_of es) → r ≡ entries_between string_cmp (Included pre) Unbounded es → r ≡ fs
    → find (λ p. starts_with nat_eq p (string_bytes pre)) (finite.keys (files_of es)) ≡ if_first (string_bytes pre) fs
find-keys pre es r fs h is first = ap (find (λ p. starts_with nat_eq p (string_bytes pre))) (keys-files_of es h)
    ∙ find-from pre es h ∙ ap (if_first (string_bytes pre)) (sym is ∙ first)
