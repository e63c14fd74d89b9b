-- Two trees with the same entries are one, and what a tree in memory has at a path.
use Rattle.std.proofs.Common.{
  ◌≡◌,
  ℕ,
  Bool,
  cond,
  ◌&&◌,
  List,
  [],
  ◌∷◌,
  map,
  String,
  string_bytes,
  bytes_eq,
  refl,
  sym,
  ap,
  ◌∙◌,
  IsTrue,
  Some,
  None,
}
use Rattle.std.specs.Bool.{Decides}
use Rattle.std.proofs.lemmas.Slice.Eq.{bytes_eq-Decides, slice_eq-Decides}
use Rattle.std.specs.Ordering.{nat_cmp}
use Rattle.std.specs.Cmp.Lexicographic.{slice_cmp, nat_list_cmp_total}
use Rattle.std.specs.declared.alloc.Global.{Global}
use Rattle.std.specs.FinMap as finite
use Rattle.std.specs.Map.{lookup}
use Rattle.std.specs.BTreeMap.{BTreeMap, is_at, Updates, UpdatesBy}
use Rattle.std.specs.String.{string_cmp}
use Rattle.std.specs.Ordering.{eq_by_cmp}
use Rattle.std.specs.Cmp.{eq_by_cmp_equiv}
use Rattle.std.proofs.lemmas.Map.Text.{btree_map_updates_text, is_eq-slice_cmp}
use Rattle.tree_core.specs.Tree.{Files, TreeFile}
use Rattle.sugar_path.proofs.Bools.{and_left, and_right}
use Rattle.tree_core.specs.Memory.{files_of, file_eq, same_files}

file_eq-Decides : (a b : TreeFile) → Decides (file_eq a b) (a ≡ b)
file_eq-Decides a b = (
  λ h. let content = (bytes_eq-Decides a.content b.content).0 (and_left _ _ h) in
      let canonical = (bytes_eq-Decides a.canonical b.canonical).0 (and_right (bytes_eq a.content b.content) _ h) in
      λ i. record { content = content i; canonical = canonical i },
  λ e. ap (λ (f : TreeFile). file_eq a f) (sym e)
      ∙ ap (λ b. b && bytes_eq a.canonical a.canonical) ((bytes_eq-Decides a.content a.content).1 refl)
      ∙ (bytes_eq-Decides a.canonical a.canonical).1 refl,
)

pair_eq : (x y : List ℕ × TreeFile) → Decides (bytes_eq x.0 y.0 && file_eq x.1 y.1) (x ≡ y)
pair_eq x y = (
  λ h. let a : x.0 ≡ y.0 = (bytes_eq-Decides x.0 y.0).0 (and_left _ _ h) in let b : x.1 ≡ y.1 =
      (file_eq-Decides x.1 y.1).0 (and_right (bytes_eq x.0 y.0) _ h) in λ i. (a i, b i),
  λ e. ap (λ (p : List ℕ × TreeFile). bytes_eq x.0 p.0 && file_eq x.1 p.1) (sym e)
      ∙ ap (λ b. b && file_eq x.1 x.1) ((bytes_eq-Decides x.0 x.0).1 refl) ∙ (file_eq-Decides x.1 x.1).1 refl,
)

pub same_files-is : (a b : Files) → IsTrue (same_files a b) → a ≡ b
same_files-is a b h = finite.same_entries_map a b ((slice_eq-Decides pair_eq _ _ _ refl).0 h)

pub same_files-refl : (t : Files) → IsTrue (same_files t t)
same_files-refl t = (slice_eq-Decides pair_eq (finite.entries t) (finite.entries t) (same_files t t) refl).1 refl

-- trees in memory that stand for the same trees have the same files
pub same_files-same : (a b : Files) → same_files a ≡ same_files b → a ≡ b
same_files-same a b same = same_files-is a b (ap (λ (test : Files → Bool). test b) same ∙ same_files-refl b)

-- what the map at a path has is what the entries have there
pub get-files_of : (es : List (String Global × TreeFile)) (q : List ℕ)
    → finite.get (files_of es) q ≡ lookup (is_at (λ k. slice_cmp nat_cmp q (string_bytes k))) es
get-files_of es q = finite.get-from_entries nat_list_cmp_total _ q ∙ found es q
  where
    found : (es : List (String Global × TreeFile)) (q : List ℕ)
        → finite.find (slice_cmp nat_cmp) q (map (λ e. (string_bytes e.0, e.1)) es) ≡ lookup
        (is_at (λ k. slice_cmp nat_cmp q (string_bytes k))) es
    found [] q = refl
    found (e ∷ es) q = ap (cond (is_at (λ k. slice_cmp nat_cmp q (string_bytes k)) e.0) (Some e.1)) (found es q)

pub files_of-insert : (m n : BTreeMap (String Global) TreeFile) (k : String Global) (v : TreeFile)
    → Updates string_cmp m n k (Some v) → files_of n.entries ≡ finite.insert (files_of m.entries) (string_bytes k) v
files_of-insert m n k v up =
    finite.same_map nat_list_cmp_total (finite.slice_cmp-IsAntisymmetric finite.nat_cmp-IsAntisymmetric) _ _ (λ q.
    get-files_of n.entries q
    ∙ btree_map_updates_text (string_bytes k) m n (Some v) up q
    ∙ ap (λ o. cond (bytes_eq (string_bytes k) q) (Some v) o) (sym (get-files_of m.entries q))
    ∙ ap (λ b. cond b (Some v) (finite.get (files_of m.entries) q)) (test q)
    ∙ sym (finite.get-insert nat_list_cmp_total (files_of m.entries) (string_bytes k) v q))
  where
    test : (q : List ℕ) → bytes_eq (string_bytes k) q ≡ eq_by_cmp (slice_cmp nat_cmp) q (string_bytes k)
    test q = sym (is_eq-slice_cmp (string_bytes k) q) ∙ (eq_by_cmp_equiv nat_list_cmp_total).symm (string_bytes k) q

pub files_of-remove : (m n : BTreeMap (String Global) TreeFile) (p : List ℕ)
    → UpdatesBy string_cmp (λ k. slice_cmp nat_cmp p (string_bytes k)) m n None
    → files_of n.entries ≡ finite.remove (files_of m.entries) p
files_of-remove m n p up =
    finite.same_map nat_list_cmp_total (finite.slice_cmp-IsAntisymmetric finite.nat_cmp-IsAntisymmetric) _ _ (λ q.
    get-files_of n.entries q
    ∙ btree_map_updates_text p m n None up q
    ∙ ap (λ o. cond (bytes_eq p q) None o) (sym (get-files_of m.entries q))
    ∙ ap (λ b. cond b None (finite.get (files_of m.entries) q)) (test q)
    ∙ sym (finite.get-remove nat_list_cmp_total (files_of m.entries) p q))
  where
    test : (q : List ℕ) → bytes_eq p q ≡ eq_by_cmp (slice_cmp nat_cmp) q p
    test q = sym (is_eq-slice_cmp p q) ∙ (eq_by_cmp_equiv nat_list_cmp_total).symm p q
