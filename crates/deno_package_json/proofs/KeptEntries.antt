-- Finite maps that the entries of the code's maps stand for.
use Rattle.std.proofs.Common.{
  ◌≡◌,
  ℕ,
  Bool,
  true,
  false,
  cond,
  List,
  [],
  ◌∷◌,
  map,
  String,
  string_bytes,
  bytes_eq,
  Option,
  Some,
  option_map,
  refl,
  sym,
  ap,
  ◌∙◌,
}
use Rattle.std.proofs.lemmas.Map.Text.{btree_map_updates_text, is_eq-slice_cmp}
use Rattle.std.proofs.lemmas.Slice.Eq.{bytes_eq-Decides}
use Rattle.std.specs.BTreeMap.{BTreeMap, is_at, Updates}
use Rattle.std.specs.Cmp.{eq_by_cmp_equiv}
use Rattle.std.specs.Cmp.Lexicographic.{slice_cmp, nat_list_cmp_total}
use Rattle.std.specs.FinMap as finite
use Rattle.std.specs.Map.{lookup}
use Rattle.std.specs.Ordering.{eq_by_cmp, nat_cmp}
use Rattle.std.specs.String.{string_cmp}
use Rattle.std.specs.declared.alloc.Global.{Global}
use Rattle.deno_package_json.specs.Cache.{kept_by}

-- ---- entries by texts

found-lookup : {V : Type 0} (es : List (List ℕ × V)) (q : List ℕ)
    → finite.find (slice_cmp nat_cmp) q es ≡ lookup (bytes_eq q) es
found-lookup [] q = refl
found-lookup (e ∷ es) q = let rest = found-lookup es q in λ i. cond (is_eq-slice_cmp q e.0 i) (Some e.1) (rest i)

pub get-from_texts : {V : Type 0} (es : List (List ℕ × V)) (q : List ℕ)
    → finite.get (finite.from_entries {R = slice_cmp nat_cmp} es) q ≡ lookup (bytes_eq q) es
get-from_texts es q = finite.get-from_entries nat_list_cmp_total es q ∙ found-lookup es q

-- ---- entries by strings, each seen as what it stands for

found-kept : {V W : Type 0} (es : List (String Global × V)) (seen : V → W) (q : List ℕ)
    → finite.find (slice_cmp nat_cmp) q (map (λ e. (string_bytes e.0, seen e.1)) es) ≡ option_map seen
    (lookup (is_at (λ k. slice_cmp nat_cmp q (string_bytes k))) es)
found-kept [] seen q = refl
found-kept {V = V} {W = W} (e ∷ es) seen q =
    by_test (is_at (λ k. slice_cmp nat_cmp q (string_bytes k)) e.0) _ _ (found-kept es seen q)
  where
    by_test : (b : Bool) (f : Option W) (l : Option V) → f ≡ option_map seen l
        → cond b (Some (seen e.1)) f ≡ option_map seen (cond b (Some e.1) l)
    by_test true f l rest = refl
    by_test false f l rest = rest

pub get-kept_by : {V W : Type 0} (es : List (String Global × V)) (seen : V → W) (q : List ℕ)
    → finite.get (kept_by es seen) q ≡ option_map seen (lookup (is_at (λ k. slice_cmp nat_cmp q (string_bytes k))) es)
get-kept_by es seen q = finite.get-from_entries nat_list_cmp_total _ q ∙ found-kept es seen q

seen-cond : {V W : Type 0} (seen : V → W) (b : Bool) (v : V) (o : Option V)
    → option_map seen (cond b (Some v) o) ≡ cond b (Some (seen v)) (option_map seen o)
seen-cond seen true v o = refl
seen-cond seen false v o = refl

same_key : (k q : List ℕ) → bytes_eq k q ≡ eq_by_cmp (slice_cmp nat_cmp) q k
same_key k q = sym (is_eq-slice_cmp k q) ∙ (eq_by_cmp_equiv nat_list_cmp_total).symm k q

pub kept_by-insert : {V W : Type 0} (m n : BTreeMap (String Global) V) (seen : V → W) (k : String Global) (v : V)
    → Updates string_cmp m n k (Some v) → kept_by n.entries seen ≡ finite.insert (kept_by m.entries seen)
    (string_bytes k) (seen v)
kept_by-insert m n seen k v up =
    finite.same_map nat_list_cmp_total (finite.slice_cmp-IsAntisymmetric finite.nat_cmp-IsAntisymmetric) _ _ (λ q.
    get-kept_by n.entries seen q
    ∙ ap (option_map seen) (btree_map_updates_text (string_bytes k) m n (Some v) up q)
    ∙ seen-cond seen (bytes_eq (string_bytes k) q) v _
    ∙ ap (λ o. cond (bytes_eq (string_bytes k) q) (Some (seen v)) o) (sym (get-kept_by m.entries seen q))
    ∙ ap (λ b. cond b (Some (seen v)) (finite.get (kept_by m.entries seen) q)) (same_key (string_bytes k) q)
    ∙ sym (finite.get-insert nat_list_cmp_total (kept_by m.entries seen) (string_bytes k) (seen v) q))

-- what is kept under a key already may be put there again
pub insert-kept : {W : Type 0} (kept : finite.FinMap (slice_cmp nat_cmp) W) (k : List ℕ) (w : W)
    → finite.get kept k ≡ Some w → kept ≡ finite.insert kept k w
insert-kept kept k w e =
    finite.same_map nat_list_cmp_total (finite.slice_cmp-IsAntisymmetric finite.nat_cmp-IsAntisymmetric) _ _ (λ q.
    by_test q (bytes_eq k q) refl
    ∙ ap (λ b. cond b (Some w) (finite.get kept q)) (same_key k q)
    ∙ sym (finite.get-insert nat_list_cmp_total kept k w q))
  where
    by_test : (q : List ℕ) (b : Bool) → bytes_eq k q ≡ b
        → finite.get kept q ≡ cond (bytes_eq k q) (Some w) (finite.get kept q)
    by_test q true is = ap (finite.get kept) (sym ((bytes_eq-Decides k q).0 is)) ∙ e ∙ sym (rw is refl)
    by_test q false is = sym (rw is refl)
