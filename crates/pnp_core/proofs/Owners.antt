-- Owners, as the trie of locations finds them.
use Rattle.std.proofs.Common.{
  ◌≡◌,
  ap,
  ◌∙◌,
  Option,
  ℕ,
  Bool,
  true,
  false,
  cond,
  List,
  [],
  ◌∷◌,
  ◌++◌,
  map,
  bytes_eq,
  refl,
  Some,
}
use Rattle.std.specs.Prelude.{option_map, unwrap_or}
use Rattle.std.specs.Map.{lookup}
use Rattle.indexmap.specs.IndexMap.{insert_entry, insert_all}
use Rattle.std.proofs.lemmas.List.{map-append}
use Rattle.pnp_core.specs.ManifestReading.{entries_of, named}
use Rattle.sugar_path.specs.Path.{Path, IsPath}
use Rattle.pnp_core.specs.declared.manifest.PackageLocator.{PackageLocator}
use Rattle.std.specs.HashMap.{HashMap}
use Rattle.std.specs.HashSet.{HashSet}
use Rattle.pnp_core.specs.Manifest.{Row, Package, at}
use Rattle.pnp_core.specs.Owner.{last_at, nearest_owner}
use Rattle.pnp_core.specs.Trie.{Locations, value_at, nearest_value}

-- a trie that has the last row's locator at each location finds the owner
pub nearest_value-owner : (t : Locations PackageLocator) (rs : List Row)
    → ((l : Path) → IsPath l → value_at t l ≡ last_at rs l) → (p : Path) → IsPath p
    → nearest_value t p ≡ nearest_owner rs p
nearest_value-owner t rs same [] h = same [] h
nearest_value-owner t rs same (n ∷ p) h = rw (same (n ∷ p) h, nearest_value-owner t rs same p h.1) refl

-- a value of a map whose values are seen by f
pub lookup-map : {K X Y : Type 0} (test : K → Bool) (f : X → Y) (es : List (K × X))
    → lookup test (map (λ e. (e.0, f e.1)) es) ≡ option_map f (lookup test es)
lookup-map test f [] = refl
lookup-map test f (e ∷ es) = by_test (test e.0) (lookup-map test f es)
  where
    by_test : (b : Bool) → lookup test (map (λ e. (e.0, f e.1)) es) ≡ option_map f (lookup test es)
        → cond b (Some (f e.1)) (lookup test (map (λ e. (e.0, f e.1)) es)) ≡ option_map f
        (cond b (Some e.1) (lookup test es))
    by_test true rest = refl
    by_test false rest = rest

-- the rows under a name, as a manifest's map has them
pub at-registry : {S : Type 0} (n : List ℕ) (es : List (List ℕ × HashMap (List ℕ) Package S))
    → at n (map (λ e. (e.0, e.1.entries)) es) ≡ option_map (λ m. m.entries) (lookup (bytes_eq n) es)
at-registry n es = lookup-map (bytes_eq n) (λ m. m.entries) es

-- the references that are excluded under a name
pub at-exclusions : {S : Type 0} (n : List ℕ) (es : List (List ℕ × HashSet (List ℕ) S))
    → at n (map (λ e. (e.0, e.1.keys)) es) ≡ option_map (λ s. s.keys) (lookup (bytes_eq n) es)
at-exclusions n es = lookup-map (bytes_eq n) (λ s. s.keys) es

-- a value put at a key, with the values seen by f
pub map-insert_entry : {K X Y : Type 0} (eq : K → K → Bool) (f : X → Y) (es : List (K × X)) (k : K) (v : X)
    → map (λ e. (e.0, f e.1)) (insert_entry eq es k v) ≡ insert_entry eq (map (λ e. (e.0, f e.1)) es) k (f v)
map-insert_entry eq f [] k v = refl
map-insert_entry eq f (e ∷ es) k v = by_test (eq k e.0) (map-insert_entry eq f es k v)
  where
    by_test : (b : Bool) → map (λ e. (e.0, f e.1)) (insert_entry eq es k v) ≡ insert_entry eq
        (map (λ e. (e.0, f e.1)) es) k (f v)
        → map (λ e. (e.0, f e.1)) (cond b ((e.0, v) ∷ es) (e ∷ insert_entry eq es k v)) ≡ cond b
        ((e.0, f v) ∷ map (λ e. (e.0, f e.1)) es) ((e.0, f e.1) ∷ insert_entry eq (map (λ e. (e.0, f e.1)) es) k
        (f v))
    by_test true rest = refl
    by_test false rest = ap (λ s. (e.0, f e.1) ∷ s) rest

pub map-insert-set : {S : Type 0} (es : List (List ℕ × HashSet (List ℕ) S)) (k : List ℕ) (v : HashSet (List ℕ) S)
    → map (λ e. (e.0, e.1.keys)) (insert_entry bytes_eq es k v) ≡ insert_entry bytes_eq (map (λ e. (e.0, e.1.keys)) es)
    k v.keys
map-insert-set es k v = map-insert_entry bytes_eq (λ s. s.keys) es k v

pub map-insert-rows : {S : Type 0} (es : List (List ℕ × HashMap (List ℕ) Package S)) (k : List ℕ)
    (v : HashMap (List ℕ) Package S) → map (λ e. (e.0, e.1.entries)) (insert_entry bytes_eq es k v) ≡ insert_entry
    bytes_eq (map (λ e. (e.0, e.1.entries)) es) k v.entries
map-insert-rows es k v = map-insert_entry bytes_eq (λ m. m.entries) es k v

insert_all-push : {A : Type 0} (es xs : List (List ℕ × A)) (k : List ℕ) (v : A)
    → insert_all bytes_eq es (xs ++ (k, v) ∷ []) ≡ insert_entry bytes_eq (insert_all bytes_eq es xs) k v
insert_all-push es [] k v = refl
insert_all-push es (x ∷ xs) k v = insert_all-push (insert_entry bytes_eq es x.0 x.1) xs k v

-- one more pair is put behind those so far
pub entries_of-push : {A : Type 0} (xs : List (List ℕ × A)) (k : List ℕ) (v : A)
    → entries_of (xs ++ (k, v) ∷ []) ≡ insert_entry bytes_eq (entries_of xs) k v
entries_of-push xs k v = insert_all-push [] xs k v

-- one more pair whose name may be null is put behind those so far
pub entries_of-named : {A : Type 0} (xs : List (Option (List ℕ) × A)) (k : Option (List ℕ)) (v : A)
    → entries_of (map named (xs ++ (k, v) ∷ [])) ≡ insert_entry bytes_eq (entries_of (map named xs)) (unwrap_or k []) v
entries_of-named {A} xs k v =
    ap entries_of (map-append (named {A = A}) xs ((k, v) ∷ [])) ∙ entries_of-push (map named xs) (unwrap_or k []) v
