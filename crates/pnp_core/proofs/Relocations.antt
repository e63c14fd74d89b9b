-- Rows that get their locations, and the trie that finds them there.
use Rattle.std.proofs.Common.{
  ◌≡◌,
  ℕ,
  zero,
  suc,
  Bool,
  true,
  false,
  cond,
  List,
  [],
  ◌∷◌,
  ◌++◌,
  length,
  map,
  refl,
  rules,
  sym,
  ap,
  ◌∙◌,
  Option,
  Some,
  None,
}
use Rattle.std.specs.Prelude.{slice_get, option_map, option_and_then, bytes_eq, is_some, IsSome}
use Rattle.std.specs.List.{AllByRecursion}
use Rattle.std.specs.Map.{values_of}
use Rattle.indexmap.specs.Layout.{set_value_at}
use Rattle.indexmap.specs.IndexMap.{insert_all}
use Rattle.std.specs.HashMap.{HashMap}
use Rattle.sugar_path.specs.Path.{Path, IsPath, is_absolute, path_eq, join, parent, text_of}
use Rattle.pnp_core.specs.declared.manifest.PackageLocator.{PackageLocator}
use Rattle.pnp_core.specs.NormalizePath.{location_path}
use Rattle.std.specs.Option.{option_or}
use Rattle.pnp_core.specs.Manifest.{
  Contents,
  Dependencies,
  Package,
  Registry,
  Row,
  at,
  top_level,
  locator,
  rows,
  rows_under,
  package_at,
}
use Rattle.pnp_core.specs.ManifestReading.{located, located_rows, located_registry, filled_by, initialized}
use Rattle.pnp_core.specs.Owner.{owns, last_at, IsLocated}
use Rattle.pnp_core.specs.Relocated.{changed, placed, locations_of, all_locations, overlaid, missing_from}
use Rattle.pnp_core.specs.Trie.{Locations, Puts, value_at}
use Rattle.pnp_core.proofs.Owners.{lookup-map}
use Rattle.pnp_core.proofs.Normal.{
  location_path-normalize_path,
  normalize_path-twice,
  normalize_path-absolute,
  join-absolute,
}

-- ---- one value changed after the other, the last one first

pub changed-last : {K X W : Type 0} (f : X → W → X) (es : List (K × X)) (ws : List W) (w : W) (v : X)
    → slice_get (values_of es) (length ws) ≡ Some v
    → changed f es (ws ++ w ∷ []) ≡ changed f (set_value_at es (length ws) (f v w)) ws
changed-last f [] [] w v here = cc
changed-last f [] (x ∷ ws) w v here = cc
changed-last f (e ∷ es) [] w v here = let same : e.1 ≡ v = cc in ap (λ y. (e.0, f y w) ∷ es) same
changed-last f (e ∷ es) (x ∷ ws) w v here = ap (λ s. (e.0, f e.1 x) ∷ s) (changed-last f es ws w v here)

pub changed-past : {K X W : Type 0} (f : X → W → X) (es : List (K × X)) (ws : List W) (w : W)
    → slice_get (values_of es) (length ws) ≡ None → changed f es (ws ++ w ∷ []) ≡ changed f es ws
changed-past f [] [] w here = refl
changed-past f [] (x ∷ ws) w here = refl
changed-past f (e ∷ es) [] w here = cc
changed-past f (e ∷ es) (x ∷ ws) w here = ap (λ s. (e.0, f e.1 x) ∷ s) (changed-past f es ws w here)

-- the rows of one name, each at its location
changed-placed : (dir : List ℕ) (es : List (List ℕ × Package))
    → changed placed es (locations_of dir es) ≡ located_rows dir es
changed-placed dir [] = refl
changed-placed dir (e ∷ es) = ap (λ s. (e.0, located dir e.1) ∷ s) (changed-placed dir es)

-- all rows
pub changed-all : (dir : List ℕ) (reg : Registry)
    → changed (changed placed) reg (all_locations dir reg) ≡ located_registry dir reg
changed-all dir [] = refl
changed-all dir (named ∷ reg) = rw (changed-placed dir named.1, changed-all dir reg) refl

-- ---- rows over a trie

option_or-none : {A : Type 0} (x : Option A) → option_or x None ≡ x
option_or-none None = refl
option_or-none (Some a) = refl

option_or-assoc : {A : Type 0} (x y z : Option A) → option_or (option_or x y) z ≡ option_or x (option_or y z)
option_or-assoc None y z = refl
option_or-assoc (Some a) y z = refl

last_at-append : (rs ss : List Row) (l : Path) → last_at (rs ++ ss) l ≡ option_or (last_at ss l) (last_at rs l)
last_at-append [] ss l = sym (option_or-none (last_at ss l))
last_at-append (r ∷ rs) ss l =
    rw (last_at-append rs ss l) (option_or-assoc (last_at ss l) (last_at rs l) (cond (owns r l) (Some r.0) None))

pub overlaid-append : (rs ss : List Row) (old new : Locations PackageLocator) (l : Path)
    → value_at new l ≡ overlaid rs old l → overlaid ss new l ≡ overlaid (rs ++ ss) old l
overlaid-append rs ss old new l e =
    rw (e, last_at-append rs ss l) (sym (option_or-assoc (last_at ss l) (last_at rs l) (value_at old l)))

-- nothing lies under the rows of an empty trie
pub overlaid-nil : (rs : List Row) (l : Path) → overlaid rs [] l ≡ last_at rs l
overlaid-nil rs l = option_or-none (last_at rs l)

-- a discarded row changes nothing
pub overlaid-past : (n r : List ℕ) (p : Package) (t : Locations PackageLocator) (l : Path)
    → p.discard_from_lookup ≡ true → value_at t l ≡ overlaid ((locator n r, p) ∷ []) t l
overlaid-past n r p t l e = rw e refl

pub overlaid-discarded : (dir n r : List ℕ) (p : Package) (t : Locations PackageLocator) (l : Path)
    → p.discard_from_lookup ≡ true → value_at t l ≡ overlaid ((locator n r, located dir p) ∷ []) t l
overlaid-discarded dir n r p t l e = overlaid-past n r (located dir p) t l e

-- another row owns its location
pub overlaid-own : (n r : List ℕ) (p : Package) (old new : Locations PackageLocator) (l : Path) → IsPath l
    → p.discard_from_lookup ≡ false → Puts old new (location_path p.package_location) (locator n r)
    → value_at new l ≡ overlaid ((locator n r, p) ∷ []) old l
overlaid-own n r p old new l path kept puts =
    puts l path ∙ rw kept (by_test (path_eq (location_path p.package_location) l))
  where
    by_test : (b : Bool) → cond b (Some (locator n r)) (value_at old l) ≡ option_or (cond b (Some (locator n r)) None)
        (value_at old l)
    by_test true = refl
    by_test false = refl

pub overlaid-row : (dir n r : List ℕ) (p : Package) (old new : Locations PackageLocator) (l : Path)
    → is_absolute dir ≡ true → IsPath l → p.discard_from_lookup ≡ false
    → Puts old new (location_path (join dir p.package_location)) (locator n r)
    → value_at new l ≡ overlaid ((locator n r, located dir p) ∷ []) old l
overlaid-row dir n r p old new l abs path kept puts =
    overlaid-own n r (located dir p) old new l path kept (rw
    (location_path-normalize_path (join dir p.package_location) (join-absolute dir p.package_location abs)) puts)

-- ---- a manifest is ready

All-append : (rs ss : List Row) → AllByRecursion IsLocated rs → AllByRecursion IsLocated ss
    → AllByRecursion IsLocated (rs ++ ss)
All-append [] ss h k = k
All-append (r ∷ rs) ss h k = (h.0, All-append rs ss h.1 k)

located-under : (dir n : List ℕ) (es : List (List ℕ × Package)) → is_absolute dir ≡ true
    → AllByRecursion IsLocated (rows_under (n, located_rows dir es))
located-under dir n [] abs = tt
located-under dir n (e ∷ es) abs =
    let whole = join-absolute dir e.1.package_location abs in (
      (
        normalize_path-absolute (join dir e.1.package_location) whole,
        normalize_path-twice (join dir e.1.package_location) whole,
      ),
      located-under dir n es abs,
    )

pub located-all : (dir : List ℕ) (reg : Registry) → is_absolute dir ≡ true
    → AllByRecursion IsLocated (rows (located_registry dir reg))
located-all dir [] abs = tt
located-all dir (named ∷ reg) abs = All-append (rows_under (named.0, located_rows dir named.1))
    (rows (located_registry dir reg)) (located-under dir named.0 named.1 abs) (located-all dir reg abs)

pub package_at-located : (dir : List ℕ) (reg : Registry) (l : PackageLocator)
    → package_at (located_registry dir reg) l ≡ option_map (located dir) (package_at reg l)
package_at-located dir reg l = rw (lookup-map (λ k. bytes_eq l.name k) (located_rows dir) reg) (by_rows (at l.name reg))
  where
    by_rows : (o : Option (List (List ℕ × Package)))
        → option_and_then (at l.reference) (option_map (located_rows dir) o) ≡ option_map (located dir)
        (option_and_then (at l.reference) o)
    by_rows None = refl
    by_rows (Some es) = lookup-map (λ k. bytes_eq l.reference k) (located dir) es

-- ---- rows where the values of a map are seen by a function

values_of-map : {K X Y : Type 0} (g : X → Y) (es : List (K × X)) (i : ℕ) (v : X) → slice_get (values_of es) i ≡ Some v
    → slice_get (values_of (map (λ e. (e.0, g e.1)) es)) i ≡ Some (g v)
values_of-map g [] i v here = cc
values_of-map g (e ∷ es) zero v here = let same : e.1 ≡ v = cc in ap (λ y. Some (g y)) same
values_of-map g (e ∷ es) (suc i) v here = values_of-map g es i v here

values_of-map-none : {K X Y : Type 0} (g : X → Y) (es : List (K × X)) (i : ℕ) → slice_get (values_of es) i ≡ None
    → slice_get (values_of (map (λ e. (e.0, g e.1)) es)) i ≡ None
values_of-map-none g [] i here = refl
values_of-map-none g (e ∷ es) zero here = cc
values_of-map-none g (e ∷ es) (suc i) here = values_of-map-none g es i here

map-set_value_at : {K X Y : Type 0} (g : X → Y) (es : List (K × X)) (i : ℕ) (v : X)
    → map (λ e. (e.0, g e.1)) (set_value_at es i v) ≡ set_value_at (map (λ e. (e.0, g e.1)) es) i (g v)
map-set_value_at g [] i v = refl
map-set_value_at g (e ∷ es) zero v = refl
map-set_value_at g (e ∷ es) (suc i) v = ap (λ s. (e.0, g e.1) ∷ s) (map-set_value_at g es i v)

-- the rows of a name get their locations
pub changed-rows : {S : Type 0} (es : List (List ℕ × HashMap (List ℕ) Package S)) (ws : List (List (List ℕ)))
    (w : List (List ℕ)) (i : ℕ) (old new : HashMap (List ℕ) Package S) → i ≡ length ws
    → slice_get (values_of es) i ≡ Some old → new.entries ≡ changed placed old.entries w
    → changed (changed placed) (map (λ named. (named.0, named.1.entries)) (set_value_at es i new)) ws ≡ changed
    (changed placed) (map (λ named. (named.0, named.1.entries)) es) (ws ++ w ∷ [])
changed-rows es ws w i old new index here is =
    rw (map-set_value_at (λ m. m.entries) es i new, is, index)
    (sym (changed-last (changed placed) (map (λ named. (named.0, named.1.entries)) es) ws w old.entries
    (rw index at (values_of-map (λ m. m.entries) es i old here))))

pub changed-rows-past : {S : Type 0} (es : List (List ℕ × HashMap (List ℕ) Package S)) (ws : List (List (List ℕ)))
    (w : List (List ℕ)) (i : ℕ) → i ≡ length ws → slice_get (values_of es) i ≡ None
    → changed (changed placed) (map (λ named. (named.0, named.1.entries)) es) ws ≡ changed (changed placed)
    (map (λ named. (named.0, named.1.entries)) es) (ws ++ w ∷ [])
changed-rows-past es ws w i index here =
    sym (changed-past (changed placed) (map (λ named. (named.0, named.1.entries)) es) ws w
    (rw index at (values_of-map-none (λ m. m.entries) es i here)))

-- the top-level row is still there
pub some-located : (dir : List ℕ) (reg : Registry) (l : PackageLocator) → is_some (package_at reg l) ≡ true
    → IsSome (package_at (located_registry dir reg) l)
some-located dir reg l h = rw (package_at-located dir reg l) (by_package (package_at reg l) h)
  where
    by_package : (o : Option Package) → is_some o ≡ true → IsSome (option_map (located dir) o)
    by_package None h = cc
    by_package (Some p) h = search rules

-- the pool with what it lacks
pub filled_by-missing : (pool : Dependencies) (o : Option Package)
    → insert_all bytes_eq pool (missing_from pool o) ≡ filled_by pool o
filled_by-missing pool None = refl
filled_by-missing pool (Some p) = refl

-- a manifest with these texts, pool and rows is initialized
pub initialized-is : (m : Contents) (p : Path) (dir path : List ℕ) (pool : Dependencies) (reg : Registry)
    → dir ≡ text_of (parent p) → path ≡ text_of p
    → pool ≡ filled_by m.fallback_pool (package_at m.package_registry_data top_level)
    → reg ≡ located_registry dir m.package_registry_data
    → record m { manifest_dir = dir; manifest_path = path; fallback_pool = pool; package_registry_data = reg } ≡
    initialized p m
initialized-is m p dir path pool reg dir_is path_is pool_is reg_is = rw (reg_is, pool_is, dir_is, path_is) refl
