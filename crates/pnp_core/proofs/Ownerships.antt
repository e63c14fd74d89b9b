-- The owner that the nearest folder and the last row give is the one locator that owns a path.
use Rattle.std.proofs.Common.{
  ◌≡◌,
  ◌≢◌,
  ◌⊎◌,
  inl,
  inr,
  ℕ,
  ◌-◌,
  ◌≤◌,
  Bool,
  true,
  false,
  not,
  ◌&&◌,
  cond,
  List,
  [],
  ◌∷◌,
  ◌++◌,
  length,
  drop,
  Option,
  Some,
  None,
  refl,
  sym,
  ap,
  ◌∙◌,
  arith,
}
use Rattle.std.specs.List.{AllByRecursion, Contains}
use Rattle.std.proofs.lemmas.List.{length-append}
use Rattle.std.proofs.lemmas.List.Prefix.{end_rest}
use Rattle.std.proofs.lemmas.List.Elements.{All-from_recursion, All-contains, Contains-append_right}
use Rattle.sugar_path.specs.Path.{Path, path_eq, text_of}
use Rattle.sugar_path.specs.PathEq.{path_eq-Decides}
use Rattle.pnp_core.specs.declared.manifest.PackageLocator.{PackageLocator}
use Rattle.std.specs.Option.{option_or}
use Rattle.pnp_core.specs.Manifest.{Contents, Row, rows}
use Rattle.pnp_core.specs.Owner.{owns, last_at, nearest_owner, is_ignored, owner}
use Rattle.pnp_core.specs.Ownership.{names, row_location, IsComponentPrefix, Claims, IsIgnored, Owns, OwnerOwns}
use Rattle.pnp_core.proofs.Ignored.{ignored-tells, ignored-from}

-- ---- facts of each element

each : {A : Type 0} {P : A → Type 0} → ((a : A) → P a) → (xs : List A) → AllByRecursion P xs
each f [] = tt
each f (x ∷ xs) = (f x, each f xs)

mapped : {A : Type 0} {P Q : A → Type 0} → ((a : A) → P a → Q a) → (xs : List A) → AllByRecursion P xs
    → AllByRecursion Q xs
mapped f [] h = tt
mapped f (x ∷ xs) h = (f x h.0, mapped f xs h.1)

of_both : {A : Type 0} {P Q R : A → Type 0} → ((a : A) → P a → Q a → R a) → (xs : List A) → AllByRecursion P xs
    → AllByRecursion Q xs → AllByRecursion R xs
of_both f [] h k = tt
of_both f (x ∷ xs) h k = (f x h.0 k.0, of_both f xs h.1 k.1)

-- ---- rows at one location

-- the last row that owns a location
record HasLast (rs : List Row) (q : Path) (l : PackageLocator) : Type 0 where
  earlier : List Row
  row : Row
  later : List Row
  in_order : rs ≡ earlier ++ row ∷ later
  locator : row.0 ≡ l
  here : owns row q ≡ true
  last : AllByRecursion (λ other. owns other q ≡ false) later

last_at-none : (rs : List Row) (q : Path) → last_at rs q ≡ None → AllByRecursion (λ row. owns row q ≡ false) rs
last_at-none [] q h = tt
last_at-none (row ∷ rest) q h = by_rest (last_at rest q) refl h (λ k. last_at-none rest q k)
  where
    by_test : (b : Bool) → owns row q ≡ b → cond b (Some row.0) None ≡ None → owns row q ≡ false
    by_test true e g = absurd (cc)
    by_test false e g = e

    by_rest : (o : Option PackageLocator) → last_at rest q ≡ o
        → option_or o (cond (owns row q) (Some row.0) None) ≡ None
        → (last_at rest q ≡ None → AllByRecursion (λ other. owns other q ≡ false) rest)
        → AllByRecursion (λ other. owns other q ≡ false) (row ∷ rest)
    by_rest (Some k) e g f = absurd (cc)
    by_rest None e g f = (by_test (owns row q) refl g, f e)

last_at-some : (rs : List Row) (q : Path) (l : PackageLocator) → last_at rs q ≡ Some l → HasLast rs q l
last_at-some [] q l h = absurd (cc)
last_at-some (row ∷ rest) q l h = by_rest (last_at rest q) refl h (λ k. last_at-some rest q l k)
  where
    by_test : (b : Bool) → owns row q ≡ b → cond b (Some row.0) None ≡ Some l
        → AllByRecursion (λ other. owns other q ≡ false) rest → HasLast (row ∷ rest) q l
    by_test true e g none =
        record { earlier = []; row = row; later = rest; in_order = refl; locator = cc; here = e; last = none }
    by_test false e g none = absurd (cc)

    by_rest : (o : Option PackageLocator) → last_at rest q ≡ o
        → option_or o (cond (owns row q) (Some row.0) None) ≡ Some l
        → (last_at rest q ≡ Some l → HasLast rest q l)
        → HasLast (row ∷ rest) q l
    by_rest (Some k) e g f =
        let w = f (e ∙ g) in
        record {
          earlier = row ∷ w.earlier;
          row = w.row;
          later = w.later;
          in_order = ap (λ rs. row ∷ rs) w.in_order;
          locator = w.locator;
          here = w.here;
          last = w.last;
        }
    by_rest None e g f = by_test (owns row q) refl g (last_at-none rest q e)

-- a row owns a location exactly where it isn't discarded and the location is its own
owns-tells : (row : Row) (q : Path) → owns row q ≡ true → (row.1.discard_from_lookup ≡ false) × (row_location row ≡ q)
owns-tells row q h = by_tests row.1.discard_from_lookup (path_eq (row_location row) q) refl refl h
  where
    by_tests : (a b : Bool) → row.1.discard_from_lookup ≡ a → path_eq (row_location row) q ≡ b → (not a && b) ≡ true
        → (row.1.discard_from_lookup ≡ false) × (row_location row ≡ q)
    by_tests false true e g k = (e, (path_eq-Decides (row_location row) q).0 g)
    by_tests false false e g k = absurd (cc)
    by_tests true b e g k = absurd (cc)

owns-from : (row : Row) (q : Path) → row.1.discard_from_lookup ≡ false → row_location row ≡ q → owns row q ≡ true
owns-from row q kept same = rw (kept, (path_eq-Decides (row_location row) q).1 same) refl

-- ---- the nearest location

-- a location that a row claims is no longer than the path
claims-length : (row : Row) (p : Path) → Claims row p → length (row_location row) ≤ length p
claims-length row p h =
    let e = ap length h.component_prefix.1 in
    omega (arith, e, length-append h.component_prefix.0 (row_location row))

-- a row that claims a path has it as its location, or claims the folder above it
claims-up : (row : Row) (n : List ℕ) (p : Path) → Claims row (n ∷ p) → (row_location row ≡ n ∷ p) ⊎ Claims row p
claims-up row n p h = by_names h.component_prefix.0 h.component_prefix.1
  where
    by_names : (q : Path) → n ∷ p ≡ q ++ row_location row → (row_location row ≡ n ∷ p) ⊎ Claims row p
    by_names [] e = inl (sym e)
    by_names (m ∷ q) e =
        let rest : p ≡ q ++ row_location row = cc in inr (record { kept = h.kept; component_prefix = (q, rest) })

-- a row that doesn't own a path and claims it claims the folder above it
claims-higher : (row : Row) (n : List ℕ) (p : Path) → owns row (n ∷ p) ≡ false → Claims row (n ∷ p) → Claims row p
claims-higher row n p other h = by_up (claims-up row n p h)
  where
    by_up : (row_location row ≡ n ∷ p) ⊎ Claims row p → Claims row p
    by_up (inl same) = let here = owns-from row (n ∷ p) h.kept same in absurd (cc)
    by_up (inr up) = up

-- the nearest of the locations of rows, and the last row that owns it
record HasNearest (rs : List Row) (p : Path) (l : PackageLocator) : Type 0 where
  location : Path
  component_prefix : IsComponentPrefix location p
  at_it : HasLast rs location l
  longest : AllByRecursion (λ row. Claims row p → length (row_location row) ≤ length location) rs

-- a row whose location is a component prefix of `/` stands there
claims-root : (row : Row) → Claims row [] → row_location row ≡ []
claims-root row h = by_names h.component_prefix.0 h.component_prefix.1
  where
    by_names : (q : Path) → [] ≡ q ++ row_location row → row_location row ≡ []
    by_names [] e = sym e
    by_names (m ∷ q) e = absurd (cc)

no_claim-root : (row : Row) → owns row [] ≡ false → ¬ Claims row []
no_claim-root row other h = let here = owns-from row [] h.kept (claims-root row h) in absurd (cc)

nearest_owner-none : (rs : List Row) (p : Path) → nearest_owner rs p ≡ None → AllByRecursion (λ row. ¬ Claims row p) rs
nearest_owner-none rs [] h = mapped no_claim-root rs (last_at-none rs [] h)
nearest_owner-none rs (n ∷ p) h = by_here (last_at rs (n ∷ p)) refl h (λ k. nearest_owner-none rs p k)
  where
    by_here : (o : Option PackageLocator) → last_at rs (n ∷ p) ≡ o → option_or o (nearest_owner rs p) ≡ None
        → (nearest_owner rs p ≡ None → AllByRecursion (λ row. ¬ Claims row p) rs)
        → AllByRecursion (λ row. ¬ Claims row (n ∷ p)) rs
    by_here (Some k) e g f = absurd (cc)
    by_here None e g f = of_both (λ row other none claims. none (claims-higher row n p other claims)) rs
        (last_at-none rs (n ∷ p) e) (f g)

nearest_owner-some : (rs : List Row) (p : Path) (l : PackageLocator) → nearest_owner rs p ≡ Some l → HasNearest rs p l
nearest_owner-some rs [] l h = record {
  location = [];
  component_prefix = ([], refl);
  at_it = last_at-some rs [] l h;
  longest = each (λ row claims. claims-length row [] claims) rs;
}
nearest_owner-some rs (n ∷ p) l h = by_here (last_at rs (n ∷ p)) refl h (λ k. nearest_owner-some rs p l k)
  where
    by_here : (o : Option PackageLocator) → last_at rs (n ∷ p) ≡ o → option_or o (nearest_owner rs p) ≡ Some l
        → (nearest_owner rs p ≡ Some l → HasNearest rs p l)
        → HasNearest rs (n ∷ p) l
    by_here (Some k) e g f = record {
      location = n ∷ p;
      component_prefix = ([], refl);
      at_it = last_at-some rs (n ∷ p) l (e ∙ g);
      longest = each (λ row claims. claims-length row (n ∷ p) claims) rs;
    }
    by_here None e g f =
        let w = f g in
        record {
          location = w.location;
          component_prefix = (n ∷ w.component_prefix.0, ap (λ q. n ∷ q) w.component_prefix.1);
          at_it = w.at_it;
          longest = of_both (λ row other longest claims. longest (claims-higher row n p other claims)) rs
              (last_at-none rs (n ∷ p) e) w.longest;
        }

-- ---- the relation

-- where a row claims a path, its location is no longer than this one
abbrev IsNoLonger : Path → Path → Row → Type 0
IsNoLonger p k other = Claims other p → length (row_location other) ≤ length k

-- where a row claims a path, its location is another
abbrev IsApart : Path → Path → Row → Type 0
IsApart p k other = Claims other p → row_location other ≢ k

-- the nearest location's owner, whatever is ignored
abbrev located_owner : Contents → Path → Option PackageLocator
located_owner m p = nearest_owner (rows m.package_registry_data) (names p)

owns-located : (m : Contents) (p : Path) (l : PackageLocator) → ¬ IsIgnored m p → located_owner m p ≡ Some l
    → Owns m p l
owns-located m p l watched h =
    let w = nearest_owner-some (rows m.package_registry_data) (names p) l h in
    let tells = owns-tells w.at_it.row w.location w.at_it.here in
    record {
      watched = watched;
      earlier = w.at_it.earlier;
      row = w.at_it.row;
      later = w.at_it.later;
      in_order = w.at_it.in_order;
      locator = w.at_it.locator;
      claims = record {
        kept = tells.0;
        component_prefix =
            (w.component_prefix.0, w.component_prefix.1 ∙ ap (λ q. w.component_prefix.0 ++ q) (sym tells.1));
      };
      longest =
          rw tells.1 (All-from_recursion (IsNoLonger (names p) w.location) (rows m.package_registry_data) w.longest);
      last = rw tells.1 (All-from_recursion (IsApart (names p) w.location) w.at_it.later
          (mapped (apart w.location) w.at_it.later w.at_it.last));
    }
  where
    apart : (q : Path) (other : Row) → owns other q ≡ false → IsApart (names p) q other
    apart q other none claims same = let here = owns-from other q claims.kept same in absurd (cc)

owns-from_owner : (m : Contents) (p : Path) (l : PackageLocator) → owner m p ≡ Some l → Owns m p l
owns-from_owner m p l h = by_test (is_ignored m (text_of p)) refl h
  where
    by_test : (b : Bool) → is_ignored m (text_of p) ≡ b → cond b None (located_owner m p) ≡ Some l → Owns m p l
    by_test true e g = absurd (cc)
    by_test false e g = owns-located m p l (λ ignored. let here = ignored-from m p ignored in absurd (cc)) g

-- a row that stands in a list is an element of it
in_list : (xs ys : List Row) (x : Row) → Contains (xs ++ x ∷ ys) x
in_list xs ys x = Contains-append_right xs (x ∷ ys) x (0, omega arith, refl)

-- of two rows in one list, they are one, or one of them is later
one_later : (xs ys vs ws : List Row) (x v : Row) → xs ++ x ∷ ys ≡ vs ++ v ∷ ws → (x ≡ v)
    ⊎ (Contains ys v ⊎ Contains ws x)
one_later [] ys [] ws x v e = let same : x ≡ v = cc in inl same
one_later [] ys (w ∷ vs) ws x v e = let rest : ys ≡ vs ++ v ∷ ws = cc in inr (inl (rw rest (in_list vs ws v)))
one_later (u ∷ xs) ys [] ws x v e = let rest : ws ≡ xs ++ x ∷ ys = cc in inr (inr (rw rest (in_list xs ys x)))
one_later (u ∷ xs) ys (w ∷ vs) ws x v e = let rest : xs ++ x ∷ ys ≡ vs ++ v ∷ ws = cc in one_later xs ys vs ws x v rest

-- two component prefixes of one length are one
prefixes-same : (p k l : Path) → IsComponentPrefix k p → IsComponentPrefix l p → length k ≡ length l → k ≡ l
prefixes-same p k l h g e = sym (end_rest p k h.0 h.1) ∙ ap (λ n. drop (length p - n) p) e ∙ end_rest p l g.0 g.1

not_longer : (m : Contents) (p : Path) (k l : PackageLocator) (w : Owns m p k) (v : Owns m p l)
    → length (row_location v.row) ≤ length (row_location w.row)
not_longer m p k l w v =
    All-contains (IsNoLonger (names p) (row_location w.row)) (rows m.package_registry_data) v.row w.longest
    (rw v.in_order (in_list v.earlier v.later v.row)) v.claims

owns-one : (m : Contents) (p : Path) (k l : PackageLocator) → Owns m p k → Owns m p l → k ≡ l
owns-one m p k l w v =
    by_order (one_later w.earlier w.later v.earlier v.later w.row v.row (sym w.in_order ∙ v.in_order))
  where
    same_location : row_location v.row ≡ row_location w.row
    same_location =
        let first = not_longer m p k l w v in
        let second = not_longer m p l k v w in
        prefixes-same (names p) (row_location v.row) (row_location w.row) v.claims.component_prefix
        w.claims.component_prefix (omega arith)

    by_order : (w.row ≡ v.row) ⊎ (Contains w.later v.row ⊎ Contains v.later w.row) → k ≡ l
    by_order (inl same) = sym w.locator ∙ ap (λ (row : Row). row.0) same ∙ v.locator
    by_order (inr (inl later)) =
        absurd (All-contains (IsApart (names p) (row_location w.row)) w.later v.row w.last later v.claims same_location)
    by_order (inr (inr later)) = absurd (All-contains (IsApart (names p) (row_location v.row)) v.later w.row v.last
        later w.claims (sym same_location))

owner-from_owns : (m : Contents) (p : Path) (l : PackageLocator) → Owns m p l → owner m p ≡ Some l
owner-from_owns m p l w = by_test (is_ignored m (text_of p)) refl
  where
    by_owner : (o : Option PackageLocator) → located_owner m p ≡ o → located_owner m p ≡ Some l
    by_owner None e =
        absurd
        (All-contains (λ row. ¬ Claims row (names p)) (rows m.package_registry_data) w.row
        (All-from_recursion (λ row. ¬ Claims row (names p)) (rows m.package_registry_data)
        (nearest_owner-none (rows m.package_registry_data) (names p) e))
        (rw w.in_order (in_list w.earlier w.later w.row)) w.claims)
    by_owner (Some k) e = e ∙ ap Some (owns-one m p k l (owns-located m p k w.watched e) w)

    by_test : (b : Bool) → is_ignored m (text_of p) ≡ b → cond b None (located_owner m p) ≡ Some l
    by_test true e = absurd (w.watched (ignored-tells m p e))
    by_test false e = by_owner (located_owner m p) refl

unowned-from_none : (m : Contents) (p : Path) → owner m p ≡ None → (l : PackageLocator) → ¬ Owns m p l
unowned-from_none m p h l w = let some = owner-from_owns m p l w in absurd (cc)

none-from_unowned : (m : Contents) (p : Path) → ((l : PackageLocator) → ¬ Owns m p l) → owner m p ≡ None
none-from_unowned m p none = by_owner (owner m p) refl
  where
    by_owner : (o : Option PackageLocator) → owner m p ≡ o → owner m p ≡ None
    by_owner None e = e
    by_owner (Some k) e = absurd (none k (owns-from_owner m p k e))

pub owner_owns : OwnerOwns
owner_owns = record {
  owned = λ m p l. (owns-from_owner m p l, owner-from_owns m p l);
  unowned = λ m p. (unowned-from_none m p, none-from_unowned m p);
  one = owns-one;
}
