-- What the look-ups of entries by names hold.
use Rattle.std.proofs.Common.{
  ◌≡◌,
  ◌≢◌,
  ◌⊎◌,
  ◌==◌,
  ◌&&◌,
  ◌||◌,
  ◌++◌,
  ℕ,
  Bool,
  true,
  false,
  cond,
  List,
  [],
  ◌∷◌,
  Some,
  None,
  bytes_eq,
  codes,
  map,
  inl,
  inr,
  refl,
  sym,
  ap,
  ◌∙◌,
  subst,
}
use Rattle.std.specs.List.{list_any}
use Rattle.std.specs.HashSet.{contains_text}
use Rattle.std.proofs.lemmas.Bool.Decides.{eqb_tells}
use Rattle.std.proofs.lemmas.List.{map-append}
use Rattle.std.proofs.lemmas.List.Folds.{list_any-append}
use Rattle.sugar_path.specs.Front.{after}
use Rattle.lock_checks.proofs.EntryPlaces.{texts_keyed}
use Rattle.lock_checks.proofs.FirstPlaces.{swapped}
use Rattle.lock_checks.proofs.Texts.{joined-none, joined-some}
use Rattle.lock_checks.specs.Naming.{names_locator}
use Rattle.pnp_core.specs.declared.manifest.PackageLocator.{PackageLocator}
use Rattle.pnp_core.specs.Manifest.{Row}
use Rattle.yarn_lock_parser.specs.Entry.{Entry}
use Rattle.lock_audit.specs.declared.names.Names.{Names}
use Rattle.lock_audit.specs.Entries.{has_name}
use Rattle.lock_audit.specs.Names.{Adds, AreNamesOf, contains_release, is_release, is_released_as, is_resolution}

or_false : (b : Bool) → (b || false) ≡ b
or_false true = refl
or_false false = refl

pub cond_or : (b c : Bool) → cond b true c ≡ (b || c)
cond_or true c = refl
cond_or false c = refl

or_moved : (x y z : Bool) → (y || (x || z)) ≡ ((x || y) || z)
or_moved true true z = refl
or_moved true false z = refl
or_moved false true z = refl
or_moved false false z = refl

-- no package has names yet
pub adds_none : (names : Names) → Adds names names []
adds_none names = record { resolutions = λ text. refl; releases = λ name version. refl }

-- one package's names
pub adds_one : (old new : Names) (l : PackageLocator)
    → ((text : List ℕ) → contains_text new.resolutions text ≡
    (is_resolution text l || contains_text old.resolutions text))
    → ((name version : List ℕ) → contains_release new.releases name version ≡
    (is_released_as name version l || contains_release old.releases name version))
    → Adds old new (l ∷ [])
adds_one old new l resolved released = record {
  resolutions =
      λ text. resolved text ∙ ap (λ b. b || contains_text old.resolutions text) (sym (or_false (is_resolution text l)));
  releases = λ name version. released name version
      ∙ ap (λ b. b || contains_release old.releases name version) (sym (or_false (is_released_as name version l)));
}

-- the names of some packages, and then those of others
pub adds_then : (old mid new : Names) (ls ms : List PackageLocator) → Adds old mid ls → Adds mid new ms
    → Adds old new (ls ++ ms)
adds_then old mid new ls ms first second = record {
  resolutions = λ text. second.resolutions text
      ∙ ap (λ b. list_any (is_resolution text) ms || b) (first.resolutions text)
      ∙ or_moved (list_any (is_resolution text) ls) (list_any (is_resolution text) ms)
      (contains_text old.resolutions text)
      ∙ ap (λ b. b || contains_text old.resolutions text) (sym (list_any-append (is_resolution text) ls ms));
  releases = λ name version. second.releases name version
      ∙ ap (λ b. list_any (is_released_as name version) ms || b) (first.releases name version)
      ∙ or_moved (list_any (is_released_as name version) ls) (list_any (is_released_as name version) ms)
      (contains_release old.releases name version)
      ∙ ap (λ b. b || contains_release old.releases name version)
      (sym (list_any-append (is_released_as name version) ls ms));
}

-- the names of the packages of some rows, and then of others
pub adds_rows : (old mid new : Names) (xs ys : List Row) → Adds old mid (map (λ row. row.0) xs)
    → Adds mid new (map (λ row. row.0) ys) → Adds old new (map (λ row. row.0) (xs ++ ys))
adds_rows old mid new xs ys first second =
    let P : List PackageLocator → Type 0 = Adds old new in
    subst P (sym (map-append (λ (row : Row). row.0) xs ys)) (adds_then old mid new (map (λ row. row.0) xs)
    (map (λ row. row.0) ys) first second)

-- beside no other names they are all
pub are_names : (empty names : Names) (ls : List PackageLocator) → empty.resolutions.keys ≡ []
    → empty.releases.keys ≡ [] → Adds empty names ls → AreNamesOf names ls
are_names empty names ls unresolved unreleased adds = record {
  resolutions = λ text. adds.resolutions text
      ∙ rw unresolved (or_false (list_any (is_resolution text) ls));
  releases = λ name version. adds.releases name version
      ∙ rw unreleased (or_false (list_any (is_released_as name version) ls));
}

either_way : (r s v p q : Bool) → ((r || (v && p)) || (s || (v && q))) ≡ ((r || s) || (v && (p || q)))
either_way true s v p q = refl
either_way false s false p q = refl
either_way false true true true q = refl
either_way false true true false q = refl
either_way false false true true q = refl
either_way false false true false q = refl

neither : (v : Bool) → false ≡ (false || (v && false))
neither true = refl
neither false = refl

-- an entry names one of the packages by its resolution, or in a lock of version 1 by its release
pub named_either : (version : ℕ) (e : Entry) (ls : List PackageLocator)
    → has_name version ls e ≡ (list_any (is_resolution e.resolved) ls
    || ((version == 1) && list_any (is_released_as e.name e.version) ls))
named_either version e [] = neither (version == 1)
named_either version e (l ∷ ls) =
    ap (λ b. names_locator e version l || b) (named_either version e ls)
    ∙ either_way (is_resolution e.resolved l) (list_any (is_resolution e.resolved) ls) (version == 1)
    (is_released_as e.name e.version l) (list_any (is_released_as e.name e.version) ls)

pub named_by : (names : Names) (version : ℕ) (e : Entry) (ls : List PackageLocator) → AreNamesOf names ls
    → (contains_text names.resolutions e.resolved
    || ((version == 1) && contains_release names.releases e.name e.version)) ≡ has_name version ls e
named_by names version e ls are =
    ap (λ b. b || ((version == 1) && contains_release names.releases e.name e.version)) (are.resolutions e.resolved)
    ∙ ap (λ b. list_any (is_resolution e.resolved) ls || ((version == 1) && b)) (are.releases e.name e.version)
    ∙ sym (named_either version e ls)

-- by what is looked up first
pub named_by_resolution : (names : Names) (version : ℕ) (e : Entry) (ls : List PackageLocator) → AreNamesOf names ls
    → contains_text names.resolutions e.resolved ≡ true → true ≡ has_name version ls e
named_by_resolution names version e ls are there =
    ap (λ b. b || ((version == 1) && contains_release names.releases e.name e.version)) (sym there)
    ∙ named_by names version e ls are

pub named_by_release : (names : Names) (version : ℕ) (e : Entry) (ls : List PackageLocator) → AreNamesOf names ls
    → contains_text names.resolutions e.resolved ≡ false → version ≡ 1
    → contains_release names.releases e.name e.version ≡ has_name version ls e
named_by_release names version e ls are absent first =
    ap (λ (n : ℕ). (n == 1) && contains_release names.releases e.name e.version) (sym first)
    ∙ ap (λ b. b || ((version == 1) && contains_release names.releases e.name e.version)) (sym absent)
    ∙ named_by names version e ls are

pub named_by_none : (names : Names) (version : ℕ) (e : Entry) (ls : List PackageLocator) → AreNamesOf names ls
    → contains_text names.resolutions e.resolved ≡ false → version ≢ 1 → (version == 1) ≡ has_name version ls e
named_by_none names version e ls are absent later =
    let other : (version == 1) ≡ false = by_test (eqb_tells version 1) in
    other
    ∙ ap (λ b. b && contains_release names.releases e.name e.version) (sym other)
    ∙ ap (λ b. b || ((version == 1) && contains_release names.releases e.name e.version)) (sym absent)
    ∙ named_by names version e ls are
  where
    by_test : ((version == 1) ≡ true) × (version ≡ 1) ⊎ ((version == 1) ≡ false) × (version ≢ 1)
        → (version == 1) ≡ false
    by_test (inl first) = absurd (later first.1)
    by_test (inr other) = other.0

-- a reference that begins with `npm:` is that of a release, and no other is
pub released : (own reference version : List ℕ) (name other : List ℕ) → Some version ≡ after (codes "npm:") reference
    → (bytes_eq own name && bytes_eq version other) ≡ is_release own reference name other
released own reference version name other is =
    ap (λ b. b && bytes_eq version other) (swapped bytes_eq texts_keyed own name)
    ∙ ap (λ b. bytes_eq name own && b) (joined-some (codes "npm:") other reference version is)

and_false : (b : Bool) → (b && false) ≡ false
and_false true = refl
and_false false = refl

pub unreleased : (own reference : List ℕ) (name other : List ℕ) → None ≡ after (codes "npm:") reference
    → is_release own reference name other ≡ false
unreleased own reference name other is =
    ap (λ b. bytes_eq name own && b) (sym (joined-none (codes "npm:") other reference is))
    ∙ and_false (bytes_eq name own)
