-- Where the entries that name a package stand.
use Rattle.std.proofs.Common.{
  ◌≡◌,
  ◌==◌,
  ◌&&◌,
  ◌++◌,
  ℕ,
  Bool,
  true,
  false,
  List,
  Option,
  Some,
  None,
  Bor,
  bytes_eq,
  codes,
  is_some,
  ◌≢◌,
  ◌⊎◌,
  inl,
  inr,
  refl,
  sym,
  ap,
  ◌∙◌,
}
use Rattle.std.proofs.lemmas.Bool.Decides.{eqb_tells}
use Rattle.std.proofs.lemmas.Slice.Eq.{bytes_eq-Decides}
use Rattle.sugar_path.specs.Front.{after}
use Rattle.yarn_lock_parser.specs.Entry.{Entry}
use Rattle.lock_checks.specs.Naming.{has_release, has_resolution, names}
use Rattle.lock_checks.specs.Places.{earlier, first_place, is_released_as}
use Rattle.lock_checks.proofs.FirstPlaces.{IsKeyed, first_place-never, first_place-or, first_place-same, swapped}
use Rattle.lock_checks.proofs.Texts.{joined-none, joined-some}

pub texts_keyed : IsKeyed bytes_eq
texts_keyed = record { is = λ q r h. (bytes_eq-Decides q r).0 h; self = λ q. (bytes_eq-Decides q q).1 refl }

-- a text as a look-up borrows it
abbrev pub lent_at : List ℕ → Bor (List ℕ)
lent_at text = record { ref_ptr = (0, 0); now = text }

abbrev pub both_eq : List ℕ × List ℕ → List ℕ × List ℕ → Bool
both_eq q r = bytes_eq q.0 r.0 && bytes_eq q.1 r.1

both_are : (a b : Bool) → (a && b) ≡ true → (a ≡ true) × (b ≡ true)
both_are true b h = (refl, h)
both_are false b h = cc

both : (a b : Bool) → a ≡ true → b ≡ true → (a && b) ≡ true
both a b h k = rw (h, k) refl

pub pairs_keyed : IsKeyed both_eq
pairs_keyed = record {
  is = λ q r h.
      let parts = both_are (bytes_eq q.0 r.0) (bytes_eq q.1 r.1) h in
      let first = texts_keyed.is q.0 r.0 parts.0 in
      let second = texts_keyed.is q.1 r.1 parts.1 in
      (λ i. (first i, second i));
  self = λ q. both (bytes_eq q.0 q.0) (bytes_eq q.1 q.1) (texts_keyed.self q.0) (texts_keyed.self q.1);
}

never : (a b c : Bool) → false ≡ c → (a && (b && c)) ≡ false
never true true c is = sym is
never true false c is = refl
never false b c is = refl

-- what a test of presence tells
pub is_none : {A : Type 0} (o : Option A) → is_some o ≡ false → o ≡ None
is_none None h = refl
is_none (Some a) h = cc

pub some_in : {A : Type 0} (o : Option A) → is_some o ≡ true → (a : A) × (o ≡ Some a)
some_in None h = cc
some_in (Some a) h = (a, refl)

-- a reference that isn't npm's is that of no release
pub no_release : (lock_version : ℕ) (name reference : List ℕ) (entries : List Entry)
    → None ≡ after (codes "npm:") reference → None ≡ first_place
    (λ e. (lock_version == 1) && has_release e name reference) entries
no_release lock_version name reference entries is =
    sym (first_place-never (λ e. (lock_version == 1) && has_release e name reference) entries
    (λ e. never (lock_version == 1) (bytes_eq e.name name) (bytes_eq reference (codes "npm:" ++ e.version))
    (joined-none (codes "npm:") e.version reference is)))

-- a reference that is npm's is that of a release of its version
pub of_release : (lock_version : ℕ) (name reference version : List ℕ) (entries : List Entry)
    → Some version ≡ after (codes "npm:") reference
    → first_place (is_released_as lock_version name version) entries ≡ first_place
    (λ e. (lock_version == 1) && has_release e name reference) entries
of_release lock_version name reference version entries is =
    first_place-same (is_released_as lock_version name version)
    (λ e. (lock_version == 1) && has_release e name reference) entries
    (λ e. rw (swapped bytes_eq texts_keyed name e.name, joined-some (codes "npm:") e.version reference version is) refl)

-- the entries that are resolved to a package, and those that are released as it, are all that name it
pub of_either : (lock_version : ℕ) (name reference text : List ℕ) (entries : List Entry) → text ≡ name ++ codes "@"
    ++ reference → earlier (first_place (λ e. bytes_eq text e.resolved) entries)
    (first_place (λ e. (lock_version == 1) && has_release e name reference) entries) ≡ first_place
    (λ e. names e lock_version name reference) entries
of_either lock_version name reference text entries is =
    ap (λ o. earlier o (first_place (λ e. (lock_version == 1) && has_release e name reference) entries))
    (first_place-same (λ e. bytes_eq text e.resolved) (λ e. has_resolution e name reference) entries
    (λ e. swapped bytes_eq texts_keyed text e.resolved ∙ ap (bytes_eq e.resolved) is))
    ∙ sym (first_place-or (λ e. has_resolution e name reference)
    (λ e. (lock_version == 1) && has_release e name reference) entries)

-- a lock of another version has no releases
pub no_releases : (lock_version : ℕ) (name version : List ℕ) (entries : List Entry) → lock_version ≢ 1
    → None ≡ first_place (is_released_as lock_version name version) entries
no_releases lock_version name version entries other =
    let is : (lock_version == 1) ≡ false = by_test (eqb_tells lock_version 1) in
    sym (first_place-never (is_released_as lock_version name version) entries (λ e. rw is refl))
  where
    by_test : ((lock_version == 1) ≡ true) × (lock_version ≡ 1) ⊎ ((lock_version == 1) ≡ false) × (lock_version ≢ 1)
        → (lock_version == 1) ≡ false
    by_test (inl first) = absurd (other first.1)
    by_test (inr later) = later.0
