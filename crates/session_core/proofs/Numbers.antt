-- Entries by numbers: what is looked up, taken out and moved to the front.
use Rattle.std.proofs.Common.{◌≡◌, ◌<◌, ◌+◌, ◌-◌, ◌^◌, ℕ, zero, suc, Bool, true, false, not, cond, nat_eq, List, []}
use Rattle.std.proofs.Common.{◌∷◌, ◌++◌, take, filter, length, Option, Some, None, IfNone, IfSome, refl, sym, ap, ◌∙◌}
use Rattle.std.proofs.Common.{subst, arith}
use Rattle.std.specs.Prelude.{slice_get}
use Rattle.std.specs.List.{AllByRecursion, IsDistinct}
use Rattle.std.specs.Map.{lookup, lookup_entry, remove_entry, keys_of}
use Rattle.std.proofs.lemmas.Bool.Decides.{Decides-eqb}
use Rattle.lru.specs.LruCache.{LruCache, promoted, put_entries, displaced}
use Rattle.swc_loader.specs.declared.resolution.FileName.{FileName}
use Rattle.session_core.specs.declared.latest.Entry.{Entry}
use Rattle.session_core.specs.Entries.{is_for, same_request, kept_for, moved_first}
use Rattle.session_core.specs.Numbered.{entries_in, IsNumberOf, IsNumbered}
use Rattle.session_core.proofs.Lists.{filter-all, filter-fails, all-take, distinct-take, find-none}
use Rattle.session_core.proofs.Requests.{same_request-is, apart-first, is_for-itself}

-- without an entry that passes, those that fail are the same
pub filter-removed : (P : Entry → Bool) (n : ℕ) (es : List (ℕ × Entry)) (e : Entry) → lookup (nat_eq n) es ≡ Some e →
    P e ≡ true → filter (λ x. not (P x)) (entries_in (remove_entry (nat_eq n) es))
    ≡ filter (λ x. not (P x)) (entries_in es)
filter-removed P n [] e found pass = cc
filter-removed P n (x ∷ es) e found pass = by_test (nat_eq n x.0) found (filter-removed P n es e)
  where
    by_test : (b : Bool) → cond b (Some x.1) (lookup (nat_eq n) es) ≡ Some e
        → (lookup (nat_eq n) es ≡ Some e → P e ≡ true →
        filter (λ x. not (P x)) (entries_in (remove_entry (nat_eq n) es)) ≡ filter (λ x. not (P x)) (entries_in es))
        → filter (λ x. not (P x)) (entries_in (cond b es (x ∷ remove_entry (nat_eq n) es)))
        ≡ filter (λ x. not (P x)) (x.1 ∷ entries_in es)
    by_test true found later = let same : x.1 ≡ e = cc in let passed : P x.1 ≡ true = rw same pass in rw passed refl
    by_test false found later = ap (λ xs. cond (not (P x.1)) (x.1 ∷ xs) xs) (later found pass)

-- and there is one less
pub length-removed : (n : ℕ) (es : List (ℕ × Entry)) (e : Entry) → lookup (nat_eq n) es ≡ Some e →
    length (remove_entry (nat_eq n) es) + 1 ≡ length es
length-removed n [] e found = cc
length-removed n (x ∷ es) e found = by_test (nat_eq n x.0) found (length-removed n es e)
  where
    by_test : (b : Bool) → cond b (Some x.1) (lookup (nat_eq n) es) ≡ Some e
        → (lookup (nat_eq n) es ≡ Some e → length (remove_entry (nat_eq n) es) + 1 ≡ length es)
        → length (cond b es (x ∷ remove_entry (nat_eq n) es)) + 1 ≡ length (x ∷ es)
    by_test true found later = omega arith
    by_test false found later = let rest = later found in omega (arith, rest)

all-lookup : (P : Entry → Type 0) (n : ℕ) (es : List (ℕ × Entry)) (e : Entry) → AllByRecursion P (entries_in es) →
    lookup (nat_eq n) es ≡ Some e → P e
all-lookup P n [] e all found = cc
all-lookup P n (x ∷ es) e all found = by_test (nat_eq n x.0) found (all-lookup P n es e all.1)
  where
    by_test : (b : Bool) → cond b (Some x.1) (lookup (nat_eq n) es) ≡ Some e → (lookup (nat_eq n) es ≡ Some e → P e) →
        P e
    by_test true found later = let same : x.1 ≡ e = cc in subst P same all.0
    by_test false found later = later found

-- what is apart from an entry of a request isn't of that request
fails-apart : (importer : FileName) (specifier : List ℕ) (x e : Entry) → is_for importer specifier e ≡ true →
    same_request x e ≡ false → is_for importer specifier x ≡ false
fails-apart importer specifier x e pass apart = by_test (is_for importer specifier x) refl
  where
    by_test : (b : Bool) → is_for importer specifier x ≡ b → b ≡ false
    by_test true h = let same = same_request-is importer specifier x e h in cc
    by_test false h = refl

others-fail : (importer : FileName) (specifier : List ℕ) (x : Entry) (xs : List Entry) →
    is_for importer specifier x ≡ true → AllByRecursion (λ y. same_request x y ≡ false) xs →
    AllByRecursion (λ y. is_for importer specifier y ≡ false) xs
others-fail importer specifier x [] pass all = tt
others-fail importer specifier x (y ∷ xs) pass all =
    (sym (same_request-is importer specifier x y pass) ∙ all.0, others-fail importer specifier x xs pass all.1)

-- the entry of a request is found by its number or by the request
pub find-alone : (importer : FileName) (specifier : List ℕ) (n : ℕ) (es : List (ℕ × Entry)) (e : Entry) →
    IsDistinct same_request (entries_in es) → lookup (nat_eq n) es ≡ Some e → is_for importer specifier e ≡ true →
    kept_for importer specifier (entries_in es) ≡ Some e
unfolding IsDistinct
find-alone importer specifier n [] e d found pass = cc
find-alone importer specifier n (x ∷ es) e d found pass =
    by_test (nat_eq n x.0) found (find-alone importer specifier n es e d.1)
  where
    by_test : (b : Bool) → cond b (Some x.1) (lookup (nat_eq n) es) ≡ Some e
        → (lookup (nat_eq n) es ≡ Some e → is_for importer specifier e ≡ true →
        kept_for importer specifier (entries_in es) ≡ Some e)
        → cond (is_for importer specifier x.1) (Some x.1) (kept_for importer specifier (entries_in es)) ≡ Some e
    by_test true found later = let same : x.1 ≡ e = cc in let passed : is_for importer specifier x.1 ≡ true =
        rw same pass in rw passed (ap Some same)
    by_test false found later =
        let apart = all-lookup (λ y. same_request x.1 y ≡ false) n es e d.0 found in
        rw (fails-apart importer specifier x.1 e pass apart) (later found pass)

-- without it, the others are left
pub filter-alone : (importer : FileName) (specifier : List ℕ) (n : ℕ) (es : List (ℕ × Entry)) (e : Entry) →
    IsDistinct same_request (entries_in es) → lookup (nat_eq n) es ≡ Some e → is_for importer specifier e ≡ true →
    entries_in (remove_entry (nat_eq n) es) ≡ filter (λ x. not (is_for importer specifier x)) (entries_in es)
unfolding IsDistinct
filter-alone importer specifier n [] e d found pass = cc
filter-alone importer specifier n (x ∷ es) e d found pass =
    by_test (nat_eq n x.0) found (filter-alone importer specifier n es e d.1)
  where
    by_test : (b : Bool) → cond b (Some x.1) (lookup (nat_eq n) es) ≡ Some e
        → (lookup (nat_eq n) es ≡ Some e → is_for importer specifier e ≡ true →
        entries_in (remove_entry (nat_eq n) es) ≡ filter (λ x. not (is_for importer specifier x)) (entries_in es))
        → entries_in (cond b es (x ∷ remove_entry (nat_eq n) es))
        ≡ filter (λ x. not (is_for importer specifier x)) (x.1 ∷ entries_in es)
    by_test true found later =
        let same : x.1 ≡ e = cc in
        let passed : is_for importer specifier x.1 ≡ true = rw same pass in
        rw passed (sym (filter-all (is_for importer specifier) (entries_in es)
        (others-fail importer specifier x.1 (entries_in es) passed d.0)))
    by_test false found later =
        let apart = all-lookup (λ y. same_request x.1 y ≡ false) n es e d.0 found in
        rw (fails-apart importer specifier x.1 e pass apart) (ap (λ xs. x.1 ∷ xs) (later found pass))

-- the pair of a number
pair-found : (n : ℕ) (es : List (ℕ × Entry)) (e : Entry) → lookup (nat_eq n) es ≡ Some e →
    lookup_entry (nat_eq n) es ≡ Some (n, e)
pair-found n [] e found = cc
pair-found n (x ∷ es) e found = by_test (nat_eq n x.0) refl found (pair-found n es e)
  where
    by_test : (b : Bool) → nat_eq n x.0 ≡ b → cond b (Some x.1) (lookup (nat_eq n) es) ≡ Some e
        → (lookup (nat_eq n) es ≡ Some e → lookup_entry (nat_eq n) es ≡ Some (n, e))
        → cond b (Some x) (lookup_entry (nat_eq n) es) ≡ Some (n, e)
    by_test true is found later = let same : x.1 ≡ e = cc in let number : n ≡ x.0 = (Decides-eqb n x.0).0 is in
        ap (λ k. Some (k, x.1)) (sym number) ∙ ap (λ y. Some (n, y)) same
    by_test false is found later = later found

all-pair : (P : ℕ × Entry → Type 0) (n : ℕ) (es : List (ℕ × Entry)) (p : ℕ × Entry) → AllByRecursion P es →
    lookup_entry (nat_eq n) es ≡ Some p → P p
all-pair P n [] p all found = cc
all-pair P n (x ∷ es) p all found = by_test (nat_eq n x.0) found (all-pair P n es p all.1)
  where
    by_test : (b : Bool) → cond b (Some x) (lookup_entry (nat_eq n) es) ≡ Some p →
        (lookup_entry (nat_eq n) es ≡ Some p → P p) → P p
    by_test true found later = let same : x ≡ p = cc in subst P same all.0
    by_test false found later = later found

pub all-removed : {X : Type 0} (P : ℕ × X → Type 0) (n : ℕ) (es : List (ℕ × X)) → AllByRecursion P es →
    AllByRecursion P (remove_entry (nat_eq n) es)
all-removed P n [] all = tt
all-removed P n (x ∷ es) all = by_test (nat_eq n x.0) (all-removed P n es all.1)
  where
    by_test : (b : Bool) → AllByRecursion P (remove_entry (nat_eq n) es) →
        AllByRecursion P (cond b es (x ∷ remove_entry (nat_eq n) es))
    by_test true rest = all.1
    by_test false rest = (all.0, rest)

all-entries-removed : (P : Entry → Type 0) (n : ℕ) (es : List (ℕ × Entry)) → AllByRecursion P (entries_in es) →
    AllByRecursion P (entries_in (remove_entry (nat_eq n) es))
all-entries-removed P n [] all = tt
all-entries-removed P n (x ∷ es) all = by_test (nat_eq n x.0) (all-entries-removed P n es all.1)
  where
    by_test : (b : Bool) → AllByRecursion P (entries_in (remove_entry (nat_eq n) es)) →
        AllByRecursion P (entries_in (cond b es (x ∷ remove_entry (nat_eq n) es)))
    by_test true rest = all.1
    by_test false rest = (all.0, rest)

distinct-removed : (n : ℕ) (es : List (ℕ × Entry)) → IsDistinct same_request (entries_in es) →
    IsDistinct same_request (entries_in (remove_entry (nat_eq n) es))
unfolding IsDistinct
distinct-removed n [] d = tt
distinct-removed n (x ∷ es) d = by_test (nat_eq n x.0) (distinct-removed n es d.1)
  where
    by_test : (b : Bool) → IsDistinct same_request (entries_in (remove_entry (nat_eq n) es)) →
        IsDistinct same_request (entries_in (cond b es (x ∷ remove_entry (nat_eq n) es)))
    by_test true rest = d.1
    by_test false rest = (all-entries-removed (λ y. same_request x.1 y ≡ false) n es d.0, rest)

nat_eq-sym : (m n : ℕ) → nat_eq m n ≡ false → nat_eq n m ≡ false
nat_eq-sym m n h = by_test (nat_eq n m) refl
  where
    by_test : (b : Bool) → nat_eq n m ≡ b → b ≡ false
    by_test true e = let same : n ≡ m = (Decides-eqb n m).0 e in let again : nat_eq m n ≡ true =
        (Decides-eqb m n).1 (sym same) in cc
    by_test false e = refl

-- without the entry of a number, none has the number
pub others-removed : (n : ℕ) (es : List (ℕ × Entry)) → IsDistinct nat_eq (keys_of es) →
    AllByRecursion (λ x. nat_eq n x.0 ≡ false) (remove_entry (nat_eq n) es)
unfolding IsDistinct
others-removed n [] d = tt
others-removed n (x ∷ es) d = by_test (nat_eq n x.0) refl (others-removed n es d.1)
  where
    others : (k : ℕ) (es : List (ℕ × Entry)) → n ≡ k → AllByRecursion (λ y. nat_eq k y ≡ false) (keys_of es) →
        AllByRecursion (λ x. nat_eq n x.0 ≡ false) es
    others k [] same all = tt
    others k (y ∷ es) same all = (ap (λ m. nat_eq m y.0) same ∙ all.0, others k es same all.1)

    by_test : (b : Bool) → nat_eq n x.0 ≡ b →
        AllByRecursion (λ y. nat_eq n y.0 ≡ false) (remove_entry (nat_eq n) es) →
        AllByRecursion (λ y. nat_eq n y.0 ≡ false) (cond b es (x ∷ remove_entry (nat_eq n) es))
    by_test true is rest = others x.0 es ((Decides-eqb n x.0).0 is) d.0
    by_test false is rest = (is, rest)

keys-all : (P : ℕ → Type 0) (es : List (ℕ × Entry)) → AllByRecursion (λ x. P x.0) es → AllByRecursion P (keys_of es)
keys-all P [] all = tt
keys-all P (x ∷ es) all = (all.0, keys-all P es all.1)

pub all-keys : (P : ℕ → Type 0) (es : List (ℕ × Entry)) → AllByRecursion P (keys_of es) → AllByRecursion (λ x. P x.0) es
all-keys P [] all = tt
all-keys P (x ∷ es) all = (all.0, all-keys P es all.1)

numbers-removed : (n : ℕ) (es : List (ℕ × Entry)) → IsDistinct nat_eq (keys_of es) →
    IsDistinct nat_eq (keys_of (remove_entry (nat_eq n) es))
unfolding IsDistinct
numbers-removed n [] d = tt
numbers-removed n (x ∷ es) d = by_test (nat_eq n x.0) (numbers-removed n es d.1)
  where
    by_test : (b : Bool) → IsDistinct nat_eq (keys_of (remove_entry (nat_eq n) es)) →
        IsDistinct nat_eq (keys_of (cond b es (x ∷ remove_entry (nat_eq n) es)))
    by_test true rest = d.1
    by_test false rest = (
      keys-all (λ y. nat_eq x.0 y ≡ false) (remove_entry (nat_eq n) es)
          (all-removed (λ y. nat_eq x.0 y.0 ≡ false) n es (all-keys (λ y. nat_eq x.0 y ≡ false) es d.0)),
      rest,
    )

-- an entry taken out leaves the others numbered
pub numbered-removed : (next n : ℕ) (es : List (ℕ × Entry)) → IsNumbered next es →
    IsNumbered next (remove_entry (nat_eq n) es)
numbered-removed next n es h = record {
  apart = distinct-removed n es h.apart;
  numbers = numbers-removed n es h.numbers;
  below = all-removed (λ e. e.0 < next) n es h.below;
  fits = h.fits;
}

-- The entry of a request moves to the front.
pub entries-promoted : (importer : FileName) (specifier : List ℕ) (n : ℕ) (es : List (ℕ × Entry)) →
    IsDistinct same_request (entries_in es) → IsNumberOf (is_for importer specifier) es n →
    entries_in (promoted (nat_eq n) es) ≡ moved_first importer specifier (entries_in es)
    (kept_for importer specifier (entries_in es))
entries-promoted importer specifier n es d h =
    rw (pair-found n es h.entry h.found, find-alone importer specifier n es h.entry d h.found h.passes)
    (ap (λ xs. h.entry ∷ xs) (filter-alone importer specifier n es h.entry d h.found h.passes))

distinct-first : (n : ℕ) (es : List (ℕ × Entry)) → AllByRecursion (λ x. nat_eq n x.0 ≡ false) es →
    IsDistinct nat_eq (keys_of es) → IsDistinct nat_eq (n ∷ keys_of es)
unfolding IsDistinct
distinct-first n es others d = (keys-all (λ y. nat_eq n y ≡ false) es others, d)

pub numbered-promoted : (importer : FileName) (specifier : List ℕ) (next n : ℕ) (es : List (ℕ × Entry)) →
    IsNumbered next es → IsNumberOf (is_for importer specifier) es n → IsNumbered next (promoted (nat_eq n) es)
numbered-promoted importer specifier next n es numbered h =
    rw (pair-found n es h.entry h.found) (record {
      apart = apart-first importer specifier h.entry (entries_in (remove_entry (nat_eq n) es)) h.passes
          (rw (filter-alone importer specifier n es h.entry numbered.apart h.found h.passes)
          (filter-fails (is_for importer specifier) (entries_in es)))
          (distinct-removed n es numbered.apart);
      numbers = distinct-first n (remove_entry (nat_eq n) es) (others-removed n es numbered.numbers)
          (numbers-removed n es numbered.numbers);
      below = (
        all-pair (λ e. e.0 < next) n es (n, h.entry) numbered.below (pair-found n es h.entry h.found),
        all-removed (λ e. e.0 < next) n es numbered.below,
      );
      fits = numbered.fits;
    })

-- what holds of each numbered entry holds of each then
pub all-promoted : (P : ℕ × Entry → Type 0) (test : Entry → Bool) (n : ℕ) (es : List (ℕ × Entry)) →
    IsNumberOf test es n → AllByRecursion P es → AllByRecursion P (promoted (nat_eq n) es)
all-promoted P test n es h all =
    rw (pair-found n es h.entry h.found) (
      all-pair P n es (n, h.entry) all (pair-found n es h.entry h.found),
      all-removed P n es all,
    )

-- a number that none has yet
none-numbered : (n : ℕ) (es : List (ℕ × Entry)) → AllByRecursion (λ e. e.0 < n) es → lookup_entry (nat_eq n) es ≡ None
none-numbered n [] all = refl
none-numbered n (x ∷ es) all = by_test (nat_eq n x.0) refl (none-numbered n es all.1)
  where
    by_test : (b : Bool) → nat_eq n x.0 ≡ b → lookup_entry (nat_eq n) es ≡ None →
        cond b (Some x) (lookup_entry (nat_eq n) es) ≡ None
    by_test true e rest = let same : n ≡ x.0 = (Decides-eqb n x.0).0 e in let lt = all.0 in
        absurd (omega (arith, lt, same))
    by_test false e rest = rest

entries-take : (n : ℕ) (es : List (ℕ × Entry)) → entries_in (take n es) ≡ take n (entries_in es)
entries-take zero es = refl
entries-take (suc n) [] = refl
entries-take (suc n) (x ∷ es) = ap (λ xs. x.1 ∷ xs) (entries-take n es)

all-more : (n : ℕ) (es : List (ℕ × Entry)) → AllByRecursion (λ e. e.0 < n) es → AllByRecursion (λ e. e.0 < n + 1) es
all-more n [] all = tt
all-more n (x ∷ es) all = (let lt = all.0 in omega (arith, lt), all-more n es all.1)

-- A new entry is put in front.
pub put-new : (cache : LruCache ℕ Entry) (n : ℕ) (e : Entry) → AllByRecursion (λ x. x.0 < n) cache.entries →
    put_entries nat_eq cache n e ≡ (n, e) ∷ take (cache.cap - 1) cache.entries
put-new cache n e all = rw (none-numbered n cache.entries all) refl

none-looked_up : (n : ℕ) (es : List (ℕ × Entry)) → AllByRecursion (λ e. e.0 < n) es → lookup (nat_eq n) es ≡ None
none-looked_up n [] all = refl
none-looked_up n (x ∷ es) all = by_test (nat_eq n x.0) refl (none-looked_up n es all.1)
  where
    by_test : (b : Bool) → nat_eq n x.0 ≡ b → lookup (nat_eq n) es ≡ None →
        cond b (Some x.1) (lookup (nat_eq n) es) ≡ None
    by_test true e rest = let same : n ≡ x.0 = (Decides-eqb n x.0).0 e in let lt = all.0 in
        absurd (omega (arith, lt, same))
    by_test false e rest = rest

-- the last of a full list goes for it
pub displaced-new : (cache : LruCache ℕ Entry) (n : ℕ) (e : Entry) → AllByRecursion (λ x. x.0 < n) cache.entries →
    displaced nat_eq cache n e ≡ slice_get cache.entries (cache.cap - 1)
displaced-new cache n e all = rw (none-looked_up n cache.entries all) refl

pub entries-put : (cap n : ℕ) (e : Entry) (es : List (ℕ × Entry)) →
    entries_in ((n, e) ∷ take (cap - 1) es) ≡ e ∷ take (cap - 1) (entries_in es)
entries-put cap n e es = ap (λ xs. e ∷ xs) (entries-take (cap - 1) es)

keys-take : (n : ℕ) (es : List (ℕ × Entry)) → keys_of (take n es) ≡ take n (keys_of es)
keys-take zero es = refl
keys-take (suc n) [] = refl
keys-take (suc n) (x ∷ es) = ap (λ ks. x.0 ∷ ks) (keys-take n es)

-- a number that is above all differs from each
pub below-differ : (n : ℕ) (es : List (ℕ × Entry)) → AllByRecursion (λ x. x.0 < n) es →
    AllByRecursion (λ x. nat_eq n x.0 ≡ false) es
below-differ n [] all = tt
below-differ n (x ∷ es) all = (by_test (nat_eq n x.0) refl, below-differ n es all.1)
  where
    by_test : (b : Bool) → nat_eq n x.0 ≡ b → b ≡ false
    by_test true e = let same : n ≡ x.0 = (Decides-eqb n x.0).0 e in let lt = all.0 in absurd (omega (arith, lt, same))
    by_test false e = refl

pub numbered-put : (cap n : ℕ) (e : Entry) (es : List (ℕ × Entry)) → IsNumbered n es →
    kept_for e.importer e.specifier (entries_in es) ≡ None → n + 1 < 2 ^ 64 →
    IsNumbered (n + 1) ((n, e) ∷ take (cap - 1) es)
numbered-put cap n e es h new fits = record {
  apart = rw (entries-take (cap - 1) es) (apart-first e.importer e.specifier e (take (cap - 1) (entries_in es))
      (is_for-itself e)
      (all-take (λ f. is_for e.importer e.specifier f ≡ false) (cap - 1) (entries_in es)
      (find-none (is_for e.importer e.specifier) (entries_in es) new))
      (distinct-take same_request (cap - 1) (entries_in es) h.apart));
  numbers = distinct-first n (take (cap - 1) es) (all-take (λ x. nat_eq n x.0 ≡ false) (cap - 1) es
      (below-differ n es h.below)) (rw (keys-take (cap - 1) es)
      (distinct-take nat_eq (cap - 1) (keys_of es) h.numbers));
  below = (omega arith, all-take (λ x. x.0 < n + 1) (cap - 1) es (all-more n es h.below));
  fits = fits;
}

-- the entry that goes as the last has a number that none of those before it has
pub last-apart : (k : ℕ) (es : List (ℕ × Entry)) → IsDistinct nat_eq (keys_of es) →
    IfSome (slice_get es k) (λ gone. AllByRecursion (λ x. nat_eq gone.0 x.0 ≡ false) (take k es))
unfolding IsDistinct
last-apart k [] d = tt
last-apart zero (x ∷ es) d = tt
last-apart (suc k) (x ∷ es) d = by_last (slice_get es k) refl (last-apart k es d.1)
  where
    at : (P : ℕ → Type 0) (k : ℕ) (es : List (ℕ × Entry)) (gone : ℕ × Entry) → slice_get es k ≡ Some gone →
        AllByRecursion P (keys_of es) → P gone.0
    at P k [] gone is all = cc
    at P zero (y ∷ es) gone is all = let same : y ≡ gone = cc in subst (λ (z : ℕ × Entry). P z.0) same all.0
    at P (suc k) (y ∷ es) gone is all = at P k es gone is all.1

    by_last : (o : Option (ℕ × Entry)) → slice_get es k ≡ o →
        IfSome o (λ gone. AllByRecursion (λ y. nat_eq gone.0 y.0 ≡ false) (take k es)) →
        IfSome o (λ gone. AllByRecursion (λ y. nat_eq gone.0 y.0 ≡ false) (x ∷ take k es))
    by_last None is rest = tt
    by_last (Some gone) is rest = (nat_eq-sym x.0 gone.0 (at (λ q. nat_eq x.0 q ≡ false) k es gone is d.0), rest)

pub last-below : (k n : ℕ) (es : List (ℕ × Entry)) → AllByRecursion (λ x. nat_eq n x.0 ≡ false) es →
    IfSome (slice_get es k) (λ gone. nat_eq gone.0 n ≡ false)
last-below k n [] all = tt
last-below zero n (x ∷ es) all = nat_eq-sym n x.0 all.0
last-below (suc k) n (x ∷ es) all = last-below k n es all.1

-- In a list whose numbers are distinct each entry is found by its number.
pub lookup-at : (front rest : List (ℕ × Entry)) (n : ℕ) (e : Entry) →
    IsDistinct nat_eq (keys_of (front ++ (n, e) ∷ rest)) → lookup (nat_eq n) (front ++ (n, e) ∷ rest) ≡ Some e
unfolding IsDistinct
lookup-at [] rest n e d = rw ((Decides-eqb n n).1 refl) refl
lookup-at (x ∷ front) rest n e d = rw (differs x.0 front d.0) (lookup-at front rest n e d.1)
  where
    passed : (P : ℕ → Type 0) (front : List (ℕ × Entry)) → AllByRecursion P (keys_of (front ++ (n, e) ∷ rest)) → P n
    passed P [] all = all.0
    passed P (y ∷ front) all = passed P front all.1

    differs : (k : ℕ) (front : List (ℕ × Entry)) →
        AllByRecursion (λ q. nat_eq k q ≡ false) (keys_of (front ++ (n, e) ∷ rest)) → nat_eq n k ≡ false
    differs k front all = by_test (nat_eq n k) refl (passed (λ q. nat_eq k q ≡ false) front all)
      where
        by_test : (b : Bool) → nat_eq n k ≡ b → nat_eq k n ≡ false → b ≡ false
        by_test true same other = let is : n ≡ k = (Decides-eqb n k).0 same in let again : nat_eq k n ≡ true =
            (Decides-eqb k n).1 (sym is) in cc
        by_test false same other = refl

-- of pairs, or of entries
pub all-entries : (P : Entry → Type 0) (es : List (ℕ × Entry)) → AllByRecursion (λ x. P x.1) es →
    AllByRecursion P (entries_in es)
all-entries P [] all = tt
all-entries P (x ∷ es) all = (all.0, all-entries P es all.1)

-- with no entry of a request there is none to find
pub none-kept : (importer : FileName) (specifier : List ℕ) (es : List (ℕ × Entry)) →
    AllByRecursion (λ x. is_for importer specifier x.1 ≡ false) es → kept_for importer specifier (entries_in es) ≡ None
none-kept importer specifier [] all = refl
none-kept importer specifier (x ∷ es) all = rw all.0 (none-kept importer specifier es all.1)

pub none-entries : (P : Entry → Bool) (o : Option ℕ) (es : List (ℕ × Entry)) →
    IfNone o (AllByRecursion (λ x. P x.1 ≡ false) es) → IfNone o (AllByRecursion (λ e. P e ≡ false) (entries_in es))
none-entries P None es all = all-entries (λ e. P e ≡ false) es all
none-entries P (Some n) es all = tt
