-- Lists that keep what was used last in front: what stands in front after some keys were used, each once.
use Rattle.std.proofs.Common.{
  ◌≡◌,
  ◌≤◌,
  ◌+◌,
  ◌-◌,
  ◌&&◌,
  ◌||◌,
  ℕ,
  Bool,
  true,
  false,
  not,
  cond,
  bytes_eq,
  List,
  [],
  ◌∷◌,
  ◌++◌,
  length,
  map,
  take,
  filter,
  Option,
  Some,
  None,
  is_some,
  refl,
  sym,
  ap,
  ◌∙◌,
  subst,
  arith,
}
use Rattle.std.specs.List.{find, flat_map, list_any, AllByRecursion, IsDistinct}
use Rattle.std.proofs.lemmas.List.{length-map}
use Rattle.std.proofs.Math.Seq.{take-append-add}
use Rattle.std.proofs.lemmas.Map.Keys.{IsDistinct-cons, IsDistinct-head, IsDistinct-tail}

-- no key at all
IsDistinct-none : {K : Type 0} (eq : K → K → Bool) → IsDistinct eq []
unfolding IsDistinct
IsDistinct-none eq = tt

module _ {X K : Type 0} (key : X → K) (eq : K → K → Bool) (exact : (a b : K) → eq a b ≡ true → a ≡ b)
    (same : (a : K) → eq a a ≡ true) (make : K → X) (made : (k : K) → key (make k) ≡ k) where
  -- it is the one with a key
  abbrev has : K → X → Bool
  has k x = eq (key x) k

  -- the one that is kept for a key is used, or a new one
  abbrev pub used_by : ℕ → List X → K → Option X → List X
  used_by room kept k (Some x) = x ∷ filter (λ other. not (has k other)) kept
  used_by room kept k None = make k ∷ take (room - 1) kept

  abbrev pub used : ℕ → List X → K → List X
  used room kept k = used_by room kept k (find (has k) kept)

  abbrev pub used_all : ℕ → List X → List K → List X
  used_all room kept [] = kept
  used_all room kept (k ∷ ks) = used_all room (used room kept k) ks

  -- those in front are those with these keys
  pub record Leads (keys : List K) (kept : List X) : Type 0 where
    pub front : List X
    pub back : List X
    pub whole : kept ≡ front ++ back
    pub keys_are : map key front ≡ keys

  found-has : (k : K) (kept : List X) (x : X) → find (has k) kept ≡ Some x → has k x ≡ true
  found-has k [] x e = cc
  found-has k (y ∷ kept) x e = by_test (has k y) refl e (found-has k kept x)
    where
      by_test : (b : Bool) → has k y ≡ b → cond b (Some y) (find (has k) kept) ≡ Some x
          → (find (has k) kept ≡ Some x → has k x ≡ true) → has k x ≡ true
      by_test true is h rest = let y_is : y ≡ x = cc in ap (has k) (sym y_is) ∙ is
      by_test false is h rest = rest h

  filter-split : (p : X → Bool) (xs ys : List X) → filter p (xs ++ ys) ≡ filter p xs ++ filter p ys
  filter-split p [] ys = refl
  filter-split p (x ∷ xs) ys = by_test (p x) (filter-split p xs ys)
    where
      by_test : (b : Bool) → filter p (xs ++ ys) ≡ filter p xs ++ filter p ys
          → cond b (x ∷ filter p (xs ++ ys)) (filter p (xs ++ ys)) ≡ cond b (x ∷ filter p xs) (filter p xs)
          ++ filter p ys
      by_test true rest = ap (λ zs. x ∷ zs) rest
      by_test false rest = rest

  -- none of some has a key that isn't among theirs
  pub filter-others : (k : K) (xs : List X) → list_any (λ other. eq other k) (map key xs) ≡ false
      → filter (λ other. not (has k other)) xs ≡ xs
  filter-others k [] none = refl
  filter-others k (x ∷ xs) none = by_test (has k x) refl none (filter-others k xs)
    where
      by_test : (b : Bool) → has k x ≡ b → (b || list_any (λ other. eq other k) (map key xs)) ≡ false
          → (list_any (λ other. eq other k) (map key xs) ≡ false → filter (λ other. not (has k other)) xs ≡ xs)
          → cond (not b) (x ∷ filter (λ other. not (has k other)) xs) (filter (λ other. not (has k other)) xs) ≡ x ∷ xs
      by_test true is h rest = cc
      by_test false is h rest = ap (λ ys. x ∷ ys) (rest h)

  -- a key more is used that wasn't used before
  leads-more : (room : ℕ) (keys : List K) (kept : List X) (k : K) → Leads keys kept
      → list_any (λ other. eq other k) keys ≡ false → length keys + 1 ≤ room → Leads (k ∷ keys) (used room kept k)
  leads-more room keys kept k l new few = by_found (find (has k) kept) refl
    where
      in_front : list_any (λ other. eq other k) (map key l.front) ≡ false
      in_front = ap (list_any (λ other. eq other k)) l.keys_are ∙ new

      by_found : (o : Option X) → find (has k) kept ≡ o → Leads (k ∷ keys) (used_by room kept k o)
      by_found (Some x) is =
          let x_is : key x ≡ k = exact (key x) k (found-has k kept x is) in
          record {
            front = x ∷ l.front;
            back = filter (λ other. not (has k other)) l.back;
            whole = ap (λ xs. x ∷ filter (λ other. not (has k other)) xs) l.whole
                ∙ ap (λ xs. x ∷ xs) (filter-split (λ other. not (has k other)) l.front l.back
                ∙ ap (λ xs. xs ++ filter (λ other. not (has k other)) l.back) (filter-others k l.front in_front));
            keys_are = ap (λ j. j ∷ map key l.front) x_is ∙ ap (λ js. k ∷ js) l.keys_are;
          }
      by_found None is =
          let count : length l.front ≡ length keys = sym (length-map l.front key) ∙ ap length l.keys_are in
          let n : length l.front + (room - 1 - length l.front) ≡ room - 1 = omega (arith, count, few) in
          record {
            front = make k ∷ l.front;
            back = take (room - 1 - length l.front) l.back;
            whole = ap (λ xs. make k ∷ take (room - 1) xs) l.whole
                ∙ ap (λ xs. make k ∷ xs) (ap (λ m. take m (l.front ++ l.back)) (sym n)
                ∙ take-append-add l.front l.back (room - 1 - length l.front));
            keys_are = ap (λ j. j ∷ map key l.front) (made k) ∙ ap (λ js. k ∷ js) l.keys_are;
          }

  -- each key differs from those that were used before it
  abbrev pub AllNew : List K → List K → Type 0
  AllNew keys [] = Unit {0}
  AllNew keys (k ∷ ks) = (list_any (λ other. eq other k) keys ≡ false) × AllNew (k ∷ keys) ks

  -- one is kept for a key
  abbrev pub IsKept : List X → K → Type 0
  IsKept kept k = is_some (find (has k) kept) ≡ true

  kept-front : (keys : List K) (front back : List X) → map key front ≡ keys
      → AllByRecursion (IsKept (front ++ back)) keys
  kept-front keys [] back e = subst (AllByRecursion (IsKept back)) e tt
  kept-front keys (x ∷ front) back e = subst (AllByRecursion (IsKept (x ∷ (front ++ back)))) e (
    ap (λ b. is_some (cond b (Some x) (find (has (key x)) (front ++ back)))) (same (key x)),
    more (map key front) (kept-front (map key front) front back refl),
  )
    where
      one : (k : K) (b : Bool) → is_some (find (has k) (front ++ back)) ≡ true
          → is_some (cond b (Some x) (find (has k) (front ++ back))) ≡ true
      one k true h = refl
      one k false h = h

      more : (ks : List K) → AllByRecursion (IsKept (front ++ back)) ks
          → AllByRecursion (IsKept (x ∷ (front ++ back))) ks
      more [] all = tt
      more (k ∷ ks) all = (one k (has k x) all.0, more ks all.1)

  -- the keys that are used are kept in the end, where there is room for them
  leads-all : (room : ℕ) (keys : List K) (kept : List X) (ks : List K) → Leads keys kept → AllNew keys ks
      → length keys + length ks ≤ room → AllByRecursion (IsKept (used_all room kept ks)) keys
      × AllByRecursion (IsKept (used_all room kept ks)) ks
  leads-all room keys kept [] l new few = (
    subst (λ (xs : List X). AllByRecursion (IsKept xs) keys) (sym l.whole)
        (kept-front keys l.front l.back l.keys_are),
    tt,
  )
  leads-all room keys kept (k ∷ ks) l new few =
      let rest = leads-all room (k ∷ keys) (used room kept k) ks (leads-more room keys kept k l new.0 (omega arith))
      new.1 (omega arith) in
      (rest.0.1, (rest.0.0, rest.1))

  pub all-kept : (room : ℕ) (kept : List X) (ks : List K) → AllNew [] ks → length ks ≤ room
      → AllByRecursion (IsKept (used_all room kept ks)) ks
  all-kept room kept ks new few = (leads-all room [] kept ks
      (record { front = []; back = kept; whole = refl; keys_are = refl }) new (omega arith)).1

  -- ---- keys that are kept
  found-filter : (test p : X → Bool) (xs : List X) → ((x : X) → test x ≡ true → p x ≡ true)
      → is_some (find test xs) ≡ true → is_some (find test (filter p xs)) ≡ true
  found-filter test p [] passes h = h
  found-filter test p (x ∷ xs) passes h = by_tests (test x) (p x) refl refl h (found-filter test p xs passes)
    where
      by_tests : (a b : Bool) → test x ≡ a → p x ≡ b → is_some (cond a (Some x) (find test xs)) ≡ true
          → (is_some (find test xs) ≡ true → is_some (find test (filter p xs)) ≡ true)
          → is_some (find test (cond b (x ∷ filter p xs) (filter p xs))) ≡ true
      by_tests true true t q h rest = rw t refl
      by_tests true false t q h rest = let again = passes x t in cc
      by_tests false true t q h rest = rw t (rest h)
      by_tests false false t q h rest = rest h

  -- what is kept stays kept where what is kept is used
  pub stays-kept : (room : ℕ) (kept : List X) (k other : K) → IsKept kept k → IsKept kept other
      → IsKept (used room kept k) other
  stays-kept room kept k other is_kept h = by_found (find (has k) kept) refl is_kept
    where
      passes : (x : X) → has k x ≡ true → has other x ≡ false → (y : X) → has other y ≡ true → not (has k y) ≡ true
      passes x x_has differs y y_has = by_test (has k y) refl
        where
          by_test : (b : Bool) → has k y ≡ b → not b ≡ true
          by_test true is =
              let one : key x ≡ k = exact (key x) k x_has in
              let two : key y ≡ k = exact (key y) k is in
              let again : has other x ≡ true = ap (λ j. eq j other) (one ∙ sym two) ∙ y_has in cc
          by_test false is = refl

      by_test : (x : X) → has k x ≡ true → (b : Bool) → has other x ≡ b
          → is_some (cond b (Some x) (find (has other) (filter (λ y. not (has k y)) kept))) ≡ true
      by_test x x_has true is = refl
      by_test x x_has false is = found-filter (has other) (λ y. not (has k y)) kept (passes x x_has is) h

      by_found : (o : Option X) → find (has k) kept ≡ o → is_some o ≡ true
          → is_some (find (has other) (used_by room kept k o)) ≡ true
      by_found (Some x) is some = by_test x (found-has k kept x is) (has other x) refl
      by_found None is some = cc

  -- ---- keys that differ
  differ : K → List K → Type 0
  differ k ks = AllByRecursion (λ other. eq k other ≡ false) ks

  none-before : (keys : List K) (k : K) → AllByRecursion (λ other. eq other k ≡ false) keys
      → list_any (λ other. eq other k) keys ≡ false
  none-before [] k all = refl
  none-before (j ∷ keys) k all = ap (λ b. b || list_any (λ other. eq other k) keys) all.0 ∙ none-before keys k all.1

  -- keys of which no two are equal are each new
  new-behind : (keys ks : List K) → AllByRecursion (λ k. AllByRecursion (λ other. eq other k ≡ false) keys) ks
      → IsDistinct eq ks → AllNew keys ks
  new-behind keys [] all distinct = tt
  new-behind keys (k ∷ ks) all distinct = (
    none-before keys k all.0,
    new-behind (k ∷ keys) ks (both ks (IsDistinct-head eq k ks distinct) all.1) (IsDistinct-tail eq k ks distinct),
  )
    where
      both : (js : List K) → AllByRecursion (λ j. eq k j ≡ false) js
          → AllByRecursion (λ j. AllByRecursion (λ other. eq other j ≡ false) keys) js
          → AllByRecursion (λ j. AllByRecursion (λ other. eq other j ≡ false) (k ∷ keys)) js
      both [] one rest = tt
      both (j ∷ js) one rest = ((one.0, rest.0), both js one.1 rest.1)

  pub new-distinct : (ks : List K) → IsDistinct eq ks → AllNew [] ks
  new-distinct ks distinct = new-behind [] ks (nothing ks) distinct
    where
      nothing : (js : List K) → AllByRecursion (λ j. AllByRecursion (λ other. eq other j ≡ false) []) js
      nothing [] = tt
      nothing (j ∷ js) = (tt, nothing js)

  -- two lists of keys of which no two are equal
  distinct-append : (xs ys : List K) → IsDistinct eq xs → IsDistinct eq ys
      → AllByRecursion (λ x. AllByRecursion (λ y. eq x y ≡ false) ys) xs → IsDistinct eq (xs ++ ys)
  distinct-append [] ys first second across = second
  distinct-append (x ∷ xs) ys first second across =
      IsDistinct-cons eq x (xs ++ ys) (all-append xs ys (IsDistinct-head eq x xs first) across.0)
      (distinct-append xs ys (IsDistinct-tail eq x xs first) second across.1)
    where
      all-append : (ls bs : List K) → AllByRecursion (λ y. eq x y ≡ false) ls → AllByRecursion (λ y. eq x y ≡ false) bs
          → AllByRecursion (λ y. eq x y ≡ false) (ls ++ bs)
      all-append [] bs first second = second
      all-append (a ∷ ls) bs first second = (first.0, all-append ls bs first.1 second)

  -- ---- keys of a text and another
  module _ (pair : List ℕ → List ℕ → K) (pairs : (a b c d : List ℕ)
      → eq (pair a b) (pair c d) ≡ (bytes_eq a c && bytes_eq b d)) where
    and-false : (b : Bool) → (b && false) ≡ false
    and-false true = refl
    and-false false = refl

    distinct-pairs : (text : List ℕ) (others : List (List ℕ)) → IsDistinct bytes_eq others
        → IsDistinct eq (map (pair text) others)
    distinct-pairs text [] distinct = IsDistinct-none eq
    distinct-pairs text (other ∷ others) distinct =
        IsDistinct-cons eq (pair text other) (map (pair text) others)
        (apart others (IsDistinct-head bytes_eq other others distinct))
        (distinct-pairs text others (IsDistinct-tail bytes_eq other others distinct))
      where
        apart : (xs : List (List ℕ)) → AllByRecursion (λ x. bytes_eq other x ≡ false) xs
            → AllByRecursion (λ k. eq (pair text other) k ≡ false) (map (pair text) xs)
        apart [] all = tt
        apart (x ∷ xs) all = (
          pairs text other text x ∙ ap (λ b. bytes_eq text text && b) all.0
              ∙ and-false (bytes_eq text text),
          apart xs all.1,
        )

    -- of each text that stands once, with others that stand once each
    pub distinct-all-pairs : (others : List ℕ → List (List ℕ)) (texts : List (List ℕ))
        → ((text : List ℕ) → IsDistinct bytes_eq (others text)) → IsDistinct bytes_eq texts
        → IsDistinct eq (flat_map (λ text. map (pair text) (others text)) texts)
    distinct-all-pairs others [] each distinct = IsDistinct-none eq
    distinct-all-pairs others (text ∷ texts) each distinct =
        distinct-append (map (pair text) (others text)) (flat_map (λ t. map (pair t) (others t)) texts)
        (distinct-pairs text (others text) (each text)) (distinct-all-pairs others texts each
        (IsDistinct-tail bytes_eq text texts distinct)) (across (others text) texts
        (IsDistinct-head bytes_eq text texts distinct))
      where
        apart-of : (x y : List ℕ) (ys : List (List ℕ)) → bytes_eq text y ≡ false
            → AllByRecursion (λ k. eq (pair text x) k ≡ false) (map (pair y) ys)
        apart-of x y [] differs = tt
        apart-of x y (z ∷ ys) differs =
            (pairs text x y z ∙ ap (λ b. b && bytes_eq x z) differs, apart-of x y ys differs)

        all-append : (x : List ℕ) (ls bs : List K) → AllByRecursion (λ k. eq (pair text x) k ≡ false) ls
            → AllByRecursion (λ k. eq (pair text x) k ≡ false) bs
            → AllByRecursion (λ k. eq (pair text x) k ≡ false) (ls ++ bs)
        all-append x [] bs first second = second
        all-append x (a ∷ ls) bs first second = (first.0, all-append x ls bs first.1 second)

        apart-from : (x : List ℕ) (ys : List (List ℕ)) → AllByRecursion (λ y. bytes_eq text y ≡ false) ys
            → AllByRecursion (λ k. eq (pair text x) k ≡ false) (flat_map (λ t. map (pair t) (others t)) ys)
        apart-from x [] all = tt
        apart-from x (y ∷ ys) all = all-append x (map (pair y) (others y)) (flat_map (λ t. map (pair t) (others t)) ys)
            (apart-of x y (others y) all.0) (apart-from x ys all.1)

        across : (xs ys : List (List ℕ)) → AllByRecursion (λ y. bytes_eq text y ≡ false) ys
            → AllByRecursion (λ j. AllByRecursion (λ k. eq j k ≡ false) (flat_map (λ t. map (pair t) (others t)) ys))
            (map (pair text) xs)
        across [] ys all = tt
        across (x ∷ xs) ys all = (apart-from x ys all, across xs ys all)
