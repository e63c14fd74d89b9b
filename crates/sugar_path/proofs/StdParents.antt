-- The parent of a path, beside the word that std has for that of its own paths.
use Rattle.std.proofs.Common.{
  ◌≡◌,
  ◌≢◌,
  ◌==◌,
  ◌&&◌,
  ◌||◌,
  ◌⊎◌,
  inl,
  inr,
  ◌+◌,
  ◌-◌,
  ◌≤◌,
  eqb,
  ℕ,
  zero,
  suc,
  Bool,
  true,
  false,
  cond,
  List,
  [],
  ◌∷◌,
  ◌++◌,
  length,
  take,
  drop,
  get_or,
  slice_index,
  bytes_eq,
  reverse,
  refl,
  sym,
  ap,
  ◌∙◌,
  arith,
  append_assoc,
}
use Rattle.std.specs.Prelude.{Option, Some, None, option_map}
use Rattle.std.specs.List.{onto_first, join_with_byte, AllByRecursion}
use Rattle.std.specs.Path.{
  trimmed_len,
  trim_trailing,
  rfind_below,
  rsplit_once,
  parent_before_slash,
  parent_and_last,
  split_last_component,
  path_parent,
}
use Rattle.std.proofs.Math.Seq.{take-suc}
use Rattle.std.proofs.lemmas.Bool.Decides.{Decides-ltb, eqb_tells}
use Rattle.std.proofs.lemmas.List.{take_all, reverse-append}
use Rattle.std.proofs.lemmas.Slice.Eq.{bytes_eq-Decides}
use Rattle.memchr.specs.Find.{IsLast, IsLastByte, Passes, is_byte}
use Rattle.sugar_path.specs.Path.{is_absolute, parts}
use Rattle.sugar_path.specs.Parent.{is_silent, is_nil, trimmed, or_slash, parent_by, parent_of}
use Rattle.sugar_path.specs.ParentEnd.{until_last}
use Rattle.sugar_path.proofs.ParentEnds.{
  IsCut,
  last-cut,
  uncut-parts,
  until-silent,
  until-told,
  until-alone,
  trimmed-no_slash,
  parent-lone,
  parent-cut,
}
use Rattle.sugar_path.proofs.Parts.{HasNoSlash, parts-some, parts-no_slash}
use Rattle.sugar_path.proofs.Placed.{parts-join}
use Rattle.sugar_path.proofs.StdPaths.{some_length}

-- the text as far as its last component, where that of the root is `/`
abbrev until_end : List ℕ → List ℕ
until_end t = cond (is_absolute t) (or_slash (until_last (parts t))) (until_last (parts t))

-- ---- the last slash, as std looks for it
rfind-last : (t : List ℕ) (n : ℕ) → IsLast (Passes (is_byte 47) t) 0 n (rfind_below 47 t n)
rfind-last t zero = λ k low high is. absurd (omega (arith, high))
rfind-last t (suc n) = by_test (slice_index t n == 47) refl (rfind_below 47 t n) (rfind-last t n)
  where
    by_test : (b : Bool) → (slice_index t n == 47) ≡ b → (r : Option ℕ) → IsLast (Passes (is_byte 47) t) 0 n r
        → IsLast (Passes (is_byte 47) t) 0 (suc n) (cond b (Some n) r)
    by_test true is r rest = (
      record {
        low = omega arith;
        high = omega arith;
        after =
            λ k low high here. absurd (omega (arith, low, high));
      },
      is,
    )
    by_test false is None none = λ k low high here.
        elim (eqb_tells k n) [
          | inl w ↦ (let e : true ≡ false = sym here ∙ ap (λ i. slice_index t i == 47) w.1 ∙ is in
              cc)
          | inr w ↦ none k low (omega (arith, high, w.1)) here
        ]
    by_test false is (Some m) last = (
      record {
        low = last.0.low;
        high = omega (arith, last.0.high);
        after = λ k low high here.
            elim (eqb_tells k n) [
              | inl w ↦ (let e : true ≡ false = sym here ∙ ap (λ i. slice_index t i == 47) w.1
                  ∙ is in cc)
              | inr w ↦ last.0.after k low (omega (arith, high, w.1)) here
            ];
      },
      last.1,
    )

-- ---- what std trims says nothing
absolute-more : (s : List ℕ) (a : ℕ) (x : List ℕ) → is_absolute (s ++ a ∷ x) ≡ is_absolute (s ++ a ∷ [])
absolute-more [] a x = refl
absolute-more (c ∷ s) a x = refl

until_end-same : (t u : List ℕ) → is_absolute t ≡ is_absolute u → until_last (parts t) ≡ until_last (parts u)
    → until_end t ≡ until_end u
until_end-same t u absolute until =
    ap (λ b. cond b (or_slash (until_last (parts t))) (until_last (parts t))) absolute
    ∙ ap (λ x. cond (is_absolute u) (or_slash x) x) until

until_end-slash : (s : List ℕ) (a : ℕ) → until_end (s ++ a ∷ 47 ∷ []) ≡ until_end (s ++ a ∷ [])
until_end-slash s a =
    until_end-same (s ++ a ∷ 47 ∷ []) (s ++ a ∷ []) (absolute-more s a (47 ∷ []))
    (sym (until-silent (s ++ a ∷ 47 ∷ []) (s ++ a ∷ []) [] (record
    { whole = sym (append_assoc s (a ∷ []) (47 ∷ [])); slash = refl }) refl))

until_end-dot : (s : List ℕ) → until_end (s ++ 47 ∷ 46 ∷ []) ≡ until_end (s ++ 47 ∷ [])
until_end-dot s =
    until_end-same (s ++ 47 ∷ 46 ∷ []) (s ++ 47 ∷ []) (absolute-more s 47 (46 ∷ []))
    (sym (until-silent (s ++ 47 ∷ 46 ∷ []) s (46 ∷ []) (record { whole = refl; slash = refl }) refl)
    ∙ until-silent (s ++ 47 ∷ []) s [] (record { whole = refl; slash = refl }) refl)

reverse-two : (s : List ℕ) (a b : ℕ) → reverse (s ++ a ∷ b ∷ []) ≡ b ∷ a ∷ reverse s
reverse-two s a b = reverse-append s (a ∷ b ∷ [])

reverse-one : (s : List ℕ) (a : ℕ) → reverse (s ++ a ∷ []) ≡ a ∷ reverse s
reverse-one s a = reverse-append s (a ∷ [])

told : (x : List ℕ) → x ≢ [] → x ≢ 46 ∷ [] → is_silent x ≡ false
told x some dot =
    by_tests (bytes_eq x []) (bytes_eq x (46 ∷ [])) (bytes_eq-Decides x []).0 (bytes_eq-Decides x (46 ∷ [])).0
  where
    by_tests : (a b : Bool) → (a ≡ true → x ≡ []) → (b ≡ true → x ≡ 46 ∷ []) → (a || b) ≡ false
    by_tests true b empty is = absurd (some (empty refl))
    by_tests false true empty is = absurd (dot (is refl))
    by_tests false false empty is = refl

-- a text whose last byte is no slash, and no `.` behind one, ends in its last component
until-kept : (s : List ℕ) (a b : ℕ) → b ≢ 47 → (b ≡ 46 → a ≢ 47) → s
    ++ a ∷ b ∷ [] ≡ until_last (parts (s ++ a ∷ b ∷ []))
until-kept s a b slash dot =
    by_last (s ++ a ∷ b ∷ []) refl (rfind_below 47 (s ++ a ∷ b ∷ []) (length (s ++ a ∷ b ∷ [])))
    (rfind-last (s ++ a ∷ b ∷ []) (length (s ++ a ∷ b ∷ [])))
  where
    by_last : (t : List ℕ) → t ≡ s ++ a ∷ b ∷ [] → (r : Option ℕ) → IsLastByte (is_byte 47) t r
        → t ≡ until_last (parts t)
    by_last t is None none = until-alone t (uncut-parts t none)
    by_last t is (Some k) last =
        let cut : IsCut t (take k t) (drop (k + 1) t) = last-cut t k last in
        let ends : b ∷ a ∷ reverse s ≡ reverse t = sym (reverse-two s a b) ∙ ap reverse (sym is) in
        until-told t (take k t) (drop (k + 1) t) cut
        (told (drop (k + 1) t)
        (λ e. let same : b ∷ a ∷ reverse s ≡ 47 ∷ reverse (take k t) = ends
        ∙ ap reverse (cut.whole ∙ ap (λ x. take k t ++ 47 ∷ x) e) ∙ reverse-one (take k t) 47 in let last : b ≡ 47 =
        cc in slash last)
        (λ e. let same : b ∷ a ∷ reverse s ≡ 46 ∷ 47 ∷ reverse (take k t) = ends
        ∙ ap reverse (cut.whole ∙ ap (λ x. take k t ++ 47 ∷ x) e) ∙ reverse-two (take k t) 47 46 in
        let last : b ≡ 46 = cc in let next : a ≡ 47 = cc in dot last next))

until_end-kept : (s : List ℕ) (a b : ℕ) → b ≢ 47 → (b ≡ 46 → a ≢ 47) → until_end (s ++ a ∷ b ∷ []) ≡ s ++ a ∷ b ∷ []
until_end-kept s a b slash dot =
    ap (λ x. cond (is_absolute (s ++ a ∷ b ∷ [])) (or_slash x) x) (sym (until-kept s a b slash dot))
    ∙ by_test (is_absolute (s ++ a ∷ b ∷ [])) s
  where
    by_test : (c : Bool) (s : List ℕ) → cond c (or_slash (s ++ a ∷ b ∷ [])) (s ++ a ∷ b ∷ []) ≡ s ++ a ∷ b ∷ []
    by_test true [] = refl
    by_test true (d ∷ s) = refl
    by_test false s = refl

-- ---- one more byte
trim-step : (t s : List ℕ) (a b m n : ℕ) → take n t ≡ until_end (s ++ a ∷ []) → take m t ≡ s ++ a ∷ b ∷ []
    → take (cond (b == 47 || (b == 46 && a == 47)) n m) t ≡ until_end (s ++ a ∷ b ∷ [])
trim-step t s a b m n shorter all = by_tests (eqb_tells b 47) (eqb_tells b 46) (eqb_tells a 47)
  where
    by_tests : ((eqb b 47 ≡ true) × (b ≡ 47)) ⊎ ((eqb b 47 ≡ false) × (b ≢ 47)) → ((eqb b 46 ≡ true) × (b ≡ 46))
        ⊎ ((eqb b 46 ≡ false) × (b ≢ 46)) → ((eqb a 47 ≡ true) × (a ≡ 47)) ⊎ ((eqb a 47 ≡ false) × (a ≢ 47))
        → take (cond (b == 47 || (b == 46 && a == 47)) n m) t ≡ until_end (s ++ a ∷ b ∷ [])
    by_tests (inl w) y z =
        ap (λ q. take (cond (q || (b == 46 && a == 47)) n m) t) w.0 ∙ shorter ∙ sym (until_end-slash s a)
        ∙ ap (λ c. until_end (s ++ a ∷ c ∷ [])) (sym w.1)
    by_tests (inr w) (inl y) (inl z) =
        ap (λ q. take (cond (q || (b == 46 && a == 47)) n m) t) w.0
        ∙ ap (λ q. take (cond (q && a == 47) n m) t) y.0
        ∙ ap (λ q. take (cond q n m) t) z.0
        ∙ shorter
        ∙ ap (λ c. until_end (s ++ c ∷ [])) z.1
        ∙ sym (until_end-dot s)
        ∙ ap (λ c. until_end (s ++ c ∷ 46 ∷ [])) (sym z.1)
        ∙ ap (λ c. until_end (s ++ a ∷ c ∷ [])) (sym y.1)
    by_tests (inr w) (inl y) (inr z) =
        ap (λ q. take (cond (q || (b == 46 && a == 47)) n m) t) w.0
        ∙ ap (λ q. take (cond (q && a == 47) n m) t) y.0
        ∙ ap (λ q. take (cond q n m) t) z.0
        ∙ all
        ∙ sym (until_end-kept s a b w.1 (λ e. z.1))
    by_tests (inr w) (inr y) z =
        ap (λ q. take (cond (q || (b == 46 && a == 47)) n m) t) w.0
        ∙ ap (λ q. take (cond (q && a == 47) n m) t) y.0
        ∙ all
        ∙ sym (until_end-kept s a b w.1 (λ e. absurd (y.1 e)))

one_byte : (c : ℕ) → until_end (c ∷ []) ≡ c ∷ []
one_byte c = by_test (eqb_tells c 47)
  where
    by_test : ((eqb c 47 ≡ true) × (c ≡ 47)) ⊎ ((eqb c 47 ≡ false) × (c ≢ 47)) → until_end (c ∷ []) ≡ c ∷ []
    by_test (inl w) = ap (λ d. until_end (d ∷ [])) w.1 ∙ ap (λ d. d ∷ []) (sym w.1)
    by_test (inr w) = rw w.0 refl

trim-first : (t : List ℕ) (n : ℕ) → n ≤ length t → take (trimmed_len t n) t ≡ until_end (take n t)
trim-first [] zero h = refl
trim-first (c ∷ t) zero h = refl
trim-first [] (suc zero) h = absurd (omega arith)
trim-first (c ∷ t) (suc zero) h = sym (one_byte c)
trim-first t (suc (suc m)) h =
    let s : List ℕ = take m t in
    let a : ℕ = get_or t m 0 in
    let b : ℕ = get_or t (suc m) 0 in
    let one : take (suc m) t ≡ s ++ a ∷ [] = take-suc t m 0 (omega arith) in
    let two : take (suc (suc m)) t ≡ s ++ a ∷ b ∷ [] =
    take-suc t (suc m) 0 (omega arith) ∙ ap (λ x. x ++ b ∷ []) one ∙ append_assoc s (a ∷ []) (b ∷ []) in
    let before : suc m - 1 ≡ m = omega arith in
    ap (λ q. take (cond (q && (b == 47 || (b == 46 && get_or t (suc m - 1) 0 == 47))) (trimmed_len t (suc m))
    (suc (suc m))) t) ((Decides-ltb 0 (suc m)).1 (omega arith))
    ∙ ap (λ i. take (cond (b == 47 || (b == 46 && get_or t i 0 == 47)) (trimmed_len t (suc m)) (suc (suc m))) t) before
    ∙ trim-step t s a b (suc (suc m)) (trimmed_len t (suc m)) (trim-first t (suc m) (omega arith) ∙ ap until_end one)
    two
    ∙ ap until_end (sym two)

trim-until : (t : List ℕ) → trim_trailing t ≡ until_end t
unfolding trim_trailing
trim-until t = trim-first t (length t) (omega arith) ∙ ap until_end (take_all (length t) t (omega arith))

-- ---- the parent
joined : (c : ℕ) (p : List ℕ) (xs : List (List ℕ))
    → or_slash (join_with_byte 47 ((c ∷ p) ∷ xs)) ≡ join_with_byte 47 ((c ∷ p) ∷ xs)
joined c p [] = refl
joined c p (x ∷ xs) = refl

front-parent : (f : List ℕ) → or_slash (until_last (parts f)) ≡ parent_before_slash f
front-parent [] = refl
front-parent (c ∷ f) =
    by_test (c == 47) (parts f) (parts-some f)
    ∙ sym (trim-until (c ∷ f))
    ∙ ap (λ b. cond b (47 ∷ []) (trim_trailing (c ∷ f))) (sym (some_length (length f)))
  where
    by_test : (b : Bool) (ps : List (List ℕ)) → ps ≢ []
        → or_slash (until_last (cond b ([] ∷ ps) (onto_first c ps))) ≡ cond b
        (or_slash (until_last (cond b ([] ∷ ps) (onto_first c ps)))) (until_last (cond b ([] ∷ ps) (onto_first c ps)))
    by_test true ps some = refl
    by_test false [] some = absurd (some refl)
    by_test false (p ∷ ps) some = joined c p (trimmed ps)

ends_told : (xs : List (List ℕ)) → trimmed xs ≢ [] ∷ []
ends_told [] e = cc
ends_told (x ∷ xs) e = by_case x (trimmed xs) (is_silent x) refl e
  where
    by_case : (x : List ℕ) (ys : List (List ℕ)) (b : Bool) → is_silent x ≡ b
        → cond (is_nil ys && b) [] (x ∷ ys) ≢ [] ∷ []
    by_case x [] true is e = cc
    by_case [] [] false is e = cc
    by_case (c ∷ x) [] false is e = cc
    by_case x (y ∷ ys) b is e = cc

no_root : (t u : List ℕ) → u ≡ until_last (parts t) → u ≢ 47 ∷ []
no_root t u is root = by_parts (parts t) (parts-no_slash t) (parts-some t) is
  where
    by_parts : (ps : List (List ℕ)) → AllByRecursion HasNoSlash ps → ps ≢ [] → u ≡ until_last ps → ⊥
    by_parts [] slash some e = some refl
    by_parts (p ∷ ps) slash some e =
        let both : p ∷ trimmed ps ≡ [] ∷ [] ∷ [] =
        sym (parts-join p (trimmed ps) (slash.0, trimmed-no_slash ps slash.1)) ∙ ap parts (sym e ∙ root) in
        ends_told ps cc

-- from a trimmed text
abbrev parent_of_trimmed : List ℕ → Option (List ℕ)
parent_of_trimmed v = option_map (λ split. split.0) (cond (length v == 0 || bytes_eq v (47 ∷ [])) None
    (Some (parent_and_last v (rsplit_once 47 v))))

proper : (t v : List ℕ) → v ≡ until_last (parts t) → bytes_eq v (47 ∷ []) ≡ false
proper t v is = by_test (bytes_eq v (47 ∷ [])) (bytes_eq-Decides v (47 ∷ [])).0
  where
    by_test : (b : Bool) → (b ≡ true → v ≡ 47 ∷ []) → b ≡ false
    by_test true root = absurd (no_root t v is (root refl))
    by_test false root = refl

trimmed-parent : (t : List ℕ) (c : ℕ) (u : List ℕ) → c ∷ u ≡ until_last (parts t)
    → parent_of t ≡ parent_of_trimmed (c ∷ u)
unfolding rsplit_once
trimmed-parent t c u is =
    by_last (c ∷ u) is refl (rfind_below 47 (c ∷ u) (length (c ∷ u))) (rfind-last (c ∷ u) (length (c ∷ u)))
    ∙ ap (λ b. option_map (λ (split : List ℕ × List ℕ). split.0)
    (cond b None (Some (parent_and_last (c ∷ u) (rsplit_once 47 (c ∷ u))))))
    (sym (ap (λ b. b || bytes_eq (c ∷ u) (47 ∷ [])) (some_length (length u)) ∙ proper t (c ∷ u) is))
  where
    by_last : (v : List ℕ) → v ≡ until_last (parts t) → parent_by v [] ≡ Some [] → (r : Option ℕ)
        → IsLastByte (is_byte 47) v r → parent_of t ≡ Some (parent_and_last v
        (option_map (λ i. (take i v, drop (i + 1) v)) r)).0
    by_last v is lone None none = parent-lone t v is (uncut-parts v none) ∙ lone
    by_last v is lone (Some k) last =
        parent-cut t v (take k v) (drop (k + 1) v) is (last-cut v k last) ∙ ap Some (front-parent (take k v))

pub parent-std : (t : List ℕ) → parent_of t ≡ path_parent t
unfolding path_parent split_last_component
parent-std t = by_text (until_last (parts t)) refl ∙ sym (ap parent_of_trimmed (trim-until t))
  where
    root : (b : Bool) → None ≡ parent_of_trimmed (cond b (47 ∷ []) [])
    root true = refl
    root false = refl

    same : (b : Bool) (v : List ℕ) → v ≡ cond b v v
    same true v = refl
    same false v = refl

    by_text : (u : List ℕ) → u ≡ until_last (parts t)
        → parent_of t ≡ parent_of_trimmed (cond (is_absolute t) (or_slash u) u)
    by_text [] is = parent-lone t [] is refl ∙ root (is_absolute t)
    by_text (c ∷ u) is = trimmed-parent t c u is ∙ ap parent_of_trimmed (same (is_absolute t) (c ∷ u))
