-- Names with endings are names, and what the last dot of a name cuts.
use Rattle.std.proofs.Common.{
  ◌≡◌,
  ◌≢◌,
  ◌==◌,
  ◌&&◌,
  ◌<◌,
  ◌+◌,
  ◌-◌,
  inl,
  inr,
  Some,
  ℕ,
  zero,
  suc,
  Bool,
  true,
  false,
  not,
  cond,
  IsTrue,
  List,
  [],
  ◌∷◌,
  ◌++◌,
  length,
  get_or,
  take,
  drop,
  map,
  Bor,
  bytes_eq,
  refl,
  sym,
  ap,
  ◌∙◌,
  subst,
  arith,
  eqb-true,
  append_assoc,
}
use Rattle.std.specs.List.{list_any, list_all, slice_range, suffix_len}
use Rattle.std.specs.Map.{lookup}
use Rattle.std.proofs.lemmas.Bool.Decides.{eqb_tells}
use Rattle.std.proofs.lemmas.List.{at_drop_more}
use Rattle.std.proofs.lemmas.List.Folds.{list_any_at}
use Rattle.std.proofs.lemmas.List.Sums.{suffix_len_is}
use Rattle.sugar_path.specs.Path.{Path, has_no_slash, IsName, IsPath, is_root, steps, text_of, with_slash}
use Rattle.sugar_path.proofs.RouteTexts.{with_slash-name}
use Rattle.sugar_path.proofs.Bools.{and_left, and_right}
use Rattle.swc_loader.specs.Endings.{is_ending, are_endings, all_are_endings, AreEndings}
use Rattle.swc_loader.specs.Conventions.{make_names}
use Rattle.swc_loader.specs.Conventions as conventions
use Rattle.swc_loader.specs.Candidates.{is_dot, has_extension, extension, stem}

-- text without a slash, in two parts
pub has_no_slash-append : (n e : List ℕ) → has_no_slash n ≡ true → has_no_slash e ≡ true → has_no_slash (n ++ e) ≡ true
has_no_slash-append [] e hn he = he
has_no_slash-append (c ∷ cs) e hn he =
    rw (and_left (not (c == 47)) _ hn) (has_no_slash-append cs e (and_right (not (c == 47)) _ hn) he)

-- an ending has no slash
pub has_no_slash-ending : (e : List ℕ) → is_ending e ≡ true → has_no_slash e ≡ true
has_no_slash-ending [] h = refl
has_no_slash-ending (a ∷ []) h = cc
has_no_slash-ending (a ∷ b ∷ cs) h =
    let dot : a ≡ 46 =
    eqb-true a 46 (and_left (a == 46) _ (and_left ((a == 46) && not (b == 46)) (has_no_slash (b ∷ cs)) h)) in
    rw dot (and_right ((a == 46) && not (b == 46)) (has_no_slash (b ∷ cs)) h)

never : (a b : Bool) → (a && (b && false)) ≡ false
never true true = refl
never true false = refl
never false b = refl

-- three bytes and more are neither empty nor one dot nor two
long_name : (a b c : ℕ) (cs : List ℕ) → has_no_slash (a ∷ b ∷ c ∷ cs) ≡ true → IsName (a ∷ b ∷ c ∷ cs)
long_name a b c cs h = by_first (a == 46) (b == 46) refl refl
  where
    by_first : (x y : Bool) → (a == 46) ≡ x → (b == 46) ≡ y → IsName (a ∷ b ∷ c ∷ cs)
    by_first true true p q = rw (p, q) h
    by_first true false p q = rw (p, q) h
    by_first false y p q = rw p h

pub is_false : (b : Bool) → not b ≡ true → b ≡ false
is_false true h = cc
is_false false h = refl

pub is_true : (b : Bool) → not b ≡ false → b ≡ true
is_true true h = refl
is_true false h = cc

-- a base without a slash with an ending is a name
pub is_name-ending : (n e : List ℕ) → has_no_slash n ≡ true → is_ending e ≡ true → IsName (n ++ e)
is_name-ending [] [] hn he = cc
is_name-ending [] (a ∷ []) hn he = cc
is_name-ending [] (a ∷ b ∷ cs) hn he =
    let first = and_left ((a == 46) && not (b == 46)) (has_no_slash (b ∷ cs)) he in
    let dot : a ≡ 46 = eqb-true a 46 (and_left (a == 46) _ first) in
    let other : (b == 46) ≡ false = is_false (b == 46) (and_right (a == 46) _ first) in
    rw (dot, other) (and_right ((a == 46) && not (b == 46)) (has_no_slash (b ∷ cs)) he)
is_name-ending (c ∷ []) [] hn he = cc
is_name-ending (c ∷ []) (a ∷ []) hn he = cc
is_name-ending (c ∷ []) (a ∷ b ∷ cs) hn he =
    long_name c a b cs (has_no_slash-append (c ∷ []) (a ∷ b ∷ cs) hn (has_no_slash-ending (a ∷ b ∷ cs) he))
is_name-ending (c ∷ d ∷ []) [] hn he = cc
is_name-ending (c ∷ d ∷ []) (a ∷ as') hn he =
    long_name c d a as' (has_no_slash-append (c ∷ d ∷ []) (a ∷ as') hn (has_no_slash-ending (a ∷ as') he))
is_name-ending (c ∷ d ∷ x ∷ xs) e hn he =
    long_name c d x (xs ++ e) (has_no_slash-append (c ∷ d ∷ x ∷ xs) e hn (has_no_slash-ending e he))

-- a name's text has no slash
pub no_slash-of_name : (n : List ℕ) → IsName n → has_no_slash n ≡ true
no_slash-of_name n h =
    and_right (not (bytes_eq n []) && not (bytes_eq n (46 ∷ [])) && not (bytes_eq n (46 ∷ 46 ∷ []))) (has_no_slash n) h

pub no_slash-take : (k : ℕ) (n : List ℕ) → has_no_slash n ≡ true → has_no_slash (take k n) ≡ true
no_slash-take zero n h = refl
no_slash-take (suc k) [] h = refl
no_slash-take (suc k) (c ∷ cs) h =
    rw (and_left (not (c == 47)) _ h) (no_slash-take k cs (and_right (not (c == 47)) _ h))

not_eq : (a b : ℕ) → a ≢ b → (a == b) ≡ false
not_eq a b h = elim (eqb_tells a b) [ inl w ↦ absurd (h w.1) | inr w ↦ w.0 ]

-- The dot at k is the last one of a name: what stands before it is the stem, and what follows it the extension.
dots_after : (n : List ℕ) (k : ℕ) → k < length n → get_or n k 0 ≡ 46
    → ((i : ℕ) → k < i → i < length n → get_or n i 0 ≢ 46) → suffix_len (λ c. not (is_dot c)) n ≡ length n - (k + 1)
dots_after n k lt at after = suffix_len_is (λ c. not (is_dot c)) n (k + 1) 0 (omega arith)
    (λ i above below. ap not (not_eq (get_or n i 0) 46 (after i (omega arith) below)))
    (λ _. last ((k + 1) - 1) (omega arith))
  where
    last : (j : ℕ) → j ≡ k → not (is_dot (get_or n j 0)) ≡ false
    last j is = rw (is, at) refl

pub stem_is : (n : List ℕ) (k : ℕ) → k < length n → get_or n k 0 ≡ 46
    → ((i : ℕ) → k < i → i < length n → get_or n i 0 ≢ 46) → slice_range n 0 k ≡ stem n
stem_is n k lt at after =
    let len : k - 0 ≡ length n - suffix_len (λ c. not (is_dot c)) n - 1 = omega (arith, dots_after n k lt at after) in
    ap (λ j. take j n) len

pub extension_is : (n : List ℕ) (k : ℕ) → k < length n → get_or n k 0 ≡ 46
    → ((i : ℕ) → k < i → i < length n → get_or n i 0 ≢ 46) → drop (k + 1) n ≡ extension n
extension_is n k lt at after =
    let len : k + 1 ≡ length n - suffix_len (λ c. not (is_dot c)) n = omega (arith, dots_after n k lt at after) in
    ap (λ j. drop j n) len

pub has_extension-dot : (n : List ℕ) (k : ℕ) → 0 < k → k < length n → get_or n k 0 ≡ 46 → has_extension n ≡ true
has_extension-dot [] k pos lt at = absurd (omega arith)
has_extension-dot (c ∷ cs) zero pos lt at = absurd (omega arith)
has_extension-dot (c ∷ cs) (suc k) pos lt at = list_any_at is_dot cs k 0 (omega arith) (rw at refl)

none_any : (cs : List ℕ) → ((i : ℕ) → i < length cs → get_or cs i 0 ≢ 46) → list_any is_dot cs ≡ false
none_any [] h = refl
none_any (c ∷ cs) h = rw (not_eq c 46 (h 0 (omega arith)), none_any cs (λ i lt. h (suc i) (omega arith))) refl

pub has_extension-none : (n : List ℕ) → ((i : ℕ) → 0 < i → i < length n → get_or n i 0 ≢ 46) → has_extension n ≡ false
has_extension-none [] h = refl
has_extension-none (c ∷ cs) h = none_any cs (λ i lt. h (suc i) (omega arith) (omega arith))

pub no_slash-stem : (n : List ℕ) → IsName n → has_no_slash (stem n) ≡ true
no_slash-stem n h = no_slash-take (length n - suffix_len (λ c. not (is_dot c)) n - 1) n (no_slash-of_name n h)

-- the sources of each extension, as contracts see them
abbrev pub sources_behind : List (Bor (List ℕ) × Bor (List (Bor (List ℕ)))) → List (List ℕ × List (List ℕ))
sources_behind table = map (λ s. (s.0.now, map (λ e. e.now) s.1.now)) table

-- the extension at a place of the table is the one that is looked for, or isn't
pub sources-hit : (e : List ℕ) (table : List (Bor (List ℕ) × Bor (List (Bor (List ℕ))))) (i : ℕ)
    (d : Bor (List ℕ) × Bor (List (Bor (List ℕ)))) → i < length table → bytes_eq e (get_or table i d).0.now ≡ true
    → lookup (bytes_eq e) (sources_behind (drop i table)) ≡ Some (map (λ s. s.now) (get_or table i d).1.now)
sources-hit e table i d lt is =
    at_drop_more (λ left. lookup (bytes_eq e) (sources_behind left)) table i d lt ∙ rw is refl

pub sources-miss : (e : List ℕ) (table : List (Bor (List ℕ) × Bor (List (Bor (List ℕ))))) (i : ℕ)
    (d : Bor (List ℕ) × Bor (List (Bor (List ℕ)))) → i < length table → bytes_eq e (get_or table i d).0.now ≡ false
    → lookup (bytes_eq e) (sources_behind (drop i table)) ≡ lookup (bytes_eq e) (sources_behind (drop (i + 1) table))
sources-miss e table i d lt is =
    at_drop_more (λ left. lookup (bytes_eq e) (sources_behind left)) table i d lt ∙ rw is refl

-- all are endings: those at a place of the table, and those behind it
pub endings-next : (table : List (Bor (List ℕ) × Bor (List (Bor (List ℕ))))) (i : ℕ)
    (d : Bor (List ℕ) × Bor (List (Bor (List ℕ)))) → i < length table
    → all_are_endings (sources_behind (drop i table)) ≡ true → AreEndings (map (λ s. s.now) (get_or table i d).1.now)
    × (all_are_endings (sources_behind (drop (i + 1) table)) ≡ true)
endings-next table i d lt all =
    let both = sym (at_drop_more (λ left. all_are_endings (sources_behind left)) table i d lt) ∙ all in (
      and_left (are_endings (map (λ s. s.now) (get_or table i d).1.now))
          (all_are_endings (sources_behind (drop (i + 1) table))) both,
      and_right (are_endings (map (λ s. s.now) (get_or table i d).1.now))
          (all_are_endings (sources_behind (drop (i + 1) table))) both,
    )

-- the sources' endings are among those of conventions
pub sources_are_endings : (c : conventions.Conventions) → IsTrue (make_names c)
    → all_are_endings c.source_endings ≡ true
sources_are_endings c h =
    and_right (are_endings c.endings && are_endings c.first_endings) (all_are_endings c.source_endings)
    (and_left (are_endings c.endings && are_endings c.first_endings && all_are_endings c.source_endings)
    (list_all has_no_slash c.index_names) h)

-- the text of a path with a `/` behind it, which that of `/` has already
pub with_slash-text : (p : Path) → IsPath p → with_slash (text_of p) ≡ cond (is_root p) (text_of p)
    (text_of p ++ 47 ∷ [])
with_slash-text [] h = refl
with_slash-text (n ∷ p) h =
    let P : List ℕ → Type 0 = λ t. with_slash t ≡ t ++ 47 ∷ [] in
    subst P (append_assoc (steps p) (47 ∷ []) n) (with_slash-name (steps p ++ 47 ∷ []) n h.0)

dot_at : (n e : List ℕ) → is_ending e ≡ true → get_or (n ++ e) (length n) 0 ≡ 46
dot_at [] [] h = cc
dot_at [] (a ∷ []) h = cc
dot_at [] (a ∷ b ∷ cs) h =
    eqb-true a 46 (and_left (a == 46) _ (and_left ((a == 46) && not (b == 46)) (has_no_slash (b ∷ cs)) h))
dot_at (c ∷ cs) e h = dot_at cs e h

-- behind a base stands the dot of its ending
pub dot-behind : (n e whole : List ℕ) → whole ≡ n ++ e → is_ending e ≡ true → get_or whole (length n) 0 ≡ 46
dot-behind n e whole is h = ap (λ t. get_or t (length n) 0) is ∙ dot_at n e h
