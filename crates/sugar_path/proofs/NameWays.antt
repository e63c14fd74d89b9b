-- The way between two absolute paths by their names, and the text of a way, each part with a slash behind it.
use Rattle.std.proofs.Common.{
  ◌≡◌,
  ◌+◌,
  ◌-◌,
  ◌<◌,
  ◌≤◌,
  ℕ,
  cond,
  List,
  [],
  ◌∷◌,
  ◌++◌,
  length,
  take,
  drop,
  get_or,
  map,
  bytes_eq,
  reverse,
  replicate,
  refl,
  sym,
  ap,
  ◌∙◌,
  append_assoc,
  append-nil,
  arith,
  length-append,
  length-drop,
}
use denote.Ref.{Bor}
use Rattle.std.specs.List.{common_prefix_len, join_with_byte}
use Rattle.std.proofs.Math.Seq.{take-append_seam}
use Rattle.std.proofs.lemmas.Grind.{flat_map-append, reverse_onto}
use Rattle.std.proofs.lemmas.List.{
  replicate_more,
  take_more,
  take_all,
  map-append,
  length-map,
  take-map,
  drop-map,
  length-reverse,
}
use Rattle.sugar_path.specs.declared.part.Lead.TheVariants.{Nowhere, Up, Down}
use Rattle.sugar_path.specs.Names.{closed, texts}
use Rattle.sugar_path.specs.Part.{by_kind}
use Rattle.sugar_path.specs.Path.{Path, by_part, by_parts, parent}
use Rattle.sugar_path.specs.Relative.{between}
use Rattle.sugar_path.proofs.Leads.{by_kind-lead}
use Rattle.sugar_path.proofs.Parts.{by_parts-append}

-- ---- parts that are written, each with a slash behind it
pub closed-more : (xs : List (List ℕ)) (x : List ℕ) → closed (xs ++ x ∷ []) ≡ (closed xs ++ x) ++ 47 ∷ []
closed-more xs x =
    flat_map-append (λ p. p ++ 47 ∷ []) xs (x ∷ [])
    ∙ ap (λ t. closed xs ++ t) (append-nil (x ++ 47 ∷ []))
    ∙ sym (append_assoc (closed xs) x (47 ∷ []))

pub closed-up : (k : ℕ) (t u : List ℕ) → t ≡ closed (replicate k (46 ∷ 46 ∷ [])) → u ≡ t ++ 46 ∷ 46 ∷ 47 ∷ []
    → u ≡ closed (replicate (k + 1) (46 ∷ 46 ∷ []))
closed-up k t u is more =
    more
    ∙ ap (λ s. s ++ 46 ∷ 46 ∷ 47 ∷ []) is
    ∙ sym (append_assoc (closed (replicate k (46 ∷ 46 ∷ []))) (46 ∷ 46 ∷ []) (47 ∷ []))
    ∙ sym (closed-more (replicate k (46 ∷ 46 ∷ [])) (46 ∷ 46 ∷ []))
    ∙ ap closed (replicate_more k (46 ∷ 46 ∷ []))

pub closed-joined : (x : List ℕ) (xs : List (List ℕ)) → closed (x ∷ xs) ≡ join_with_byte 47 (x ∷ xs) ++ 47 ∷ []
closed-joined x [] = append-nil (x ++ 47 ∷ [])
closed-joined x (y ∷ ys) =
    ap (λ t. (x ++ 47 ∷ []) ++ t) (closed-joined y ys)
    ∙ append_assoc x (47 ∷ []) (join_with_byte 47 (y ∷ ys) ++ 47 ∷ [])
    ∙ sym (append_assoc x (47 ∷ join_with_byte 47 (y ∷ ys)) (47 ∷ []))

-- without the last slash they are joined
pub closed-popped : (xs : List (List ℕ)) (n : ℕ) (t u : List ℕ) → t ≡ closed xs → n ≡ length t → u ≡ take (n - 1) t
    → u ≡ join_with_byte 47 xs
closed-popped [] n t u is size cut = cut ∙ ap (λ k. take (k - 1) t) size ∙ ap (λ s. take (length s - 1) s) is
closed-popped (x ∷ xs) n t u is count cut =
    let joined = join_with_byte 47 (x ∷ xs) in
    let size : length (joined ++ 47 ∷ []) - 1 ≡ length joined = omega (arith, length-append joined (47 ∷ [])) in
    cut
    ∙ ap (λ k. take (k - 1) t) count
    ∙ ap (λ s. take (length s - 1) s) (is ∙ closed-joined x xs)
    ∙ ap (λ n. take n (joined ++ 47 ∷ [])) size
    ∙ take-append_seam joined (47 ∷ [])

-- ---- the names that a loop over the parts of a path holds
abbrev pub HoldsNames : List (Bor (List ℕ)) → List (Bor (List ℕ)) → Type 0
HoldsNames names seen = texts names ≡ reverse (by_parts [] (map (λ x. x.now) seen))

seen-more : (seen : List (Bor (List ℕ))) (x : Bor (List ℕ))
    → by_parts [] (map (λ y. y.now) (seen ++ x ∷ [])) ≡ by_part (by_parts [] (map (λ y. y.now) seen)) x.now
seen-more seen x =
    ap (by_parts []) (map-append (λ y. y.now) seen (x ∷ [])) ∙ by_parts-append [] (map (λ y. y.now) seen) (x.now ∷ [])

pub names-stay : (names seen : List (Bor (List ℕ))) (x : Bor (List ℕ)) → HoldsNames names seen
    → Nowhere ≡ by_kind x.now Nowhere Up Down → HoldsNames names (seen ++ x ∷ [])
names-stay names seen x h silent =
    let p = by_parts [] (map (λ y. y.now) seen) in
    h ∙ ap reverse (sym (seen-more seen x ∙ by_kind-lead x.now Nowhere p (parent p) (x.now ∷ p) silent))

pub names-down : (names more seen : List (Bor (List ℕ))) (x : Bor (List ℕ)) → HoldsNames names seen
    → Down ≡ by_kind x.now Nowhere Up Down → more ≡ names ++ x ∷ [] → HoldsNames more (seen ++ x ∷ [])
names-down names more seen x h down is =
    let p = by_parts [] (map (λ y. y.now) seen) in
    ap texts is
    ∙ map-append (λ y. y.now) names (x ∷ [])
    ∙ ap (λ ts. ts ++ x.now ∷ []) h
    ∙ sym (reverse_onto p x.now [])
    ∙ ap reverse (sym (seen-more seen x ∙ by_kind-lead x.now Down p (parent p) (x.now ∷ p) down))

reverse-parent : (p : Path) → take (length p - 1) (reverse p) ≡ reverse (parent p)
reverse-parent [] = refl
reverse-parent (n ∷ p) =
    let size : length (n ∷ p) - 1 ≡ length (reverse p) = omega (arith, length-reverse p) in
    ap (λ k. take k (reverse (n ∷ p))) size ∙ ap (take (length (reverse p))) (reverse_onto p n [])
    ∙ take-append_seam (reverse p) (n ∷ [])

pub names-up : (names less seen : List (Bor (List ℕ))) (x : Bor (List ℕ)) → HoldsNames names seen
    → Up ≡ by_kind x.now Nowhere Up Down → less ≡ take (length names - 1) names → HoldsNames less (seen ++ x ∷ [])
names-up names less seen x h up is =
    let p = by_parts [] (map (λ y. y.now) seen) in
    let size : length names ≡ length p = sym (length-map names (λ y. y.now)) ∙ ap length h ∙ length-reverse p in
    ap texts is
    ∙ sym (take-map (λ y. y.now) (length names - 1) names)
    ∙ ap (λ k. take (k - 1) (texts names)) size
    ∙ ap (take (length p - 1)) h
    ∙ reverse-parent p
    ∙ ap reverse (sym (seen-more seen x ∙ by_kind-lead x.now Up p (parent p) (x.now ∷ p) up))

-- ---- the names that two paths share
pub shared-texts : (xs ys : List (Bor (List ℕ)))
    → common_prefix_len (λ a b. bytes_eq a.now b.now) xs ys ≡ common_prefix_len bytes_eq (texts xs) (texts ys)
shared-texts [] ys = refl
shared-texts (x ∷ xs) [] = refl
shared-texts (x ∷ xs) (y ∷ ys) = ap (λ n. cond (bytes_eq x.now y.now) (1 + n) 0) (shared-texts xs ys)

-- ---- the way by names, as it is written
pub name-written : (ups : List (List ℕ)) (names : List (Bor (List ℕ))) (k : ℕ) (d : Bor (List ℕ)) (t s u : List ℕ)
    → k < length names → t ≡ closed (ups ++ texts (take k names)) → s ≡ t ++ (get_or names k d).now → u ≡ s ++ 47 ∷ []
    → u ≡ closed (ups ++ texts (take (k + 1) names))
name-written ups names k d t s u within is more ended =
    let name = get_or names k d in
    let before = texts (take k names) in
    ended
    ∙ ap (λ r. r ++ 47 ∷ []) (more ∙ ap (λ r. r ++ name.now) is)
    ∙ sym (closed-more (ups ++ before) name.now)
    ∙ ap closed (append_assoc ups before (name.now ∷ []))
    ∙ ap (λ ts. closed (ups ++ ts)) (sym (ap texts (take_more names k d within)
    ∙ map-append (λ y. y.now) (take k names) (name ∷ [])))

pub way-names : (base target names : List (Bor (List ℕ))) (shared k n : ℕ) (t u : List ℕ)
    → shared ≡ common_prefix_len bytes_eq (texts target) (texts base)
    → names ≡ take (length target - shared) (drop shared target) → length names ≤ k
    → t ≡ closed (replicate (length base - shared) (46 ∷ 46 ∷ []) ++ texts (take k names)) → n ≡ length t
    → u ≡ take (n - 1) t → u ≡ join_with_byte 47 (between (texts base) (texts target))
way-names base target names shared k n t u told slice past is count cut =
    let rest : take k names ≡ drop shared target = take_all k names past ∙ slice
    ∙ take_all (length target - shared) (drop shared target) (omega (arith, length-drop shared target)) in
    closed-popped (replicate (length base - shared) (46 ∷ 46 ∷ []) ++ texts (take k names)) n t u is count cut
    ∙ ap (λ ns. join_with_byte 47 (replicate (length base - shared) (46 ∷ 46 ∷ []) ++ texts ns)) rest
    ∙ ap (λ n. join_with_byte 47 (replicate (n - shared) (46 ∷ 46 ∷ []) ++ texts (drop shared target)))
    (sym (length-map base (λ y. y.now)))
    ∙ ap (λ ts. join_with_byte 47 (replicate (length (texts base) - shared) (46 ∷ 46 ∷ []) ++ ts))
    (sym (drop-map (λ y. y.now) shared target))
    ∙ ap (λ n. join_with_byte 47 (replicate (length (texts base) - n) (46 ∷ 46 ∷ []) ++ drop n (texts target))) told
