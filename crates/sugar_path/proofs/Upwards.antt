-- The relative path from a base, one folder up at a time, with a slash before each part.
use Rattle.std.proofs.Common.{
  ◌≡◌,
  ◌≢◌,
  ◌<◌,
  ℕ,
  suc,
  Bool,
  true,
  false,
  List,
  [],
  ◌∷◌,
  ◌++◌,
  bytes_eq,
  length,
  drop,
  refl,
  sym,
  ap,
  ◌∙◌,
  append-nil,
  arith,
  reverse,
  replicate,
  length-append,
}
use Rattle.std.specs.Prelude.{flat_map}
use Rattle.std.specs.List.{join_with_byte, common_prefix_len}
use Rattle.std.proofs.lemmas.Grind.{reverse_onto, flat_map-append}
use Rattle.std.proofs.lemmas.List.{reverse-append, reverse-reverse, append_cancel_left}
use Rattle.std.proofs.lemmas.Slice.Eq.{bytes_eq-Decides}
use Rattle.sugar_path.specs.Path.{Path, IsPath, steps, text_of, below, parent}
use Rattle.sugar_path.specs.Route.{Rooted}
use Rattle.sugar_path.specs.Relative.{between, way, relative_from}
use Rattle.sugar_path.proofs.Agreed.{route_of-absolute}
use Rattle.sugar_path.proofs.Below.{below-append, below-root, below-tells, steps-append}
use Rattle.sugar_path.proofs.Parts.{text_of-absolute, path_in-text_of}
use Rattle.sugar_path.proofs.SharedTexts.{apart_none}
use Rattle.sugar_path.proofs.WayParts.{between-apart, between-shared}

-- a base that has one name more than another, and a target that begins like neither
apart-both : (x : List (List ℕ)) (n : List ℕ) (f : List (List ℕ)) → common_prefix_len bytes_eq f (x ++ n ∷ []) ≡ 0
    → common_prefix_len bytes_eq f x ≡ 0 → between (x ++ n ∷ []) f ≡ (46 ∷ 46 ∷ []) ∷ between x f
apart-both x n f longer shorter =
    let more : length (x ++ n ∷ []) ≡ suc (length x) = omega (arith, length-append x (n ∷ [])) in
    between-apart (x ++ n ∷ []) f longer
    ∙ ap (λ k. replicate k (46 ∷ 46 ∷ []) ++ f) more
    ∙ ap (λ ps. (46 ∷ 46 ∷ []) ∷ ps) (sym (between-apart x f shorter))

-- behind a base that the target doesn't begin with, its last name is gone up from
between-behind : (x : List (List ℕ)) (n : List ℕ) (f : List (List ℕ)) → ((q : List (List ℕ)) → f ≢ (x ++ n ∷ []) ++ q)
    → between (x ++ n ∷ []) f ≡ (46 ∷ 46 ∷ []) ∷ between x f
between-behind [] n [] other = apart-both [] n [] refl refl
between-behind [] n (m ∷ f) other = by_test (bytes_eq m n) refl
  where
    by_test : (b : Bool) → bytes_eq m n ≡ b → between (n ∷ []) (m ∷ f) ≡ (46 ∷ 46 ∷ []) ∷ between [] (m ∷ f)
    by_test true e = absurd (other f (ap (λ z. z ∷ f) ((bytes_eq-Decides m n).0 e)))
    by_test false e = apart-both [] n (m ∷ f) (rw e refl) refl
between-behind (y ∷ x) n [] other = apart-both (y ∷ x) n [] refl refl
between-behind (y ∷ x) n (m ∷ f) other = by_test (bytes_eq m y) refl (λ h. between-behind x n f h)
  where
    by_test : (b : Bool) → bytes_eq m y ≡ b → (((q : List (List ℕ)) → f ≢ (x ++ n ∷ []) ++ q)
        → between (x ++ n ∷ []) f ≡ (46 ∷ 46 ∷ []) ∷ between x f)
        → between (y ∷ (x ++ n ∷ [])) (m ∷ f) ≡ (46 ∷ 46 ∷ []) ∷ between (y ∷ x) (m ∷ f)
    by_test true e rest =
        let same : m ≡ y = (bytes_eq-Decides m y).0 e in
        ap (λ z. between (y ∷ (x ++ n ∷ [])) (z ∷ f)) same
        ∙ between-shared (y ∷ []) (x ++ n ∷ []) f
        ∙ rest (λ q is. other q (ap (λ zs. m ∷ zs) is ∙ ap (λ z. z ∷ ((x ++ n ∷ []) ++ q)) same))
        ∙ ap (λ ps. (46 ∷ 46 ∷ []) ∷ ps) (sym (between-shared (y ∷ []) x f))
        ∙ ap (λ z. (46 ∷ 46 ∷ []) ∷ between (y ∷ x) (z ∷ f)) (sym same)
    by_test false e rest = apart-both (y ∷ x) n (m ∷ f) (rw e refl) (rw e refl)

-- the parts from a base, each behind a slash
abbrev pub parts_from : Path → Path → List ℕ
parts_from d f = flat_map (λ n. 47 ∷ n) (between (reverse d) (reverse f))

-- from a folder that the path isn't below, one folder up
pub parts_from-up : (d f : Path) → below f d ≡ false → parts_from d f ≡ 47 ∷ 46 ∷ 46 ∷ parts_from (parent d) f
parts_from-up [] f other = let e : true ≡ false = sym (below-root f) ∙ other in cc
parts_from-up (n ∷ d) f other =
    ap (λ ps. flat_map (λ n. 47 ∷ n) ps)
    (ap (λ x. between x (reverse f)) (reverse_onto d n []) ∙ between-behind (reverse d) n (reverse f) apart)
  where
    apart : (q : List (List ℕ)) → reverse f ≢ (reverse d ++ n ∷ []) ++ q
    apart q is =
        let whole : f ≡ reverse q ++ (n ∷ d) =
        sym (reverse-reverse f) ∙ ap reverse is ∙ reverse-append (reverse d ++ n ∷ []) q
        ∙ ap (λ x. reverse q ++ x) (ap reverse (sym (reverse_onto d n [])) ∙ reverse-reverse (n ∷ d)) in
        let e : true ≡ false = sym (below-append (reverse q) (n ∷ d)) ∙ ap (λ x. below x (n ∷ d)) (sym whole) ∙ other in
        cc

steps-parts : (q : Path) → flat_map (λ n. 47 ∷ n) (reverse q) ≡ steps q
steps-parts [] = refl
steps-parts (n ∷ q) =
    ap (λ ps. flat_map (λ n. 47 ∷ n) ps) (reverse_onto q n [])
    ∙ flat_map-append (λ (n : List ℕ). 47 ∷ n) (reverse q) (n ∷ [])
    ∙ ap (λ s. s ++ 47 ∷ (n ++ [])) (steps-parts q)
    ∙ ap (λ s. steps q ++ 47 ∷ s) (append-nil n)

-- from a folder that the path is below, what stands behind the folder
pub parts_from-below : (d f : Path) (behind : List ℕ) → below f d ≡ true → steps f ≡ steps d ++ behind
    → parts_from d f ≡ behind
parts_from-below d f behind h is =
    let w = below-tells f d h in
    let way : between (reverse d) (reverse f) ≡ reverse w.0 =
    ap (λ x. between (reverse d) (reverse x)) w.1
    ∙ ap (λ x. between (reverse d) x) (reverse-append w.0 d)
    ∙ ap (λ x. between x (reverse d ++ reverse w.0)) (sym (append-nil (reverse d)))
    ∙ between-shared (reverse d) [] (reverse w.0)
    ∙ between-apart [] (reverse w.0) (apart_none (reverse w.0)) in
    ap (λ ps. flat_map (λ n. 47 ∷ n) ps) way
    ∙ steps-parts w.0
    ∙ append_cancel_left (steps d) (steps w.0) behind (sym (steps-append w.0 d) ∙ ap steps (sym w.1) ∙ is)

-- parts joined by slashes, from parts that each stand behind one
joined-parts : (ps : List (List ℕ)) → join_with_byte 47 ps ≡ drop 1 (flat_map (λ n. 47 ∷ n) ps)
joined-parts [] = refl
joined-parts (p ∷ []) = sym (append-nil p)
joined-parts (p ∷ q ∷ ps) = ap (λ t. p ++ 47 ∷ t) (joined-parts (q ∷ ps))

relative-parts : (d f : Path) → IsPath d → IsPath f
    → relative_from (text_of d) (text_of d) (text_of f) ≡ drop 1 (parts_from d f)
unfolding relative_from way
relative-parts d f base path =
    let from = route_of-absolute (text_of d) (text_of-absolute d) ∙ ap Rooted (path_in-text_of d base) in
    let to = route_of-absolute (text_of f) (text_of-absolute f) ∙ ap Rooted (path_in-text_of f path) in
    rw (from, to) (joined-parts (between (reverse d) (reverse f)))

pub relative-none : (d f : Path) (t : List ℕ) → IsPath d → IsPath f → parts_from d f ≡ t
    → ((rest : List ℕ) → t ≢ 47 ∷ rest) → [] ≡ relative_from (text_of d) (text_of d) (text_of f)
relative-none d f t base path is other =
    by_text (between (reverse d) (reverse f)) is ∙ sym (relative-parts d f base path)
  where
    by_text : (ps : List (List ℕ)) → flat_map (λ n. 47 ∷ n) ps ≡ t → [] ≡ drop 1 (flat_map (λ n. 47 ∷ n) ps)
    by_text [] is = refl
    by_text (p ∷ ps) is = absurd (other (p ++ flat_map (λ n. 47 ∷ n) ps) (sym is))

pub relative-some : (d f : Path) (t rest : List ℕ) → IsPath d → IsPath f → parts_from d f ≡ t → t ≡ 47 ∷ rest
    → rest ≡ relative_from (text_of d) (text_of d) (text_of f)
relative-some d f t rest base path is at = ap (drop 1) (sym (is ∙ at)) ∙ sym (relative-parts d f base path)

-- only `/` has no folder above, and each path is below it
pub parent-nearer : (d f : Path) → below f d ≡ false → length (parent d) < length d
parent-nearer [] f other = let e : true ≡ false = sym (below-root f) ∙ other in cc
parent-nearer (n ∷ d) f other = omega arith
