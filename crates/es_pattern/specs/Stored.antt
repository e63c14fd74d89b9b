-- How a pattern tree is stored: as the list of its parts, each after those that it joins.
use Rattle.std.specs.Prelude.{◌≡◌, ℕ, zero, suc, Bool, false, List, [], ◌∷◌, ◌++◌, Option, None, refl}
use Rattle.std.specs.Coded.{Coded, code_by, coded×, coded_ℕ, coded_bool, coded_list, coded_option}
use Rattle.std.proofs.Common.{ap, ◌∙◌}
use Rattle.es_pattern.specs.Tree.{
  Tree,
  CharRange,
  nothing,
  one_of,
  text_start,
  text_end,
  word_boundary,
  sequence,
  choice,
  repetition,
  lookahead,
}
use Rattle.es_pattern.specs.Pieces.{top, below}

-- a part: its kind, whether it is negated, its bounds, and its ranges
abbrev pub Part : Type 0
Part = ℕ × (Bool × (ℕ × (Option ℕ × List CharRange)))

-- a part of these
abbrev pub part_of : ℕ → Bool → ℕ → Option ℕ → List CharRange → Part
part_of kind negated least most ranges = (kind, (negated, (least, (most, ranges))))

-- the parts of a tree, the whole last
abbrev pub parts : Tree → List Part
parts nothing = part_of 0 false 0 None [] ∷ []
parts (one_of negated ranges) = part_of 1 negated 0 None ranges ∷ []
parts text_start = part_of 2 false 0 None [] ∷ []
parts text_end = part_of 3 false 0 None [] ∷ []
parts (word_boundary negated) = part_of 4 negated 0 None [] ∷ []
parts (sequence a b) = parts a ++ (parts b ++ (part_of 5 false 0 None [] ∷ []))
parts (choice a b) = parts a ++ (parts b ++ (part_of 6 false 0 None [] ∷ []))
parts (repetition least most a) = parts a ++ (part_of 7 false least most [] ∷ [])
parts (lookahead negated a) = parts a ++ (part_of 8 negated 0 None [] ∷ [])

-- the trees with a part more, by its kind
abbrev pub with_kind : ℕ → Bool → ℕ → Option ℕ → List CharRange → List Tree → List Tree
with_kind zero negated least most ranges ts = nothing ∷ ts
with_kind (suc zero) negated least most ranges ts = one_of negated ranges ∷ ts
with_kind (suc (suc zero)) negated least most ranges ts = text_start ∷ ts
with_kind (suc (suc (suc zero))) negated least most ranges ts = text_end ∷ ts
with_kind (suc (suc (suc (suc zero)))) negated least most ranges ts = word_boundary negated ∷ ts
with_kind (suc (suc (suc (suc (suc zero))))) negated least most ranges ts =
    sequence (top (below ts)) (top ts) ∷ below (below ts)
with_kind (suc (suc (suc (suc (suc (suc zero)))))) negated least most ranges ts =
    choice (top (below ts)) (top ts) ∷ below (below ts)
with_kind (suc (suc (suc (suc (suc (suc (suc zero))))))) negated least most ranges ts =
    repetition least most (top ts) ∷ below ts
with_kind (suc (suc (suc (suc (suc (suc (suc (suc n)))))))) negated least most ranges ts =
    lookahead negated (top ts) ∷ below ts

-- the trees with all these parts more
abbrev pub with_parts : List Part → List Tree → List Tree
with_parts [] ts = ts
with_parts (p ∷ ps) ts = with_parts ps (with_kind p.0 p.1.0 p.1.1.0 p.1.1.1.0 p.1.1.1.1 ts)

with_parts-append : (ps qs : List Part) (ts : List Tree) → with_parts (ps ++ qs) ts ≡ with_parts qs (with_parts ps ts)
with_parts-append [] qs ts = refl
with_parts-append (p ∷ ps) qs ts = with_parts-append ps qs (with_kind p.0 p.1.0 p.1.1.0 p.1.1.1.0 p.1.1.1.1 ts)

pub with_parts-parts : (t : Tree) (ts : List Tree) → with_parts (parts t) ts ≡ t ∷ ts
with_parts-parts nothing ts = refl
with_parts-parts (one_of negated ranges) ts = refl
with_parts-parts text_start ts = refl
with_parts-parts text_end ts = refl
with_parts-parts (word_boundary negated) ts = refl
with_parts-parts (sequence a b) ts = with_parts-append (parts a) (parts b ++ (part_of 5 false 0 None [] ∷ [])) ts
    ∙ ap (with_parts (parts b ++ (part_of 5 false 0 None [] ∷ []))) (with_parts-parts a ts)
    ∙ with_parts-append (parts b) (part_of 5 false 0 None [] ∷ []) (a ∷ ts)
    ∙ ap (with_parts (part_of 5 false 0 None [] ∷ [])) (with_parts-parts b (a ∷ ts))
with_parts-parts (choice a b) ts = with_parts-append (parts a) (parts b ++ (part_of 6 false 0 None [] ∷ [])) ts
    ∙ ap (with_parts (parts b ++ (part_of 6 false 0 None [] ∷ []))) (with_parts-parts a ts)
    ∙ with_parts-append (parts b) (part_of 6 false 0 None [] ∷ []) (a ∷ ts)
    ∙ ap (with_parts (part_of 6 false 0 None [] ∷ [])) (with_parts-parts b (a ∷ ts))
with_parts-parts (repetition least most a) ts = with_parts-append (parts a) (part_of 7 false least most [] ∷ []) ts
    ∙ ap (with_parts (part_of 7 false least most [] ∷ [])) (with_parts-parts a ts)
with_parts-parts (lookahead negated a) ts = with_parts-append (parts a) (part_of 8 negated 0 None [] ∷ []) ts
    ∙ ap (with_parts (part_of 8 negated 0 None [] ∷ [])) (with_parts-parts a ts)

-- a range is stored as its two ends
abbrev pub range_code : Coded CharRange
range_code = code_by (ℕ × ℕ) (coded× coded_ℕ coded_ℕ) (λ r. (r.first, r.last)) (λ p. record { first = p.0; last = p.1 })
    (λ _. refl)

-- a tree is stored as its parts
abbrev pub tree_code : Coded Tree
tree_code =
    code_by (List Part) (coded_list (coded× coded_ℕ (coded× coded_bool
    (coded× coded_ℕ (coded× (coded_option coded_ℕ) (coded_list range_code)))))) parts (λ ps. top (with_parts ps []))
    (λ t. ap top (with_parts-parts t []))
