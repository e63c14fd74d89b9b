-- Which texts are refused, with which fault, and at which place. The leftmost fault is told; of faults that share a
-- place a form that isn't supported comes first, and a syntax fault last. A place here counts characters, and the
-- answer counts bytes.
use Rattle.std.specs.Prelude.{
  ◌≡◌,
  ℕ,
  ◌+◌,
  ◌≤◌,
  ◌<◌,
  ◌||◌,
  true,
  List,
  ◌++◌,
  codes,
  length,
  take,
  drop,
  encode_utf8_all,
  Option,
  Result,
  MatchResult,
  ◌⊎◌,
}
use Rattle.es_pattern.specs.declared.error.PatternError.{PatternError}
use Rattle.es_pattern.specs.declared.error.PatternError.TheVariants.{Syntax, Unsupported, CountTooLarge, NoMemory}
use Rattle.es_pattern.specs.Tree.{Tree}
use Rattle.es_pattern.specs.Grammar.{Bounds, IsPattern}
use Rattle.es_pattern.specs.Limits.{is_above_limit, product_of}
use Rattle.es_pattern.specs.Places.{Stands, groups, class_in_groups}
use Rattle.es_pattern.specs.Forms.{begins_unsupported_escape, begins_named_group, begins_group}

-- the bytes of the first characters of a text
abbrev pub byte_place : List ℕ → ℕ → ℕ
byte_place text p = length (encode_utf8_all (take p text))

-- some pattern of the grammar begins with the text
abbrev pub BeginsPattern : List ℕ → Type 0
BeginsPattern text = (rest : List ℕ) × (tree : Tree) × IsPattern (text ++ rest) tree

-- a form that isn't supported begins at the place, where an escape or a group can begin
abbrev pub IsUnsupportedAt : List ℕ → ℕ → Type 0
IsUnsupportedAt text p =
    ((depth : ℕ) × Stands text (groups depth) (drop p text)
    × ((begins_unsupported_escape (drop p text) || begins_named_group (drop p text)) ≡ true))
    ⊎ ((depth : ℕ) × Stands text (class_in_groups depth) (drop p text)
    × (begins_unsupported_escape (drop p text) ≡ true))

-- a group begins at the place within 200 others
abbrev pub IsTooDeepAt : List ℕ → ℕ → Type 0
IsTooDeepAt text p =
    (depth : ℕ) × Stands text (groups depth) (drop p text) × (200 ≤ depth) × (begins_group (drop p text) ≡ true)

-- a quantifier in braces stands at the place, with these bounds between its braces
pub record IsQuantifierAt (text : List ℕ) (p : ℕ) (bounds : List ℕ) (least : ℕ) (most : Option ℕ) : Type 0 where
  pub depth : ℕ
  pub place : Stands text (groups depth) (drop p text)
  pub rest : List ℕ
  pub braces : drop p text ≡ codes "{" ++ (bounds ++ (codes "}" ++ rest))
  pub are_bounds : Bounds bounds least most

-- one of its counts is above the limit
abbrev pub IsCountAt : List ℕ → ℕ → Type 0
IsCountAt text p = (bounds : List ℕ) × (least : ℕ) × (most : Option ℕ) × IsQuantifierAt text p bounds least most
    × (is_above_limit least most ≡ true)

-- at its end the product of nested counts has passed the limit: patterns begin with the text up to and including the
-- quantifier, and in each of them it has. The first such quantifier is the one that passes it
abbrev pub IsProductAt : List ℕ → ℕ → Type 0
IsProductAt text p =
    (bounds : List ℕ) × (least : ℕ) × (most : Option ℕ) × IsQuantifierAt text p bounds least most
    × BeginsPattern (take (p + (length bounds + 2)) text)
    × ((rest : List ℕ) (tree : Tree) → IsPattern (take (p + (length bounds + 2)) text ++ rest) tree
    → 100000 < product_of tree)

-- too many groups, too large a count, or too large a product
abbrev pub IsTooLargeAt : List ℕ → ℕ → Type 0
IsTooLargeAt text p = IsTooDeepAt text p ⊎ (IsCountAt text p ⊎ IsProductAt text p)

-- no pattern begins with the text up to and including the character at the place, the first such, or the text is over
-- there and is no pattern, but begins one
pub record IsSyntaxAt (text : List ℕ) (p : ℕ) : Type 0 where
  pub within : p ≤ length text
  pub begins : BeginsPattern (take p text)
  pub stops : p < length text → BeginsPattern (take (p + 1) text) → ⊥
  pub ends : p ≡ length text → (tree : Tree) → IsPattern text tree → ⊥

-- before the place nothing is refused
pub record IsClearBefore (text : List ℕ) (p : ℕ) : Type 0 where
  pub supported : (q : ℕ) → q < p → IsUnsupportedAt text q → ⊥
  pub small : (q : ℕ) → q < p → IsTooLargeAt text q → ⊥
  pub grammatical : (q : ℕ) → q < p → IsSyntaxAt text q → ⊥

-- the first fault of a text
abbrev pub IsFirstFault : List ℕ → PatternError → Type 0
IsFirstFault text (Unsupported place) =
    (p : ℕ) × (place ≡ byte_place text p) × IsClearBefore text p × IsUnsupportedAt text p
IsFirstFault text (CountTooLarge place) =
    (p : ℕ) × (place ≡ byte_place text p) × IsClearBefore text p × (IsUnsupportedAt text p → ⊥) × IsTooLargeAt text p
IsFirstFault text (Syntax place) = (p : ℕ) × (place ≡ byte_place text p) × IsClearBefore text p
    × (IsUnsupportedAt text p → ⊥) × (IsTooLargeAt text p → ⊥) × IsSyntaxAt text p
-- being out of memory is no fault of the text
IsFirstFault text NoMemory = ⊥

-- no form in the text is unsupported, and no group, count or product is too large
abbrev pub IsWithinLimits : List ℕ → Type 0
IsWithinLimits text = (p : ℕ) → (IsUnsupportedAt text p → ⊥) × (IsTooLargeAt text p → ⊥)

-- nothing in the text is refused
abbrev pub IsClear : List ℕ → Type 0
IsClear text = (p : ℕ) → (IsUnsupportedAt text p → ⊥) × (IsTooLargeAt text p → ⊥) × (IsSyntaxAt text p → ⊥)

-- the answer is this fault, unless memory ran out
abbrev pub FailsBy : {A : Type 0} → PatternError → Result A PatternError → Type 0
FailsBy e result = MatchResult result (λ _. ⊥) (λ f. (f ≡ e) ⊎ (f ≡ NoMemory))

-- an answer, unless memory ran out
abbrev pub Succeeds : {A : Type 0} → Result A PatternError → Type 0
Succeeds result = MatchResult result (λ _. Unit {0}) (λ f. f ≡ NoMemory)

-- an error is the first fault, or tells that the call is out of memory
abbrev pub IsCaused : List ℕ → PatternError → Type 0
IsCaused text (Syntax place) = IsFirstFault text (Syntax place)
IsCaused text (Unsupported place) = IsFirstFault text (Unsupported place)
IsCaused text (CountTooLarge place) = IsFirstFault text (CountTooLarge place)
IsCaused text NoMemory = Unit {0}
