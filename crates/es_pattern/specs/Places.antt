-- Where in a pattern's text something begins: its tokens, read from the front, after ECMAScript's. A place is told by
-- what is left of the text.
use Prim.Native.Char.{code}
use Rattle.std.specs.Prelude.{◌≡◌, ℕ, suc, ◌||◌, ◌==◌, Bool, true, false, List, [], ◌∷◌, ◌++◌, codes}
use Rattle.es_pattern.specs.Grammar.{Hex, BeginsCaret}

-- what stands behind a backslash, and what is left after it: `x` and two hexadecimal digits, `u` and four, or any other
-- character
pub data AfterBackslash : List ℕ → List ℕ → Type 0 where
  other_escape : {c : ℕ} {rest : List ℕ} → (c == code "x" || c == code "u") ≡ false → AfterBackslash (c ∷ rest) rest
  two_digit_escape : {text rest : List ℕ} {c : ℕ} → Hex 2 0 text rest c → AfterBackslash (codes "x" ++ text) rest
  four_digit_escape : {text rest : List ℕ} {c : ℕ} → Hex 4 0 text rest c → AfterBackslash (codes "u" ++ text) rest

-- the text begins with `?`
abbrev pub BeginsQuestion : List ℕ → Type 0
BeginsQuestion [] = ⊥
BeginsQuestion (c ∷ cs) = c ≡ code "?"

-- `(`, `)`, `[` or a backslash
abbrev pub is_structural : ℕ → Bool
is_structural c = c == code "(" || c == code ")" || c == code "[" || c == code "\\"

-- within how many open groups, lookaheads among them, and whether in a class
pub data Within : Type 0 where
  groups : ℕ → Within
  class_in_groups : ℕ → Within

-- between two tokens of the text, with this much left
pub data Stands (text : List ℕ) : Within → List ℕ → Type 0 where
  at_front : Stands text (groups 0) text
  past_symbol : {depth c : ℕ} {rest : List ℕ} → Stands text (groups depth) (c ∷ rest) → is_structural c ≡ false
      → Stands text (groups depth) rest
  past_escape : {depth : ℕ} {more rest : List ℕ} → Stands text (groups depth) (codes "\\" ++ more)
      → AfterBackslash more rest → Stands text (groups depth) rest
  -- `(`, and `(?:`, `(?=` or `(?!`
  in_group : {depth : ℕ} {rest : List ℕ} → Stands text (groups depth) (codes "(" ++ rest) → (BeginsQuestion rest → ⊥)
      → Stands text (groups (suc depth)) rest
  in_marked_group : {depth c : ℕ} {rest : List ℕ} → Stands text (groups depth) (codes "(?" ++ c ∷ rest)
      → (c == code ":" || c == code "=" || c == code "!") ≡ true → Stands text (groups (suc depth)) rest
  past_group : {depth : ℕ} {rest : List ℕ} → Stands text (groups (suc depth)) (codes ")" ++ rest)
      → Stands text (groups depth) rest
  -- `[` or `[^`, each character and escape of the class, and its `]`
  in_class : {depth : ℕ} {rest : List ℕ} → Stands text (groups depth) (codes "[" ++ rest) → (BeginsCaret rest → ⊥)
      → Stands text (class_in_groups depth) rest
  in_negated_class : {depth : ℕ} {rest : List ℕ} → Stands text (groups depth) (codes "[^" ++ rest)
      → Stands text (class_in_groups depth) rest
  past_class_char : {depth c : ℕ} {rest : List ℕ} → Stands text (class_in_groups depth) (c ∷ rest)
      → (c == code "]" || c == code "\\") ≡ false → Stands text (class_in_groups depth) rest
  past_class_escape : {depth : ℕ} {more rest : List ℕ} → Stands text (class_in_groups depth) (codes "\\" ++ more)
      → AfterBackslash more rest → Stands text (class_in_groups depth) rest
  past_class : {depth : ℕ} {rest : List ℕ} → Stands text (class_in_groups depth) (codes "]" ++ rest)
      → Stands text (groups depth) rest
