-- The grammar of patterns, over the characters of their texts, after ECMAScript's without flags (ECMA-262, Pattern;
-- `]`, `{` and `}` may stand for themselves, as in its Annex B). Limits are left out. Each relation is between a text
-- and what is left of it: the text begins with such a thing, and the rest follows.
use Prim.Native.Char.{code}
use Rattle.std.specs.Prelude.{
  ◌≡◌,
  ℕ,
  zero,
  suc,
  ◌+◌,
  ◌-◌,
  ◌*◌,
  ◌≤◌,
  ◌||◌,
  ◌==◌,
  Bool,
  true,
  false,
  not,
  List,
  [],
  ◌∷◌,
  ◌++◌,
  codes,
  Option,
  Some,
  None,
  if◌then◌else◌,
}
use Rattle.es_pattern.specs.Tree.{
  Tree,
  CharRange,
  nothing,
  one_of,
  text_start,
  text_end,
  word_boundary,
  sequence,
  choice,
  repetition,
  lookahead,
}
use Rattle.es_pattern.specs.Escapes.{range, is_ascii_digit, set_of, escaped, hex_value, is_surrogate}

-- no alternative: it spans nothing
abbrev pub never : Tree
never = one_of false []

-- one character, itself
abbrev pub char : ℕ → Tree
char c = one_of false (range c c ∷ [])

-- `.`: no line end
abbrev pub any : Tree
any = one_of true (range (code "\n") (code "\n") ∷ range (code "\r") (code "\r") ∷ range 0x2028 0x2028 ∷ range 0x2029
    0x2029 ∷ [])

-- decimal digits, at least one, with the value that they go on to
abbrev pub number_from : ℕ → List ℕ → Option ℕ
number_from value [] = Some value
number_from value (c ∷ cs) =
    if is_ascii_digit c then number_from (value * 10 + (c - code "0")) cs
    else None

-- decimal digits, at least one, with their value
abbrev pub number : List ℕ → Option ℕ
number [] = None
number (c ∷ cs) = number_from 0 (c ∷ cs)

-- what stands in the braces of a quantifier (QuantifierPrefix): `n`, `n,` or `n,m` with n at most m
pub data Bounds : List ℕ → ℕ → Option ℕ → Type 0 where
  exactly : (digits : List ℕ) {n : ℕ} → number digits ≡ Some n → Bounds digits n (Some n)
  at_least : (digits : List ℕ) {n : ℕ} → number digits ≡ Some n → Bounds (digits ++ codes ",") n None
  between : (digits further : List ℕ) {n m : ℕ} → number digits ≡ Some n → number further ≡ Some m → n ≤ m
      → Bounds (digits ++ (codes "," ++ further)) n (Some m)

-- a quantifier without what makes it lazy (QuantifierPrefix)
pub data Mark : ℕ → Option ℕ → List ℕ → List ℕ → Type 0 where
  star_mark : {rest : List ℕ} → Mark 0 None (codes "*" ++ rest) rest
  plus_mark : {rest : List ℕ} → Mark 1 None (codes "+" ++ rest) rest
  question_mark : {rest : List ℕ} → Mark 0 (Some 1) (codes "?" ++ rest) rest
  braces_mark : (bounds : List ℕ) {rest : List ℕ} {least : ℕ} {most : Option ℕ} → Bounds bounds least most
      → Mark least most (codes "{" ++ (bounds ++ (codes "}" ++ rest))) rest

-- the text begins with a quantifier in braces
abbrev pub BeginsBraces : List ℕ → Type 0
BeginsBraces text = (bounds : List ℕ) × (rest : List ℕ) × (least : ℕ) × (most : Option ℕ) × Bounds bounds least most
    × (text ≡ codes "{" ++ (bounds ++ (codes "}" ++ rest)))

-- the text begins with `^`
abbrev pub BeginsCaret : List ℕ → Type 0
BeginsCaret [] = ⊥
BeginsCaret (c ∷ cs) = c ≡ code "^"

-- the text begins with a digit
abbrev pub BeginsDigit : List ℕ → Type 0
BeginsDigit [] = ⊥
BeginsDigit (c ∷ cs) = is_ascii_digit c ≡ true

-- so many hexadecimal digits, with the value that they go on to
abbrev pub Hex : ℕ → ℕ → List ℕ → List ℕ → ℕ → Type 0
Hex zero value text rest c = (text ≡ rest) × (value ≡ c)
Hex (suc left) value text rest c = (digit : ℕ) × (d : ℕ) × (mid : List ℕ) × (text ≡ digit ∷ mid)
    × (hex_value digit ≡ Some d) × Hex left (value * 16 + d) mid rest c

-- what follows the backslash of an escape for one character (CharacterEscape), in a class and outside alike; `\u` of a
-- surrogate is none
pub data CharEscape : ℕ → List ℕ → List ℕ → Type 0 where
  named : {letter c : ℕ} {rest : List ℕ} → escaped letter ≡ Some c → CharEscape c (letter ∷ rest) rest
  zero_char : {rest : List ℕ} → (BeginsDigit rest → ⊥) → CharEscape 0 (codes "0" ++ rest) rest
  two_digits : {text rest : List ℕ} {c : ℕ} → Hex 2 0 text rest c → CharEscape c (codes "x" ++ text) rest
  four_digits : {text rest : List ℕ} {c : ℕ} → Hex 4 0 text rest c → is_surrogate c ≡ false
      → CharEscape c (codes "u" ++ text) rest

-- a character of a class that isn't `-` (ClassAtomNoDash)
pub data ClassChar : ℕ → List ℕ → List ℕ → Type 0 where
  itself : {c : ℕ} {rest : List ℕ} → (c == code "]" || c == code "\\" || c == code "-") ≡ false
      → ClassChar c (c ∷ rest) rest
  class_escape : {c : ℕ} {text rest : List ℕ} → CharEscape c text rest → ClassChar c (codes "\\" ++ text) rest
  backspace : {rest : List ℕ} → ClassChar 8 (codes "\\b" ++ rest) rest

-- what stands before an item of a class
pub data Before : Type 0 where
  bracket : Before
  character : Before
  range_or_set : Before

-- a character of a class that isn't `-`, or the `-` with which one begins
pub data FirstChar : Before → ℕ → List ℕ → List ℕ → Type 0 where
  other_char : {before : Before} {c : ℕ} {text rest : List ℕ} → ClassChar c text rest → FirstChar before c text rest
  first_dash : {rest : List ℕ} → FirstChar bracket (code "-") (codes "-" ++ rest) rest

-- the character with which a range begins, also a `-` after a range or a set; after a character it would be the middle
-- of a range
pub data RangeStart : Before → ℕ → List ℕ → List ℕ → Type 0 where
  start_char : {before : Before} {c : ℕ} {text rest : List ℕ} → FirstChar before c text rest
      → RangeStart before c text rest
  start_dash : {rest : List ℕ} → RangeStart range_or_set (code "-") (codes "-" ++ rest) rest

-- the one with which it ends, also a `-`
pub data RangeEnd : ℕ → List ℕ → List ℕ → Type 0 where
  end_char : {c : ℕ} {text rest : List ℕ} → ClassChar c text rest → RangeEnd c text rest
  end_dash : {rest : List ℕ} → RangeEnd (code "-") (codes "-" ++ rest) rest

-- the items of a class after those whose ranges were read, up to and with `]`
pub data Items : Before → List CharRange → List ℕ → List ℕ → List CharRange → Type 0 where
  no_item : {before : Before} {ranges : List CharRange} {rest : List ℕ}
      → Items before ranges (codes "]" ++ rest) rest ranges
  last_dash : {before : Before} {ranges : List CharRange} {rest : List ℕ}
      → Items before ranges (codes "-]" ++ rest) rest (ranges ++ range (code "-") (code "-") ∷ [])
  one_char : {before : Before} {ranges all : List CharRange} {c : ℕ} {text mid rest : List ℕ}
      → FirstChar before c text mid → Items character (ranges ++ range c c ∷ []) mid rest all
      → Items before ranges text rest all
  one_set : {before : Before} {ranges more all : List CharRange} {letter : ℕ} {text rest : List ℕ}
      → set_of letter ≡ Some more → Items range_or_set (ranges ++ more) text rest all
      → Items before ranges (codes "\\" ++ letter ∷ text) rest all
  from_to : {before : Before} {ranges all : List CharRange} {c d : ℕ} {text mid after rest : List ℕ}
      → RangeStart before c text (codes "-" ++ mid) → RangeEnd d mid after → c ≤ d
      → Items range_or_set (ranges ++ range c d ∷ []) after rest all
      → Items before ranges text rest all

-- a character that is no part of a pattern's syntax (ExtendedPatternCharacter of Annex B)
abbrev pub is_plain : ℕ → Bool
is_plain c = not (c == code "^" || c == code "$" || c == code "\\" || c == code "." || c == code "*" || c == code "+"
    || c == code "?" || c == code "(" || c == code ")" || c == code "[" || c == code "|")

-- what is read, with the tree that it makes: the rest of some alternatives, where the trees of the earlier alternatives
-- and of this one's terms so far are given; a term; an atom
pub data Form : Type 0 where
  alternatives : (before terms result : Tree) → Form
  term : Tree → Form
  atom : Tree → Form

-- a text reads as a form, with what is left of it (Disjunction, Alternative, Term and Atom of ECMAScript)
pub data Reads : Form → List ℕ → List ℕ → Type 0 where
  -- alternatives, apart by `|`, each of terms
  ends : {before terms : Tree} {rest : List ℕ} → Reads (alternatives before terms (choice before terms)) rest rest
  bar : {before terms result : Tree} {text rest : List ℕ}
      → Reads (alternatives (choice before terms) nothing result) text rest
      → Reads (alternatives before terms result) (codes "|" ++ text) rest
  followed : {before terms t result : Tree} {text mid rest : List ℕ} → Reads (term t) text mid
      → Reads (alternatives before (sequence terms t) result) mid rest
      → Reads (alternatives before terms result) text rest
  -- a term is an assertion, an atom, or an atom and its quantifier, greedy or lazy
  at_start : {rest : List ℕ} → Reads (term text_start) (codes "^" ++ rest) rest
  at_end : {rest : List ℕ} → Reads (term text_end) (codes "$" ++ rest) rest
  at_boundary : {rest : List ℕ} → Reads (term (word_boundary false)) (codes "\\b" ++ rest) rest
  at_no_boundary : {rest : List ℕ} → Reads (term (word_boundary true)) (codes "\\B" ++ rest) rest
  ahead : {t : Tree} {text rest : List ℕ} → Reads (alternatives never nothing t) text (codes ")" ++ rest)
      → Reads (term (lookahead false t)) (codes "(?=" ++ text) rest
  not_ahead : {t : Tree} {text rest : List ℕ} → Reads (alternatives never nothing t) text (codes ")" ++ rest)
      → Reads (term (lookahead true t)) (codes "(?!" ++ text) rest
  once : {t : Tree} {text rest : List ℕ} → Reads (atom t) text rest → Reads (term t) text rest
  greedy : {t : Tree} {least : ℕ} {most : Option ℕ} {text mid rest : List ℕ} → Reads (atom t) text mid
      → Mark least most mid rest → Reads (term (repetition least most t)) text rest
  lazy : {t : Tree} {least : ℕ} {most : Option ℕ} {text mid rest : List ℕ} → Reads (atom t) text mid
      → Mark least most mid (codes "?" ++ rest) → Reads (term (repetition least most t)) text rest
  -- an atom
  dot : {rest : List ℕ} → Reads (atom any) (codes "." ++ rest) rest
  group : {t : Tree} {text rest : List ℕ} → Reads (alternatives never nothing t) text (codes ")" ++ rest)
      → Reads (atom t) (codes "(" ++ text) rest
  bare_group : {t : Tree} {text rest : List ℕ} → Reads (alternatives never nothing t) text (codes ")" ++ rest)
      → Reads (atom t) (codes "(?:" ++ text) rest
  class : {ranges : List CharRange} {text rest : List ℕ} → (BeginsCaret text → ⊥) → Items bracket [] text rest ranges
      → Reads (atom (one_of false ranges)) (codes "[" ++ text) rest
  negated_class : {ranges : List CharRange} {text rest : List ℕ} → Items bracket [] text rest ranges
      → Reads (atom (one_of true ranges)) (codes "[^" ++ text) rest
  set_escape : {letter : ℕ} {ranges : List CharRange} {rest : List ℕ} → set_of letter ≡ Some ranges
      → Reads (atom (one_of false ranges)) (codes "\\" ++ letter ∷ rest) rest
  char_escape : {c : ℕ} {text rest : List ℕ} → CharEscape c text rest → Reads (atom (char c)) (codes "\\" ++ text) rest
  -- a `{` only where it doesn't begin a quantifier
  ordinary : {c : ℕ} {rest : List ℕ} → is_plain c ≡ true → (BeginsBraces (c ∷ rest) → ⊥)
      → Reads (atom (char c)) (c ∷ rest) rest

-- the text is a pattern with this tree
abbrev pub IsPattern : List ℕ → Tree → Type 0
IsPattern text tree = Reads (alternatives never nothing tree) text []
