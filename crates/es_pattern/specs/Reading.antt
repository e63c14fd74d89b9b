-- How a pattern's text is read, one character after another: what was read so far, and what each character makes of it.
use Prim.Native.Char.{code}
use Rattle.std.specs.Prelude.{
  length,
  max,
  ℕ,
  ◌+◌,
  ◌-◌,
  ◌*◌,
  ◌==◌,
  Bool,
  true,
  false,
  not,
  nat_le,
  nat_lt,
  ◌&&◌,
  ◌||◌,
  List,
  [],
  ◌∷◌,
  ◌++◌,
  take,
  drop,
  position,
  Option,
  Some,
  None,
  option_map,
  option_and_then,
  if◌then◌else◌,
}
use Rattle.std.specs.List.{list_any}
use Rattle.es_pattern.specs.Tree.{
  Tree,
  CharRange,
  nothing,
  one_of,
  text_start,
  text_end,
  word_boundary,
  sequence,
  choice,
  repetition,
  lookahead,
}
use Rattle.es_pattern.specs.Pieces.{top, below}
use Rattle.es_pattern.specs.Escapes.{range, is_ascii_digit, set_of, escaped, hex_value, is_surrogate}
use Rattle.es_pattern.specs.Grammar.{never, char, any, number}
use Rattle.es_pattern.specs.Limits.{is_above_limit, count_of}
use Rattle.es_pattern.specs.declared.mode.Open.{Open}
use Rattle.es_pattern.specs.declared.mode.Open.TheVariants.{Group, Ahead}
use Rattle.es_pattern.specs.declared.mode.Mode.{Mode}
use Rattle.es_pattern.specs.declared.mode.Mode.TheVariants.{
  Term,
  Atom,
  Quantified,
  Zero,
  Braces,
  Escape,
  Hex,
  Paren,
  ParenQuestion,
  ClassOpen,
  ClassFirst,
  ClassNext,
  ClassNextDash,
  ClassNextDashes,
  ClassChar,
  ClassDash,
  ClassZero,
  ClassEscape,
  ClassHex,
}

-- The trees: for each open group, and for the whole, the last alternative's terms and the alternatives before it, and
-- an atom that no term follows yet; the last one first. The groups, the last one first.
pub record Reading : Type 0 where
  pub trees : List Tree
  pub groups : List Open
  pub mode : Mode
  pub braces : List ℕ
  pub negated : Bool
  pub ranges : List CharRange
  -- the greatest products of the counts of nested quantifiers: in the alternatives that are open, in the atom, and
  -- before each open group
  pub product : ℕ
  pub atom_product : ℕ
  pub products : List ℕ

-- what was read, and what may stand next
abbrev pub at : Mode → Reading → Reading
at m r = record r { mode = m }

-- a tree that joins none before it
abbrev pub leaf : Tree → Reading → Reading
leaf t r = record r { trees = t ∷ r.trees }

-- the last two trees as a sequence
abbrev pub joined : Reading → Reading
joined r = record r { trees = sequence (top (below r.trees)) (top r.trees) ∷ below (below r.trees) }

-- the last two trees as a choice
abbrev pub chosen : Reading → Reading
chosen r = record r { trees = choice (top (below r.trees)) (top r.trees) ∷ below (below r.trees) }

-- a product of nested counts in the alternatives, of which the greatest stays
abbrev pub charged : ℕ → Reading → Reading
charged product r = record r { product = max r.product product }

-- the atom joined to the terms before it, with its product
abbrev pub with_term : Reading → Reading
with_term r = charged r.atom_product (joined r)

-- the atom, if there is one, joined to the terms before it
abbrev pub settled : Bool → Reading → Reading
settled after_atom r = if after_atom then with_term r else r

-- an assertion, joined to the terms before it
abbrev pub asserted : Tree → Reading → Reading
asserted t r = at Term (joined (leaf t r))

-- an atom that no term follows yet
abbrev pub with_atom : Tree → Reading → Reading
with_atom t r = record (at Atom (leaf t r)) { atom_product = 1 }

-- alternatives of which nothing is read
abbrev pub begun : Reading → Reading
begun r = at Term (leaf nothing (leaf never r))

-- a group that is open, with its alternatives
abbrev pub opened : Open → Reading → Reading
opened open_ r = begun (record r { groups = open_ ∷ r.groups; products = r.product ∷ r.products; product = 1 })

-- the product before the group that was opened last
abbrev pub top_product : List ℕ → ℕ
top_product [] = 1
top_product (p ∷ ps) = p

-- the products before the groups around it
abbrev pub products_below : List ℕ → List ℕ
products_below [] = []
products_below (p ∷ ps) = ps

-- the group that was opened last as an atom, or as an assertion where it looks ahead; where none is open, nothing
abbrev pub closed_by : List Open → Reading → Option Reading
closed_by [] r = None
closed_by (Group ∷ gs) r = Some (at Atom (chosen (record r {
  groups = gs;
  products = products_below r.products;
  product = top_product r.products;
  atom_product = r.product;
})))
closed_by (Ahead negated ∷ gs) r =
    Some (at Term (joined (record r {
      groups = gs;
      products = products_below r.products;
      product =
          max r.product (top_product r.products);
      trees =
          lookahead negated (choice (top (below r.trees)) (top r.trees)) ∷ below (below r.trees);
    })))

-- the last atom under a quantifier, joined to the terms before it
abbrev pub quantified : ℕ → Option ℕ → Reading → Reading
quantified least most r =
    at Quantified (joined (record r { trees = repetition least most (top r.trees) ∷ below r.trees }))

-- a quantifier, with the product that it makes
abbrev pub marked : Bool → ℕ → ℕ → Option ℕ → Reading → Option Reading
marked after_atom product least most r =
    if after_atom then Some (quantified least most (charged product r))
    else None

-- a character where a term may begin, that marks no quantifier
abbrev pub term_begun : ℕ → Reading → Option Reading
term_begun c r =
    if c == code "^" then Some (asserted text_start r)
    else if c == code "$" then Some (asserted text_end r)
    else if c == code "|" then Some (at Term (leaf nothing (chosen r)))
    else if c == code ")" then closed_by r.groups r
    else if c == code "(" then Some (at Paren r)
    else if c == code "[" then Some (at ClassOpen (record r { negated = false; ranges = [] }))
    else if c == code "\\" then Some (at Escape r)
    else if c == code "." then Some (with_atom any r)
    else Some (with_atom (char c) r)

-- a character outside classes, escapes and braces: a quantifier, or what a term begins with
abbrev pub plain : Bool → Bool → ℕ → Reading → Option Reading
plain after_atom may_be_lazy c r =
    if c == code "*" then marked after_atom r.atom_product 0 None r
    else if c == code "+" then marked after_atom r.atom_product 1 None r
    else if c == code "?" then (if may_be_lazy then Some (at Term r) else marked after_atom r.atom_product 0 (Some 1) r)
    else if c == code "{" then Some (at (Braces after_atom) (record r { braces = [] }))
    else term_begun c (settled after_atom r)

-- an escape for one character
abbrev pub with_char : Option ℕ → Reading → Option Reading
with_char None r = None
with_char (Some c) r = Some (with_atom (char c) r)

-- an escape for a set of characters, an assertion, or one for a character, by its letter
abbrev pub with_set : Option (List CharRange) → ℕ → Reading → Option Reading
with_set (Some ranges) c r = Some (with_atom (one_of false ranges) r)
with_set None c r =
    if c == code "b" then Some (asserted (word_boundary false) r)
    else if c == code "B" then Some (asserted (word_boundary true) r)
    else if c == code "x" then Some (at (Hex 0 2) r)
    else if c == code "u" then Some (at (Hex 0 4) r)
    else if c == code "0" then Some (at Zero (with_atom (char 0) r))
    else with_char (escaped c) r

-- a number as a character, if it is one
abbrev pub scalar : ℕ → Option ℕ
scalar c = if is_surrogate c || nat_lt 0x10ffff c then None else Some c

-- the greatest character whose hexadecimal digits go on from the value with so many more, if there is one
abbrev pub greatest_from : ℕ → ℕ → Option ℕ
greatest_from value left =
    if left == 0 then scalar value
    else if left == 1 then scalar (value * 16 + 15)
    else if left == 2 then scalar (value * 256 + 255)
    else if is_surrogate (value * 4096 + 4095) then Some 0xd7ff
    else scalar (value * 4096 + 4095)

-- hexadecimal digits so far, as a character where none is left, if they can still make one
abbrev pub hex_to : Option ℕ → ℕ → ℕ → Reading → Option Reading
hex_to None value left r = None
hex_to (Some greatest) value left r =
    if left == 0 then Some (with_atom (char greatest) r)
    else Some (at (Hex value left) r)

-- one hexadecimal digit more, if it is one
abbrev pub hex_by : Option ℕ → ℕ → ℕ → Reading → Option Reading
hex_by None value left r = None
hex_by (Some d) value left r =
    if nat_lt 0xfff value || (left == 0) then None
    else hex_to (greatest_from (value * 16 + d) (left - 1)) (value * 16 + d) (left - 1) r

-- braces that are no quantifier: their characters stand for themselves
abbrev pub flushed_chars : List ℕ → Reading → Reading
flushed_chars [] r = r
flushed_chars (c ∷ cs) r = flushed_chars cs (with_atom (char c) (with_term r))

-- a `{` and what follows it, each for itself
abbrev pub flushed : Bool → Reading → Reading
flushed after_atom r =
    flushed_chars r.braces (record (with_atom (char (code "{")) (settled after_atom r)) { braces = [] })

-- what a number in braces, or two, say
abbrev pub pair_bounds : Option ℕ → Option ℕ → Option (ℕ × Option ℕ)
pair_bounds (Some n) (Some m) = if nat_le n m then Some (n, Some m) else None
pair_bounds (Some n) None = None
pair_bounds None m = None

-- the bounds that a number and what follows its comma say
abbrev pub second_bounds : Option ℕ → List ℕ → Option (ℕ × Option ℕ)
second_bounds n [] = option_map (λ (k : ℕ). (k, None)) n
second_bounds n (c ∷ cs) = pair_bounds n (number (c ∷ cs))

-- the bounds that a text of braces has, by the place of its comma
abbrev pub bounds_by : Option ℕ → List ℕ → Option (ℕ × Option ℕ)
bounds_by None text = option_map (λ (k : ℕ). (k, Some k)) (number text)
bounds_by (Some comma) text = second_bounds (number (take comma text)) (drop (comma + 1) text)

-- the bounds that the text of braces has, from after `{` to before `}`
abbrev pub bounds_of : List ℕ → Option (ℕ × Option ℕ)
bounds_of text = bounds_by (position (λ c. c == code ",") text) text

-- the `}` of braces: a quantifier where they have bounds, else each of their characters for itself
abbrev pub in_braces_end : Option (ℕ × Option ℕ) → Bool → ℕ → Reading → Option Reading
in_braces_end (Some bounds) after_atom c r =
    marked after_atom (r.atom_product * count_of bounds.0 bounds.1) bounds.0 bounds.1 r
in_braces_end None after_atom c r = plain true false c (flushed after_atom r)

-- digits stand in the braces, and no comma
abbrev pub may_be_comma : List ℕ → Bool
may_be_comma braces = not (length braces == 0) && not (list_any (λ x. x == code ",") braces)

-- a character that can stand in the braces of a quantifier next
abbrev pub is_inner : List ℕ → ℕ → Bool
is_inner braces c = is_ascii_digit c || (c == code ",") && may_be_comma braces

-- a character after `{`
abbrev pub in_braces : Bool → ℕ → Reading → Option Reading
in_braces after_atom c r =
    if is_inner r.braces c then Some (record r { braces = r.braces ++ c ∷ [] })
    else if c == code "}" then in_braces_end (bounds_of r.braces) after_atom c r
    else plain true false c (flushed after_atom r)

-- one range more of the class
abbrev pub ranged : ℕ → ℕ → Reading → Reading
ranged first last r = record r { ranges = r.ranges ++ range first last ∷ [] }

-- the class as an atom
abbrev pub class_end : Reading → Reading
class_end r = record (with_atom (one_of r.negated r.ranges) r) { ranges = [] }

-- a character with which an item of a class begins, or the class ends
abbrev pub item : ℕ → Reading → Option Reading
item c r =
    if c == code "]" then Some (class_end r)
    else if c == code "\\" then Some (at (ClassEscape None) r)
    else Some (at (ClassChar c) r)

-- a character after a range or a set of a class, where a `-` may stand for itself or begin a range
abbrev pub next_item : ℕ → Reading → Option Reading
next_item c r = if c == code "-" then Some (at ClassNextDash r) else item c r

-- a character after one of a class, which a `-` makes the first of a range
abbrev pub after_char : ℕ → ℕ → Reading → Option Reading
after_char first c r =
    if c == code "-" then Some (at (ClassDash first) r)
    else item c (ranged first first r)

-- a character of a class, as the last of the range that has begun, if one has
abbrev pub class_char : Option ℕ → ℕ → Reading → Option Reading
class_char None c r = Some (at (ClassChar c) r)
class_char (Some first) c r =
    if nat_le first c then Some (at ClassNext (ranged first c r))
    else None

-- the character with which a range ends, where it isn't `]`
abbrev pub range_end : ℕ → ℕ → Reading → Option Reading
range_end first c r =
    if c == code "\\" then (if nat_le first 0xffff then Some (at (ClassEscape (Some first)) r) else None)
    else if c == code "-" then (if nat_le first (code "-") then Some (at ClassNext (ranged first (code "-") r)) else
    None)
    else class_char (Some first) c r

-- a character after one of a class and `-`
abbrev pub after_dash : ℕ → ℕ → Reading → Option Reading
after_dash first c r =
    if c == code "]" then Some (class_end (ranged (code "-") (code "-") (ranged first first r)))
    else range_end first c r

-- a character after a range or a set of a class and `-`
abbrev pub next_dash : ℕ → Reading → Option Reading
next_dash c r =
    if c == code "]" then Some (class_end (ranged (code "-") (code "-") r))
    else if c == code "-" then Some (at ClassNextDashes r)
    else None

-- a character after a range or a set of a class and `--`, the last of a range from `-` on
abbrev pub next_dashes : ℕ → Reading → Option Reading
next_dashes c r = if c == code "]" then None else range_end (code "-") c r

-- an escape for one character of a class, if it is one
abbrev pub class_char_if : Option ℕ → Option ℕ → Reading → Option Reading
class_char_if first None r = None
class_char_if first (Some c) r = class_char first c r

-- whether the range, if one has begun, can end at the character
abbrev pub can_end : Option ℕ → ℕ → Bool
can_end None c = true
can_end (Some first) c = nat_le first c

-- `\0` in a class, as the last of the range that has begun, if one has
abbrev pub class_zero : Option ℕ → Reading → Option Reading
class_zero None r = Some (at (ClassZero false) r)
class_zero (Some first) r = if first == 0 then Some (at (ClassZero true) (ranged 0 0 r)) else None

-- a set in a class
abbrev pub with_ranges : List CharRange → Reading → Reading
with_ranges ranges r = at ClassNext (record r { ranges = r.ranges ++ ranges })

-- an escape in a class for a set, which ends no range, or for a character, by its letter
abbrev pub class_set : Option (List CharRange) → Option ℕ → ℕ → Reading → Option Reading
class_set (Some ranges) None c r = Some (with_ranges ranges r)
class_set (Some ranges) (Some first) c r = None
class_set None first c r =
    if c == code "b" then class_char first 8 r
    else if c == code "x" then (if can_end first 0xff then Some (at (ClassHex first 0 2) r) else None)
    else if c == code "u" then (if can_end first 0xffff then Some (at (ClassHex first 0 4) r) else None)
    else if c == code "0" then class_zero first r
    else class_char_if first (escaped c) r

-- hexadecimal digits so far in a class, as a character where none is left, if they can still make one that the range
-- can end with
abbrev pub class_hex_to : Option ℕ → Option ℕ → ℕ → ℕ → Reading → Option Reading
class_hex_to None first value left r = None
class_hex_to (Some greatest) first value left r =
    if can_end first greatest then (if left == 0 then class_char first greatest r else Some
    (at (ClassHex first value left) r))
    else None

-- one hexadecimal digit more in a class, if it is one
abbrev pub class_hex_by : Option ℕ → Option ℕ → ℕ → ℕ → Reading → Option Reading
class_hex_by None first value left r = None
class_hex_by (Some d) first value left r =
    if nat_lt 0xfff value || (left == 0) then None
    else class_hex_to (greatest_from (value * 16 + d) (left - 1)) first (value * 16 + d) (left - 1) r

-- what a character makes of what was read, by what may stand there
abbrev pub step_in : Mode → ℕ → Reading → Option Reading
step_in Term c r = plain false false c r
step_in Atom c r = plain true false c r
step_in Quantified c r = plain false true c r
step_in Zero c r = if is_ascii_digit c then None else plain true false c r
step_in (Braces after_atom) c r = in_braces after_atom c r
step_in Escape c r = with_set (set_of c) c r
step_in (Hex value left) c r = hex_by (hex_value c) value left r
step_in Paren c r =
    if c == code "?" then Some (at ParenQuestion r)
    else plain false false c (opened Group r)
step_in ParenQuestion c r =
    if c == code ":" then Some (opened Group r)
    else if c == code "=" then Some (opened (Ahead false) r)
    else if c == code "!" then Some (opened (Ahead true) r)
    else None
step_in ClassOpen c r =
    if c == code "^" then Some (at ClassFirst (record r { negated = true }))
    else item c r
step_in ClassFirst c r = item c r
step_in ClassNext c r = next_item c r
step_in ClassNextDash c r = next_dash c r
step_in ClassNextDashes c r = next_dashes c r
step_in (ClassChar first) c r = after_char first c r
step_in (ClassDash first) c r = after_dash first c r
step_in (ClassZero is_last) c r =
    if is_ascii_digit c then None
    else if is_last then next_item c r
    else after_char 0 c r
step_in (ClassEscape first) c r = class_set (set_of c) first c r
step_in (ClassHex first value left) c r = class_hex_by (hex_value c) first value left r

-- what a character makes of what was read
abbrev pub step : ℕ → Reading → Option Reading
step c r = step_in r.mode c r

-- the tree, where the text ends
abbrev pub ended : List Open → Reading → Option Tree
ended [] r = Some (top (chosen r).trees)
ended (g ∷ gs) r = None

-- the tree of what was read where the text ends, by what may stand there
abbrev pub finished_in : Mode → Reading → Option Tree
finished_in Term r = ended r.groups r
finished_in Atom r = ended r.groups (with_term r)
finished_in Quantified r = ended r.groups r
finished_in Zero r = ended r.groups (with_term r)
finished_in (Braces after_atom) r = ended (flushed after_atom r).groups (with_term (flushed after_atom r))
finished_in mode r = None

-- the tree of what was read where the text ends
abbrev pub finished : Reading → Option Tree
finished r = finished_in r.mode r

-- nothing is read yet
abbrev pub start : Reading
start = begun (record {
  trees = [];
  groups = [];
  mode = Term;
  braces = [];
  negated = false;
  ranges = [];
  product = 1;
  atom_product = 1;
  products = [];
})

-- a quantifier's bounds count above 1,000, or, with what the atom's quantifiers count, above 100,000
abbrev pub overcounts : Option (ℕ × Option ℕ) → Bool → Reading → Bool
overcounts None after_atom r = false
overcounts (Some bounds) after_atom r =
    is_above_limit bounds.0 bounds.1 || after_atom && nat_lt 100000 (r.atom_product * count_of bounds.0 bounds.1)

-- the character ends a quantifier that counts too much
abbrev pub overcounts_in : Mode → ℕ → Reading → Bool
overcounts_in (Braces after_atom) c r = (c == code "}") && overcounts (bounds_of r.braces) after_atom r
overcounts_in mode c r = false

-- the character ends a quantifier that counts too much, where what was read allows one
abbrev pub overcounts_at : ℕ → Reading → Bool
overcounts_at c r = overcounts_in r.mode c r

-- a text, character by character
abbrev pub reads : List ℕ → Reading → Option Reading
reads [] r = Some r
reads (c ∷ cs) r = option_and_then (reads cs) (step c r)

-- the tree of a whole text, if it is a pattern
abbrev pub accepted : List ℕ → Option Tree
accepted text = option_and_then finished (reads text start)
