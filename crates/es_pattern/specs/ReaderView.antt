-- What a reader has read.
use Rattle.std.specs.Prelude.{◌≡◌, Bool, true, false, [], map, reverse, Option, Some, None}
use Rattle.es_pattern.specs.declared.reader.Reader.{Reader}
use Rattle.es_pattern.specs.declared.reader.Taken.{Taken}
use Rattle.es_pattern.specs.declared.reader.Taken.TheVariants.{Yes, No, TooLarge}
use Rattle.es_pattern.specs.declared.piece.Piece.{Piece}
use Rattle.es_pattern.specs.Tree.{Tree}
use Rattle.es_pattern.specs.declared.mode.Mode.{Mode}
use Rattle.es_pattern.specs.declared.mode.Mode.TheVariants.{
  Term,
  Atom,
  Quantified,
  Zero,
  Braces,
  Escape,
  Hex,
  Paren,
  ParenQuestion,
  ClassOpen,
  ClassFirst,
  ClassNext,
  ClassNextDash,
  ClassNextDashes,
  ClassChar,
  ClassDash,
  ClassZero,
  ClassEscape,
  ClassHex,
}
use Rattle.es_pattern.specs.Pieces.{top, with_piece, with_pieces}
use Rattle.es_pattern.specs.Reading.{Reading}

-- what the reader that the code keeps has read
abbrev pub reading : Reader → Reading
reading r = record {
  trees = with_pieces r.pieces.items [];
  groups = reverse (map (λ g. g.kind) r.groups.items);
  mode =
      r.mode;
  braces = r.braces.items;
  negated = r.negated;
  ranges = r.ranges.items;
  product = r.product;
  atom_product =
      r.atom_product;
  products = reverse (map (λ g. g.product) r.groups.items);
}

-- what was read, with the tree that a piece builds on it
abbrev pub pushed : Piece → Reading → Reading
pushed piece r = record r { trees = with_piece piece r.trees }

-- a character is taken as the reading says
abbrev pub Steps : Option Reading → Taken → Reading → Type 0
Steps step Yes new = step ≡ Some new
Steps step No new = step ≡ None
Steps step TooLarge new = ⊥

-- a character is taken as the reading says, unless the quantifier that it ends counts too much: then nothing changes
abbrev pub Takes : Option Reading → Bool → Reading → Taken → Reading → Type 0
Takes step overcounts old Yes new = (overcounts ≡ false) × (step ≡ Some new)
Takes step overcounts old No new = (overcounts ≡ false) × (step ≡ None)
Takes step overcounts old TooLarge new = (overcounts ≡ true) × (new ≡ old)

-- the text is a pattern of that tree, which is built last, or none
abbrev pub EndsAs : Option Tree → Bool → Reading → Type 0
EndsAs tree true new = tree ≡ Some (top new.trees)
EndsAs tree false new = tree ≡ None

-- within a class
abbrev pub IsClass : Mode → Type 0
IsClass Term = ⊥
IsClass Atom = ⊥
IsClass Quantified = ⊥
IsClass Zero = ⊥
IsClass (Braces after_atom) = ⊥
IsClass Escape = ⊥
IsClass (Hex value left) = ⊥
IsClass Paren = ⊥
IsClass ParenQuestion = ⊥
IsClass ClassOpen = Unit {0}
IsClass ClassFirst = Unit {0}
IsClass ClassNext = Unit {0}
IsClass ClassNextDash = Unit {0}
IsClass ClassNextDashes = Unit {0}
IsClass (ClassChar first) = Unit {0}
IsClass (ClassDash first) = Unit {0}
IsClass (ClassZero is_last) = Unit {0}
IsClass (ClassEscape first) = Unit {0}
IsClass (ClassHex first value left) = Unit {0}
