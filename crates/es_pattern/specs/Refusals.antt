-- What is refused whatever the grammar says: forms that aren't supported, and groups too deep.
use Rattle.std.specs.Prelude.{ℕ, ◌+◌, ◌&&◌, ◌||◌, Bool, true, false, nat_le, List}
use Rattle.es_pattern.specs.Forms.{begins_unsupported_escape, begins_named_group, begins_group}
use Rattle.es_pattern.specs.declared.mode.Mode.{Mode}
use Rattle.es_pattern.specs.declared.mode.Mode.TheVariants.{
  Term,
  Atom,
  Quantified,
  Zero,
  Braces,
  Escape,
  Hex,
  Paren,
  ParenQuestion,
  ClassEscape,
  ClassHex,
}

-- an escape may begin where none has begun, and not behind `(?`
abbrev pub may_escape : Mode → Bool
may_escape Escape = false
may_escape (Hex value left) = false
may_escape ParenQuestion = false
may_escape (ClassEscape first) = false
may_escape (ClassHex first value left) = false
may_escape mode = true

-- a group may begin where a term may, outside classes and escapes
abbrev pub may_open : Mode → Bool
may_open Term = true
may_open Atom = true
may_open Quantified = true
may_open Zero = true
may_open (Braces after_atom) = true
may_open Paren = true
may_open mode = false

-- how many groups have begun that are not open yet: one behind `(`
abbrev pub pending : Mode → ℕ
pending Paren = 1
pending mode = 0

-- what was read goes on with a form that isn't supported
abbrev pub is_unsupported : Mode → List ℕ → Bool
is_unsupported mode rest = may_escape mode && begins_unsupported_escape rest || may_open mode && begins_named_group rest

-- what was read goes on with the 201st group within one another
abbrev pub is_too_deep : ℕ → Mode → List ℕ → Bool
is_too_deep groups mode rest = may_open mode && begins_group rest && nat_le 200 (groups + pending mode)
