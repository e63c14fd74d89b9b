-- What the forms of imports tell tokens apart by.
use Rattle.std.specs.Prelude.{ℕ, Bool, true, false, if◌then◌else◌, List, codes}
use Rattle.std.specs.Str.{bytes_eq}
use Rattle.es_imports.specs.declared.piece.Kind.{Kind}
use Rattle.es_imports.specs.declared.piece.Kind.TheVariants as kinds
use Rattle.es_imports.specs.declared.sign.Sign.{Sign}
use Rattle.es_imports.specs.declared.sign.Sign.TheVariants as signs

-- a name: one that a form of import knows, or another
abbrev pub word_sign : List ℕ → Sign
word_sign name =
    if bytes_eq name (codes "import") then signs.Import
    else if bytes_eq name (codes "export") then signs.Export
    else if bytes_eq name (codes "require") then signs.Require
    else if bytes_eq name (codes "from") then signs.From
    else if bytes_eq name (codes "as") then signs.As
    else if bytes_eq name (codes "type") then signs.Type
    else signs.Name

-- a punctuator that a form of import knows, or another
abbrev pub mark_sign : List ℕ → Sign
mark_sign mark =
    if bytes_eq mark (codes ".") then signs.Dot
    else if bytes_eq mark (codes "?.") then signs.Dot
    else if bytes_eq mark (codes "(") then signs.Open
    else if bytes_eq mark (codes ")") then signs.Close
    else if bytes_eq mark (codes "{") then signs.OpenBrace
    else if bytes_eq mark (codes "}") then signs.CloseBrace
    else if bytes_eq mark (codes ",") then signs.Comma
    else if bytes_eq mark (codes "*") then signs.Star
    else if bytes_eq mark (codes "=") then signs.Equals
    else signs.Other

-- what a piece of that kind with that text is
abbrev pub sign_of : Kind → List ℕ → Sign
sign_of kinds.WhiteSpace text = signs.Blank
sign_of kinds.Comment text = signs.Blank
sign_of kinds.Name text = word_sign text
sign_of kinds.StringLiteral text = signs.StringLiteral
sign_of kinds.Template text = signs.Template
sign_of kinds.Punctuator text = mark_sign text
sign_of _ text = signs.Other

-- a name that something may be bound to: any but `import` and `export`
abbrev pub is_binding : Sign → Bool
is_binding signs.Require = true
is_binding signs.From = true
is_binding signs.As = true
is_binding signs.Type = true
is_binding signs.Name = true
is_binding _ = false

-- any name
abbrev pub is_word : Sign → Bool
is_word signs.Import = true
is_word signs.Export = true
is_word signs.Require = true
is_word signs.From = true
is_word signs.As = true
is_word signs.Type = true
is_word signs.Name = true
is_word _ = false
