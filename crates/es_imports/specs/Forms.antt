-- The forms of imports, each told from its first token on: what may come next in a form that has begun, and
-- what it imports. A token that doesn't go on with a form breaks it off, and may begin another. The forms are
--   import "x"    import a from "x"    import { a, b as c } from "x"    import * as a from "x"
--   import a, { b } from "x"    import a, * as b from "x"    import a = require("x")
--   export { a, b as c } from "x"    export * from "x"    export * as a from "x"
--   import("x")    import("x", ..)    require("x")
-- and those of the first three lines with `type` behind `import` or `export`. What stands behind a point is a
-- property, and begins none.
use Rattle.std.specs.Prelude.{ℕ, Bool, true, false, if◌then◌else◌, Option, Some, None, unwrap_or}
use Rattle.es_imports.specs.declared.imports.ImportKind.{ImportKind}
use Rattle.es_imports.specs.declared.imports.ImportKind.TheVariants as imports
use Rattle.es_imports.specs.declared.sign.Sign.{Sign}
use Rattle.es_imports.specs.declared.sign.Sign.TheVariants as signs
use Rattle.es_imports.specs.declared.expected.Form.{Form}
use Rattle.es_imports.specs.declared.expected.Found.{Found}
use Rattle.es_imports.specs.declared.expected.Expected.{Expected}
use Rattle.es_imports.specs.declared.expected.Expected.TheVariants as expected
use Rattle.es_imports.specs.Signs.{is_word}

-- a form that makes such an import
abbrev pub form_of : ImportKind → Bool → Form
form_of kind is_type = record { kind = kind; is_type = is_type }

-- a token that goes on with no form begins one, or none
abbrev pub begun : Sign → Expected
begun signs.Import = expected.Import
begun signs.Export = expected.Export
begun signs.Require = expected.Call (form_of imports.Require false)
begun signs.Dot = expected.Property
begun _ = expected.Nothing

-- behind `import`: a binding, names between braces, a star, `type`, or a parenthesis
abbrev pub behind_import : Sign → Option Expected
behind_import signs.Require = Some (expected.Default false)
behind_import signs.From = Some (expected.Default false)
behind_import signs.As = Some (expected.Default false)
behind_import signs.Type = Some expected.ImportType
behind_import signs.Name = Some (expected.Default false)
behind_import signs.Open = Some (expected.Argument (form_of imports.Dynamic false))
behind_import signs.OpenBrace = Some (expected.Braces (form_of imports.Static false))
behind_import signs.Star = Some (expected.Star (form_of imports.Static false))
behind_import _ = None

-- behind `import type`, where `type` may be the binding
abbrev pub behind_import_type : Sign → Option Expected
behind_import_type signs.Require = Some (expected.Default true)
behind_import_type signs.From = Some expected.ImportTypeFrom
behind_import_type signs.As = Some (expected.Default true)
behind_import_type signs.Type = Some (expected.Default true)
behind_import_type signs.Name = Some (expected.Default true)
behind_import_type signs.OpenBrace = Some (expected.Braces (form_of imports.Static true))
behind_import_type signs.Comma = Some (expected.Bindings false)
behind_import_type signs.Star = Some (expected.Star (form_of imports.Static true))
behind_import_type signs.Equals = Some (expected.Equals false)
behind_import_type _ = None

-- behind a default binding
abbrev pub behind_default : Bool → Sign → Option Expected
behind_default is_type signs.From = Some (expected.From (form_of imports.Static is_type))
behind_default is_type signs.Comma = Some (expected.Bindings is_type)
behind_default is_type signs.Equals = Some (expected.Equals is_type)
behind_default is_type _ = None

-- names between braces, or a star
abbrev pub bindings : Form → Sign → Option Expected
bindings form signs.OpenBrace = Some (expected.Braces form)
bindings form signs.Star = Some (expected.Star form)
bindings form _ = None

-- behind `export`
abbrev pub behind_export : Sign → Option Expected
behind_export signs.Type = Some expected.ExportType
behind_export sign = bindings (form_of imports.Export false) sign

-- between braces: names, strings and commas, up to the closing one
abbrev pub in_braces : Form → Sign → Option Expected
in_braces form signs.Import = Some (expected.Braces form)
in_braces form signs.Export = Some (expected.Braces form)
in_braces form signs.Require = Some (expected.Braces form)
in_braces form signs.From = Some (expected.Braces form)
in_braces form signs.As = Some (expected.Braces form)
in_braces form signs.Type = Some (expected.Braces form)
in_braces form signs.Name = Some (expected.Braces form)
in_braces form signs.StringLiteral = Some (expected.Braces form)
in_braces form signs.CloseBrace = Some (expected.Source form)
in_braces form signs.Comma = Some (expected.Braces form)
in_braces form _ = None

-- behind a star
abbrev pub behind_star : Form → Sign → Option Expected
behind_star form signs.From = Some (expected.From form)
behind_star form signs.As = Some (expected.Alias form)
behind_star form _ = None

-- behind `* as`: a name or a string
abbrev pub alias : Form → Sign → Option Expected
alias form signs.Import = Some (expected.Source form)
alias form signs.Export = Some (expected.Source form)
alias form signs.Require = Some (expected.Source form)
alias form signs.From = Some (expected.Source form)
alias form signs.As = Some (expected.Source form)
alias form signs.Type = Some (expected.Source form)
alias form signs.Name = Some (expected.Source form)
alias form signs.StringLiteral = Some (expected.Source form)
alias form _ = None

-- the argument of a call, which begins at that place and takes so many bytes
abbrev pub argument : Form → Sign → ℕ → ℕ → Option Expected
argument form signs.StringLiteral place len = Some (expected.ArgumentEnd form place len)
argument form signs.Template place len = Some (expected.ArgumentEnd form place len)
argument form _ place len = None

-- `from`
abbrev pub is_from : Sign → Bool
is_from signs.From = true
is_from _ = false

-- `require`
abbrev pub is_require : Sign → Bool
is_require signs.Require = true
is_require _ = false

-- an opening parenthesis
abbrev pub is_open : Sign → Bool
is_open signs.Open = true
is_open _ = false

-- a string
abbrev pub is_string : Sign → Bool
is_string signs.StringLiteral = true
is_string _ = false

-- that, where the token is the one that is wanted
abbrev pub if_wanted : Bool → Expected → Option Expected
if_wanted is_wanted next = if is_wanted then Some next else None

-- what may come next where the token goes on with the form that has begun
abbrev pub goes_on : Expected → Sign → ℕ → ℕ → Option Expected
goes_on expected.Nothing sign place len = None
goes_on expected.Property sign place len = if_wanted (is_word sign) expected.Nothing
goes_on expected.Import sign place len = behind_import sign
goes_on expected.ImportType sign place len = behind_import_type sign
goes_on expected.ImportTypeFrom sign place len = if_wanted (is_from sign) (expected.From (form_of imports.Static true))
goes_on (expected.Default is_type) sign place len = behind_default is_type sign
goes_on (expected.Bindings is_type) sign place len = bindings (form_of imports.Static is_type) sign
goes_on expected.Export sign place len = behind_export sign
goes_on expected.ExportType sign place len = bindings (form_of imports.Export true) sign
goes_on (expected.Braces form) sign place len = in_braces form sign
goes_on (expected.Star form) sign place len = behind_star form sign
goes_on (expected.Alias form) sign place len = alias form sign
goes_on (expected.Source form) sign place len = if_wanted (is_from sign) (expected.From form)
goes_on (expected.From form) sign place len = None
goes_on (expected.Equals is_type) sign place len =
    if_wanted (is_require sign) (expected.Call (form_of imports.ImportEquals is_type))
goes_on (expected.Call form) sign place len = if_wanted (is_open sign) (expected.Argument form)
goes_on (expected.Argument form) sign place len = argument form sign place len
goes_on (expected.ArgumentEnd form from size) sign place len = None

-- white space or a comment
abbrev pub is_blank : Sign → Bool
is_blank signs.Blank = true
is_blank _ = false

-- what may come behind a piece that begins at that place and takes so many bytes: white space and comments
-- change nothing
abbrev pub next : Expected → Sign → ℕ → ℕ → Expected
next state sign place len = if is_blank sign then state else unwrap_or (goes_on state sign place len) (begun sign)

-- a call of `import` may have more arguments
abbrev pub has_options : ImportKind → Bool
has_options imports.Dynamic = true
has_options _ = false

-- the argument of a call ends
abbrev pub ends_argument : Form → Sign → Bool
ends_argument form signs.Close = true
ends_argument form signs.Comma = has_options form.kind
ends_argument form _ = false

-- a string where the source of a form stands
abbrev pub source : Form → Sign → ℕ → ℕ → Option Found
source form sign place len = if is_string sign then Some (record { form = form; place = place; len = len }) else None

-- what the token is found to import
abbrev pub found : Expected → Sign → ℕ → ℕ → Option Found
found expected.Import sign place len = source (form_of imports.Static false) sign place len
found expected.ImportTypeFrom sign place len = source (form_of imports.Static false) sign place len
found (expected.From form) sign place len = source form sign place len
found (expected.ArgumentEnd form from size) sign place len =
    if ends_argument form sign then Some (record { form = form; place = from; len = size }) else None
found _ sign place len = None
