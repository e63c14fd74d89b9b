-- What a form that has begun keeps of a string or a template.
use Rattle.std.proofs.Common.{◌≡◌, ℕ, Bool, true, false, List, refl}
use Rattle.std.specs.Prelude.{if◌then◌else◌, codes, IfSome, Option, Some, None, unwrap_or}
use Rattle.std.specs.Str.{bytes_eq}
use Rattle.es_imports.specs.declared.piece.Kind.{Kind}
use Rattle.es_imports.specs.declared.piece.Kind.TheVariants as kinds
use Rattle.es_imports.specs.declared.sign.Sign.{Sign}
use Rattle.es_imports.specs.declared.sign.Sign.TheVariants as signs
use Rattle.es_imports.specs.declared.expected.Form.{Form}
use Rattle.es_imports.specs.declared.expected.Found.{Found}
use Rattle.es_imports.specs.declared.expected.Expected.{Expected}
use Rattle.es_imports.specs.declared.expected.Expected.TheVariants as expected
use Rattle.es_imports.specs.Forms.{
  alias,
  argument,
  begun,
  behind_default,
  behind_export,
  behind_import,
  behind_import_type,
  behind_star,
  bindings,
  found,
  goes_on,
  if_wanted,
  in_braces,
  is_blank,
  next,
  source,
}
use Rattle.es_imports.specs.Signs.{mark_sign, sign_of, word_sign}
use Rattle.es_imports.specs.Quoted.{IsQuoted}
use Rattle.es_imports.proofs.Quoting.{is_literal}

-- the argument that a form keeps is quoted
abbrev pub IsPending : List ℕ → Expected → Type 0
IsPending text (expected.ArgumentEnd form place len) = IsQuoted text place len
IsPending text _ = Unit {0}

-- a string or a template
abbrev pub literal_sign : Sign → Bool
literal_sign signs.StringLiteral = true
literal_sign signs.Template = true
literal_sign _ = false

word_cases : (b0 b1 b2 b3 b4 b5 : Bool)
    → literal_sign (if b0 then signs.Import else if b1 then signs.Export else if b2 then signs.Require
    else if b3 then signs.From else if b4 then signs.As else if b5 then signs.Type else signs.Name) ≡ false
word_cases true b1 b2 b3 b4 b5 = refl
word_cases false true b2 b3 b4 b5 = refl
word_cases false false true b3 b4 b5 = refl
word_cases false false false true b4 b5 = refl
word_cases false false false false true b5 = refl
word_cases false false false false false true = refl
word_cases false false false false false false = refl

word_plain : (name : List ℕ) → literal_sign (word_sign name) ≡ false
word_plain name =
    word_cases (bytes_eq name (codes "import")) (bytes_eq name (codes "export"))
    (bytes_eq name (codes "require")) (bytes_eq name (codes "from")) (bytes_eq name (codes "as"))
    (bytes_eq name (codes "type"))

mark_cases : (b0 b1 b2 b3 b4 b5 b6 b7 b8 : Bool)
    → literal_sign (if b0 then signs.Dot else if b1 then signs.Dot else if b2 then signs.Open else if b3 then
    signs.Close
    else if b4 then signs.OpenBrace else if b5 then signs.CloseBrace else if b6 then signs.Comma else if b7 then
    signs.Star
    else if b8 then signs.Equals else signs.Other) ≡ false
mark_cases true b1 b2 b3 b4 b5 b6 b7 b8 = refl
mark_cases false true b2 b3 b4 b5 b6 b7 b8 = refl
mark_cases false false true b3 b4 b5 b6 b7 b8 = refl
mark_cases false false false true b4 b5 b6 b7 b8 = refl
mark_cases false false false false true b5 b6 b7 b8 = refl
mark_cases false false false false false true b6 b7 b8 = refl
mark_cases false false false false false false true b7 b8 = refl
mark_cases false false false false false false false true b8 = refl
mark_cases false false false false false false false false true = refl
mark_cases false false false false false false false false false = refl

mark_plain : (mark : List ℕ) → literal_sign (mark_sign mark) ≡ false
mark_plain mark =
    mark_cases (bytes_eq mark (codes ".")) (bytes_eq mark (codes "?.")) (bytes_eq mark (codes "("))
    (bytes_eq mark (codes ")")) (bytes_eq mark (codes "{")) (bytes_eq mark (codes "}")) (bytes_eq mark (codes ","))
    (bytes_eq mark (codes "*")) (bytes_eq mark (codes "="))

not_literal : (b : Bool) → b ≡ false → b ≡ true → ⊥
not_literal b h k = cc

-- only a literal is one in a form
pub sign_literal : (kind : Kind) (text : List ℕ) → literal_sign (sign_of kind text) ≡ true → is_literal kind ≡ true
sign_literal kinds.Name text e = absurd (not_literal _ (word_plain text) e)
sign_literal kinds.Punctuator text e = absurd (not_literal _ (mark_plain text) e)
sign_literal kinds.StringLiteral text e = refl
sign_literal kinds.Template text e = refl
sign_literal kinds.WhiteSpace text e = e
sign_literal kinds.Comment text e = e
sign_literal kinds.PrivateName text e = e
sign_literal kinds.Number text e = e
sign_literal kinds.TemplateHead text e = e
sign_literal kinds.TemplateMiddle text e = e
sign_literal kinds.TemplateTail text e = e
sign_literal kinds.RegularExpression text e = e
sign_literal kinds.ElementText text e = e
sign_literal kinds.TagName text e = e
sign_literal kinds.AttributeString text e = e

-- what is found is quoted
abbrev pub IsFound : List ℕ → Option Found → Type 0
IsFound text found = IfSome found (λ f. IsQuoted text f.place f.len)

source_found : (text : List ℕ) (form : Form) (sign : Sign) (at len : ℕ)
    → (literal_sign sign ≡ true → IsQuoted text at len) → IsFound text (source form sign at len)
source_found text form signs.StringLiteral at len q = q refl
source_found text form _ at len q = tt

found_if : (text : List ℕ) (b : Bool) (f : Found) → IsQuoted text f.place f.len
    → IsFound text (if b then Some f else None)
found_if text true f q = q
found_if text false f q = tt

pub found_quoted : (text : List ℕ) (state : Expected) (sign : Sign) (at len : ℕ) → IsPending text state
    → (literal_sign sign ≡ true → IsQuoted text at len) → IsFound text (found state sign at len)
found_quoted text expected.Import sign at len pending q = source_found text _ sign at len q
found_quoted text expected.ImportTypeFrom sign at len pending q = source_found text _ sign at len q
found_quoted text (expected.From form) sign at len pending q = source_found text form sign at len q
found_quoted text (expected.ArgumentEnd form place size) sign at len pending q = found_if text _ _ pending
found_quoted text _ sign at len pending q = tt

-- what a form goes on to, if it does
abbrev pub GoesOn : List ℕ → Option Expected → Type 0
GoesOn text next = IfSome next (IsPending text)

wanted_goes_on : (text : List ℕ) (b : Bool) (state : Expected) → IsPending text state → GoesOn text (if_wanted b state)
wanted_goes_on text true state h = h
wanted_goes_on text false state h = tt

import_goes_on : (text : List ℕ) (sign : Sign) → GoesOn text (behind_import sign)
import_goes_on text signs.Import = tt
import_goes_on text _ = tt

import_type_goes_on : (text : List ℕ) (sign : Sign) → GoesOn text (behind_import_type sign)
import_type_goes_on text signs.Import = tt
import_type_goes_on text _ = tt

default_goes_on : (text : List ℕ) (is_type : Bool) (sign : Sign) → GoesOn text (behind_default is_type sign)
default_goes_on text is_type signs.Import = tt
default_goes_on text is_type _ = tt

bindings_go_on : (text : List ℕ) (form : Form) (sign : Sign) → GoesOn text (bindings form sign)
bindings_go_on text form signs.Import = tt
bindings_go_on text form _ = tt

export_goes_on : (text : List ℕ) (sign : Sign) → GoesOn text (behind_export sign)
export_goes_on text signs.Import = tt
export_goes_on text _ = tt

braces_go_on : (text : List ℕ) (form : Form) (sign : Sign) → GoesOn text (in_braces form sign)
braces_go_on text form signs.Import = tt
braces_go_on text form _ = tt

star_goes_on : (text : List ℕ) (form : Form) (sign : Sign) → GoesOn text (behind_star form sign)
star_goes_on text form signs.Import = tt
star_goes_on text form _ = tt

alias_goes_on : (text : List ℕ) (form : Form) (sign : Sign) → GoesOn text (alias form sign)
alias_goes_on text form signs.Import = tt
alias_goes_on text form _ = tt

argument_goes_on : (text : List ℕ) (form : Form) (sign : Sign) (at len : ℕ)
    → (literal_sign sign ≡ true → IsQuoted text at len) → GoesOn text (argument form sign at len)
argument_goes_on text form signs.StringLiteral at len q = q refl
argument_goes_on text form signs.Template at len q = q refl
argument_goes_on text form _ at len q = tt

begun_pending : (text : List ℕ) (sign : Sign) → IsPending text (begun sign)
begun_pending text signs.Import = tt
begun_pending text _ = tt

goes_on_pending : (text : List ℕ) (state : Expected) (sign : Sign) (at len : ℕ)
    → (literal_sign sign ≡ true → IsQuoted text at len) → GoesOn text (goes_on state sign at len)
goes_on_pending text expected.Nothing sign at len q = tt
goes_on_pending text expected.Property sign at len q = wanted_goes_on text _ _ tt
goes_on_pending text expected.Import sign at len q = import_goes_on text sign
goes_on_pending text expected.ImportType sign at len q = import_type_goes_on text sign
goes_on_pending text expected.ImportTypeFrom sign at len q = wanted_goes_on text _ _ tt
goes_on_pending text (expected.Default is_type) sign at len q = default_goes_on text is_type sign
goes_on_pending text (expected.Bindings is_type) sign at len q = bindings_go_on text _ sign
goes_on_pending text expected.Export sign at len q = export_goes_on text sign
goes_on_pending text expected.ExportType sign at len q = bindings_go_on text _ sign
goes_on_pending text (expected.Braces form) sign at len q = braces_go_on text form sign
goes_on_pending text (expected.Star form) sign at len q = star_goes_on text form sign
goes_on_pending text (expected.Alias form) sign at len q = alias_goes_on text form sign
goes_on_pending text (expected.Source form) sign at len q = wanted_goes_on text _ _ tt
goes_on_pending text (expected.From form) sign at len q = tt
goes_on_pending text (expected.Equals is_type) sign at len q = wanted_goes_on text _ _ tt
goes_on_pending text (expected.Call form) sign at len q = wanted_goes_on text _ _ tt
goes_on_pending text (expected.Argument form) sign at len q = argument_goes_on text form sign at len q
goes_on_pending text (expected.ArgumentEnd form place size) sign at len q = tt

or_pending : (text : List ℕ) (o : Option Expected) (other : Expected) → GoesOn text o → IsPending text other
    → IsPending text (unwrap_or o other)
or_pending text None other h k = k
or_pending text (Some state) other h k = h

if_pending : (text : List ℕ) (b : Bool) (x y : Expected) → IsPending text x → IsPending text y
    → IsPending text (if b then x else y)
if_pending text true x y h k = h
if_pending text false x y h k = k

pub next_pending : (text : List ℕ) (state : Expected) (sign : Sign) (at len : ℕ) → IsPending text state
    → (literal_sign sign ≡ true → IsQuoted text at len) → IsPending text (next state sign at len)
next_pending text state sign at len pending q =
    if_pending text (is_blank sign) state _ pending
    (or_pending text (goes_on state sign at len) (begun sign) (goes_on_pending text state sign at len q)
    (begun_pending text sign))
