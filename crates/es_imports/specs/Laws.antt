-- Laws of the pieces of a text, and of the forms of imports.
use Rattle.std.specs.Prelude.{
  ◌≡◌,
  ℕ,
  Bool,
  true,
  false,
  not,
  List,
  [],
  ◌∷◌,
  ◌++◌,
  ◌⊎◌,
  filter,
  length,
  take,
  Ok,
}
use Rattle.std.specs.List.{flat_map}
use Rattle.es_imports.specs.declared.imports.ImportKind.TheVariants as imports
use Rattle.es_imports.specs.declared.sign.Sign.{Sign}
use Rattle.es_imports.specs.declared.sign.Sign.TheVariants as signs
use Rattle.es_imports.specs.declared.expected.Form.{Form}
use Rattle.es_imports.specs.declared.expected.Found.{Found}
use Rattle.es_imports.specs.declared.expected.Expected.{Expected}
use Rattle.es_imports.specs.declared.expected.Expected.TheVariants.{Nothing}
use Rattle.es_imports.specs.Signs.{is_word, sign_of}
use Rattle.es_imports.specs.Forms.{form_of, is_blank}
use Rattle.es_imports.specs.Imports.{Placed, found_in, hash_bang_len, pieces_of}

-- the pieces joined are the text behind the line that names an interpreter
abbrev pub PiecesAreTheText : Type 0
PiecesAreTheText = (jsx : Bool) (text : List ℕ) (pieces : List Placed) → pieces_of jsx text ≡ Ok pieces
    → take (hash_bang_len text) text ++ flat_map (λ p. p.text) pieces ≡ text

-- what a piece is in a form of import
abbrev pub sign_at : Placed → Sign
sign_at p = sign_of p.kind p.text

-- the tokens among pieces
abbrev pub tokens : List Placed → List Placed
tokens pieces = filter (λ p. not (is_blank (sign_at p))) pieces

-- white space and comments between tokens change nothing of what is imported
abbrev pub BlanksChangeNothing : Type 0
BlanksChangeNothing = (expected : Expected) (pieces : List Placed)
    → found_in expected (tokens pieces) ≡ found_in expected pieces

-- the token is such a one
abbrev pub Is : Sign → Placed → Type 0
Is sign p = sign_at p ≡ sign

-- a name
abbrev pub IsWord : Placed → Type 0
IsWord p = is_word (sign_at p) ≡ true

-- the literal is what the form imports by
abbrev pub by : Form → Placed → Found
by form p = record { form = form; place = p.place; len = length p.text }

-- between braces: names, commas and strings
abbrev pub AreBindings : List Placed → Type 0
AreBindings [] = Unit {0}
AreBindings (p ∷ ps) = (IsWord p ⊎ (Is signs.Comma p ⊎ Is signs.StringLiteral p)) × AreBindings ps

-- the tokens import that, wherever no form has begun, and what follows them is read as if they weren't there
abbrev pub Imports : List Placed → Found → Type 0
Imports form found = (rest : List Placed) → found_in Nothing (form ++ rest) ≡ found ∷ found_in Nothing rest

-- Each form is found, with its kind, and with the place of its literal.
pub record FormsAreFound : Type 0 where
  -- import "x"
  pub bare : (a x : Placed) → Is signs.Import a → Is signs.StringLiteral x
      → Imports (a ∷ x ∷ []) (by (form_of imports.Static false) x)
  -- import a from "x"
  pub default : (a b f x : Placed) → Is signs.Import a → Is signs.Name b → Is signs.From f → Is signs.StringLiteral x
      → Imports (a ∷ b ∷ f ∷ x ∷ []) (by (form_of imports.Static false) x)
  -- import { .. } from "x"
  pub named : (a o c f x : Placed) (names : List Placed) → Is signs.Import a → Is signs.OpenBrace o → AreBindings names
      → Is signs.CloseBrace c → Is signs.From f → Is signs.StringLiteral x
      → Imports (a ∷ o ∷ (names ++ (c ∷ f ∷ x ∷ []))) (by (form_of imports.Static false) x)
  -- import type { .. } from "x"
  pub types : (a t o c f x : Placed) (names : List Placed) → Is signs.Import a → Is signs.Type t → Is signs.OpenBrace o
      → AreBindings names → Is signs.CloseBrace c → Is signs.From f → Is signs.StringLiteral x
      → Imports (a ∷ t ∷ o ∷ (names ++ (c ∷ f ∷ x ∷ []))) (by (form_of imports.Static true) x)
  -- import * as b from "x"
  pub namespace : (a s as' b f x : Placed) → Is signs.Import a → Is signs.Star s → Is signs.As as' → Is signs.Name b
      → Is signs.From f → Is signs.StringLiteral x
      → Imports (a ∷ s ∷ as' ∷ b ∷ f ∷ x ∷ []) (by (form_of imports.Static false) x)
  -- export { .. } from "x"
  pub exported : (a o c f x : Placed) (names : List Placed) → Is signs.Export a → Is signs.OpenBrace o
      → AreBindings names
      → Is signs.CloseBrace c → Is signs.From f → Is signs.StringLiteral x
      → Imports (a ∷ o ∷ (names ++ (c ∷ f ∷ x ∷ []))) (by (form_of imports.Export false) x)
  -- export * from "x"
  pub all_exported : (a s f x : Placed) → Is signs.Export a → Is signs.Star s → Is signs.From f
      → Is signs.StringLiteral x
      → Imports (a ∷ s ∷ f ∷ x ∷ []) (by (form_of imports.Export false) x)
  -- import("x") and import(`x`)
  pub dynamic : (a o x c : Placed) → Is signs.Import a → Is signs.Open o
      → Is signs.StringLiteral x ⊎ Is signs.Template x
      → Is signs.Close c → Imports (a ∷ o ∷ x ∷ c ∷ []) (by (form_of imports.Dynamic false) x)
  -- require("x") and require(`x`)
  pub required : (a o x c : Placed) → Is signs.Require a → Is signs.Open o
      → Is signs.StringLiteral x ⊎ Is signs.Template x
      → Is signs.Close c → Imports (a ∷ o ∷ x ∷ c ∷ []) (by (form_of imports.Require false) x)
  -- import a = require("x")
  pub equals : (a b e r o x c : Placed) → Is signs.Import a → Is signs.Name b → Is signs.Equals e → Is signs.Require r
      → Is signs.Open o → Is signs.StringLiteral x → Is signs.Close c
      → Imports (a ∷ b ∷ e ∷ r ∷ o ∷ x ∷ c ∷ []) (by (form_of imports.ImportEquals false) x)
  -- a name behind a point begins no form
  pub property : (d p : Placed) (rest : List Placed) → Is signs.Dot d → IsWord p
      → found_in Nothing (d ∷ p ∷ rest) ≡ found_in Nothing rest
