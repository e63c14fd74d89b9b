-- The forms of imports are found.
use Rattle.std.proofs.Common.{
  ◌≡◌,
  ℕ,
  Bool,
  true,
  false,
  List,
  [],
  ◌∷◌,
  ◌++◌,
  ◌⊎◌,
  inl,
  inr,
  length,
  refl,
  ap,
  sym,
  ◌∙◌,
  append_assoc,
}
use Rattle.std.specs.Prelude.{None, not, if◌then◌else◌}
use Rattle.std.specs.Option.{option_to_list}
use Rattle.es_imports.specs.declared.imports.ImportKind.TheVariants as imports
use Rattle.es_imports.specs.declared.sign.Sign.{Sign}
use Rattle.es_imports.specs.declared.sign.Sign.TheVariants as signs
use Rattle.es_imports.specs.declared.expected.Form.{Form}
use Rattle.es_imports.specs.declared.expected.Found.{Found}
use Rattle.es_imports.specs.declared.expected.Expected.{Expected}
use Rattle.es_imports.specs.declared.expected.Expected.TheVariants as expected
use Rattle.es_imports.specs.Signs.{is_word}
use Rattle.es_imports.specs.Forms.{form_of, found, is_blank, next}
use Rattle.es_imports.specs.Imports.{Placed, behind_token, found_at, found_in}
use Rattle.es_imports.specs.Laws.{AreBindings, BlanksChangeNothing, FormsAreFound, Is, IsWord, by, sign_at, tokens}

-- what is imported from a piece of that sign on
abbrev after : Expected → Sign → Placed → List Placed → List Found
after state sign p ps =
    option_to_list (found state sign p.place (length p.text)) ++ found_in (next state sign p.place (length p.text)) ps

step : (state : Expected) (p : Placed) (sign : Sign) (ps : List Placed) → Is sign p
    → found_in state (p ∷ ps) ≡ after state sign p ps
step state p sign ps e = ap (λ (s : Sign). after state s p ps) e

-- a name between braces
word_step : (form : Form) (sign : Sign) (p : Placed) (ps : List Placed) → is_word sign ≡ true
    → after (expected.Braces form) sign p ps ≡ found_in (expected.Braces form) ps
word_step form signs.Import p ps e = refl
word_step form signs.Export p ps e = refl
word_step form signs.Require p ps e = refl
word_step form signs.From p ps e = refl
word_step form signs.As p ps e = refl
word_step form signs.Type p ps e = refl
word_step form signs.Name p ps e = refl
word_step form _ p ps e = absurd (cc)

in_braces_step : (form : Form) (p : Placed) (ps : List Placed)
    → IsWord p ⊎ (Is signs.Comma p ⊎ Is signs.StringLiteral p)
    → found_in (expected.Braces form) (p ∷ ps) ≡ found_in (expected.Braces form) ps
in_braces_step form p ps (inl e) = word_step form (sign_at p) p ps e
in_braces_step form p ps (inr (inl e)) = step (expected.Braces form) p signs.Comma ps e
in_braces_step form p ps (inr (inr e)) = step (expected.Braces form) p signs.StringLiteral ps e

braces_run : (form : Form) (names tail : List Placed) → AreBindings names
    → found_in (expected.Braces form) (names ++ tail) ≡ found_in (expected.Braces form) tail
braces_run form [] tail h = refl
braces_run form (p ∷ ps) tail h = in_braces_step form p (ps ++ tail) h.0 ∙ braces_run form ps tail h.1

-- from the opening brace on
braced : (form : Form) (c f x : Placed) (names rest : List Placed) → AreBindings names → Is signs.CloseBrace c
    → Is signs.From f
    → Is signs.StringLiteral x
    → found_in (expected.Braces form) ((names ++ (c ∷ f ∷ x ∷ []))
    ++ rest) ≡ by form x ∷ found_in expected.Nothing rest
braced form c f x names rest h hc hf hx =
    ap (λ (ps : List Placed). found_in (expected.Braces form) ps) (append_assoc names (c ∷ f ∷ x ∷ []) rest)
    ∙ braces_run form names (c ∷ f ∷ x ∷ rest) h ∙ step (expected.Braces form) c signs.CloseBrace (f ∷ x ∷ rest) hc
    ∙ step (expected.Source form) f signs.From (x ∷ rest) hf ∙ step (expected.From form) x signs.StringLiteral rest hx

-- from the parenthesis on
called : (form : Form) (o x c : Placed) (rest : List Placed) → Is signs.Open o
    → Is signs.StringLiteral x ⊎ Is signs.Template x
    → Is signs.Close c → found_in (expected.Call form) (o ∷ x ∷ c ∷ rest) ≡ by form x ∷ found_in expected.Nothing rest
called form o x c rest ho (inl hx) hc =
    step (expected.Call form) o signs.Open (x ∷ c ∷ rest) ho
    ∙ step (expected.Argument form) x signs.StringLiteral (c ∷ rest) hx
    ∙ step (expected.ArgumentEnd form x.place (length x.text)) c signs.Close rest hc
called form o x c rest ho (inr hx) hc =
    step (expected.Call form) o signs.Open (x ∷ c ∷ rest) ho
    ∙ step (expected.Argument form) x signs.Template (c ∷ rest) hx
    ∙ step (expected.ArgumentEnd form x.place (length x.text)) c signs.Close rest hc

imported : (o x c : Placed) (rest : List Placed) → Is signs.Open o
    → Is signs.StringLiteral x ⊎ Is signs.Template x → Is signs.Close c
    → found_in expected.Import (o ∷ x ∷ c ∷ rest) ≡ by
    (form_of imports.Dynamic false) x ∷ found_in expected.Nothing rest
imported o x c rest ho (inl hx) hc =
    step expected.Import o signs.Open (x ∷ c ∷ rest) ho
    ∙ step (expected.Argument (form_of imports.Dynamic false)) x signs.StringLiteral (c ∷ rest) hx
    ∙ step (expected.ArgumentEnd (form_of imports.Dynamic false) x.place (length x.text)) c signs.Close rest hc
imported o x c rest ho (inr hx) hc =
    step expected.Import o signs.Open (x ∷ c ∷ rest) ho
    ∙ step (expected.Argument (form_of imports.Dynamic false)) x signs.Template (c ∷ rest) hx
    ∙ step (expected.ArgumentEnd (form_of imports.Dynamic false) x.place (length x.text)) c signs.Close rest hc

-- a name behind a point
property_step : (sign : Sign) (p : Placed) (ps : List Placed) → is_word sign ≡ true
    → after expected.Property sign p ps ≡ found_in expected.Nothing ps
property_step signs.Import p ps e = refl
property_step signs.Export p ps e = refl
property_step signs.Require p ps e = refl
property_step signs.From p ps e = refl
property_step signs.As p ps e = refl
property_step signs.Type p ps e = refl
property_step signs.Name p ps e = refl
property_step _ p ps e = absurd (cc)

pub forms_found : FormsAreFound
forms_found = record {
  bare = λ a x ha hx rest. step expected.Nothing a signs.Import (x ∷ rest) ha
      ∙ step expected.Import x signs.StringLiteral rest hx;
  default = λ a b f x ha hb hf hx rest.
      step expected.Nothing a signs.Import (b ∷ f ∷ x ∷ rest) ha ∙ step expected.Import b signs.Name (f ∷ x ∷ rest) hb
      ∙ step (expected.Default false) f signs.From (x ∷ rest) hf
      ∙ step (expected.From (form_of imports.Static false)) x signs.StringLiteral rest hx;
  named = λ a o c f x names ha ho h hc hf hx rest.
      step expected.Nothing a signs.Import (o ∷ ((names ++ (c ∷ f ∷ x ∷ [])) ++ rest)) ha
      ∙ step expected.Import o signs.OpenBrace ((names ++ (c ∷ f ∷ x ∷ [])) ++ rest) ho
      ∙ braced (form_of imports.Static false) c f x names rest h hc hf hx;
  types = λ a t o c f x names ha ht ho h hc hf hx rest.
      step expected.Nothing a signs.Import (t ∷ o ∷ ((names ++ (c ∷ f ∷ x ∷ [])) ++ rest)) ha
      ∙ step expected.Import t signs.Type (o ∷ ((names ++ (c ∷ f ∷ x ∷ [])) ++ rest)) ht
      ∙ step expected.ImportType o signs.OpenBrace ((names ++ (c ∷ f ∷ x ∷ [])) ++ rest) ho
      ∙ braced (form_of imports.Static true) c f x names rest h hc hf hx;
  namespace = λ a s as' b f x ha hs has hb hf hx rest.
      step expected.Nothing a signs.Import (s ∷ as' ∷ b ∷ f ∷ x ∷ rest) ha
      ∙ step expected.Import s signs.Star (as' ∷ b ∷ f ∷ x ∷ rest) hs
      ∙ step (expected.Star (form_of imports.Static false)) as' signs.As (b ∷ f ∷ x ∷ rest) has
      ∙ step (expected.Alias (form_of imports.Static false)) b signs.Name (f ∷ x ∷ rest) hb
      ∙ step (expected.Source (form_of imports.Static false)) f signs.From (x ∷ rest) hf
      ∙ step (expected.From (form_of imports.Static false)) x signs.StringLiteral rest hx;
  exported = λ a o c f x names ha ho h hc hf hx rest.
      step expected.Nothing a signs.Export (o ∷ ((names ++ (c ∷ f ∷ x ∷ [])) ++ rest)) ha
      ∙ step expected.Export o signs.OpenBrace ((names ++ (c ∷ f ∷ x ∷ [])) ++ rest) ho
      ∙ braced (form_of imports.Export false) c f x names rest h hc hf hx;
  all_exported = λ a s f x ha hs hf hx rest.
      step expected.Nothing a signs.Export (s ∷ f ∷ x ∷ rest) ha ∙ step expected.Export s signs.Star (f ∷ x ∷ rest) hs
      ∙ step (expected.Star (form_of imports.Export false)) f signs.From (x ∷ rest) hf
      ∙ step (expected.From (form_of imports.Export false)) x signs.StringLiteral rest hx;
  dynamic = λ a o x c ha ho hx hc rest.
      step expected.Nothing a signs.Import (o ∷ x ∷ c ∷ rest) ha ∙ imported o x c rest ho hx hc;
  required = λ a o x c ha ho hx hc rest.
      step expected.Nothing a signs.Require (o ∷ x ∷ c ∷ rest) ha
      ∙ called (form_of imports.Require false) o x c rest ho hx hc;
  equals = λ a b e r o x c ha hb he hr ho hx hc rest.
      step expected.Nothing a signs.Import (b ∷ e ∷ r ∷ o ∷ x ∷ c ∷ rest) ha
      ∙ step expected.Import b signs.Name (e ∷ r ∷ o ∷ x ∷ c ∷ rest) hb
      ∙ step (expected.Default false) e signs.Equals (r ∷ o ∷ x ∷ c ∷ rest) he
      ∙ step (expected.Equals false) r signs.Require (o ∷ x ∷ c ∷ rest) hr
      ∙ called (form_of imports.ImportEquals false) o x c rest ho (inl hx) hc;
  property = λ d p rest hd hp. step expected.Nothing d signs.Dot (p ∷ rest) hd ∙ property_step (sign_at p) p rest hp;
}

-- ---- white space and comments

nothing_found : (state : Expected) (place len : ℕ) → found state signs.Blank place len ≡ None
nothing_found expected.Import place len = refl
nothing_found _ place len = refl

blank_step : (state : Expected) (sign : Sign) (p : Placed) (ps : List Placed) → is_blank sign ≡ true
    → after state sign p ps ≡ found_in state ps
blank_step state signs.Blank p ps e =
    ap (λ found. option_to_list found ++ found_in state ps) (nothing_found state p.place (length p.text))
blank_step state _ p ps e = absurd (cc)

pub blanks_nothing : BlanksChangeNothing
blanks_nothing state [] = refl
blanks_nothing state (p ∷ ps) =
    by_test (is_blank (sign_at p)) refl (blanks_nothing state ps) (blanks_nothing (behind_token state p) ps)
  where
    by_test : (b : Bool) → is_blank (sign_at p) ≡ b → found_in state (tokens ps) ≡ found_in state ps
        → found_in (behind_token state p) (tokens ps) ≡ found_in (behind_token state p) ps
        → found_in state (if not b then p ∷ tokens ps else tokens ps) ≡ found_in state (p ∷ ps)
    by_test true e same next = same ∙ sym (blank_step state (sign_at p) p ps e)
    by_test false e same next =
        ap (λ (found : List Found). option_to_list (found_at state p) ++ found) next
