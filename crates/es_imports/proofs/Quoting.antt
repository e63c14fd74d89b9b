-- A string and a template begin and end with a byte of ASCII.
use Prim.Native.Char.{code}
use Rattle.std.proofs.Common.{
  ◌≡◌,
  ◌<◌,
  ◌≤◌,
  ◌+◌,
  ◌-◌,
  ◌==◌,
  ℕ,
  suc,
  Bool,
  true,
  false,
  List,
  [],
  ◌∷◌,
  length,
  drop,
  get_or,
  refl,
  ap,
  sym,
  ◌∙◌,
  arith,
  eqb-true,
  lit<,
}
use Rattle.std.specs.Prelude.{codes, ◌&&◌, nat_eq, if◌then◌else◌, Result, Ok, Err, slice_index}
use Rattle.std.specs.List.{starts_with}
use Rattle.std.proofs.lemmas.List.{length-drop, get_or-drop}
use Rattle.es_imports.specs.declared.piece.Kind.{Kind}
use Rattle.es_imports.specs.declared.piece.Kind.TheVariants as kinds
use Rattle.es_imports.specs.declared.piece.Piece.{Piece}
use Rattle.es_imports.specs.declared.piece.Goal.{Goal}
use Rattle.es_imports.specs.declared.part.Part.{Part}
use Rattle.es_imports.specs.declared.part.Part.TheVariants as parts
use Rattle.es_imports.specs.declared.refusal.Cause.{Cause}
use Rattle.es_imports.specs.declared.refusal.Cause.TheVariants as causes
use Rattle.es_imports.specs.Parts.{child_part, part_len, template_part}
use Rattle.es_imports.specs.Runs.{run}
use Rattle.es_imports.specs.Literals.{piece, block_comment, string_literal, template_from, with_flags, pattern_part}
use Rattle.es_imports.specs.Tokens.{
  division_at,
  marked_at,
  code_at,
  piece_at,
  piece_within,
  private_name,
  punctuator,
  slash_at,
}
use Rattle.es_imports.specs.declared.piece.Within.{Within}
use Rattle.es_imports.specs.declared.piece.Within.TheVariants as within
use Rattle.es_imports.specs.Elements.{
  attribute_string,
  child_at,
  is_tag_mark,
  opening_len,
  tag_at,
  tag_mark_at,
  tag_slash,
}
use Rattle.es_imports.specs.Quoted.{IsQuoted}

-- a string, or a template without substitutions
abbrev pub is_literal : Kind → Bool
is_literal kinds.StringLiteral = true
is_literal kinds.Template = true
is_literal _ = false

-- a literal that was read at the text's front is quoted
abbrev pub Quotes : List ℕ → Result Piece Cause → Type 0
Quotes t read = (p : Piece) → read ≡ Ok p → is_literal p.kind ≡ true → IsQuoted t 0 p.len

quotes_if : (t : List ℕ) (b : Bool) (r s : Result Piece Cause) → (b ≡ true → Quotes t r) → Quotes t s
    → Quotes t (if b then r else s)
quotes_if t true r s when else' = when refl
quotes_if t false r s when else' = else'

quotes_other : (t : List ℕ) (kind : Kind) (len : ℕ) → is_literal kind ≡ false → Quotes t (Ok (piece kind len))
quotes_other t kind len other p e l =
    let same : kind ≡ p.kind = cc in
    absurd (differ (sym other ∙ ap is_literal same ∙ l))
  where
    differ : false ≡ true → ⊥
    differ h = cc

quotes_err : (t : List ℕ) (cause : Cause) → Quotes t (Err cause)
quotes_err t cause p e l = absurd (cc)

-- a text that starts with a byte
starts_one : (t : List ℕ) (q : ℕ) → starts_with nat_eq t (q ∷ []) ≡ true → (0 < length t) × (get_or t 0 0 ≡ q)
starts_one [] q e = absurd (cc)
starts_one (x ∷ xs) q e = by_test (q == x) refl e
  where
    by_test : (b : Bool) → (q == x) ≡ b → (b && true) ≡ true → (0 < length (x ∷ xs)) × (x ≡ q)
    by_test true same e' = (omega arith, sym (eqb-true q x same))
    by_test false same e' = absurd (cc)

-- a piece from a mark to the next mark of ASCII
quoted : (c q inner : ℕ) (cs : List ℕ) → c < 128 → q < 128 → starts_with nat_eq (drop inner cs) (q ∷ []) ≡ true
    → IsQuoted (c ∷ cs) 0 (inner + 2)
quoted c q inner cs first last e =
    let found = starts_one (drop inner cs) q e in
    let there = get_or-drop inner cs 0 0 in
    let rest = length-drop inner cs in
    let zero_more : inner + 0 ≡ inner = omega arith in
    let at : 0 + (inner + 2) - 1 ≡ suc inner = omega arith in
    let same : get_or cs inner 0 ≡ q = ap (λ (k : ℕ). get_or cs k 0) (sym zero_more) ∙ sym there ∙ found.1 in
    record { some = omega arith; within = omega arith; first = first; last = rw at (rw same last) }

string_quotes : (part : Part) (c : ℕ) (cs : List ℕ) → c < 128 → Quotes (c ∷ cs) (string_literal part c cs)
string_quotes part c cs h =
    quotes_if (c ∷ cs) _ _ _ (λ e p same l.
    let len : run (part_len part) cs + 2 ≡ p.len = cc in
    rw (← len) (quoted c c (run (part_len part) cs) cs h h e))
    (quotes_err (c ∷ cs) causes.StringLiteral)

template_quotes : (c : ℕ) (cs : List ℕ) → c < 128
    → Quotes (c ∷ cs) (template_from kinds.Template kinds.TemplateHead cs)
template_quotes c cs h =
    quotes_if (c ∷ cs) _ _ _ (λ e p same l.
    let len : run template_part cs + 2 ≡ p.len = cc in
    rw (← len) (quoted c (code "`") (run template_part cs) cs h (lit< tt) e))
    (quotes_if (c ∷ cs) _ _ _ (λ e. quotes_other (c ∷ cs) kinds.TemplateHead _ refl)
    (quotes_err (c ∷ cs) causes.Template))

tail_quotes : (t cs : List ℕ) → Quotes t (template_from kinds.TemplateTail kinds.TemplateMiddle cs)
tail_quotes t cs =
    quotes_if t _ _ _ (λ e. quotes_other t kinds.TemplateTail _ refl)
    (quotes_if t _ _ _ (λ e. quotes_other t kinds.TemplateMiddle _ refl) (quotes_err t causes.Template))

block_quotes : (t cs : List ℕ) → Quotes t (block_comment cs)
block_quotes t cs = quotes_if t _ _ _ (λ e. quotes_other t kinds.Comment _ refl) (quotes_err t causes.Comment)

flags_quotes : (t : List ℕ) (inner : ℕ) (cs : List ℕ) → Quotes t (with_flags inner cs)
flags_quotes t inner [] = quotes_err t causes.RegularExpression
flags_quotes t inner (c ∷ flags) =
    quotes_if t _ _ _ (λ e. quotes_other t kinds.RegularExpression _ refl) (quotes_err t causes.RegularExpression)

punctuator_quotes : (t text : List ℕ) → Quotes t (punctuator text)
punctuator_quotes t text =
    quotes_if t _ _ _ (λ e. quotes_err t causes.Character) (quotes_other t kinds.Punctuator _ refl)

division_quotes : (t : List ℕ) (goal : Goal) (text cs : List ℕ) → Quotes t (division_at goal text cs)
division_quotes t goal text cs =
    quotes_if t goal.divides _ _ (λ e. punctuator_quotes t text)
    (flags_quotes t (run pattern_part cs) (drop (run pattern_part cs) cs))

slash_quotes : (t : List ℕ) (goal : Goal) (text cs : List ℕ) → Quotes t (slash_at goal text cs)
slash_quotes t goal text [] = division_quotes t goal text []
slash_quotes t goal text (c ∷ cs) = quotes_if t _ _ _ (λ e. block_quotes t cs) (division_quotes t goal text (c ∷ cs))

private_quotes : (t cs : List ℕ) → Quotes t (private_name cs)
private_quotes t cs = quotes_if t _ _ _ (λ e. quotes_err t causes.Character) (quotes_other t kinds.PrivateName _ refl)

-- a mark of ASCII
mark_below : (c m : ℕ) → m < 128 → (c == m) ≡ true → c < 128
mark_below c m h e = let same = eqb-true c m e in omega arith

marked_quotes : (goal : Goal) (t : List ℕ) → Quotes t (marked_at goal t)
marked_quotes goal [] = quotes_err [] causes.Character
marked_quotes goal (c ∷ cs) =
    quotes_if (c ∷ cs) _ _ _ (λ e. quotes_other (c ∷ cs) kinds.Comment _ refl)
    (quotes_if (c ∷ cs) (c == code "\"") _ _ (λ e. string_quotes parts.DoubleQuoted c cs (mark_below c _ (lit< tt) e))
    (quotes_if (c ∷ cs) (c == code "'") _ _ (λ e. string_quotes parts.SingleQuoted c cs (mark_below c _ (lit< tt) e))
    (quotes_if (c ∷ cs) (c == code "`") _ _ (λ e. template_quotes c cs (mark_below c _ (lit< tt) e))
    (quotes_if (c ∷ cs) _ _ _ (λ e. tail_quotes (c ∷ cs) cs)
    (quotes_if (c ∷ cs) _ _ _ (λ e. slash_quotes (c ∷ cs) goal (c ∷ cs) cs)
    (quotes_if (c ∷ cs) _ _ _ (λ e. private_quotes (c ∷ cs) cs) (punctuator_quotes (c ∷ cs) (c ∷ cs))))))))

code_quotes : (goal : Goal) (t : List ℕ) → Quotes t (code_at goal t)
code_quotes goal t =
    quotes_if t _ _ _ (λ e. quotes_other t kinds.WhiteSpace _ refl)
    (quotes_if t _ _ _ (λ e. quotes_other t kinds.Number _ refl)
    (quotes_if t _ _ _ (λ e. quotes_other t kinds.Name _ refl) (marked_quotes goal t)))

child_quotes : (t : List ℕ) → Quotes t (child_at t)
child_quotes [] = quotes_err [] causes.Character
child_quotes (c ∷ cs) =
    quotes_if (c ∷ cs) (c == code "<") _ _ (λ e. quotes_other (c ∷ cs) kinds.Punctuator (opening_len cs) refl)
    (quotes_if (c ∷ cs) (c == code "{") _ _ (λ e. quotes_other (c ∷ cs) kinds.Punctuator 1 refl)
    (quotes_other (c ∷ cs) kinds.ElementText (run child_part cs + 1) refl))

attribute_quotes : (t : List ℕ) (part : Part) (quote cs : List ℕ) → Quotes t (attribute_string part quote cs)
attribute_quotes t part quote cs =
    quotes_if t _ _ _ (λ e. quotes_other t kinds.AttributeString _ refl) (quotes_err t causes.StringLiteral)

tag_slash_quotes : (t cs : List ℕ) → Quotes t (tag_slash cs)
tag_slash_quotes t [] = quotes_other t kinds.Punctuator _ refl
tag_slash_quotes t (c ∷ cs) =
    quotes_if t (c == code ">") _ _ (λ e. quotes_other t kinds.Punctuator _ refl)
    (quotes_if t (c == code "*") _ _ (λ e. block_quotes t cs)
    (quotes_if t (c == code "/") _ _ (λ e. quotes_other t kinds.Comment _ refl)
    (quotes_other t kinds.Punctuator _ refl)))

tag_mark_quotes : (t : List ℕ) → Quotes t (tag_mark_at t)
tag_mark_quotes [] = quotes_err [] causes.Character
tag_mark_quotes (c ∷ cs) =
    quotes_if (c ∷ cs) (c == code "\"") _ _ (λ e. attribute_quotes (c ∷ cs) parts.AttributeDouble (codes "\"") cs)
    (quotes_if (c ∷ cs) (c == code "'") _ _ (λ e. attribute_quotes (c ∷ cs) parts.AttributeSingle (codes "'") cs)
    (quotes_if (c ∷ cs) (c == code "/") _ _ (λ e. tag_slash_quotes (c ∷ cs) cs)
    (quotes_if (c ∷ cs) (is_tag_mark c) _ _ (λ e. quotes_other (c ∷ cs) kinds.Punctuator _ refl)
    (quotes_err (c ∷ cs) causes.Character))))

tag_quotes : (t : List ℕ) → Quotes t (tag_at t)
tag_quotes t =
    quotes_if t _ _ _ (λ e. quotes_other t kinds.WhiteSpace _ refl)
    (quotes_if t _ _ _ (λ e. quotes_other t kinds.TagName _ refl) (tag_mark_quotes t))

within_quotes : (place : Within) (goal : Goal) (t : List ℕ) → Quotes t (piece_within place goal t)
within_quotes within.Code goal t = code_quotes goal t
within_quotes within.Tag goal t = tag_quotes t
within_quotes within.Children goal t = child_quotes t

pub piece_quotes : (goal : Goal) (t : List ℕ) → Quotes t (piece_at goal t)
piece_quotes goal t = within_quotes goal.within goal t

-- what is quoted behind a place is quoted there
pub quoted_behind : (text : List ℕ) (at len : ℕ) → IsQuoted (drop at text) 0 len → at ≤ length text
    → IsQuoted text at len
quoted_behind text at len q h =
    let rest = length-drop at text in
    let some = q.some in
    let within = q.within in
    let first = get_or-drop at text 0 0 in
    let last = get_or-drop at text (0 + len - 1) 0 in
    let here : at + 0 ≡ at = omega arith in
    let there : at + (0 + len - 1) ≡ at + len - 1 = omega arith in
    let first' : slice_index (drop at text) 0 ≡ slice_index text at = first ∙ ap (λ (k : ℕ). get_or text k 0) here in
    let last' : slice_index (drop at text) (0 + len - 1) ≡ slice_index text (at + len - 1) =
    last ∙ ap (λ (k : ℕ). get_or text k 0) there in
    record { some = some; within = omega arith; first = rw (← first') q.first; last = rw (← last') q.last }
