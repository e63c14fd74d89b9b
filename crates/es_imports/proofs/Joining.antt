-- The pieces of a text, joined.
use Prim.Native.Char.{code}
use Rattle.std.proofs.Common.{
  ◌≡◌,
  ◌<◌,
  ◌≤◌,
  ◌+◌,
  ◌==◌,
  ℕ,
  zero,
  suc,
  Bool,
  true,
  false,
  List,
  [],
  ◌∷◌,
  ◌++◌,
  length,
  take,
  drop,
  refl,
  ap,
  sym,
  ◌∙◌,
  arith,
  ltb-true,
}
use Rattle.std.specs.Prelude.{◌&&◌, codes, nat_eq, nat_lt, if◌then◌else◌, Result, Ok, Err}
use Rattle.std.specs.List.{flat_map, starts_with}
use Rattle.std.proofs.lemmas.Bool.{eqb-false}
use Rattle.std.proofs.lemmas.List.{length-drop, take-append-drop}
use Rattle.es_imports.specs.declared.piece.Kind.{Kind}
use Rattle.es_imports.specs.declared.piece.Kind.TheVariants as kinds
use Rattle.es_imports.specs.declared.piece.Piece.{Piece}
use Rattle.es_imports.specs.declared.piece.Goal.{Goal}
use Rattle.es_imports.specs.declared.part.Part.{Part}
use Rattle.es_imports.specs.declared.part.Part.TheVariants as parts
use Rattle.es_imports.specs.declared.refusal.Cause.{Cause}
use Rattle.es_imports.specs.declared.refusal.Cause.TheVariants as causes
use Rattle.es_imports.specs.Parts.{child_part, line_part, name_part, part_len, tag_name_part, template_part}
use Rattle.es_imports.specs.Space.{space_part}
use Rattle.es_imports.specs.Runs.{run}
use Rattle.es_imports.specs.Numbers.{number_len}
use Rattle.es_imports.specs.Literals.{piece, block_comment, pattern_part, string_literal, template_from, with_flags}
use Rattle.es_imports.specs.Punctuators.{punctuator_len}
use Rattle.es_imports.specs.Goals.{Context, goal_at, behind, start}
use Rattle.es_imports.specs.Tokens.{
  begins_line_comment,
  code_at,
  division_at,
  marked_at,
  piece_at,
  piece_within,
  private_name,
  punctuator,
  slash_at,
}
use Rattle.es_imports.specs.Imports.{Fault, Placed, fault_at, followed, hash_bang_len, pieces_from, pieces_of}
use Rattle.es_imports.specs.declared.piece.Within.{Within}
use Rattle.es_imports.specs.declared.piece.Within.TheVariants as within
use Rattle.es_imports.specs.Elements.{
  attribute_string,
  child_at,
  is_tag_mark,
  opening_len,
  tag_at,
  tag_mark_at,
  tag_slash,
}
use Rattle.es_imports.specs.Laws.{PiecesAreTheText}
use Rattle.es_imports.proofs.Scanning.{one_fault, one_piece, placed}

-- what is read takes a byte or more
abbrev pub TakesSome : Result Piece Cause → Type 0
TakesSome read = (p : Piece) → read ≡ Ok p → 0 < p.len

some_if : (b : Bool) (r s : Result Piece Cause) → (b ≡ true → TakesSome r) → (b ≡ false → TakesSome s)
    → TakesSome (if b then r else s)
some_if true r s h k = h refl
some_if false r s h k = k refl

some_piece : (kind : Kind) (len : ℕ) → 0 < len → TakesSome (Ok (piece kind len))
some_piece kind len h p e = let same : len ≡ p.len = cc in rw (← same) h

some_err : (cause : Cause) → TakesSome (Err cause)
some_err cause p e = absurd (cc)

some_string : (part : Part) (q : ℕ) (cs : List ℕ) → TakesSome (string_literal part q cs)
some_string part q cs =
    some_if _ _ _ (λ e. some_piece kinds.StringLiteral _ (omega arith)) (λ e. some_err causes.StringLiteral)

some_of_two : (a b : Bool) (first second : Kind) (m n : ℕ) (cause : Cause) → 0 < m → 0 < n
    → TakesSome (if a then Ok (piece first m) else if b then Ok (piece second n) else Err cause)
some_of_two true b first second m n cause h k = some_piece first m h
some_of_two false true first second m n cause h k = some_piece second n k
some_of_two false false first second m n cause h k = some_err cause

some_template : (whole opening : Kind) (cs : List ℕ) → TakesSome (template_from whole opening cs)
some_template whole opening cs =
    some_of_two (starts_with nat_eq (drop (run template_part cs) cs) (codes "`"))
    (starts_with nat_eq (drop (run template_part cs) cs) (codes "${")) whole opening (run template_part cs + 2)
    (run template_part cs + 3) causes.Template (omega arith) (omega arith)

some_block : (cs : List ℕ) → TakesSome (block_comment cs)
some_block cs = some_if _ _ _ (λ e. some_piece kinds.Comment _ (omega arith)) (λ e. some_err causes.Comment)

some_flags : (inner : ℕ) (cs : List ℕ) → TakesSome (with_flags inner cs)
some_flags inner [] = some_err causes.RegularExpression
some_flags inner (c ∷ flags) =
    some_if _ _ _ (λ e. some_piece kinds.RegularExpression _ (omega arith)) (λ e. some_err causes.RegularExpression)

not_zero : (n : ℕ) → (n == 0) ≡ false → 0 < n
not_zero zero e = absurd (eqb-false 0 0 e refl)
not_zero (suc n) e = omega arith

some_punctuator : (text : List ℕ) → TakesSome (punctuator text)
some_punctuator text =
    some_if (punctuator_len text == 0) _ _ (λ e. some_err causes.Character)
    (λ e. some_piece kinds.Punctuator (punctuator_len text) (not_zero _ e))

some_private : (cs : List ℕ) → TakesSome (private_name cs)
some_private cs = some_if _ _ _ (λ e. some_err causes.Character) (λ e. some_piece kinds.PrivateName _ (omega arith))

some_division : (goal : Goal) (text cs : List ℕ) → TakesSome (division_at goal text cs)
some_division goal text cs =
    some_if goal.divides _ _ (λ e. some_punctuator text)
    (λ e. some_flags (run pattern_part cs) (drop (run pattern_part cs) cs))

some_slash : (goal : Goal) (text cs : List ℕ) → TakesSome (slash_at goal text cs)
some_slash goal text [] = some_division goal text []
some_slash goal text (c ∷ cs) = some_if _ _ _ (λ e. some_block cs) (λ e. some_division goal text (c ∷ cs))

some_marked : (goal : Goal) (t : List ℕ) → TakesSome (marked_at goal t)
some_marked goal [] = some_err causes.Character
some_marked goal (c ∷ cs) =
    some_if (begins_line_comment goal (c ∷ cs)) _ _
    (λ e. some_piece kinds.Comment (run line_part cs + 1) (omega arith))
    (λ e. some_if (c == code "\"") _ _ (λ e1. some_string parts.DoubleQuoted c cs)
    (λ e1. some_if (c == code "'") _ _ (λ e2. some_string parts.SingleQuoted c cs)
    (λ e2. some_if (c == code "`") _ _ (λ e3. some_template kinds.Template kinds.TemplateHead cs)
    (λ e3. some_if (c == code "}"
    && goal.in_template) _ _ (λ e4. some_template kinds.TemplateTail kinds.TemplateMiddle cs)
    (λ e4. some_if (c == code "/") _ _ (λ e5. some_slash goal (c ∷ cs) cs)
    (λ e5. some_if (c == code "#") _ _ (λ e6. some_private cs) (λ e6. some_punctuator (c ∷ cs))))))))

code_some : (goal : Goal) (t : List ℕ) → TakesSome (code_at goal t)
code_some goal t =
    some_if (nat_lt 0 (run space_part t)) _ _ (λ e. some_piece kinds.WhiteSpace (run space_part t) (ltb-true 0 _ e))
    (λ e. some_if (nat_lt 0 (number_len t)) _ _ (λ e1. some_piece kinds.Number (number_len t) (ltb-true 0 _ e1))
    (λ e1. some_if (nat_lt 0 (run name_part t)) _ _ (λ e2. some_piece kinds.Name (run name_part t) (ltb-true 0 _ e2))
    (λ e2. some_marked goal t)))

one_or_two : (b : Bool) → 0 < (if b then 2 else 1)
one_or_two true = omega arith
one_or_two false = omega arith

some_child : (t : List ℕ) → TakesSome (child_at t)
some_child [] = some_err causes.Character
some_child (c ∷ cs) =
    some_if (c == code "<") _ _
    (λ e. some_piece kinds.Punctuator (opening_len cs) (one_or_two (starts_with nat_eq cs (codes "/"))))
    (λ e. some_if (c == code "{") _ _ (λ e1. some_piece kinds.Punctuator 1 (omega arith))
    (λ e1. some_piece kinds.ElementText (run child_part cs + 1) (omega arith)))

some_attribute : (part : Part) (quote cs : List ℕ) → TakesSome (attribute_string part quote cs)
some_attribute part quote cs =
    some_if (starts_with nat_eq (drop (run (part_len part) cs) cs) quote) _ _
    (λ e. some_piece kinds.AttributeString (run (part_len part) cs + 2) (omega arith))
    (λ e. some_err causes.StringLiteral)

some_tag_slash : (cs : List ℕ) → TakesSome (tag_slash cs)
some_tag_slash [] = some_piece kinds.Punctuator 1 (omega arith)
some_tag_slash (c ∷ cs) =
    some_if (c == code ">") _ _ (λ e. some_piece kinds.Punctuator 2 (omega arith))
    (λ e. some_if (c == code "*") _ _ (λ e1. some_block cs)
    (λ e1. some_if (c == code "/") _ _ (λ e2. some_piece kinds.Comment (run line_part (c ∷ cs) + 1) (omega arith))
    (λ e2. some_piece kinds.Punctuator 1 (omega arith))))

some_tag_mark : (t : List ℕ) → TakesSome (tag_mark_at t)
some_tag_mark [] = some_err causes.Character
some_tag_mark (c ∷ cs) =
    some_if (c == code "\"") _ _ (λ e. some_attribute parts.AttributeDouble (codes "\"") cs)
    (λ e. some_if (c == code "'") _ _ (λ e1. some_attribute parts.AttributeSingle (codes "'") cs)
    (λ e1. some_if (c == code "/") _ _ (λ e2. some_tag_slash cs)
    (λ e2. some_if (is_tag_mark c) _ _ (λ e3. some_piece kinds.Punctuator 1 (omega arith))
    (λ e3. some_err causes.Character))))

some_tag : (t : List ℕ) → TakesSome (tag_at t)
some_tag t =
    some_if (nat_lt 0 (run space_part t)) _ _ (λ e. some_piece kinds.WhiteSpace (run space_part t) (ltb-true 0 _ e))
    (λ e. some_if (nat_lt 0 (run tag_name_part t)) _ _
    (λ e1. some_piece kinds.TagName (run tag_name_part t) (ltb-true 0 _ e1)) (λ e1. some_tag_mark t))

within_some : (place : Within) (goal : Goal) (t : List ℕ) → TakesSome (piece_within place goal t)
within_some within.Code goal t = code_some goal t
within_some within.Tag goal t = some_tag t
within_some within.Children goal t = some_child t

piece_some : (goal : Goal) (t : List ℕ) → TakesSome (piece_at goal t)
piece_some goal t = within_some goal.within goal t

-- the texts of pieces, joined
abbrev joined : List Placed → List ℕ
joined pieces = flat_map (λ p. p.text) pieces

behind_first : (first : Placed) (r : Result (List Placed) Fault) (ps : List Placed) → followed first r ≡ Ok ps
    → (rest : List Placed) × (r ≡ Ok rest) × (ps ≡ first ∷ rest)
behind_first first (Ok rest) ps e = (rest, refl, cc)
behind_first first (Err fault) ps e = absurd (cc)

join_read : (jsx : Bool) (n : ℕ) (context : Context) (at : ℕ) (t : List ℕ) (ps : List Placed) → length t ≤ n
    → pieces_from jsx n context at t ≡ Ok ps → joined ps ≡ t
join_read jsx zero context at [] ps h e = let none : [] ≡ ps = cc in rw (← none) refl
join_read jsx zero context at (c ∷ cs) ps h e = absurd (omega arith)
join_read jsx (suc n) context at [] ps h e = let none : [] ≡ ps = cc in rw (← none) refl
join_read jsx (suc n) context at (c ∷ cs) ps h e =
    by_piece (join_read jsx n) (piece_at (goal_at context) (c ∷ cs)) refl
  where
    by_piece : ((next : Context) (from : ℕ) (t : List ℕ) (read : List Placed) → length t ≤ n
        → pieces_from jsx n next from t ≡ Ok read → joined read ≡ t)
        → (r : Result Piece Cause) → piece_at (goal_at context) (c ∷ cs) ≡ r → joined ps ≡ c ∷ cs
    by_piece joins_rest (Err cause) read =
        let fault = one_fault jsx n context at (c ∷ cs) cause (omega arith) read in
        let both : Err (fault_at at cause) ≡ Ok ps = sym fault ∙ e in absurd (cc)
    by_piece joins_rest (Ok p) read =
        let one = one_piece jsx n context at (c ∷ cs) p (omega arith) read in
        let found = behind_first (placed p at (c ∷ cs))
        (pieces_from jsx n (behind jsx context p.kind (take p.len (c ∷ cs))) (at + p.len) (drop p.len (c ∷ cs))) ps
        (sym one ∙ e) in
        let some = piece_some (goal_at context) (c ∷ cs) p read in
        let rest = length-drop p.len (c ∷ cs) in
        let joins = joins_rest (behind jsx context p.kind (take p.len (c ∷ cs))) (at + p.len)
        (drop p.len (c ∷ cs)) found.0 (omega arith) found.1 in
        rw found.2 (ap (λ (xs : List ℕ). take p.len (c ∷ cs) ++ xs) joins ∙ take-append-drop p.len (c ∷ cs))

pub pieces_join : PiecesAreTheText
unfolding pieces_of
pieces_join jsx text pieces e =
    let rest = length-drop (hash_bang_len text) text in
    let joins = join_read jsx (length text) start (hash_bang_len text) (drop (hash_bang_len text) text) pieces
    (omega arith) e in
    rw joins (take-append-drop (hash_bang_len text) text)
