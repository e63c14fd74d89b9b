-- Which of the grammar's goals holds at a place, by what stands before it: the latest token, and for a closing
-- one what its opening stood behind.
use Rattle.std.specs.Prelude.{
  ℕ,
  ◌-◌,
  ◌&&◌,
  ◌||◌,
  Bool,
  true,
  false,
  not,
  if◌then◌else◌,
  List,
  [],
  ◌∷◌,
  ◌++◌,
  length,
  take,
  slice_get,
  codes,
  Option,
  Some,
}
use Rattle.std.specs.Str.{bytes_eq}
use Rattle.es_imports.specs.declared.piece.Goal.{Goal}
use Rattle.es_imports.specs.declared.piece.Kind.{Kind}
use Rattle.es_imports.specs.declared.piece.Kind.TheVariants as kinds
use Rattle.es_imports.specs.declared.piece.Within.{Within}
use Rattle.es_imports.specs.declared.piece.Within.TheVariants as within
use Rattle.es_imports.specs.declared.scanner.Before.{Before}
use Rattle.es_imports.specs.declared.scanner.Before.TheVariants.{Operand, Operator, Statement, Dot}
use Rattle.es_imports.specs.declared.scanner.Before.TheVariants as before
use Rattle.es_imports.specs.declared.scanner.Opening.{Opening}
use Rattle.es_imports.specs.declared.scanner.Opening.TheVariants.{Group, Block, Object, Substitution}
use Rattle.es_imports.specs.declared.scanner.Opening.TheVariants as opening
use Rattle.es_imports.specs.Space.{has_line_end}

-- what stands before a place: what the latest token leaves, what is open, the innermost last, and whether no
-- token stands before in the line
pub record Context : Type 0 where
  pub before : Before
  pub openings : List Opening
  pub begins_line : Bool

-- at a text's front
abbrev pub start : Context
start = record { before = Statement; openings = []; begins_line = true }

-- an operand has ended
abbrev pub is_operand : Before → Bool
is_operand Operand = true
is_operand Operator = false
is_operand Statement = false
is_operand before.Head = false
is_operand Dot = false

-- the innermost opening, if any
abbrev pub top : List Opening → Option Opening
top openings = slice_get openings (length openings - 1)

-- without the innermost one
abbrev pub without_top : List Opening → List Opening
without_top openings = take (length openings - 1) openings

-- it is the `${` of a template
abbrev pub is_substitution : Option Opening → Bool
is_substitution (Some Substitution) = true
is_substitution _ = false

-- in code, or within an element, by what is open
abbrev pub within_at : Option Opening → Within
within_at (Some opening.Tag) = within.Tag
within_at (Some opening.ClosingTag) = within.Tag
within_at (Some opening.Children) = within.Children
within_at _ = within.Code

-- the goal at a place
abbrev pub goal_at : Context → Goal
goal_at c = record {
  divides = is_operand c.before;
  in_template = is_substitution (top c.openings);
  begins_line = c.begins_line;
  within = within_at (top c.openings);
}

-- keywords whose parentheses a statement may follow
abbrev pub is_head : List ℕ → Bool
is_head name = bytes_eq name (codes "if") || bytes_eq name (codes "for") || bytes_eq name (codes "while")
    || bytes_eq name (codes "with")

-- keywords that a statement may follow
abbrev pub begins_statement : List ℕ → Bool
begins_statement name =
    bytes_eq name (codes "do") || bytes_eq name (codes "else") || bytes_eq name (codes "try")
    || bytes_eq name (codes "finally")

-- keywords that an operand follows, `of` of a loop among them
abbrev pub wants_operand : List ℕ → Bool
wants_operand name =
    bytes_eq name (codes "return") || bytes_eq name (codes "typeof") || bytes_eq name (codes "new")
    || bytes_eq name (codes "in") || bytes_eq name (codes "of")
    || bytes_eq name (codes "case") || bytes_eq name (codes "await") || bytes_eq name (codes "yield")
    || bytes_eq name (codes "throw") || bytes_eq name (codes "void")
    || bytes_eq name (codes "delete") || bytes_eq name (codes "default") || bytes_eq name (codes "extends")
    || bytes_eq name (codes "instanceof")

-- what a name that is no property leaves
abbrev pub after_word : List ℕ → Before
after_word name = if is_head name then before.Head else if begins_statement name then Statement
    else if wants_operand name then Operator else Operand

-- what a name leaves: behind a point it is a property, and `await` behind `for` belongs to it
abbrev pub after_name : Before → List ℕ → Before
after_name Dot name = Operand
after_name before.Head name = if bytes_eq name (codes "await") then before.Head else after_word name
after_name Operand name = after_word name
after_name Operator name = after_word name
after_name Statement name = after_word name

-- the parenthesis that is opened
abbrev pub group_behind : Before → Opening
group_behind before.Head = opening.Head
group_behind Operand = Group
group_behind Operator = Group
group_behind Statement = Group
group_behind Dot = Group

-- the brace that is opened: an object where an operand is wanted, and else a block
abbrev pub brace_behind : Before → Opening
brace_behind Operator = Object
brace_behind before.Head = Block
brace_behind Operand = Block
brace_behind Statement = Block
brace_behind Dot = Block

-- `++` and `--` stand behind an operand, or before one
abbrev pub after_step : Before → Before
after_step Operand = Operand
after_step Operator = Operator
after_step Statement = Operator
after_step before.Head = Operator
after_step Dot = Operator

-- what a punctuator that is no parenthesis and no brace leaves
abbrev pub after_mark : Before → List ℕ → Before
after_mark b mark =
    if bytes_eq mark (codes ".") || bytes_eq mark (codes "?.") then Dot
    else if bytes_eq mark (codes "]") then Operand
    else if bytes_eq mark (codes ";") || bytes_eq mark (codes "=>") then Statement
    else if bytes_eq mark (codes "++") || bytes_eq mark (codes "--") then after_step b
    else Operator

-- behind a token: what it leaves, and what is open then
abbrev pub leaving : Before → List Opening → Context
leaving b openings = record { before = b; openings = openings; begins_line = false }

-- behind a closing parenthesis, by the innermost opening: one that it doesn't fit stays open
abbrev pub closed_group : List Opening → Option Opening → Context
closed_group openings (Some opening.Head) = leaving Statement (without_top openings)
closed_group openings (Some Group) = leaving Operand (without_top openings)
closed_group openings _ = leaving Operand openings

-- behind a closing brace, in the same way
abbrev pub closed_brace : List Opening → Option Opening → Context
closed_brace openings (Some Object) = leaving Operand (without_top openings)
closed_brace openings (Some Block) = leaving Statement (without_top openings)
closed_brace openings (Some opening.Container) = leaving Operand (without_top openings)
closed_brace openings _ = leaving Statement openings

-- behind a punctuator; where elements are read, `<` begins one where an operand is wanted
abbrev pub behind_punctuator : Bool → Context → List ℕ → Context
behind_punctuator jsx c mark =
    if bytes_eq mark (codes "(") then leaving Operator (c.openings ++ (group_behind c.before ∷ []))
    else if bytes_eq mark (codes ")") then closed_group c.openings (top c.openings)
    else if bytes_eq mark (codes "{") then leaving Statement (c.openings ++ (brace_behind c.before ∷ []))
    else if bytes_eq mark (codes "}") then closed_brace c.openings (top c.openings)
    else if jsx && bytes_eq mark (codes "<") && not (is_operand c.before)
    then leaving Operator (c.openings ++ (opening.Tag ∷ []))
    else leaving (after_mark c.before mark) c.openings

-- behind white space or a comment, which tells only where a line begins
abbrev pub behind_space : Context → List ℕ → Context
behind_space c text = record c { begins_line = c.begins_line || has_line_end text }

-- in code, behind a piece of that kind with that text
abbrev pub behind_code : Bool → Context → Kind → List ℕ → Context
behind_code jsx c kinds.WhiteSpace text = behind_space c text
behind_code jsx c kinds.Comment text = behind_space c text
behind_code jsx c kinds.Name text = leaving (after_name c.before text) c.openings
behind_code jsx c kinds.PrivateName text = leaving Operand c.openings
behind_code jsx c kinds.Number text = leaving Operand c.openings
behind_code jsx c kinds.StringLiteral text = leaving Operand c.openings
behind_code jsx c kinds.Template text = leaving Operand c.openings
behind_code jsx c kinds.TemplateHead text = leaving Operator (c.openings ++ (Substitution ∷ []))
behind_code jsx c kinds.TemplateMiddle text = leaving Operator c.openings
behind_code jsx c kinds.TemplateTail text = leaving Operand (without_top c.openings)
behind_code jsx c kinds.RegularExpression text = leaving Operand c.openings
behind_code jsx c kinds.Punctuator text = behind_punctuator jsx c text
behind_code jsx c _ text = leaving Operand c.openings

-- behind the `>` of a tag: an opening one has children, and a closing one ends these
abbrev pub closed_tag : List Opening → Option Opening → Context
closed_tag openings (Some opening.Tag) = leaving Operator (without_top openings ++ (opening.Children ∷ []))
closed_tag openings (Some opening.ClosingTag) = leaving Operand (without_top (without_top openings))
closed_tag openings _ = leaving Operand openings

-- within an element, behind a punctuator
abbrev pub behind_tag_mark : Context → List ℕ → Context
behind_tag_mark c mark =
    if bytes_eq mark (codes "{") then leaving Operator (c.openings ++ (opening.Container ∷ []))
    else if bytes_eq mark (codes "<") then leaving Operator (c.openings ++ (opening.Tag ∷ []))
    else if bytes_eq mark (codes "</") then leaving Operator (c.openings ++ (opening.ClosingTag ∷ []))
    else if bytes_eq mark (codes "/>") then leaving Operand (without_top c.openings)
    else if bytes_eq mark (codes ">") then closed_tag c.openings (top c.openings)
    else leaving c.before c.openings

-- within an element, behind a piece of that kind with that text
abbrev pub behind_element : Context → Kind → List ℕ → Context
behind_element c kinds.Punctuator text = behind_tag_mark c text
behind_element c _ text = leaving c.before c.openings

-- behind a piece of that kind with that text, in code or within an element
abbrev pub behind_within : Within → Bool → Context → Kind → List ℕ → Context
behind_within within.Code jsx c kind text = behind_code jsx c kind text
behind_within within.Tag jsx c kind text = behind_element c kind text
behind_within within.Children jsx c kind text = behind_element c kind text

-- behind a piece of that kind with that text; elements are read, or not
abbrev pub behind : Bool → Context → Kind → List ℕ → Context
behind jsx c kind text = behind_within (within_at (top c.openings)) jsx c kind text
