-- What a text imports: it is cut into pieces, each under the goal that what stands before it tells, and the
-- forms of imports are told from the tokens among them.
use Rattle.std.specs.Prelude.{
  ◌≡◌,
  ℕ,
  Bool,
  zero,
  suc,
  ◌+◌,
  ◌-◌,
  nat_eq,
  if◌then◌else◌,
  List,
  [],
  ◌∷◌,
  ◌++◌,
  length,
  take,
  drop,
  map,
  slice_range,
  codes,
  Option,
  Result,
  Ok,
  Err,
}
use Rattle.std.specs.List.{starts_with}
use Rattle.std.specs.Option.{option_to_list}
use Rattle.es_imports.specs.declared.imports.Import.{Import}
use Rattle.es_imports.specs.declared.piece.Kind.{Kind}
use Rattle.es_imports.specs.declared.refusal.Cause.{Cause}
use Rattle.es_imports.specs.declared.refusal.ScanError.{ScanError}
use Rattle.es_imports.specs.declared.refusal.ScanError.TheVariants.{Refused, NoMemory}
use Rattle.es_imports.specs.declared.expected.Expected.{Expected}
use Rattle.es_imports.specs.declared.expected.Expected.TheVariants.{Nothing}
use Rattle.es_imports.specs.declared.expected.Found.{Found}
use Rattle.es_imports.specs.Parts.{line_part}
use Rattle.es_imports.specs.Runs.{run}
use Rattle.es_imports.specs.Tokens.{piece_at}
use Rattle.es_imports.specs.Goals.{Context, start, goal_at, behind}
use Rattle.es_imports.specs.Signs.{sign_of}
use Rattle.es_imports.specs.Forms.{found, next}
use Rattle.es_imports.specs.Values.{value_of}

-- what is wrong with a text, and how many bytes stand before it
pub record Fault : Type 0 where
  pub place : ℕ
  pub cause : Cause

abbrev pub fault_at : ℕ → Cause → Fault
fault_at place cause = record { place = place; cause = cause }

-- a piece of a text: its kind, where it begins, and its text
pub record Placed : Type 0 where
  pub kind : Kind
  pub place : ℕ
  pub text : List ℕ

-- the pieces behind the first, or the first fault
abbrev pub followed : Placed → Result (List Placed) Fault → Result (List Placed) Fault
followed first (Ok pieces) = Ok (first ∷ pieces)
followed first (Err fault) = Err fault

-- At most so many pieces of a text that begins at that place, by what stands before it, or the first fault; elements
-- of JSX are read, or not.
abbrev pub pieces_from : Bool → ℕ → Context → ℕ → List ℕ → Result (List Placed) Fault
pieces_from jsx zero context place text = Ok []
pieces_from jsx (suc n) context place [] = Ok []
pieces_from jsx (suc n) context place (c ∷ cs) = elim (piece_at (goal_at context) (c ∷ cs)) [
  | Err cause ↦ Err (fault_at place cause)
  | Ok piece ↦
      followed (record { kind = piece.kind; place = place; text = take piece.len (c ∷ cs) })
      (pieces_from jsx n (behind jsx context piece.kind (take piece.len (c ∷ cs))) (place + piece.len)
      (drop piece.len (c ∷ cs)))
]

-- how many bytes a line at the text's front takes that names an interpreter
abbrev pub hash_bang_len : List ℕ → ℕ
hash_bang_len text = if starts_with nat_eq text (codes "#!") then run line_part text else 0

-- The pieces of a text, but for a line in front that names an interpreter; or the first fault. Each takes a
-- byte or more, so there are no more of them than bytes.
unfoldable pub pieces_of : Bool → List ℕ → Result (List Placed) Fault
pieces_of jsx text = pieces_from jsx (length text) start (hash_bang_len text) (drop (hash_bang_len text) text)

-- what a token imports, by what is expected
abbrev pub found_at : Expected → Placed → Option Found
found_at expected p = found expected (sign_of p.kind p.text) p.place (length p.text)

-- what is expected behind a token
abbrev pub behind_token : Expected → Placed → Expected
behind_token expected p = next expected (sign_of p.kind p.text) p.place (length p.text)

-- what is imported by the tokens among the pieces, in order
abbrev pub found_in : Expected → List Placed → List Found
found_in expected [] = []
found_in expected (p ∷ ps) = option_to_list (found_at expected p) ++ found_in (behind_token expected p) ps

-- what stands between the quotes of a string, or the backquotes of a template
abbrev pub body_of : List ℕ → ℕ → ℕ → List ℕ
body_of text place len = slice_range text (place + 1) (place + len - 1)

-- the import by a string or template of the text
abbrev pub import_of : List ℕ → Found → Import
import_of text found =
    record {
      kind = found.form.kind;
      specifier = value_of (body_of text found.place found.len);
      place = found.place;
      is_type = found.form.is_type;
    }

-- what the pieces import, by what is expected, or the fault
abbrev pub imports_by : List ℕ → Expected → Result (List Placed) Fault → Result (List Import) Fault
imports_by text expected (Ok pieces) = Ok (map (import_of text) (found_in expected pieces))
imports_by text expected (Err fault) = Err fault

-- what a text imports, or the first fault; elements of JSX are read, or not
unfoldable pub imports_of : Bool → List ℕ → Result (List Import) Fault
imports_of jsx text = imports_by text Nothing (pieces_of jsx text)

-- it is told, unless memory runs out
abbrev pub Tells : Result (List Import) Fault → Result (List Import) ScanError → Type 0
Tells told (Ok imports) = told ≡ Ok imports
Tells told (Err (Refused place cause)) = told ≡ Err (fault_at place cause)
Tells told (Err NoMemory) = Unit {0}
