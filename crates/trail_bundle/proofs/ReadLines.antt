-- Each line of a bundle reads as the value that it was written for.
use Rattle.std.proofs.Common.{
  ◌≡◌,
  ◌≤◌,
  ℕ,
  List,
  [],
  Option,
  Some,
  None,
  option_and_then,
  refl,
  sym,
  ap,
  ◌∙◌,
  arith,
  append-nil,
}
use Rattle.json.specs.Lex.{tokens}
use Rattle.json.specs.Json as json
use Rattle.json.specs.Token.{Token}
use Rattle.json.specs.Tree as tree
use Rattle.json.proofs.Printed.Tokens.{tokens-print}
use Rattle.json.proofs.Printed.Trees.{ArePrintable-json_tokens, value-json_tokens}
use Rattle.serde_json.specs.Data.{Data}
use Rattle.serde_json.specs.Read.{read, of_json, max_depth}
use Rattle.serde_json.specs.Written.{compact_text, outline}
use Rattle.serde_json.proofs.Texts.{print-outline}
use Rattle.swc_loader.specs.declared.resolution.FileName.{FileName}
use Rattle.swc_loader.specs.declared.resolution.FileName.TheVariants.{Real, Custom, Anon}
use Rattle.tree_core.specs.declared.question.Question.{Question}
use Rattle.tree_core.specs.declared.question.Reply.{Reply}
use Rattle.tree_core.specs.declared.question.Reply.TheVariants.{Flag, Bytes, Name}
use Rattle.trail_texts.specs.TrailTexts.{request_value, step_value}

-- a value without numbers, whose text reads as it
record IsPlain (d : Data) : Type 0 where
  same : of_json (outline d) ≡ Some d
  numbers : tree.HasNumbers (outline d)
  shallow : tree.depth (outline d) ≤ max_depth

-- the value of JSON that ends a text
abbrev alone : Option (json.Json × List Token) → Option Data
alone o = option_and_then of_json (option_and_then (λ p. json.if_last p.0 p.1) o)

read_back : (d : Data) → IsPlain d → read (compact_text d) ≡ Some d
read_back d plain =
    let ts = tree.json_tokens (outline d) in
    ap (λ us. alone (json.value max_depth us))
    (ap tokens (sym (print-outline d)) ∙ tokens-print ts (ArePrintable-json_tokens (outline d) plain.numbers)
    ∙ sym (append-nil ts))
    ∙ ap alone (value-json_tokens (outline d) max_depth [] plain.shallow) ∙ plain.same

pub read-request : (importer : FileName) (specifier : List ℕ)
    → read (compact_text (request_value importer specifier)) ≡ Some (request_value importer specifier)
read-request (Real t) specifier = read_back _ (record { same = refl; numbers = (tt, (tt, tt)); shallow = omega arith })
read-request (Custom t) specifier =
    read_back _ (record { same = refl; numbers = ((tt, tt), (tt, tt)); shallow = omega arith })
read-request Anon specifier = read_back _ (record { same = refl; numbers = (tt, (tt, tt)); shallow = omega arith })

pub read-step : (step : Question × Reply) → read (compact_text (step_value step)) ≡ Some (step_value step)
read-step (q, Flag b) = read_back _ (record { same = refl; numbers = (tt, (tt, (tt, tt))); shallow = omega arith })
read-step (q, Bytes None) = read_back _ (record { same = refl; numbers = (tt, (tt, (tt, tt))); shallow = omega arith })
read-step (q, Bytes (Some bytes)) =
    read_back _ (record { same = refl; numbers = (tt, (tt, (tt, tt))); shallow = omega arith })
read-step (q, Name None) = read_back _ (record { same = refl; numbers = (tt, (tt, (tt, tt))); shallow = omega arith })
read-step (q, Name (Some name)) =
    read_back _ (record { same = refl; numbers = (tt, (tt, (tt, tt))); shallow = omega arith })
