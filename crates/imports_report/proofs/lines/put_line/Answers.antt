use Rattle.std.proofs.Common.{ap, ◌∙◌, [], ◌∷◌, ◌++◌, append_assoc, refl, string_bytes, ◌≡◌, false}
use Rattle.serde_json.specs.Written.{has_float}
use Rattle.imports_report.specs.Lines.{import_line, import_value}
use Rattle.imports_report.proofs.lines.put_line.Goals as goal

pub returns : goal.returns
unfolding import_line
returns c =
    let without : has_float (import_value c.args.import.now) ≡ false = refl in
    let is = rw c.in_ok-value.ensures at c.in_ok-text.ensures.text in
    c.in_ok-push_str-2.ensures.bytes
    ∙ ap (λ b. b ++ 10 ∷ []) (c.in_ok-push_str.ensures.bytes
    ∙ ap (λ b. string_bytes c.args.lines.now ++ b) (c.as_str.ensures.value ∙ is without))
    ∙ append_assoc (string_bytes c.args.lines.now) _ (10 ∷ [])
