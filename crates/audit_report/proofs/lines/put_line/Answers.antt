use Rattle.std.proofs.Common.{ap, ◌∙◌, [], ◌∷◌, ◌++◌, append_assoc}
use Rattle.std.proofs.Common.{string_bytes}
use Rattle.audit_report.specs.Lines.{line_of}
use Rattle.audit_report.proofs.lines.put_line.Goals as goal

pub returns : goal.returns
unfolding line_of
returns c =
    c.in_ok-push_str-2.ensures.bytes
    ∙ ap (λ b. b ++ 10 ∷ []) (c.in_ok-push_str.ensures.bytes
    ∙ ap (λ b. string_bytes c.args.lines.now ++ b) (c.as_str.ensures.value ∙ c.in_ok-text.ensures.text c.requires))
    ∙ append_assoc (string_bytes c.args.lines.now) _ (10 ∷ [])
