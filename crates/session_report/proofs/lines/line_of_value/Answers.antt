use Rattle.std.proofs.Common.{ap, ◌∙◌, [], ◌∷◌, ◌++◌}
use Rattle.session_report.specs.Lines.{line_of}
use Rattle.session_report.proofs.lines.line_of_value.Goals as goal

pub returns : goal.returns
unfolding line_of
returns c = c.in_ok-push_str.ensures.bytes ∙ ap (λ b. b ++ 10 ∷ []) (c.in_ok-line.ensures.text c.requires)
