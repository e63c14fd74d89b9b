use Rattle.std.proofs.Common.{◌≡◌, ◌&&◌, true, not, bytes_eq, [], ◌∷◌, sym, ap, ◌∙◌, arith}
use Rattle.sugar_path.specs.Path.{text_of, path_in}
use Rattle.tree_core.proofs.Above.{is_clean-is}
use Rattle.audit_report.proofs.document.is_file_path.Goals as goal

pub returns-then-ne-clause-is : goal.returns-then-ne-clause-is
returns-then-ne-clause-is c =
    let apart : not (bytes_eq c.args.text.now (47 ∷ [])) ≡ true = grind arith in
    is_clean-is c.args.text.now c.is_clean.result c.is_clean.ensures.0 c.is_clean.ensures.1
    ∙ ap (λ b. b && bytes_eq c.args.text.now (text_of (path_in c.args.text.now))) (sym apart)
