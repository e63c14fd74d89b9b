use Rattle.std.proofs.Common.{◌≡◌, true, false, List, ℕ, ap, ◌∙◌, subst}
use Rattle.std.specs.Str.{IsUtf8}
use Rattle.std.proofs.lemmas.Str.{IsUtf8-string_bytes}
use Rattle.sugar_path.proofs.lexical_buf.PathBufSugarPathBuf.try_into_slash.Goals as goal

pub returns-in-Ok-clause-refused : goal.returns-in-Ok-clause-refused
returns-in-Ok-clause-refused c =
    let P : List ℕ → Type 0 = IsUtf8 in
    let text : IsUtf8 c.args.self =
    subst P (ap (λ v. v.items) c.in-Ok.ensures.ok ∙ c.from.ensures) (IsUtf8-string_bytes c.in-Ok.text) in
    ((λ (e : false ≡ true). cc), λ other. absurd (other text))
