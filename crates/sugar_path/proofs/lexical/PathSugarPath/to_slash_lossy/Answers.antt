use Rattle.std.proofs.Common.{sym, ap, ◌∙◌}
use Rattle.std.specs.Str.Lossy.{utf8_lossy}
use Rattle.std.proofs.lemmas.Str.{utf8_lossy-IsUtf8}
use Rattle.sugar_path.proofs.lexical.PathSugarPath.to_slash_lossy.Goals as goal

pub returns-in-Ok-clause-text : goal.returns-in-Ok-clause-text
returns-in-Ok-clause-text c =
    c.in-Ok.ensures.cases.0 ∙ sym (utf8_lossy-IsUtf8 c.bytes-bytes.result.now c.in-Ok.ensures.cases.1)
    ∙ ap utf8_lossy c.bytes-bytes.ensures
