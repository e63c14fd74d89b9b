use Rattle.std.proofs.Common.{sym, ap, ◌∙◌}
use Rattle.std.specs.Str.Lossy.{utf8_lossy}
use Rattle.std.proofs.lemmas.Str.{utf8_lossy-IsUtf8, IsUtf8-string_bytes}
use Rattle.sugar_path.proofs.lexical_buf.PathBufSugarPathBuf.into_slash_lossy.Goals as goal

pub returns-in-Ok-clause-text : goal.returns-in-Ok-clause-text
returns-in-Ok-clause-text c =
    sym (utf8_lossy-IsUtf8 _ (IsUtf8-string_bytes c.in-Ok.text)) ∙ ap utf8_lossy c.in-Ok.ensures.text
