use Rattle.std.proofs.Common.{ℕ, Vec, Global, sym, ap, ◌∙◌}
use Rattle.std.specs.Str.Lossy.{utf8_lossy}
use Rattle.std.proofs.lemmas.Str.{utf8_lossy-IsUtf8, IsUtf8-string_bytes}
use Rattle.deno_package_json.proofs.fs.lossy_text.Goals as goal

pub returns-in-Ok : goal.returns-in-Ok
returns-in-Ok c = sym (utf8_lossy-IsUtf8 _ (IsUtf8-string_bytes c.in-Ok.text))
    ∙ ap (λ (v : Vec ℕ Global). utf8_lossy v.items) c.in-Ok.ensures.ok
