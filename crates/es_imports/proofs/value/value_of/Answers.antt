use Rattle.std.proofs.Common.{rules, ◌≡◌, ap, ◌∙◌, List, ℕ}
use Rattle.std.specs.Prelude.{encode_utf8_all}
use Rattle.std.specs.Char.Utf16.{utf16_lossy_chars}
use Rattle.std.specs.Str.{chars}
use Rattle.std.proofs.lemmas.Str.{chars_from_encodes}
use Rattle.es_imports.specs.Escapes.{units_of}
use Rattle.es_imports.proofs.value.value_of.Goals as goal

pub returns : goal.returns
returns c =
    let all_chars : c.in_ok-characters.characters.items ≡ chars c.args.text.now = search (rules, chars_from_encodes) in
    let units = c.in_ok-units.ensures ∙ ap units_of (c.deref.ensures.value ∙ all_chars) in
    let made = c.in_ok-value.ensures
    ∙ ap (λ (us : List ℕ). encode_utf8_all (utf16_lossy_chars us)) (c.deref-2.ensures.value ∙ units) in
    c.from.ensures ∙ made
