use Rattle.std.proofs.Common.{◌≡◌, ◌==◌, false, length, sym, ap, ◌∙◌}
use Rattle.std.specs.Str.{trim}
use Rattle.json_reading.specs.Bytes.{json_of}
use Rattle.deno_package_json.specs.Loading.{from_json, from_text}
use Rattle.package_readings.proofs.Texts.{loaded_as_text, loaded_as_value, loads_as}
use Rattle.package_readings.proofs.loaded.loaded.Goals as goal

pub returns-then-is_empty : goal.returns-then-is_empty
returns-then-is_empty c =
    let same = c.in-Ok.ensures.cases.0 ∙ c.as_slice.ensures in
    let utf8 = rw c.as_slice.ensures at c.in-Ok.ensures.cases.1 in
    loads_as _ (ap (λ path. from_text path c.in-Ok.text.now) c.in_ok-path.ensures
    ∙ sym (loaded_as_text _ c.args.content.now c.in-Ok.text.now same utf8)) c.load_from_string.ensures.loads

pub returns-else-is_empty : goal.returns-else-is_empty
returns-else-is_empty c =
    let same = c.in-Ok.ensures.cases.0 ∙ c.as_slice.ensures in
    let utf8 = rw c.as_slice.ensures at c.in-Ok.ensures.cases.1 in
    let black : (length (trim c.in-Ok.text.now) == 0) ≡ false =
    sym (rw c.trim.ensures.trim at c.is_empty.ensures) ∙ c.if-is_empty.false in
    loads_as _ (ap (λ path. from_json path (json_of c.args.content.now)) c.in_ok-path.ensures
    ∙ sym (loaded_as_value _ c.args.content.now c.in-Ok.text.now same utf8 black)) c.loaded_value.ensures
