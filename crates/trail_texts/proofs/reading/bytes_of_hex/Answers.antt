use Rattle.std.proofs.Common.{◌≡◌, true, Some, ap, sym, ◌∙◌, rules}
use Rattle.std.specs.List.{list_all}
use Rattle.trail_texts.specs.Reading.{is_lower_hex_digit}
use Rattle.trail_texts.proofs.Items.{hex_read}
use Rattle.trail_texts.proofs.reading.bytes_of_hex.Goals as goal

pub returns-in_ok-from_vec-in-Ok : goal.returns-in_ok-from_vec-in-Ok
returns-in_ok-from_vec-in-Ok c =
    let lower : list_all is_lower_hex_digit c.in-Some.text.now ≡ true = search rules in
    rw c.in-Some.is (hex_read _ _ lower c.in-Ok.ensures.ok ∙ ap Some (sym c.in_ok-from_vec-in-Ok.ensures))
