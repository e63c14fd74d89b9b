use Rattle.std.proofs.Common.{rules, ◌≡◌, ◌∙◌}
use Rattle.std.specs.Str.{chars}
use Rattle.std.proofs.lemmas.Str.{chars_from_encodes}
use Rattle.es_pattern.specs.Pieces.{tree_of}
use Rattle.es_pattern.proofs.Searching.{found_if}
use Rattle.es_pattern.proofs.search.is_found.Goals as goal

pub returns : goal.returns
returns c =
    let all_chars : c.in_ok-characters.characters.items ≡ chars c.args.text.now = search (rules, chars_from_encodes) in
    found_if c.search_counted.result (tree_of c.args.pieces.now) c.deref.result.now (chars c.args.text.now)
    (c.deref.ensures.value ∙ all_chars) c.search_counted.ensures
