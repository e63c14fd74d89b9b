use Rattle.std.proofs.Common.{rules, ◌≡◌, ℕ, List, subst, ◌∙◌}
use Rattle.std.specs.Prelude.{IfOk, IfErr, OnOk, Some}
use Rattle.std.specs.Str.{chars}
use Rattle.std.proofs.lemmas.Str.{chars_from_encodes}
use Rattle.es_pattern.specs.Pieces.{tree_of}
use Rattle.es_pattern.specs.Faults.{IsCaused, IsClear}
use Rattle.es_pattern.specs.Reading.{accepted}
use Rattle.es_pattern.proofs.parse.pieces_of.Goals as goal

pub returns-clause-ok : goal.returns-clause-ok
returns-clause-ok c =
    let all_chars : c.in_ok-characters.characters.items ≡ chars c.args.text.now = search (rules, chars_from_encodes) in
    subst (λ (cs : List ℕ). IfOk c.pieces_from.result (λ pieces. accepted cs ≡ Some (tree_of pieces.items)))
    (c.deref.ensures.value ∙ all_chars) c.pieces_from.ensures.ok

pub returns-clause-fault : goal.returns-clause-fault
returns-clause-fault c =
    let all_chars : c.in_ok-characters.characters.items ≡ chars c.args.text.now = search (rules, chars_from_encodes) in
    subst (λ (cs : List ℕ). IfErr c.pieces_from.result (IsCaused cs)) (c.deref.ensures.value ∙ all_chars)
    c.pieces_from.ensures.fault

pub returns-clause-clear : goal.returns-clause-clear
returns-clause-clear c =
    let all_chars : c.in_ok-characters.characters.items ≡ chars c.args.text.now = search (rules, chars_from_encodes) in
    subst (λ (cs : List ℕ). OnOk c.pieces_from.result (IsClear cs)) (c.deref.ensures.value ∙ all_chars)
    c.pieces_from.ensures.clear
