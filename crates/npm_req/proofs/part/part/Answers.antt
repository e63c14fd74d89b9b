use Rattle.std.proofs.Common.{ap, ◌∙◌}
use Rattle.npm_req.specs.Part.{after_sign}
use Rattle.npm_req.specs.Word.{after_word}
use Rattle.npm_req.proofs.Endings.{end_of_part}
use Rattle.npm_req.proofs.part.part.Goals as goal

pub returns-in_ok-comparators-in-Some-clause-end :
    goal.returns-in_ok-comparators-in-Some-clause-end
returns-in_ok-comparators-in-Some-clause-end c =
    let rest = c.word.ensures.rest ∙ ap after_word (c.after_sign.ensures.value
    ∙ ap (λ p. after_sign p.1) c.operator_of-operator.ensures.value) in
    rw rest (end_of_part c.args.text.now)
