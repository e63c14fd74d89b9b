use Rattle.std.proofs.Common.{refl}
use Rattle.npm_req.specs.Front.{after_all, is_space}
use Rattle.npm_req.specs.Word.{after_word}
use Rattle.npm_req.proofs.Endings.{end_of_all, end_of_end, end_of_word}
use Rattle.npm_req.proofs.range.hyphen_of.Goals as goal

pub returns-then-not-ends_alternative-clause-inside :
    goal.returns-then-not-ends_alternative-clause-inside
returns-then-not-ends_alternative-clause-inside c =
    let t = c.args.text.now in
    let ends = end_of_end (after_all is_space (after_word t)) (after_word t) t (end_of_all is_space (after_word t))
    (end_of_word t) in (
      c.after_spaces-rest.result.now,
      (
        refl,
        c.after_spaces-rest.utf8,
        rw (c.after_spaces-rest.ensures.value, c.word.ensures.rest) ends,
      ),
    )

pub returns-clause-end : goal.returns-clause-end
returns-clause-end c =
    let t = c.args.text.now in
    rw (c.after_spaces-rest.ensures.value, c.word.ensures.rest)
    (end_of_end (after_all is_space (after_word t)) (after_word t) t (end_of_all is_space (after_word t))
    (end_of_word t))
