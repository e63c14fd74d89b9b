use Rattle.std.proofs.Common.{◌<◌, length, sym, ◌∙◌, arith}
use Rattle.std.proofs.lemmas.List.{take_rest}
use Rattle.npm_req.proofs.Words.{word_goes_on}
use Rattle.npm_req.proofs.word.word.Goals as goal

pub loop-at-preserved : goal.loop-at-preserved
loop-at-preserved c =
    let rest = take_rest c.as_bytes-bytes.result.now c.loop-at.at in
    let goes_on = rw (rest, c.as_bytes-bytes.ensures.value) at (sym c.ends_part.ensures ∙ c.if-ends_part.false) in
    let inside : c.loop-at.at < length c.args.text.now = omega (arith, c.as_bytes-bytes.ensures.len) in
    word_goes_on c.args.text.now c.loop-at.at inside c.loop-at.invariant goes_on
