use Rattle.std.proofs.Common.{sym}
use Rattle.std.proofs.lemmas.Result.{IfOk-weaker, MatchResult-weaker}
use Rattle.npm_req.specs.Front.{is_space}
use Rattle.npm_req.proofs.Endings.{end_of_all, end_of_end, end_of_second, refused_in_end}
use Rattle.npm_req.proofs.range.alternative.Goals as goal

pub returns-in-Some-2-clause-end : goal.returns-in-Some-2-clause-end
returns-in-Some-2-clause-end c =
    let found = rw (c.word.ensures.rest, c.after_spaces-from.ensures.value) at (sym c.in-Some.ensures.value) in
    let ends = end_of_second c.args.text.now c.in-Some.second.now found in
    IfOk-weaker c.hyphen_of.result _ _ (λ r h. end_of_end r.1.now c.in-Some.second.now c.args.text.now h ends)
    c.hyphen_of.ensures.end

pub returns-in-Some-2-clause-inside : goal.returns-in-Some-2-clause-inside
returns-in-Some-2-clause-inside c =
    let found = rw (c.word.ensures.rest, c.after_spaces-from.ensures.value) at (sym c.in-Some.ensures.value) in
    let ends = end_of_second c.args.text.now c.in-Some.second.now found in
    MatchResult-weaker c.hyphen_of.result c.hyphen_of.ensures.inside (λ r h. h)
    (λ e h. refused_in_end c.in-Some.second.now c.args.text.now e ends h)

pub returns-clause-end : goal.returns-clause-end
returns-clause-end c =
    IfOk-weaker c.parts_of.result _ _ (λ r h. end_of_end r.1.now c.after_spaces-from.result.now c.args.text.now h
    (rw c.after_spaces-from.ensures.value (end_of_all is_space c.args.text.now))) c.parts_of.ensures.end

pub returns-clause-inside : goal.returns-clause-inside
returns-clause-inside c =
    MatchResult-weaker c.parts_of.result c.parts_of.ensures.inside (λ r h. h)
    (λ e h. refused_in_end c.after_spaces-from.result.now c.args.text.now e
    (rw c.after_spaces-from.ensures.value (end_of_all is_space c.args.text.now)) h)
