use Rattle.std.proofs.Common.{arith, sym, subst, ◌∙◌, eqb-true}
use Rattle.std.proofs.lemmas.Bool.{eqb-false}
use Rattle.trail_bundle.specs.Decoding.{IsWrongBy}
use Rattle.trail_bundle.specs.Steps.{steps_of}
use Rattle.trail_bundle.proofs.Decodings.{
  all_decoded,
  counts_read,
  raised,
  with_more,
  without_counts,
  without_reply,
  without_request,
}
use Rattle.trail_bundle.proofs.bundle.Bundle.decode.Goals as goal

pub returns-in_err-counts-clause-wrong : goal.returns-in_err-counts-clause-wrong
returns-in_err-counts-clause-wrong c =
    raised (λ line. IsWrongBy line c.args.text.now) _ _ c.from_residual.ensures.1
    (without_counts c.args.text.now _ _ _ c.of-lines.ensures.rest c.of-lines.ensures.first
    c.in_err-counts.ensures.lacks)

pub returns-in_err-requests-clause-wrong : goal.returns-in_err-requests-clause-wrong
returns-in_err-requests-clause-wrong c =
    raised (λ line. IsWrongBy line c.args.text.now) _ _ c.from_residual-in_err-requests.ensures.1
    (without_request c.args.text.now _ c.in_ok-counts.counts _ _
    (counts_read c.args.text.now _ _ c.in_ok-counts.counts c.of-lines.ensures.rest c.in_ok-counts.ensures.front)
    (omega (arith, c.in_ok-counts.ensures.number, c.of-lines.ensures.first)) c.in_err-requests.ensures.lacks)

pub returns-in_err-replies-clause-wrong : goal.returns-in_err-replies-clause-wrong
returns-in_err-replies-clause-wrong c =
    raised (λ line. IsWrongBy line c.args.text.now) _ _ c.from_residual-in_err-replies.ensures.1
    (without_reply c.args.text.now _ _ c.in_ok-counts.counts c.in_ok-requests.requests.items _ _
    (counts_read c.args.text.now _ _ c.in_ok-counts.counts c.of-lines.ensures.rest c.in_ok-counts.ensures.front)
    c.in_ok-requests.ensures.front c.in_ok-requests.ensures.all
    (omega (arith, c.in_ok-requests.ensures.number, c.in_ok-counts.ensures.number, c.of-lines.ensures.first))
    c.read_requests.new.lines.room c.in_err-replies.ensures.lacks)

pub returns-then-not-is_empty-clause-wrong : goal.returns-then-not-is_empty-clause-wrong
returns-then-not-is_empty-clause-wrong c =
    let some = eqb-false _ _ (sym c.is_empty.ensures ∙ c.if-not-is_empty.true) in
    subst (λ line. IsWrongBy line c.args.text.now) (sym c.number.ensures)
    (with_more c.args.text.now _ _ _ c.in_ok-counts.counts c.in_ok-requests.requests.items
    (steps_of c.in_ok-replies.replies.entries) _
    (record {
      read = counts_read c.args.text.now _ _ c.in_ok-counts.counts c.of-lines.ensures.rest c.in_ok-counts.ensures.front;
      then = c.in_ok-requests.ensures.front;
      last = c.in_ok-replies.ensures.front;
      all = c.in_ok-requests.ensures.all;
      every = c.in_ok-replies.ensures.all;
      at = omega (
        arith,
        c.in_ok-replies.ensures.number,
        c.in_ok-requests.ensures.number,
        c.in_ok-counts.ensures.number,
        c.of-lines.ensures.first,
      );
      room = c.read_replies.new.lines.room;
    }) c.in_ok-replies.ensures.are (omega arith))

pub returns-clause-ok : goal.returns-clause-ok
returns-clause-ok c =
    all_decoded c.args.text.now _ _ _ c.in_ok-counts.counts c.in_ok-requests.requests.items
    (steps_of c.in_ok-replies.replies.entries) _
    (record {
      read = counts_read c.args.text.now _ _ c.in_ok-counts.counts c.of-lines.ensures.rest c.in_ok-counts.ensures.front;
      then = c.in_ok-requests.ensures.front;
      last = c.in_ok-replies.ensures.front;
      all = c.in_ok-requests.ensures.all;
      every = c.in_ok-replies.ensures.all;
      at = omega (
        arith,
        c.in_ok-replies.ensures.number,
        c.in_ok-requests.ensures.number,
        c.in_ok-counts.ensures.number,
        c.of-lines.ensures.first,
      );
      room = c.read_replies.new.lines.room;
    }) (eqb-true _ _ (sym c.is_empty.ensures ∙ c.if-not-is_empty.false))
