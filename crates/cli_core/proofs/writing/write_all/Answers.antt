use Rattle.std.proofs.Common.{List, ℕ, ◌+◌, take, subst, arith, length-drop}
use Rattle.cli_core.specs.Streams.{Appends}
use Rattle.cli_core.proofs.Turns.{appends_more, rest_is}
use Rattle.cli_core.proofs.writing.write_all.Goals as goal

pub returns-then-n-eq0-clause-front : goal.returns-then-n-eq0-clause-front
returns-then-n-eq0-clause-front g c =
    let P : List ℕ → Type 0 = λ rest. Appends (take c.in_ok-n.n rest) (g.K.Sink.state c.loop-done.sink).written
    (g.K.Sink.state c.write.new.self).written in
    record {
      written = c.loop-done.done + c.in_ok-n.n;
      appended = appends_more c.args.text.now c.loop-done.done c.in_ok-n.n _ _ _ c.loop-done.invariant.front
          (subst P (rest_is c.loop-done.done c.args.text.now) c.in_ok-n.ensures.appended);
    }

pub loop-done-preserved : goal.loop-done-preserved
loop-done-preserved g c = record {
  within = omega (arith, length-drop c.loop-done.done c.args.text.now, c.in_ok-n.ensures.bound);
  count = grind (arith, c.in_ok-n.ensures.counted, c.if-n-eq0.false, c.loop-done.invariant.count);
  front =
      let P : List ℕ → Type 0 = λ rest. Appends (take c.in_ok-n.n rest) (g.K.Sink.state c.loop-done.sink).written
      (g.K.Sink.state c.write.new.self).written in
      appends_more c.args.text.now c.loop-done.done c.in_ok-n.n _ _ _ c.loop-done.invariant.front
      (subst P (rest_is c.loop-done.done c.args.text.now) c.in_ok-n.ensures.appended);
}
