use Rattle.std.proofs.Common.{◌≡◌, ◌<◌, ◌≤◌, ◌++◌, ◌+◌, ℕ, List, Some, length, take, arith, rules, subst}
use Rattle.std.proofs.lemmas.Grind.{common_steps}
use Rattle.cli_core.specs.Streams.{Takes}
use Rattle.cli_core.specs.declared.reading.TheConstants.{LONGEST, CHUNK}
use Rattle.cli_core.proofs.Turns.{next_front, at_end, length-more, leaves_next}
use Rattle.cli_core.proofs.reading.read_all.Goals as goal

pub returns-then-n-eq0-clause-all : goal.returns-then-n-eq0-clause-all
returns-then-n-eq0-clause-all g c = λ bytes is.
    let T : ℕ → Type 0 = λ n. (rest : List ℕ) → (g.S.Source.state c.loop-buffer.source).left ≡ Some rest
    → Takes n c.read.new.buffer rest (g.S.Source.state c.read.new.self).left in
    let some : 0 < length c.read.new.buffer = search rules in
    at_end bytes _ c.read.new.buffer _ _ (c.loop-buffer.invariant.front bytes is) some
    (subst T c.if-n-eq0.true c.in_ok-n.ensures.taken)

pub returns-then-n-eq0-clause-end : goal.returns-then-n-eq0-clause-end
returns-then-n-eq0-clause-end g c = λ bytes is.
    let bounded : length c.loop-buffer.all.items + c.in_ok-n.n ≤ LONGEST + CHUNK =
    omega (arith, c.if-n-eq0.true, c.loop-buffer.invariant.bounded) in
    leaves_next _ bytes _ c.read.new.buffer _ _ c.in_ok-n.n (c.loop-buffer.invariant.front bytes is)
    c.in_ok-n.ensures.taken bounded

pub returns-in_err-extend_from_slice-clause-end : goal.returns-in_err-extend_from_slice-clause-end
returns-in_err-extend_from_slice-clause-end g c = λ bytes is.
    let size : length c.read.new.buffer ≡ CHUNK = search rules in
    let bounded : length c.loop-buffer.all.items + c.in_ok-n.n ≤ LONGEST + CHUNK =
    omega (arith, size, c.in_ok-n.ensures.bound, c.loop-buffer-test.true) in
    leaves_next _ bytes _ c.read.new.buffer _ _ c.in_ok-n.n (c.loop-buffer.invariant.front bytes is)
    c.in_ok-n.ensures.taken bounded

pub loop-buffer-preserved : goal.loop-buffer-preserved
loop-buffer-preserved g c =
    let more : c.extend_from_slice.new.self.items ≡ c.loop-buffer.all.items ++ take c.in_ok-n.n c.read.new.buffer =
    grind (arith, common_steps) in
    let size : length c.read.new.buffer ≡ CHUNK = search rules in
    record {
      size = size;
      bounded = omega (
        arith,
        size,
        length-more c.loop-buffer.all.items c.extend_from_slice.new.self.items
            c.read.new.buffer c.in_ok-n.n c.in_ok-n.ensures.bound more,
        c.in_ok-n.ensures.bound,
        c.loop-buffer-test.true,
      );
      count = search rules;
      front = λ bytes is. next_front bytes _ c.extend_from_slice.new.self.items c.read.new.buffer _ _ c.in_ok-n.n
          (c.loop-buffer.invariant.front bytes is) c.in_ok-n.ensures.bound c.in_ok-n.ensures.taken more;
    }
