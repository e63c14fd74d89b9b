use Rattle.std.proofs.Common.{sym, ap, length, arith, rules}
use Rattle.yarn_lock_parser.specs.Cut.{entry_text}
use Rattle.yarn_lock_parser.proofs.Every.{every-none, every-more}
use Rattle.yarn_lock_parser.proofs.Locks.{entry_text-cut, entry_text-shortens}
use Rattle.yarn_lock_parser.proofs.lockfile.entry_count.Goals as goal

pub loop-behind-smaller : goal.loop-behind-smaller
loop-behind-smaller c = (entry_text-cut _ _ (sym c.in-Some.ensures)).later.shorter

pub loop-behind-preserved : goal.loop-behind-preserved
loop-behind-preserved c =
    let more = ap (λ x. length x.0) (every-more entry_text entry_text-shortens c.loop-behind.rest.now _
    (sym c.in-Some.ensures)) in
    let shorter = (entry_text-cut _ _ (sym c.in-Some.ensures)).later.shorter in
    record {
      text = search rules;
      whole = omega (arith, more, c.loop-behind.invariant.whole);
      bound =
          omega (arith, shorter, c.loop-behind.invariant.bound);
    }

pub returns : goal.returns
returns c =
    let none = ap (λ x. length x.0) (every-none entry_text c.loop-behind.rest.now (sym c.in_default.ensures)) in
    omega (arith, none, c.loop-behind.invariant.whole)
