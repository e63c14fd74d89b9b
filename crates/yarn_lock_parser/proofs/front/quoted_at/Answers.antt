use Rattle.std.proofs.Common.{lit<, refl, sym}
use Rattle.yarn_lock_parser.specs.Front.{quoted_at}
use Rattle.yarn_lock_parser.proofs.Splits.{split-around}
use Rattle.yarn_lock_parser.proofs.front.quoted_at.Goals as goal

pub returns-in_err-inner : goal.returns-in_err-inner
unfolding quoted_at
returns-in_err-inner c = rw (c.from_residual.ensures, sym c.in_err-inner.ensures) refl

pub returns : goal.returns
unfolding quoted_at
returns c = rw (sym c.in_ok-inner.ensures) (split-around 34 c.in_ok-inner.inner.now c.split_once.result
    c.split_once.ensures.cases (lit< tt))
