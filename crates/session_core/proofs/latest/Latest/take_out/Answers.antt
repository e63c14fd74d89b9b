use Rattle.std.proofs.Common.{nat_eq}
use Rattle.session_core.specs.Index.{IsNotedEntry}
use Rattle.session_core.proofs.Numbers.{numbered-removed, all-removed, others-removed}
use Rattle.session_core.proofs.Indexes.{all-others}
use Rattle.std.specs.Map.{remove_entry}
use Rattle.session_core.proofs.latest.Latest.take_out.Goals as goal

pub invariant_of-self : goal.invariant_of-self
invariant_of-self c =
    let es = c.self.inside.entries.entries in
    let n = c.args.number in
    let index = c.self.inside.index in
    rw c.pop.ensures.entries (
      numbered-removed c.self.inside.next n es c.self.invariant.0,
      all-others n index c.forget.new.self (remove_entry (nat_eq n) es) c.forget.ensures.kept
          (others-removed n es c.self.invariant.0.numbers)
          (all-removed (λ e. IsNotedEntry index e.0 e.1) n es c.self.invariant.1),
    )

pub invariant_of-self-in_default : goal.invariant_of-self-in_default
invariant_of-self-in_default c =
    let es = c.self.inside.entries.entries in
    let n = c.args.number in
    rw c.pop.ensures.entries (
      numbered-removed c.self.inside.next n es c.self.invariant.0,
      all-removed (λ e. IsNotedEntry c.self.inside.index e.0 e.1) n es c.self.invariant.1,
    )
