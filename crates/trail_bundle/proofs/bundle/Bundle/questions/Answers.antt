use Rattle.std.proofs.Common.{sym, ◌∙◌}
use Rattle.trail_bundle.proofs.Sorted.{as_many}
use Rattle.trail_bundle.proofs.bundle.Bundle.questions.Goals as goal

pub returns-clause-count : goal.returns-clause-count
returns-clause-count c = c.len.ensures.len ∙ sym (as_many c.args.self.now.replies.entries)

pub returns-clause-valid : goal.returns-clause-valid
returns-clause-valid c = record { replies = c.args.self.now.are }
