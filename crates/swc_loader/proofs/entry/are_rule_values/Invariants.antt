use Rattle.std.proofs.Common.{◌≡◌}
use Rattle.serde_json.specs.View.{members_view}
use Rattle.swc_loader.specs.Entry as of
use Rattle.swc_loader.proofs.entry.are_rule_values.Given as goal

-- what is left decides
abbrev pub invariant-loop-key : goal.invariant-loop-key
invariant-loop-key l =
    (goal.iterator-loop-key).can_next l._key-iterator ×
    (goal.iterator-loop-key).is_finite l._key-iterator ×
    (of.are_rule_values (members_view l.rules.entries) ≡ of.are_rule_values (members_view l._key-iterator))
