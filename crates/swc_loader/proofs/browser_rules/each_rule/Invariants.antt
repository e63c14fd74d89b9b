use Rattle.serde_json.specs.View.{members_view}
use Rattle.tree_core.specs.Asks.{Leads}
use Rattle.swc_loader.specs.BrowserRules.{rules_of}
use Rattle.swc_loader.proofs.BrowserRuling.{left_rules}
use Rattle.swc_loader.proofs.browser_rules.each_rule.Given as goal

-- what is left is the entries behind, with the rules that were read before them
abbrev pub invariant-loop-key : goal.invariant-loop-key
invariant-loop-key g l =
    (goal.iterator-loop-key g).can_next l.key-iterator ×
    (goal.iterator-loop-key g).is_finite l.key-iterator ×
    Leads (g.R.Asker.asking l.fn.tree) (g.R.Asker.asking l.tree)
    (rules_of l.conventions l.root (members_view l.entries.entries))
    (left_rules l.conventions l.root l.rules.items (members_view l.key-iterator))
