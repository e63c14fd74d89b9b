use Rattle.std.proofs.Common.{◌≡◌, drop, option_map}
use Rattle.swc_loader.specs.BrowserRules.{ruled}
use Rattle.swc_loader.proofs.BrowserRuling.{said_before}
use Rattle.swc_loader.proofs.browser_rules.ruled.Given as goal

-- what the rules that are left say, behind the last that named a file
abbrev pub invariant-loop-rule : goal.invariant-loop-rule
invariant-loop-rule l =
    ruled l.rules l.about ≡ said_before (option_map (λ f. f.now) l.last) (ruled (drop l.rule-index l.rules) l.about)
