use Rattle.std.proofs.Common.{sym, ◌∙◌, option_map}
use Rattle.swc_loader.proofs.BrowserRuling.{ruled-other, ruled-named}
use Rattle.swc_loader.proofs.browser_rules.ruled.Goals as goal
use Rattle.swc_loader.proofs.browser_rules.ruled.Goals.{then-is_source+in-Some, else-is_source}

pub loop-rule-preserved : goal.loop-rule-preserved
loop-rule-preserved c = elim c.if-is_source.branch [
  | then-is_source+in-Some w ↦
      rw w.last-is
      (ruled-named (option_map (λ f. f.now) c.loop-rule.last) c.args.rules.now c.loop-rule.rule-index c.rule-item.result
      c.args.about.now w.in-Some.file c.loop-rule-test.true c.rule-item.is
      (sym c.is_source.ensures ∙ w.if-is_source.true) w.in-Some.is c.loop-rule.invariant)
  | else-is_source w ↦
      rw w.last-is
      (ruled-other (option_map (λ f. f.now) c.loop-rule.last) c.args.rules.now c.loop-rule.rule-index c.rule-item.result
      c.args.about.now c.loop-rule-test.true c.rule-item.is (sym c.is_source.ensures ∙ w.if-is_source.false)
      c.loop-rule.invariant)
]
