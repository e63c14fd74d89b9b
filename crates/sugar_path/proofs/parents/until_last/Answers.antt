use Rattle.std.proofs.Common.{◌≡◌, ◌+◌, true, false, drop, take, sym, ap, ◌∙◌, arith}
use Rattle.std.proofs.lemmas.List.{length-take}
use Rattle.sugar_path.specs.Parent.{is_silent}
use Rattle.sugar_path.proofs.ParentEnds.{last-cut, rest-borrowed, uncut-parts, until-silent, until-told, until-alone}
use Rattle.sugar_path.proofs.parents.until_last.Goals as goal

pub overflow_add-slash : goal.overflow_add-slash
overflow_add-slash c = omega (arith, c.in-Some.ensures.0.high, c.loop-slash.invariant.shorter)

pub returns-then-not-is_silent : goal.returns-then-not-is_silent
returns-then-not-is_silent c =
    let text = c.loop-slash.text.now in
    let slash = c.in-Some.slash in
    let told : is_silent (drop (slash + 1) text) ≡ false =
    ap is_silent (sym (rest-borrowed text slash)) ∙ sym c.is_silent.ensures ∙ c.if-not-is_silent.true in
    until-told text (take slash text) (drop (slash + 1) text) (last-cut text slash c.in-Some.ensures) told
    ∙ c.loop-slash.invariant.until

pub loop-slash-preserved : goal.loop-slash-preserved
loop-slash-preserved c =
    let text = c.loop-slash.text.now in
    let slash = c.in-Some.slash in
    let silent : is_silent (drop (slash + 1) text) ≡ true =
    ap is_silent (sym (rest-borrowed text slash)) ∙ sym c.is_silent.ensures ∙ c.if-not-is_silent.false in
    record {
      until = until-silent text (take slash text) (drop (slash + 1) text) (last-cut text slash c.in-Some.ensures) silent
          ∙ c.loop-slash.invariant.until;
      shorter = omega (arith, length-take slash text, c.loop-slash.invariant.shorter);
    }

pub returns : goal.returns
returns c =
    until-alone c.loop-slash.text.now (uncut-parts c.loop-slash.text.now (rw c.in_default.is at c.memrchr.ensures))
    ∙ c.loop-slash.invariant.until
