use Rattle.std.proofs.Common.{refl}
use Rattle.session_core.specs.Entries.{is_for}
use Rattle.session_core.specs.Index.{IsNotedEntry}
use Rattle.session_core.specs.Numbered.{IsNumberOf}
use Rattle.session_core.proofs.Numbers.{entries-promoted, numbered-promoted, all-promoted, find-alone}
use Rattle.session_core.proofs.latest.Latest.recall_at.Goals as goal

pub invariant_of-self : goal.invariant_of-self
invariant_of-self c =
    let es = c.self.inside.entries.entries in
    let i = c.args.importer.now in let s = c.args.specifier.now in
    let at : IsNumberOf (is_for i s) es c.in-Some.number = rw (← c.self.view_is) at c.in-Some.ensures in
    rw c.promote.ensures.entries (
      numbered-promoted i s c.self.inside.next c.in-Some.number es c.self.invariant.0 at,
      all-promoted (λ e. IsNotedEntry c.self.inside.index e.0 e.1) (is_for i s) c.in-Some.number es at
          c.self.invariant.1,
    )

pub returns-in-Some-clause-there : goal.returns-in-Some-clause-there
returns-in-Some-clause-there c =
    let es = c.self.inside.entries.entries in
    let n : IsNumberOf (is_for c.args.importer.now c.args.specifier.now) es c.in-Some.number =
    rw (← c.self.view_is) at c.in-Some.ensures in
    rw (
      c.promote.ensures.value,
      ← c.self.view_is,
      n.found,
      find-alone c.args.importer.now c.args.specifier.now c.in-Some.number es n.entry c.self.invariant.0.apart n.found
          n.passes,
    ) refl

pub returns-in-Some-clause-moved : goal.returns-in-Some-clause-moved
returns-in-Some-clause-moved c =
    let es = c.self.inside.entries.entries in
    let n : IsNumberOf (is_for c.args.importer.now c.args.specifier.now) es c.in-Some.number =
    rw (← c.self.view_is) at c.in-Some.ensures in
    rw (← c.self.view_is, c.promote.ensures.entries)
    (entries-promoted c.args.importer.now c.args.specifier.now c.in-Some.number es c.self.invariant.0.apart n)
