use Rattle.std.proofs.Common.{refl}
use Rattle.session_core.specs.Entries.{is_for}
use Rattle.session_core.specs.Index.{IsNotedEntry}
use Rattle.session_core.proofs.Numbers.{entries-promoted, numbered-promoted, all-promoted, none-kept, find-alone}
use Rattle.session_core.proofs.latest.Latest.recall.Goals as goal

pub invariant_of-self : goal.invariant_of-self
invariant_of-self c =
    let es = c.self.inside.entries.entries in
    let i = c.args.importer.now in let s = c.args.specifier.now in
    rw c.promote.ensures.entries (
      numbered-promoted i s c.self.inside.next c.in-Some.number es c.self.invariant.0 c.in-Some.ensures.number,
      all-promoted (λ e. IsNotedEntry c.self.inside.index e.0 e.1) (is_for i s) c.in-Some.number es
          c.in-Some.ensures.number c.self.invariant.1,
    )

pub returns-in-None-clause-there : goal.returns-in-None-clause-there
returns-in-None-clause-there c =
    let none = none-kept c.args.importer.now c.args.specifier.now c.self.inside.entries.entries c.in-None.ensures.none
    in
    rw (← c.self.view_is, none) refl

pub returns-in-None-clause-moved : goal.returns-in-None-clause-moved
returns-in-None-clause-moved c =
    let none = none-kept c.args.importer.now c.args.specifier.now c.self.inside.entries.entries c.in-None.ensures.none
    in
    rw (← c.self.view_is, none) refl

pub returns-in-Some-clause-there : goal.returns-in-Some-clause-there
returns-in-Some-clause-there c =
    let n = c.in-Some.ensures.number in
    rw (
      c.promote.ensures.value,
      ← c.self.view_is,
      n.found,
      find-alone c.args.importer.now c.args.specifier.now c.in-Some.number c.self.inside.entries.entries n.entry
          c.self.invariant.0.apart n.found n.passes,
    ) refl

pub returns-in-Some-clause-moved : goal.returns-in-Some-clause-moved
returns-in-Some-clause-moved c =
    rw (← c.self.view_is, c.promote.ensures.entries)
    (entries-promoted c.args.importer.now c.args.specifier.now c.in-Some.number c.self.inside.entries.entries
    c.self.invariant.0.apart c.in-Some.ensures.number)
