use Rattle.std.proofs.Common.{◌≡◌, ◌+◌, ◌-◌, ◌<◌, ◌^◌, nat_eq, false, ap, ◌∙◌, arith}
use Rattle.std.specs.Prelude.{slice_get}
use Rattle.std.specs.List.{AllByRecursion}
use Rattle.std.proofs.lemmas.Grind.{common_steps}
use Rattle.session_core.proofs.Numbers.{put-new, entries-put, numbered-put, displaced-new, below-differ}
use Rattle.session_core.proofs.Indexes.{all-kept, all-others, all-put}
use Rattle.session_core.proofs.latest.Latest.put_first.Goals as goal

pub invariant_of-self : goal.invariant_of-self
invariant_of-self c =
    let es = c.self.inside.entries.entries in
    let next = c.self.inside.next in (
      c.self.invariant.0,
      all-others next c.note.new.self c.forget.new.self es c.forget.ensures.kept
          (below-differ next es c.self.invariant.0.below)
          (all-kept c.self.inside.index c.note.new.self es c.note.ensures.kept c.self.invariant.1),
    )

pub invariant_of-self-in-Ok : goal.invariant_of-self-in-Ok
invariant_of-self-in-Ok c =
    let es = c.self.inside.entries.entries in
    let cap = c.self.inside.entries.cap in
    let n = c.self.inside.next in
    let e = c.args.entry in
    let next : c.in_ok-next.next ≡ n + 1 = grind (arith, common_steps) in
    let fits : n + 1 < 2 ^ 64 = grind (arith, common_steps) in
    let last : c.in-Ok.last ≡ slice_get es (cap - 1) =
    c.in-Ok.ensures.old ∙ displaced-new c.self.inside.entries n e c.self.invariant.0.below in
    let noted = all-kept c.self.inside.index c.note.new.self es c.note.ensures.kept c.self.invariant.1 in
    rw (next, c.in-Ok.ensures.entries, put-new c.self.inside.entries n e c.self.invariant.0.below) (
      numbered-put cap n e es c.self.invariant.0 (rw (← c.self.view_is) at c.requires) fits,
      all-put c.note.new.self c.forget_last.new.index cap n e es c.in-Ok.last last c.self.invariant.0 noted
          c.in_default.ensures.ok c.forget_last.ensures,
    )

pub invariant_of-self-in-Err-push : goal.invariant_of-self-in-Err-push
invariant_of-self-in-Err-push c =
    let es = c.self.inside.entries.entries in
    let n = c.self.inside.next in
    let number : c.in-Err-push.e.value.0 ≡ n = ap (λ p. p.0) c.in-Err-push.ensures.value_returned in
    let others : AllByRecursion (λ x. nat_eq c.in-Err-push.e.value.0 x.0 ≡ false) es =
    rw number (below-differ n es c.self.invariant.0.below) in
    let noted = all-kept c.self.inside.index c.note.new.self es c.note.ensures.kept c.self.invariant.1 in
    rw c.in-Err-push.ensures.err (
      c.self.invariant.0,
      all-others c.in-Err-push.e.value.0 c.note.new.self c.forget-in-Err-push.new.self es
          c.forget-in-Err-push.ensures.kept others noted,
    )

pub returns-in-Ok-clause-ok : goal.returns-in-Ok-clause-ok
returns-in-Ok-clause-ok c =
    rw (
      c.in-Ok.ensures.entries,
      put-new c.self.inside.entries c.self.inside.next c.args.entry
          c.self.invariant.0.below,
      ← c.self.view_is,
    )
    (entries-put c.self.inside.entries.cap c.self.inside.next c.args.entry c.self.inside.entries.entries)
