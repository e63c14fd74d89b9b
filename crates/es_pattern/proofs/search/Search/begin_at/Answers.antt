use Rattle.std.proofs.Common.{sym, ◌∙◌}
use Rattle.es_pattern.specs.declared.step.Direction.TheVariants.{Forward}
use Rattle.es_pattern.specs.Pieces.{tree_of}
use Rattle.es_pattern.specs.Begins.{may_begin}
use Rattle.es_pattern.proofs.Searching.{begun_by, unbegun_by}
use Rattle.es_pattern.proofs.search.Search.begin_at.Goals as goal

pub returns-in_ok-begin-clause-begun : goal.returns-in_ok-begin-clause-begun
returns-in_ok-begin-clause-begun c = begun_by Forward c.args.self.now.pieces.now c.args.self.now.text.now
    (may_begin (tree_of c.args.self.now.pieces.now) c.args.self.now.text.now) c.args.self.now.program.now.steps.items
    c.args.place c.args.alive.now c.begin.new.self
    c.in_ok-begin.ensures.waiting c.in_ok-begin.ensures.taken c.in_ok-begin.ensures.next
    (sym c.begins_at.ensures ∙ c.if-begins_at.true)

pub returns-else-begins_at-clause-begun : goal.returns-else-begins_at-clause-begun
returns-else-begins_at-clause-begun c = unbegun_by Forward c.args.self.now.pieces.now c.args.self.now.text.now
    (may_begin (tree_of c.args.self.now.pieces.now) c.args.self.now.text.now) c.args.self.now.program.now.steps.items
    c.args.place c.args.alive.now
    (sym c.begins_at.ensures ∙ c.if-begins_at.false)
