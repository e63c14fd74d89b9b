use Rattle.std.proofs.Common.{sym, ◌∙◌}
use Rattle.std.specs.Str.{chars}
use Rattle.std.proofs.lemmas.Option.{same_Some}
use Rattle.std.proofs.lemmas.Result.{err_from_is_err_and}
use Rattle.es_pattern.specs.Pieces.{tree_of}
use Rattle.es_pattern.proofs.Sound.{accepted_is_pattern}
use Rattle.es_pattern.proofs.Beginnings.{pattern_accepted}
use Rattle.es_pattern.proofs.Accepting.{accepted_as, caused_none}
use Rattle.es_pattern.proofs.OneFault.{caused_as, caused_by_memory, no_fault}
use Rattle.es_pattern.proofs.pattern.Pattern.parse.Goals as goal

pub returns-in_err-pieces-clause-refused : goal.returns-in_err-pieces-clause-refused
returns-in_err-pieces-clause-refused c = λ e h.
    let p = err_from_is_err_and c.from_residual.result c.from_residual.ensures.1 in rw (p.1, p.2)
    (caused_as (chars c.args.text.now) e c.in_err-pieces.field-0.0 h c.in_err-pieces.ensures.fault)

pub returns-clause-ok : goal.returns-clause-ok
returns-clause-ok c =
    accepted_is_pattern (chars c.args.text.now) (tree_of c.in_ok-pieces.pieces.items) c.in_ok-pieces.ensures.ok

pub returns-clause-one_tree : goal.returns-clause-one_tree
returns-clause-one_tree c = λ tree h. same_Some (tree_of c.in_ok-pieces.pieces.items) tree
    (sym c.in_ok-pieces.ensures.ok ∙ pattern_accepted (chars c.args.text.now) tree h)

pub returns-clause-refused : goal.returns-clause-refused
returns-clause-refused c = λ e h. no_fault (chars c.args.text.now) e c.in_ok-pieces.ensures.clear h

pub returns-in_err-pieces-clause-accepts : goal.returns-in_err-pieces-clause-accepts
returns-in_err-pieces-clause-accepts c = λ tree h limits.
    let p = err_from_is_err_and c.from_residual.result c.from_residual.ensures.1 in rw (p.1, p.2)
    (caused_by_memory (chars c.args.text.now) tree c.in_err-pieces.field-0.0 h limits c.in_err-pieces.ensures.fault)

pub returns-clause-reads : goal.returns-clause-reads
returns-clause-reads c = accepted_as (chars c.args.text.now) (tree_of c.in_ok-pieces.pieces.items)
    c.in_ok-pieces.ensures.ok c.in_ok-pieces.ensures.clear

pub returns-in_err-pieces-clause-none : goal.returns-in_err-pieces-clause-none
returns-in_err-pieces-clause-none c =
    let p = err_from_is_err_and c.from_residual.result c.from_residual.ensures.1 in rw (p.1, p.2)
    (caused_none (chars c.args.text.now) c.in_err-pieces.field-0.0 c.in_err-pieces.ensures.fault)
