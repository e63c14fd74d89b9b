use Rattle.tree_core.specs.Places.{hash_of}
use Rattle.tree_core.proofs.QuestionKinds.{kind_of-on, path_asked-on}
use Rattle.tree_core.proofs.trail.hash_on.Goals as goal

pub returns : goal.returns
unfolding hash_of
returns c = rw (kind_of-on c.args.kind c.args.path.now, path_asked-on c.args.kind c.args.path.now)
    (cc (c.hash_one.ensures, c.new.ensures, c.number_of.ensures))
