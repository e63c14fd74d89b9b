use Rattle.session_core.specs.Index.{path_hash}
use Rattle.session_core.proofs.index.path_hash.Goals as goal

pub returns : goal.returns
unfolding path_hash
returns c = cc (c.hash_one.ensures, c.new.ensures)
