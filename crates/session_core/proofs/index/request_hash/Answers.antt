use Rattle.session_core.specs.Index.{request_hash}
use Rattle.session_core.proofs.index.request_hash.Goals as goal

pub returns : goal.returns
unfolding request_hash
returns c = cc (c.hash_one.ensures, c.new.ensures, c.name_number.ensures, c.name_text.ensures)
