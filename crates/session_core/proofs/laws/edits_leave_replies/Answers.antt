use Rattle.session_core.proofs.Replies.{reply-same, same_but-put, same_but-remove}
use Rattle.std.specs.FinMap as finite
use Rattle.tree_core.specs.Memory.{with_file}
use Rattle.session_core.proofs.laws.edits_leave_replies.Goals as goal

pub returns : goal.returns
returns c = record {
  put = λ t path file q h. reply-same t (with_file t path file) path q (same_but-put t path file) h;
  remove = λ t path q h. reply-same t (finite.remove t path) path q (same_but-remove t path) h;
}
