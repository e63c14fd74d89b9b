use Rattle.session_core.specs.Numbered.{kept_in}
use Rattle.session_core.proofs.Replies.{SameBut, same_but-put}
use Rattle.session_core.proofs.Sessions.{right-left}
use Rattle.session_core.proofs.session.Session.put.Goals as goal

pub invariant_of-self-2 : goal.invariant_of-self-2
invariant_of-self-2 c =
    let t = c.args.self.now.tree.files in
    let same : SameBut t c.put.new.self.files c.args.path.now =
    rw c.in_ok-put.ensures.ok (same_but-put t c.args.path.now
    (record { content = c.args.bytes.now; canonical = c.args.canonical.now })) in
    record {
      right = right-left t c.put.new.self.files c.args.self.now.project c.args.path.now
          (kept_in c.args.self.now.latest) (kept_in c.drop_touched.new.self) same c.drop_touched.ensures.left
          c.args.self.now.right;
    }
