use Rattle.std.proofs.Common.{◌≡◌, sym, ap, ◌∙◌}
use Rattle.tree_core.specs.Memory.{Memory}
use Rattle.tree_core.specs.Tree.{Files}
use Rattle.session_core.specs.Numbered.{kept_in}
use Rattle.session_core.proofs.Replies.{SameBut, same_but-remove, remove-absent}
use Rattle.session_core.proofs.Sessions.{right-left, right-same}
use Rattle.session_core.proofs.session.Session.remove.Goals as goal

pub invariant_of-self : goal.invariant_of-self
invariant_of-self c =
    let t = c.args.self.now.tree.files in
    let same : c.remove.new.self.files ≡ t =
    ap (λ (m : Memory). m.files) c.remove.ensures.gone
    ∙ remove-absent t c.args.path.now (sym c.remove.ensures.was ∙ c.if-not-remove.true) in
    record {
      right = right-same t c.remove.new.self.files c.args.self.now.project (kept_in c.args.self.now.latest) same
          c.args.self.now.right;
    }

pub returns-then-not-remove-clause-absent : goal.returns-then-not-remove-clause-absent
returns-then-not-remove-clause-absent c =
    let s = c.args.self.now in
    let same : c.remove.new.self ≡ s.tree =
    c.remove.ensures.gone ∙ ap (λ (f : Files). record s.tree { files = f })
    (remove-absent s.tree.files c.args.path.now (sym c.remove.ensures.was ∙ c.if-not-remove.true)) in
    ap (λ (m : Memory). record {
      project = s.project;
      tree = m;
      capacity = s.latest.capacity;
      kept =
          kept_in s.latest;
    }) same

pub invariant_of-self-2 : goal.invariant_of-self-2
invariant_of-self-2 c =
    let t = c.args.self.now.tree.files in
    let same : SameBut t c.remove.new.self.files c.args.path.now =
    rw c.remove.ensures.gone (same_but-remove t c.args.path.now) in
    record {
      right = right-left t c.remove.new.self.files c.args.self.now.project c.args.path.now
          (kept_in c.args.self.now.latest) (kept_in c.drop_touched.new.self) same c.drop_touched.ensures.left
          c.args.self.now.right;
    }
