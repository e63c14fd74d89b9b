use Rattle.std.proofs.Common.{◌≡◌, sym, ap, ◌∙◌}
use Rattle.tree_core.specs.Tree.{Files, reply}
use Rattle.tree_core.specs.QuestionKind.{question_on}
use Rattle.tree_core.proofs.Replies.{pushed}
use Rattle.tree_core.proofs.recorder.Recorder.reply.Goals as goal

pub invariant_of-self-2 : goal.invariant_of-self-2
invariant_of-self-2 g c = record {
  agrees = λ t stands.
      let same : (g.T.Tree.state c.ask.new.tree).stands_for t ≡ (g.T.Tree.state c.args.self.now.tree.now).stands_for t =
      ap (λ (f : Files → _). f t) c.ask.ensures.put.stands in
      let before = sym same ∙ stands in
      let question = c.on-question.ensures ∙ ap (λ p. question_on c.args.kind p) c.in_ok-shared.ensures in
      let value = c.in_ok-copy.ensures ∙ sym (c.in_ok-reply.ensures.put.replied t before)
      ∙ ap (λ q. reply t q) (sym question) in
      pushed c.note.result t c.args.self.now.trail c.note.new.trail c.on-question.result c.in_ok-copy.copy
      c.note.ensures.ok c.note.ensures.refused (c.args.self.now.agrees t before) value;
}

pub invariant_of-self-in-Break-branch-4 : goal.invariant_of-self-in-Break-branch-4
invariant_of-self-in-Break-branch-4 g c = record {
  agrees = λ t stands.
      let same : (g.T.Tree.state c.ask.new.tree).stands_for t ≡ (g.T.Tree.state c.args.self.now.tree.now).stands_for t =
      ap (λ (f : Files → _). f t) c.ask.ensures.put.stands in
      c.args.self.now.agrees t (sym same ∙ stands);
}
