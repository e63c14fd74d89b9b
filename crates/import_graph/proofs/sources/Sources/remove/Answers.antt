use Rattle.std.proofs.Common.{None, sym, ap, subst}
use Rattle.std.specs.HashMap.{get_by_text}
use Rattle.std.proofs.lemmas.Map.Text.{hash_map_updates_text}
use Rattle.tree_core.specs.Tree.{Files}
use Rattle.session_core.specs.Session.{Session}
use Rattle.session_core.specs.SessionView.{state_of}
use Rattle.session_core.proofs.Replies.{SameBut, same_but-remove}
use Rattle.import_graph.proofs.Scans.{scans-edited}
use Rattle.import_graph.proofs.sources.Sources.remove.Goals as goal

pub invariant_of-self-2 : goal.invariant_of-self-2
invariant_of-self-2 g c =
    let t = (state_of c.self.inside.session).tree.files in
    let same : SameBut t (state_of c.remove.new.self).tree.files c.args.path.now =
    subst (λ (f : Files). SameBut t f c.args.path.now) (sym
    (ap (λ (u : Session). u.tree.files) c.in_ok-dropped.ensures.gone)) (same_but-remove t c.args.path.now) in
    scans-edited g.S.Scan.imports t (state_of c.remove.new.self).tree.files (get_by_text c.self.inside.scans)
    (get_by_text c.remove-2.new.self) c.args.path.now same
    (hash_map_updates_text c.args.path.now c.self.inside.scans c.remove-2.new.self None c.remove-2.ensures.updates)
    c.self.invariant
