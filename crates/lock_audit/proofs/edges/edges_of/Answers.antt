use Rattle.lock_audit.proofs.edges.edges_of.Goals as goal

pub returns : goal.returns
returns c = rw (← c.manifest.view_is) c.edges_in.ensures
