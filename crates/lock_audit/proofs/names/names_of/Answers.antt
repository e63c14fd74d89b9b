use Rattle.lock_audit.proofs.names.names_of.Goals as goal

pub returns : goal.returns
returns c = rw (← c.manifest.view_is) c.names_in.ensures
