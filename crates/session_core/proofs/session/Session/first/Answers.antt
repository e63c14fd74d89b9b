use Rattle.session_core.proofs.Firsts.{some-first}
use Rattle.session_core.specs.Numbered.{kept_in}
use Rattle.session_core.proofs.session.Session.first.Goals as goal

pub unwrap-entry-requires : goal.unwrap-entry-requires
unwrap-entry-requires c = some-first (kept_in c.args.self.now.latest) c.get.result c.requires c.get.ensures
