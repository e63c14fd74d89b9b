use Rattle.std.proofs.Common.{sym, ◌∙◌}
use Rattle.yarn_lock_parser.proofs.Cuts.{first_empty-rest, entry_text-whole}
use Rattle.yarn_lock_parser.proofs.cut.entry_text.Goals as goal

pub front-requires : goal.front-requires
front-requires c = (first_empty-rest _ _ (sym c.in-Some.ensures)).rest_is

pub returns-in-None : goal.returns-in-None
returns-in-None c =
    sym (entry_text-whole c.args.text.now (sym c.is_empty.ensures ∙ c.if-is_empty.false) (sym c.in-None.ensures))
