use Rattle.std.proofs.Common.{lit<}
use Rattle.std.proofs.lemmas.Str.Pattern.{strip_prefix_char}
use Rattle.pnp_core.proofs.VirtualPaths.{behind_root-none}
use Rattle.pnp_core.proofs.virtual_path.behind_root.Goals as goal

pub returns-in-None : goal.returns-in-None
returns-in-None c =
    behind_root-none c.args.text.now (rw c.in-None.is at (strip_prefix_char 47 c.args.text.now c.strip_prefix.result
    c.strip_prefix.ensures.cases (lit< tt)))
