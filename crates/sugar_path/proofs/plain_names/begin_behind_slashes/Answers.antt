use Rattle.std.proofs.lemmas.Bool.Decides.{Decides-eqb}
use Rattle.sugar_path.proofs.PlainNames.{block-starts}
use Rattle.sugar_path.proofs.plain_names.begin_behind_slashes.Goals as goal

pub returns : goal.returns
returns c = λ clear. block-starts c.args.path.now c.args.at c.requires ((Decides-eqb _ 0).0 clear)
