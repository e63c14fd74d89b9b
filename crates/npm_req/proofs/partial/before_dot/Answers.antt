use Rattle.std.proofs.Common.{◌==◌, lit<}
use Rattle.std.proofs.lemmas.List.Splits.{slice_split_first}
use Rattle.std.proofs.lemmas.Str.Pattern.{split_once_first}
use Rattle.npm_req.proofs.Components.{one_part}
use Rattle.npm_req.proofs.partial.before_dot.Goals as goal

pub returns-in-Some : goal.returns-in-Some
returns-in-Some c =
    let split = rw c.in-Some.is at (split_once_first 46 c.args.text.now c.split_once.result c.split_once.ensures.cases
    (lit< tt)) in
    rw (split.1, split.2) (slice_split_first (λ b. b == 46) c.args.text.now 0 split.0)

pub returns-in-None : goal.returns-in-None
returns-in-None c =
    let whole = rw c.in-None.is at (split_once_first 46 c.args.text.now c.split_once.result c.split_once.ensures.cases
    (lit< tt)) in
    one_part (λ b. b == 46) c.args.text.now whole
