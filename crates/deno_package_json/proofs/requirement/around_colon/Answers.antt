use Rattle.std.proofs.Common.{lit<}
use Rattle.deno_package_json.proofs.Colons.{around_colon-split}
use Rattle.deno_package_json.proofs.requirement.around_colon.Goals as goal

pub returns : goal.returns
returns c = around_colon-split c.args.text.now c.split_once.result (c.split_once.ensures.byte (lit< tt) (λ w o h. h))
