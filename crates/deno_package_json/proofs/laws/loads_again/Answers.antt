use Rattle.deno_package_json.proofs.LoadedAgain.{loads_again}
use Rattle.deno_package_json.proofs.laws.loads_again.Goals as goal

pub returns : goal.returns
returns c = loads_again
