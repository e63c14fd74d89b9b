use Rattle.deno_package_json.proofs.LoadedAgain.{text_loads_again}
use Rattle.deno_package_json.proofs.laws.text_loads_again.Goals as goal

pub returns : goal.returns
returns c = text_loads_again
