use Rattle.deno_package_json.proofs.package_json.PackageJson.load_from_path.Goals as goal

pub returns-in-Some-clause-keeps : goal.returns-in-Some-clause-keeps
returns-in-Some-clause-keeps g c = rw c.in-Some.is c.load_kept.ensures.keeps
