use Rattle.package_readings.proofs.Paths.{taken_loaded, taken_refused}
use Rattle.package_readings.proofs.loaded.package_in.Goals as goal

pub returns-in_ok-with_requirements-in-Some : goal.returns-in_ok-with_requirements-in-Some
returns-in_ok-with_requirements-in-Some c =
    let taken = rw c.in-Some.is at c.in_ok-package_json.ensures in
    taken_loaded _ c.args.content.now c.loaded.result c.in-Some.package_json _ c.loaded.ensures taken
    c.in_ok-with_requirements-in-Some.ensures.same c.in_ok-with_requirements-in-Some.ensures.required

pub returns-in-None : goal.returns-in-None
returns-in-None c =
    let taken = rw c.in-None.is at c.in_ok-package_json.ensures in
    taken_refused _ c.args.content.now c.loaded.result c.loaded.ensures taken
