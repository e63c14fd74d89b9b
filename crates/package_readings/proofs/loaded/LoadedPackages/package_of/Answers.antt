use Rattle.package_readings.proofs.Paths.{read_there}
use Rattle.package_readings.proofs.loaded.LoadedPackages.package_of.Goals as goal

pub returns : goal.returns
returns c =
    let there = rw c.of.ensures at c.in_ok-place.ensures.place in
    read_there c.args.content _ c.in_ok-place.place there.0 _ there.1 there.2 c.package_at.ensures
