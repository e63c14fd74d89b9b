use Rattle.std.proofs.Common.{ap}
use Rattle.sugar_path.specs.Path.{text_of}
use Rattle.package_readings.specs.Readings.{IsRefused}
use Rattle.lock_checks.specs.Range.{range_or_malformed}
use Rattle.lock_checks.proofs.range.range_in_content.Goals as goal

pub returns-in_ok-to_text-in-None-clause-decided : goal.returns-in_ok-to_text-in-None-clause-decided
returns-in_ok-to_text-in-None-clause-decided c =
    let refused : IsRefused c.in-Some.bytes = rw c.in-None.is at c.in_ok-read.ensures in
    rw (c.in-Some.is, c.in_ok-to_text-in-None.ensures.text) (ap (range_or_malformed c.args.file.now c.args.name.now)
    (refused (text_of c.args.file.now)).1)
