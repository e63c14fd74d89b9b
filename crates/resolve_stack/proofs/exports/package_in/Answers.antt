use Rattle.package_readings.specs.Readings.{IsRefused}
use Rattle.resolve_stack.proofs.ExportedFiles.{malformed}
use Rattle.resolve_stack.proofs.exports.package_in.Goals as goal

pub returns-in_ok-into_text-in-None : goal.returns-in_ok-into_text-in-None
returns-in_ok-into_text-in-None c =
    let refused : IsRefused c.args.content = rw c.in-None.is at c.in_ok-read.ensures in
    rw c.in_ok-into_text-in-None.ensures.text (malformed c.args.file c.args.content refused)
