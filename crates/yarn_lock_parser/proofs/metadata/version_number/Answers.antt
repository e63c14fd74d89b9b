use Rattle.std.proofs.Common.{◌∙◌}
use Rattle.yarn_lock_parser.proofs.Versions.{version_number-parsed}
use Rattle.yarn_lock_parser.proofs.metadata.version_number.Goals as goal

pub returns : goal.returns
returns c = c.ok.ensures.value ∙ version_number-parsed c.args.digits.now c.parse.result c.parse.ensures.value.0
    c.requires.all c.requires.some
