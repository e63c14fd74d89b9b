use Rattle.std.proofs.Common.{sym}
use Rattle.cli_core.proofs.Sizes.{begins_so, no_size, size_parsed, size_too_large, size_unparsed}
use Rattle.cli_core.proofs.command.size_in.Goals as goal

pub returns-then-not-begins_above_zero : goal.returns-then-not-begins_above_zero
returns-then-not-begins_above_zero c =
    sym (no_size _ (begins_so c.as_bytes.ensures.value c.begins_above_zero.ensures c.if-not-begins_above_zero.true))

pub returns-in_default : goal.returns-in_default
returns-in_default c =
    sym (size_unparsed c.args.word.now c.in_default.field-0 c.parse.result c.in_default.is
    (begins_so c.as_bytes.ensures.value c.begins_above_zero.ensures c.if-not-begins_above_zero.false)
    c.parse.ensures.value.0)

pub returns-then-size-le-LARGEST : goal.returns-then-size-le-LARGEST
returns-then-size-le-LARGEST c =
    sym (size_parsed c.args.word.now c.in-Ok.size c.parse.result c.in-Ok.is
    (begins_so c.as_bytes.ensures.value c.begins_above_zero.ensures c.if-not-begins_above_zero.false)
    c.if-size-le-LARGEST.true c.parse.ensures.value.0)

pub returns-else-size-le-LARGEST : goal.returns-else-size-le-LARGEST
returns-else-size-le-LARGEST c =
    sym (size_too_large c.args.word.now c.in-Ok.size c.parse.result c.in-Ok.is
    (begins_so c.as_bytes.ensures.value c.begins_above_zero.ensures c.if-not-begins_above_zero.false)
    c.if-size-le-LARGEST.false c.parse.ensures.value.0)
