use Rattle.std.proofs.Common.{◌≡◌, true, ap, sym, ◌∙◌}
use Rattle.trail_bundle.specs.CountParts.{is_count}
use Rattle.trail_bundle.proofs.Counts.{count_text-is_count, parsed, unparsed}
use Rattle.trail_bundle.proofs.count.count_in.Goals as goal

pub returns-then-not-is_count-clause-none : goal.returns-then-not-is_count-clause-none
returns-then-not-is_count-clause-none c = λ m is.
    let tests = c.is_count.ensures ∙ ap is_count (c.as_bytes.ensures.value ∙ is) ∙ count_text-is_count m in
    let no = c.if-not-is_count.true in
    cc

pub returns-in-Ok-clause-some : goal.returns-in-Ok-clause-some
returns-in-Ok-clause-some c =
    let tests : is_count c.args.text.now ≡ true =
    ap is_count (sym c.as_bytes.ensures.value) ∙ sym c.is_count.ensures ∙ c.if-not-is_count.false in
    let told = rw c.in-Ok.is at c.parse.ensures.value.0 in
    parsed c.args.text.now c.in-Ok.count tests told.1 told.0.1

pub returns-in-Err-clause-some : goal.returns-in-Err-clause-some
returns-in-Err-clause-some c =
    let tests : is_count c.args.text.now ≡ true =
    ap is_count (sym c.as_bytes.ensures.value) ∙ sym c.is_count.ensures ∙ c.if-not-is_count.false in
    unparsed c.args.text.now tests (rw c.in-Err.is at c.parse.ensures.value.0)
