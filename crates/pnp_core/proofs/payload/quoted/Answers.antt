use Rattle.std.proofs.Common.{◌≡◌, ◌++◌, take, sym, ap, ◌∙◌}
use Rattle.std.proofs.lemmas.List.{append-nil}
use Rattle.pnp_core.proofs.Payloads.{from_start, quoted-cut, quoted-whole, quoted-end}
use Rattle.pnp_core.proofs.payload.quoted.Goals as goal

pub returns-in-None : goal.returns-in-None
returns-in-None c = sym (quoted-whole c.args.text.now (rw c.as_bytes-bytes.ensures.value at c.in-None.ensures))

pub returns-in-Some : goal.returns-in-Some
returns-in-Some c =
    let first = rw c.as_bytes-bytes.ensures.value at c.in-Some.ensures in
    let cut = quoted-cut c.args.text.now c.in-Some.end first in
    let quote = rw c.as_bytes-bytes.ensures.value at c.if-bytes-end-eq39.true in
    let none = quoted-end c.args.text.now c.in-Some.end first.0.high quote in
    let run : c.range.result.now ≡ take c.in-Some.end c.args.text.now =
    c.range.ensures.value ∙ ap (λ n. take n c.args.text.now) (from_start c.in-Some.end) in
    run ∙ sym (cut ∙ ap (λ s. take c.in-Some.end c.args.text.now ++ s) none
    ∙ append-nil (take c.in-Some.end c.args.text.now))
