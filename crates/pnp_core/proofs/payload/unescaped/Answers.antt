use Rattle.std.proofs.Common.{
  ℕ,
  List,
  ◌∷◌,
  refl,
  ◌≡◌,
  ◌++◌,
  ◌+◌,
  [],
  drop,
  take,
  length,
  sym,
  ap,
  ◌∙◌,
  string_bytes,
  arith,
}
use Rattle.std.proofs.lemmas.Str.{IsCharBoundary-after_ascii}
use Rattle.pnp_core.specs.Payload.{quoted, kept}
use Rattle.pnp_core.proofs.Payloads.{
  from_start,
  quoted-cut,
  quoted-whole,
  quoted-end,
  quoted-kept,
  found-ascii,
  quoted-ends,
  quoted-goes_on,
}
use Rattle.pnp_core.proofs.payload.unescaped.Goals as goal

empty : (t : List ℕ) → length t ≡ 0 → t ≡ []
empty [] h = refl
empty (x ∷ t) h = absurd (omega arith)

pub range_from-requires : goal.range_from-requires
range_from-requires c =
    let first = rw c.as_bytes.ensures.value at c.in-Some.ensures in
    λ _. IsCharBoundary-after_ascii c.loop-at.rest.now c.in-Some.at
    (rw c.as_bytes.ensures.value at c.as_bytes.ensures.utf8) first.0.high
    (found-ascii c.loop-at.rest.now c.in-Some.at first)

pub returns-then-as_bytes-at-eq39 : goal.returns-then-as_bytes-at-eq39
returns-then-as_bytes-at-eq39 c =
    let first = rw c.as_bytes.ensures.value at c.in-Some.ensures in
    let cut = quoted-cut c.loop-at.rest.now c.in-Some.at first in
    let quote = rw c.as_bytes-in-Some.ensures.value at c.if-as_bytes-at-eq39.true in
    let none = quoted-end c.loop-at.rest.now c.in-Some.at first.0.high quote in
    let run : c.range.result.now ≡ take c.in-Some.at c.loop-at.rest.now =
    c.range.ensures.value ∙ ap (λ n. take n c.loop-at.rest.now) (from_start c.in-Some.at) in
    c.in_ok-push_str.ensures.bytes
    ∙ ap (λ s. string_bytes c.loop-at.made ++ s) run
    ∙ quoted-ends (string_bytes c.loop-at.made) c.loop-at.rest.now (quoted c.args.text.now) c.in-Some.at
    c.loop-at.invariant.1 cut none

pub returns-in-None : goal.returns-in-None
returns-in-None c =
    let first = rw c.as_bytes.ensures.value at c.in-Some.ensures in
    let cut = quoted-cut c.loop-at.rest.now c.in-Some.at first in
    let other = rw c.as_bytes-in-Some.ensures.value at c.if-as_bytes-at-eq39.false in
    let escape = quoted-kept c.loop-at.rest.now c.in-Some.at first other in
    let left : drop (c.in-Some.at + 1) c.loop-at.rest.now ≡ [] =
    empty (drop (c.in-Some.at + 1) c.loop-at.rest.now) (rw (c.chars-chars.ensures.rest, c.range_from.ensures.value)
    at c.in-None.ensures.steps.0.0) in
    let run : c.range.result.now ≡ take c.in-Some.at c.loop-at.rest.now =
    c.range.ensures.value ∙ ap (λ n. take n c.loop-at.rest.now) (from_start c.in-Some.at) in
    c.in_ok-push_str.ensures.bytes
    ∙ ap (λ s. string_bytes c.loop-at.made ++ s) run
    ∙ quoted-ends (string_bytes c.loop-at.made) c.loop-at.rest.now (quoted c.args.text.now) c.in-Some.at
    c.loop-at.invariant.1 cut (escape ∙ ap kept left)

pub loop-at-preserved : goal.loop-at-preserved
loop-at-preserved c =
    let first = rw c.as_bytes.ensures.value at c.in-Some.ensures in
    let cut = quoted-cut c.loop-at.rest.now c.in-Some.at first in
    let other = rw c.as_bytes-in-Some.ensures.value at c.if-as_bytes-at-eq39.false in
    let escape = quoted-kept c.loop-at.rest.now c.in-Some.at first other in
    let step = rw (c.chars-chars.ensures.rest, c.range_from.ensures.value) at c.in-Some-next.ensures.steps.0 in
    let run : c.range.result.now ≡ take c.in-Some.at c.loop-at.rest.now =
    c.range.ensures.value ∙ ap (λ n. take n c.loop-at.rest.now) (from_start c.in-Some.at) in (
      c.as_str-rest.utf8,
      rw (c.in_ok-push-in-Some-next.ensures.bytes, c.in_ok-push_str.ensures.bytes, run, c.as_str-rest.ensures)
          (quoted-goes_on (string_bytes c.loop-at.made) c.loop-at.rest.now (quoted c.args.text.now)
          c.next.new.self.rest.now c.in-Some.at c.in-Some-next.escaped c.loop-at.invariant.1 cut escape step),
    )

pub returns : goal.returns
returns c =
    let none = rw c.as_bytes.ensures.value at c.in_default.ensures in
    c.in_ok-push_str-2.ensures.bytes ∙ ap (λ s. string_bytes c.loop-at.made ++ s)
    (sym (quoted-whole c.loop-at.rest.now none)) ∙ c.loop-at.invariant.1
