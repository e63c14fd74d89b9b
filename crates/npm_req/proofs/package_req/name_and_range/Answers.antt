use Rattle.std.proofs.Common.{◌≡◌, ◌==◌, true, false, length, ap, ◌∙◌, sym, lit<, eqb-true}
use Rattle.npm_req.proofs.Packages.{
  around_last-rsplit_once,
  name_and_range-empty,
  name_and_range-none,
  name_and_range-some,
}
use Rattle.npm_req.proofs.package_req.name_and_range.Goals as goal

pub returns-in_default : goal.returns-in_default
returns-in_default c =
    let parted = rw c.in_default.is at (around_last-rsplit_once 64 c.args.text.now c.rsplit_once.result (lit< tt)
    c.rsplit_once.ensures.cases) in
    name_and_range-none c.args.text.now parted

pub returns-then-is_empty : goal.returns-then-is_empty
returns-then-is_empty c =
    let parted = rw c.in-Some.is at (around_last-rsplit_once 64 c.args.text.now c.rsplit_once.result (lit< tt)
    c.rsplit_once.ensures.cases) in
    let empty : (length c.in-Some.name.now == 0) ≡ true = sym c.is_empty.ensures ∙ c.if-is_empty.true in
    name_and_range-empty c.args.text.now c.in-Some.name.now c.in-Some.range.now parted (eqb-true _ _ empty)

pub returns : goal.returns
returns c =
    let parted = rw c.in-Some.is at (around_last-rsplit_once 64 c.args.text.now c.rsplit_once.result (lit< tt)
    c.rsplit_once.ensures.cases) in
    let some : (length c.in-Some.name.now == 0) ≡ false = sym c.is_empty.ensures ∙ c.if-is_empty.false in
    name_and_range-some c.args.text.now c.in-Some.name.now c.in-Some.range.now parted
    (λ e. let yes = ap (λ n. n == 0) e in cc)
