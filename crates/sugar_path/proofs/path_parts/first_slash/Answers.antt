use Rattle.std.proofs.Common.{◌==◌, true, false, ◌≡◌, rules}
use Rattle.std.proofs.lemmas.Iterator.{YieldsList-from_slice, IsFirst-from_position}
use Rattle.sugar_path.proofs.FirstSlashes.{one-by-one, in-block, behind-block, nowhere}
use Rattle.sugar_path.proofs.path_parts.first_slash.Goals as goal

pub returns-then-path-lt-BLOCK : goal.returns-then-path-lt-BLOCK
returns-then-path-lt-BLOCK c =
    one-by-one c.args.path.now c.position.result
    (IsFirst-from_position _ _ c.position.result (λ y. true ≡ (y == 47)) (λ y. false ≡ (y == 47)) c.position.ensures.ran
    (YieldsList-from_slice _ c.iter.ensures.rest) (λ x q h. search rules) (λ x q h. search rules))

pub returns-then-slashes-ne0 : goal.returns-then-slashes-ne0
returns-then-slashes-ne0 c = in-block c.args.path.now c.slashes_in_block-slashes.result c.if-path-lt-BLOCK.false
    c.slashes_in_block-slashes.ensures c.if-slashes-ne0.true

pub returns : goal.returns
returns c = behind-block c.args.path.now c.slashes_in_block-slashes.result c.in_ok-memchr.field-0
    c.if-path-lt-BLOCK.false c.slashes_in_block-slashes.ensures c.if-slashes-ne0.false c.in_ok-memchr.ensures

pub returns-in_err-memchr : goal.returns-in_err-memchr
returns-in_err-memchr c =
    rw c.from_residual.ensures (nowhere c.args.path.now c.slashes_in_block-slashes.result c.if-path-lt-BLOCK.false
    c.slashes_in_block-slashes.ensures c.if-slashes-ne0.false (rw c.in_err-memchr.was at c.memchr.ensures))
