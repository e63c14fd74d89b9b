use Rattle.std.proofs.Common.{append_assoc}
use Rattle.pnp_core.specs.Wording.{missing_peer_message}
use Rattle.pnp_core.proofs.missing_peer.missing_peer_message.Goals as goal

pub returns-then-is_root : goal.returns-then-is_root
unfolding missing_peer_message
returns-then-is_root c =
    rw c.if-is_root.true (simp append_assoc (rw c.in_ok-required.ensures at c.in_ok-text.ensures.ok))

pub returns : goal.returns
unfolding missing_peer_message
returns c = rw c.if-is_root.false (simp append_assoc (rw (
  c.in_ok-required.ensures,
  c.as_str-issuer.ensures,
  c.as_str-reference.ensures,
) at c.in_ok-text-2.ensures.ok))
