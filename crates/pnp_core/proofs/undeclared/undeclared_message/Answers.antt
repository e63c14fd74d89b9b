use Rattle.std.proofs.Common.{append_assoc}
use Rattle.pnp_core.specs.Wording.{undeclared_message}
use Rattle.pnp_core.proofs.undeclared.undeclared_message.Goals as goal

pub returns-then-is_root : goal.returns-then-is_root
unfolding undeclared_message
returns-then-is_root c = rw (c.if-is_builtin.true, c.if-is_root.true)
    (simp append_assoc (rw (c.in_ok-reason.ensures, c.in_ok-required.ensures) at c.in_ok-text.ensures.ok))

pub returns-then-is_builtin : goal.returns-then-is_builtin
unfolding undeclared_message
returns-then-is_builtin c = rw (c.if-is_builtin.true, c.if-is_root.false)
    (simp append_assoc (rw (c.in_ok-reason-2.ensures, c.in_ok-required.ensures, c.as_str-issuer.ensures) at
    c.in_ok-text-2.ensures.ok))

pub returns-then-is_root-2 : goal.returns-then-is_root-2
unfolding undeclared_message
returns-then-is_root-2 c = rw (c.if-is_builtin.false, c.if-is_root-2.true)
    (simp append_assoc (rw (c.in_ok-reason-3.ensures, c.in_ok-required.ensures) at c.in_ok-text-3.ensures.ok))

pub returns : goal.returns
unfolding undeclared_message
returns c = rw (c.if-is_builtin.false, c.if-is_root-2.false)
    (simp append_assoc (rw (
      c.in_ok-reason-4.ensures,
      c.in_ok-required.ensures,
      c.as_str-issuer.ensures,
      c.as_str-reference.ensures,
    ) at c.in_ok-text-4.ensures.ok))
