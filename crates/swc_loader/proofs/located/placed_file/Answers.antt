use Rattle.std.proofs.Common.{refl, ap, inl, inr}
use Rattle.std.specs.Prelude.{Err}
use Rattle.tree_core.specs.Resolving.{resolving}
use Rattle.tree_core.specs.Rows.{never_refuses}
use Rattle.tree_core.proofs.Asking.{asks_then, asks_done, asks_fails_in}
use Rattle.swc_loader.specs.declared.refusal.NodeRefusal.TheVariants.{NotFound, MalformedPackage}
use Rattle.swc_loader.proofs.located.placed_file.Goals as goal

pub returns-in_err-ruled_file-in-File : goal.returns-in_err-ruled_file-in-File
unfolding never_refuses
returns-in_err-ruled_file-in-File g c =
    rw c.in-File.is (asks_fails_in resolving _ _ c.from_residual.ensures.1 c.in_err-ruled_file-in-File.ensures)

pub returns-in_ok-ruled_file-in-File : goal.returns-in_ok-ruled_file-in-File
unfolding never_refuses
returns-in_ok-ruled_file-in-File g c = rw c.in-File.is (asks_then _ c.in_ok-ruled_file-in-File.ensures (asks_done refl))

pub returns-in_ok-text-in-Nothing : goal.returns-in_ok-text-in-Nothing
returns-in_ok-text-in-Nothing g c =
    elim c.in-Nothing.is [
      | inl is ↦ rw is (asks_done (ap (λ text. Err (NotFound text)) c.in_ok-text-in-Nothing.ensures))
      | inr is ↦ rw is (asks_done (ap (λ text. Err (NotFound text)) c.in_ok-text-in-Nothing.ensures))
    ]

pub returns-in_ok-path-in-Malformed : goal.returns-in_ok-path-in-Malformed
returns-in_ok-path-in-Malformed g c =
    rw c.in-Malformed.is (asks_done (ap (λ path. Err (MalformedPackage path)) c.in_ok-path-in-Malformed.ensures.text))
