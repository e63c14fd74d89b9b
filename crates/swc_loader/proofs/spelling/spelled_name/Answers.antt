use Rattle.std.proofs.Common.{ap, ◌∙◌, sym}
use Rattle.tree_core.proofs.Asking.{asks_done}
use Rattle.swc_loader.specs.declared.resolution.FileName.TheVariants.{Real}
use Rattle.swc_loader.specs.Spelling.{from_working_folder}
use Rattle.swc_loader.proofs.spelling.spelled_name.Goals as goal
use Rattle.swc_loader.proofs.spelling.spelled_name.Goals.{then-relative+in_ok-path, else-relative+in_ok-path-2}

pub returns : goal.returns
returns g c =
    let kept = sym c.preserves_symlinks.ensures ∙ c.if-not-preserves_symlinks.false in
    elim c.if-relative.branch [
      | then-relative+in_ok-path w ↦ rw (kept, w.if-relative.true)
          (asks_done (ap Real (w.path-is ∙ w.in_ok-path.ensures
          ∙ ap (λ cwd. from_working_folder cwd c.args.file.now) w.cwd.ensures)))
      | else-relative+in_ok-path-2 w ↦ rw (kept, w.if-relative.false)
          (asks_done (ap Real (w.path-is ∙ w.in_ok-path-2.ensures.text)))
    ]
