use Rattle.std.proofs.Common.{Ok, sym, ap, ◌∙◌}
use Rattle.sugar_path.proofs.Parts.{path_in-text_of}
use Rattle.pnp_core.proofs.loading.initialized.Goals as goal

pub returns-clause-decided : goal.returns-clause-decided
returns-clause-decided c =
    let new_is = rw (c.as_str.ensures.text, path_in-text_of c.args.path.now c.as_str.ensures.names) at
    c.in_ok-init_pnp_manifest.ensures.ok in
    rw (sym (rw c.top_level.ensures at c.has_package.ensures) ∙ c.if-not-has_package.false) (ap Ok (sym new_is))
