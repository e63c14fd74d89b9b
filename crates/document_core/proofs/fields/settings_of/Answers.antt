use Rattle.std.proofs.Common.{refl}
use Rattle.document_core.specs.Fields.{settings_of}
use Rattle.document_core.proofs.Causes.{meets_raised, meets_stops, meets_then, ok_then}
use Rattle.document_core.proofs.fields.settings_of.Goals as goal

pub returns-in_err-cwd : goal.returns-in_err-cwd
unfolding settings_of
returns-in_err-cwd g c =
    meets_raised _ _ _ c.from_residual.ensures.1 (meets_stops _ _ _ c.in_err-cwd.ensures)

pub returns-in_err-target : goal.returns-in_err-target
unfolding settings_of
returns-in_err-target g c =
    meets_then _ _ _ _ c.in_ok-cwd.ensures
    (meets_raised _ _ _ c.from_residual-in_err-target.ensures.1 (meets_stops _ _ _ c.in_err-target.ensures))

pub returns-in_err-preserve_symlinks : goal.returns-in_err-preserve_symlinks
unfolding settings_of
returns-in_err-preserve_symlinks g c =
    meets_then _ _ _ _ c.in_ok-cwd.ensures
    (meets_then _ _ _ _ c.in_ok-target.ensures
    (meets_raised _ _ _ c.from_residual-in_err-preserve_symlinks.ensures.1
    (meets_stops _ _ _ c.in_err-preserve_symlinks.ensures)))

pub returns-in_err-node_modules : goal.returns-in_err-node_modules
unfolding settings_of
returns-in_err-node_modules g c =
    meets_then _ _ _ _ c.in_ok-cwd.ensures
    (meets_then _ _ _ _ c.in_ok-target.ensures
    (meets_then _ _ _ _ c.in_ok-preserve_symlinks.ensures
    (meets_raised _ _ _ c.from_residual-in_err-node_modules.ensures.1
    (meets_stops _ _ _ c.in_err-node_modules.ensures))))

pub returns-in_err-alias : goal.returns-in_err-alias
unfolding settings_of
returns-in_err-alias g c =
    let alias = rw c.new.ensures at c.in_err-alias.ensures in
    meets_then _ _ _ _ c.in_ok-cwd.ensures
    (meets_then _ _ _ _ c.in_ok-target.ensures
    (meets_then _ _ _ _ c.in_ok-preserve_symlinks.ensures
    (meets_then _ _ _ _ c.in_ok-node_modules.ensures
    (meets_raised _ _ _ c.from_residual-in_err-alias.ensures.1 (meets_stops _ _ _ alias)))))

pub returns-in_err-ts : goal.returns-in_err-ts
unfolding settings_of
returns-in_err-ts g c =
    let alias = rw c.new.ensures at c.in_ok-alias.ensures in
    meets_then _ _ _ _ c.in_ok-cwd.ensures
    (meets_then _ _ _ _ c.in_ok-target.ensures
    (meets_then _ _ _ _ c.in_ok-preserve_symlinks.ensures
    (meets_then _ _ _ _ c.in_ok-node_modules.ensures
    (meets_then _ _ _ _ alias
    (meets_raised _ _ _ c.from_residual-in_err-ts.ensures.1 (meets_stops _ _ _ c.in_err-ts.ensures))))))

pub returns-in_err-lock : goal.returns-in_err-lock
unfolding settings_of
returns-in_err-lock g c =
    let alias = rw c.new.ensures at c.in_ok-alias.ensures in
    meets_then _ _ _ _ c.in_ok-cwd.ensures
    (meets_then _ _ _ _ c.in_ok-target.ensures
    (meets_then _ _ _ _ c.in_ok-preserve_symlinks.ensures
    (meets_then _ _ _ _ c.in_ok-node_modules.ensures
    (meets_then _ _ _ _ alias
    (meets_then _ _ _ _ c.in_ok-ts.ensures
    (meets_raised _ _ _ c.from_residual-in_err-lock.ensures.1 (meets_stops _ _ _ c.in_err-lock.ensures)))))))

pub returns-in_err-conditions : goal.returns-in_err-conditions
unfolding settings_of
returns-in_err-conditions g c =
    let alias = rw c.new.ensures at c.in_ok-alias.ensures in
    meets_then _ _ _ _ c.in_ok-cwd.ensures
    (meets_then _ _ _ _ c.in_ok-target.ensures
    (meets_then _ _ _ _ c.in_ok-preserve_symlinks.ensures
    (meets_then _ _ _ _ c.in_ok-node_modules.ensures
    (meets_then _ _ _ _ alias
    (meets_then _ _ _ _ c.in_ok-ts.ensures
    (meets_then _ _ _ _ c.in_ok-lock.ensures
    (meets_raised _ _ _ c.from_residual-in_err-conditions.ensures.1
    (meets_stops _ _ _ c.in_err-conditions.ensures))))))))

pub returns : goal.returns
unfolding settings_of
returns g c =
    let alias = rw c.new.ensures at c.in_ok-alias.ensures in
    ok_then _ _ c.in_ok-cwd.ensures
    (ok_then _ _ c.in_ok-target.ensures
    (ok_then _ _ c.in_ok-preserve_symlinks.ensures
    (ok_then _ _ c.in_ok-node_modules.ensures
    (ok_then _ _ alias
    (ok_then _ _ c.in_ok-ts.ensures
    (ok_then _ _ c.in_ok-lock.ensures
    (ok_then _ _ c.in_ok-conditions.ensures
    refl)))))))
