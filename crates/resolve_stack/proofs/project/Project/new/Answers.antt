use Rattle.std.proofs.Common.{◌≡◌, Ok, refl, ◌∙◌}
use Rattle.sugar_path.specs.Path.{path_in}
use Rattle.swc_loader.specs.Settings.{settings_of}
use Rattle.resolve_stack.specs.Settings.{given, mapping_given, lock_given, project_of}
use Rattle.resolve_stack.proofs.Projects.{refused_by, some_mapping, some_lock, project_unclean, project_unmapped}
use Rattle.resolve_stack.proofs.Projects.{project_unlocked, project_made}
use Rattle.resolve_stack.proofs.project.Project.new.Goals as goal
use Rattle.resolve_stack.proofs.project.Project.new.Goals.{in-Some+in_ok-mapping_of-in-Some, in-None}
use Rattle.resolve_stack.proofs.project.Project.new.Goals.{in-Some-lock+in_ok-lock_of-in-Some-lock, in-None-lock}
use Rattle.resolve_stack.proofs.project.Project.new.Goals.{then-node_modules, else-node_modules}

pub returns-in_err-check_setting-clause-fault : goal.returns-in_err-check_setting-clause-fault
returns-in_err-check_setting-clause-fault c =
    refused_by (project_of (given c.args.settings)) _ _ c.from_residual.ensures.1
    (project_unclean _ (given c.args.settings) _ c.as_str.ensures c.in_err-check_setting.ensures.fault)

pub returns-in_err-mapping_of-in-Some-clause-fault : goal.returns-in_err-mapping_of-in-Some-clause-fault
returns-in_err-mapping_of-in-Some-clause-fault c =
    refused_by (project_of (given c.args.settings)) _ _ c.from_residual-in_err-mapping_of-in-Some.ensures.1
    (project_unmapped _ (given c.args.settings) _ _ c.in-Some.ts c.as_str.ensures c.in_ok-check_setting.ensures.ok
    c.in-Some.is c.in_err-mapping_of-in-Some.ensures.fault)

pub returns-in_err-lock_of-in-Some-lock-clause-fault : goal.returns-in_err-lock_of-in-Some-lock-clause-fault
returns-in_err-lock_of-in-Some-lock-clause-fault c =
    let mapped = elim c.match-ts-2.branch as (λ _. mapping_given c.args.settings.ts ≡ Ok c.match-ts-2.mapping) [
      | in-Some+in_ok-mapping_of-in-Some w ↦
          rw (w.in-Some.is, w.mapping-is) (some_mapping w.in-Some.ts _ w.in_ok-mapping_of-in-Some.ensures.ok)
      | in-None w ↦ rw (w.in-None.is, w.mapping-is) refl
    ] in
    refused_by (project_of (given c.args.settings)) _ _ c.from_residual-in_err-lock_of-in-Some-lock.ensures.1
    (project_unlocked _ (given c.args.settings) _ _ c.match-ts-2.mapping _ c.as_str.ensures
    c.in_ok-check_setting.ensures.ok mapped (rw c.in-Some-lock.is refl) c.in_err-lock_of-in-Some-lock.ensures.fault)

pub returns-clause-ok : goal.returns-clause-ok
returns-clause-ok c =
    let mapped = elim c.match-ts-2.branch as (λ _. mapping_given c.args.settings.ts ≡ Ok c.match-ts-2.mapping) [
      | in-Some+in_ok-mapping_of-in-Some w ↦
          rw (w.in-Some.is, w.mapping-is) (some_mapping w.in-Some.ts _ w.in_ok-mapping_of-in-Some.ensures.ok)
      | in-None w ↦ rw (w.in-None.is, w.mapping-is) refl
    ] in
    let locked = elim c.match-lock.branch as (λ _. lock_given (given c.args.settings).lock ≡ Ok c.match-lock.lock) [
      | in-Some-lock+in_ok-lock_of-in-Some-lock w ↦
          rw (w.in-Some-lock.is, w.lock-is) (some_lock _ _ w.in_ok-lock_of-in-Some-lock.ensures.ok)
      | in-None-lock w ↦ rw (w.in-None-lock.is, w.lock-is) refl
    ] in
    let noded = elim c.if-node_modules.branch as (λ _. c.if-node_modules.node
    ≡ settings_of (path_in c.args.settings.cwd) c.args.settings.target c.args.settings.alias.entries
    c.args.settings.preserve_symlinks c.args.settings.node_modules) [
      | then-node_modules w ↦ rw w.if-node_modules.true (w.node-is ∙ w.new-node.ensures)
      | else-node_modules w ↦ rw w.if-node_modules.false (w.node-is ∙ w.without_node_modules-node.ensures)
    ] in
    project_made (given c.args.settings) _ _ c.match-ts-2.mapping _ c.if-node_modules.node c.as_str.ensures
    c.in_ok-check_setting.ensures.ok mapped locked (rw c.as_str.ensures noded)
