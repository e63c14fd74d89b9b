use Rattle.resolve_stack.specs.Settings.{mapping_of}
use Rattle.resolve_stack.proofs.Projects.{refused_by, mapping_unclean, mapping_unread, mapping_made}
use Rattle.resolve_stack.proofs.project.mapping_of.Goals as goal

pub returns-in_err-check_setting-clause-fault : goal.returns-in_err-check_setting-clause-fault
returns-in_err-check_setting-clause-fault c =
    refused_by (mapping_of c.args.ts) _ _ c.from_residual.ensures.1
    (mapping_unclean _ c.args.ts _ c.as_str.ensures c.in_err-check_setting.ensures.fault)

pub returns-in_err-new-clause-fault : goal.returns-in_err-new-clause-fault
returns-in_err-new-clause-fault c =
    refused_by (mapping_of c.args.ts) _ _ c.from_residual-in_err-new.ensures.1
    (mapping_unread _ c.args.ts _ _ c.as_str.ensures c.in_ok-check_setting.ensures.ok c.in_err-new.ensures.refused)

pub returns-clause-ok : goal.returns-clause-ok
returns-clause-ok c =
    mapping_made c.args.ts _ _ c.in_ok-new.field-0 c.as_str.ensures c.in_ok-check_setting.ensures.ok
    c.in_ok-new.ensures.patterns c.in_ok-new.ensures.base c.in_ok-new.ensures.version
