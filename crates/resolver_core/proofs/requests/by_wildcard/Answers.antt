use Rattle.std.proofs.Common.{◌≡◌, [], length, arith}
use Rattle.std.proofs.lemmas.Grind.{common_steps}
use Rattle.resolver_core.specs.Pattern.{rest_of}
use Rattle.resolver_core.proofs.Wildcards.{by_targets-each}
use Rattle.resolver_core.proofs.requests.by_wildcard.Goals.{
  in_default-via-then-as_slice-lt1,
  in_default-via-in-len1+else-not-is_empty,
  in_default-via-else-as_slice-lt1+else-this-lt2,
}
use Rattle.resolver_core.proofs.requests.by_wildcard.Goals as goal

pub returns-in_default-clause-asks : goal.returns-in_default-clause-asks
returns-in_default-clause-asks g c =
    let targets = c.as_slice.ensures in
    let bare : length c.args.wildcard.now.targets ≡ 1 → c.args.wildcard.now.prefix ≡ [] = elim c.in_default.branch [
      | in_default-via-then-as_slice-lt1 w ↦ λ one. grind (arith, common_steps)
      | in_default-via-in-len1+else-not-is_empty w ↦ λ one. grind (arith, common_steps)
      | in_default-via-else-as_slice-lt1+else-this-lt2 w ↦ λ one. grind (arith, common_steps)
    ] in
    rw (by_targets-each c.args.request.now.folder.now c.args.request.now.base.now c.args.request.now.specifier.now
    c.args.wildcard.now.text c.args.wildcard.now.prefix (rest_of c.args.request.now.version
    c.args.request.now.specifier.now c.args.wildcard.now) c.args.wildcard.now.targets bare)
    (rw c.rest_of-rest.ensures at c.by_each_target.ensures.asks)
