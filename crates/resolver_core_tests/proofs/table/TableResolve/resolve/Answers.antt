use Rattle.std.proofs.Common.{◌≡◌, Some, None, refl, rules}
use Rattle.std.specs.Prelude.{bytes_eq}
use Rattle.std.specs.Map.{lookup}
use Rattle.tree_core.specs.Resolving.{resolving}
use Rattle.tree_core.proofs.Asking.{asks_done, asks_starved_in}
use Rattle.resolver_core_tests.proofs.table.TableResolve.resolve.Goals as goal

pub returns-in_err-try_clone-in-Some-clause-resolves : goal.returns-in_err-try_clone-in-Some-clause-resolves
returns-in_err-try_clone-in-Some-clause-resolves g c =
    asks_starved_in resolving _ c.from_residual-in_err-try_clone-in-Some.ensures.1

pub returns-in-Some-clause-resolves : goal.returns-in-Some-clause-resolves
returns-in-Some-clause-resolves g c =
    let found : lookup (bytes_eq c.args.specifier.now) c.args.self.now.answers.entries ≡ Some
    c.in_ok-try_clone-in-Some.field-0 = search rules in
    rw found (asks_done refl)

pub returns-clause-resolves : goal.returns-clause-resolves
returns-clause-resolves g c =
    let none : lookup (bytes_eq c.args.specifier.now) c.args.self.now.answers.entries ≡ None = search rules in
    rw none (asks_done refl)
