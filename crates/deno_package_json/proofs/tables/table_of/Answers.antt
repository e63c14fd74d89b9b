use Rattle.std.proofs.Common.{◌≡◌, arith, subst, sym}
use Rattle.std.proofs.lemmas.Grind.{common_steps}
use Rattle.serde_json.specs.View.{members_view}
use Rattle.deno_package_json.specs.Fields.{table_of}
use Rattle.deno_package_json.specs.LoadedAgain.{IsOrdered}
use Rattle.deno_package_json.specs.Package.{Table}
use Rattle.deno_package_json.proofs.LoadedAgain.{IsOrdered-rising}
use Rattle.deno_package_json.proofs.RisingNames.{IsRising-table_of, insert_all-table_of}
use Rattle.deno_package_json.proofs.tables.table_of.Goals as goal

pub returns-clause-table : goal.returns-clause-table
returns-clause-table c =
    let all = insert_all-table_of c.args.members.now.entries c.len.ensures.ordered in
    grind (arith, common_steps)

pub returns-clause-ordered : goal.returns-clause-ordered
returns-clause-ordered c =
    let InOrder : Table → Type 0 = IsOrdered in
    let rising = IsRising-table_of c.args.members.now.entries c.len.ensures.ordered in
    subst InOrder (sym (returns-clause-table c)) (IsOrdered-rising (table_of (members_view c.args.members.now.entries))
    rising)
