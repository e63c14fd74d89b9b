use Rattle.std.proofs.Common.{◌≡◌, false, subst, sym, ◌∙◌}
use Rattle.serde_json.specs.View.{view}
use Rattle.serde_json.specs.Written.{has_float}
use Rattle.deno_package_json.specs.LoadedAgain.{HasOrderedTables, IsAsLoaded}
use Rattle.deno_package_json.specs.Package.{Package}
use Rattle.deno_package_json.proofs.LoadedAgain.{as_loaded}
use Rattle.deno_package_json.proofs.package_json.PackageJson.load_from_value.Goals as goal

pub returns-clause-as_loaded : goal.returns-clause-as_loaded
returns-clause-as_loaded c =
    let Ordered : Package → Type 0 = HasOrderedTables in
    let AsLoaded : Package → Type 0 = IsAsLoaded in
    let whole : has_float (view c.args.value.now) ≡ false = sym c.holds_float.ensures ∙ c.if-holds_float.false in
    let fields = c.in_ok-package_in.ensures.fields in
    subst AsLoaded (sym fields) (as_loaded c.args.path (view c.args.value.now) whole
    (subst Ordered fields c.in_ok-package_in.ensures.tables))
