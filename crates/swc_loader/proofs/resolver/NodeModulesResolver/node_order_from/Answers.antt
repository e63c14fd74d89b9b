use Rattle.std.proofs.Common.{◌≡◌, refl, lit<}
use Rattle.sugar_path.specs.Path.{is_absolute}
use Rattle.tree_core.specs.Resolving.{resolving}
use Rattle.tree_core.specs.Rows.{never_refuses}
use Rattle.tree_core.proofs.Asking.{asks_then, asks_as, asks_done, asks_fails_in}
use Rattle.swc_loader.specs.declared.resolution.FileName.TheVariants.{Real}
use Rattle.swc_loader.proofs.NodeOrders.{by_target, asks_node}
use Rattle.swc_loader.proofs.resolver.NodeModulesResolver.node_order_from.Goals as goal

pub returns-in_err-file : goal.returns-in_err-file
returns-in_err-file g c = asks_node c.args.self.now (Real c.args.importer.now.text.now) c.args.specifier.now
    (asks_fails_in resolving _ _ c.from_residual.ensures.1 c.in_err-file.ensures)

pub returns-in_err-answer : goal.returns-in_err-answer
unfolding never_refuses
returns-in_err-answer g c =
    let absolute : c.starts_with-relative.result ≡ is_absolute c.args.specifier.now =
    c.starts_with-relative.ensures.byte (lit< tt) (lit< tt) (λ w o h. h) in
    asks_node c.args.self.now (Real c.args.importer.now.text.now) c.args.specifier.now
    (asks_as _ c.in_ok-file.ensures c.in-Some.is (asks_fails_in resolving _ _
    c.from_residual-in_err-answer.ensures.1 (rw absolute at c.in_err-answer.ensures)))

pub returns-in-Some : goal.returns-in-Some
unfolding never_refuses
returns-in-Some g c =
    let absolute : c.starts_with-relative.result ≡ is_absolute c.args.specifier.now =
    c.starts_with-relative.ensures.byte (lit< tt) (lit< tt) (λ w o h. h) in
    asks_node c.args.self.now (Real c.args.importer.now.text.now) c.args.specifier.now
    (asks_as _ c.in_ok-file.ensures c.in-Some.is (asks_then _ (rw absolute at c.in_ok-answer.ensures)
    (asks_done refl)))

pub returns-in_err-resolution : goal.returns-in_err-resolution
returns-in_err-resolution g c =
    asks_node c.args.self.now (Real c.args.importer.now.text.now) c.args.specifier.now
    (asks_as _ c.in_ok-file.ensures c.in_default.is
    (asks_fails_in resolving (by_target c.args.self.now c.args.importer.now.text.now) _
    c.from_residual-in_err-resolution.ensures.1 (rw c.requires at c.in_err-resolution.ensures)))

pub returns-in-Decided : goal.returns-in-Decided
returns-in-Decided g c =
    asks_node c.args.self.now (Real c.args.importer.now.text.now) c.args.specifier.now
    (asks_as _ c.in_ok-file.ensures c.in_default.is
    (asks_as (by_target c.args.self.now c.args.importer.now.text.now) (rw c.requires at c.in_ok-resolution.ensures)
    c.in-Decided.is (asks_done refl)))

pub returns-in-Target : goal.returns-in-Target
returns-in-Target g c =
    asks_node c.args.self.now (Real c.args.importer.now.text.now) c.args.specifier.now
    (asks_as _ c.in_ok-file.ensures c.in_default.is
    (asks_as (by_target c.args.self.now c.args.importer.now.text.now) (rw c.requires at c.in_ok-resolution.ensures)
    c.in-Target.is (rw c.as_str.ensures at c.search_with.ensures)))
