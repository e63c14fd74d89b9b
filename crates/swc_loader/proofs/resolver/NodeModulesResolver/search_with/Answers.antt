use Rattle.std.proofs.Common.{◌≡◌, ◌∙◌, false, true, Err, sym, ap, lit<}
use Rattle.sugar_path.specs.Path.{is_absolute}
use Rattle.tree_core.specs.Resolving.{resolving}
use Rattle.tree_core.proofs.Asking.{asks_done, asks_starved_in}
use Rattle.swc_loader.specs.declared.refusal.NodeRefusal.TheVariants.{NotFound}
use Rattle.swc_loader.specs.Settings.{NodeSettings}
use Rattle.swc_loader.proofs.NodeOrders.{asks_walked}
use Rattle.swc_loader.proofs.resolver.NodeModulesResolver.search_with.Goals as goal

pub returns-in_err-text : goal.returns-in_err-text
returns-in_err-text g c = asks_starved_in resolving _ c.from_residual.ensures.1

pub returns-then-not-self : goal.returns-then-not-self
returns-then-not-self g c =
    let absolute : is_absolute c.args.target.now ≡ false =
    sym (c.starts_with.ensures.byte (lit< tt) (lit< tt) (λ w o h. h)) ∙ c.if-starts_with.false in
    let relative = sym c.is_relative.ensures ∙ c.if-is_relative.false in
    let off : c.args.self.now.node_modules ≡ false =
    ap (λ (s : NodeSettings). s.node_modules) (sym c.self.view_is) ∙ c.if-not-self.true in
    rw (absolute, relative, off) (asks_done (ap (λ text. Err (NotFound text)) c.in_ok-text.ensures))

pub returns : goal.returns
returns g c =
    let absolute : is_absolute c.args.target.now ≡ false =
    sym (c.starts_with.ensures.byte (lit< tt) (lit< tt) (λ w o h. h)) ∙ c.if-starts_with.false in
    let relative = sym c.is_relative.ensures ∙ c.if-is_relative.false in
    let walks : c.args.self.now.node_modules ≡ true =
    ap (λ (s : NodeSettings). s.node_modules) (sym c.self.view_is) ∙ c.if-not-self.false in
    rw (absolute, relative) (asks_walked c.args.self.now c.args.importer.now.text.now c.args.target.now walks
    c.search_modules.ensures)
