use Rattle.std.proofs.Common.{◌-◌, ◌∷◌, [], length, replicate, refl, sym, ap, ◌∙◌, append-nil}
use Rattle.sugar_path.specs.Names.{closed}
use Rattle.sugar_path.proofs.NameWays.{name-written, way-names}
use Rattle.sugar_path.proofs.ways.way_by_names.Goals as goal

pub loop-name-init : goal.loop-name-init
loop-name-init c = c.in_ok-text.ensures ∙ ap closed (sym (append-nil
    (replicate (length c.args.base.now - c.shared_names-shared.result) (46 ∷ 46 ∷ []))))

pub loop-name-preserved : goal.loop-name-preserved
loop-name-preserved c =
    name-written (replicate (length c.args.base.now - c.shared_names-shared.result) (46 ∷ 46 ∷ [])) _
    c.loop-name.name-index _
    c.loop-name.text.items c.extend_from_slice.new.self.items c.push.new.self.items
    c.loop-name-test.true c.loop-name.invariant c.in_ok-extend_from_slice.ensures.items c.in_ok-push.ensures.items

pub returns : goal.returns
returns c =
    way-names c.args.base.now c.args.target.now _ c.shared_names-shared.result c.loop-name.name-index _
    c.loop-name.text.items c.pop-slash.new.self.items
    c.shared_names-shared.ensures.shared refl c.loop-name-test.false c.loop-name.invariant c.loop-name.text.ok.0
    c.pop-slash.ensures.rest
