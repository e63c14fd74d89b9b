use Rattle.std.proofs.Common.{◌≡◌, map, drop}
use Rattle.swc_loader.specs.NodeRows.{is_among}
use Rattle.swc_loader.proofs.conventions.is_among.Given as goal

-- the texts that are left decide
abbrev pub invariant-loop-one : goal.invariant-loop-one
invariant-loop-one l =
    is_among (map (λ t. t.now) l.texts) l.text ≡ is_among (map (λ t. t.now) (drop l.one-index l.texts)) l.text
