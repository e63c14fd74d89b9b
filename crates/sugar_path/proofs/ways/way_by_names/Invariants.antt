use Rattle.std.proofs.Common.{◌≡◌, ◌-◌, ◌∷◌, ◌++◌, [], length, replicate, take}
use Rattle.sugar_path.specs.Names.{closed, texts}
use Rattle.sugar_path.proofs.ways.way_by_names.Given as goal

-- every `..`, and the names so far
abbrev pub invariant-loop-name : goal.invariant-loop-name
invariant-loop-name l = l.text.items ≡ closed (replicate (length l.fn.base - l.shared) (46 ∷ 46 ∷ [])
    ++ texts (take l.name-index l.name-items))
