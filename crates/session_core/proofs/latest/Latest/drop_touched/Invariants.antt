use Rattle.std.proofs.Common.{◌≡◌, true, length}
use denote.Text.{Utf8}
use denote.Shadow.{shadow}
use Rattle.std.specs.List.{AllByRecursion}
use Rattle.tree_core.proofs.Above.{continues}
use Rattle.session_core.specs.Entries.{untouched}
use Rattle.session_core.specs.Numbered.{kept_in}
use Rattle.session_core.proofs.Touched.{TouchedAsks, on_way}
use Rattle.session_core.proofs.latest.Latest.drop_touched.Given as goal

-- the path goes on behind the folder; what it touches of those that are left asks above that
abbrev pub invariant-loop-at : goal.invariant-loop-at
invariant-loop-at l = shadow (Utf8 l.folder)
    × (on_way l.path l.folder ≡ true)
    × (untouched l.path (kept_in l.self) ≡ untouched l.path (kept_in l.fn.self))
    × AllByRecursion (TouchedAsks l.path (λ a. continues a l.folder)) (kept_in l.self)
    × (l.self.capacity ≡ l.fn.self.capacity)

abbrev pub decreases-loop-at : goal.decreases-loop-at
decreases-loop-at l = length l.folder
