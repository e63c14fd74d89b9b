use Rattle.std.proofs.Common.{◌≡◌, drop, string_bytes}
use Rattle.tree_core.specs.Asks.{Leads}
use Rattle.swc_loader.proofs.Firsts.{with_each}
use Rattle.swc_loader.proofs.candidates.first_with_ending.Given as goal

-- the buffers hold the folder and the base, and what is asked of the endings that are left is what is asked of all
abbrev pub invariant-loop-ending : goal.invariant-loop-ending
invariant-loop-ending g l = record {
  folder : l.candidate ≡ l.folder;
  base : string_bytes l.name ≡ l.base;
  left : Leads (g.R.Asker.asking l.fn.tree) (g.R.Asker.asking l.tree) (with_each l.folder l.base l.endings)
      (with_each l.folder l.base (drop l.ending-index l.endings));
}
