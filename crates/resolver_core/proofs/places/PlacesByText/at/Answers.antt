use Rattle.std.proofs.Common.{refl, ℕ}
use Rattle.std.specs.Global.{Vec}
use Rattle.resolver_core.proofs.PlacesKept.{at-seen}
use Rattle.resolver_core.proofs.places.PlacesByText.at.Goals as goal

pub returns-in-Some : goal.returns-in-Some
returns-in-Some c =
    rw (
      ← c.self.view_is,
      at-seen (λ (k : Vec ℕ). k.items) (λ (v : Vec ℕ). v.items) c.args.text.now
          c.self.inside.kept.entries,
      ← c.in-Some.ensures.value,
    ) c.as_slice.ensures.value

pub returns-in-None : goal.returns-in-None
returns-in-None c =
    rw (
      ← c.self.view_is,
      at-seen (λ (k : Vec ℕ). k.items) (λ (v : Vec ℕ). v.items) c.args.text.now
          c.self.inside.kept.entries,
      ← c.in-None.ensures.value,
    ) refl
