-- What the parts of `VPath::from` have in hand: borrowed segments.
use Rattle.std.specs.Prelude.{ℕ, List, map, option_map}
use denote.Ref.{Bor}
use Rattle.pnp_core.specs.declared.virtual_path.Parted.{Parted}
use Rattle.pnp_core.specs.VirtualPath.{Segments, PathParts}

abbrev pub texts : List (Bor (List ℕ)) → Segments
texts ss = map (λ s. s.now) ss

abbrev pub both_texts : Bor (List (Bor (List ℕ))) × Bor (List (Bor (List ℕ))) → Segments × Segments
both_texts virtual = (texts virtual.0.now, texts virtual.1.now)

abbrev pub parts_seen : Parted → PathParts
parts_seen path = record {
  base = texts path.base.now;
  virtual = option_map both_texts path.virtual_part;
  archived = texts path.archived.now;
}
