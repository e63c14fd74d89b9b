use Rattle.pnp_core.proofs.Slashes.{IsPath-location_path}
use Rattle.pnp_core.proofs.trie.Trie.insert.Goals as goal

pub insert_at-requires : goal.insert_at-requires
insert_at-requires g c = rw c.in-Ok.ensures (IsPath-location_path c.args.key.now)
