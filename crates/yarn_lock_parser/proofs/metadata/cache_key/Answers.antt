use Rattle.std.proofs.Common.{sym}
use Rattle.yarn_lock_parser.proofs.Rests.{key-rest, unwrap_or-now}
use Rattle.yarn_lock_parser.proofs.metadata.cache_key.Goals as goal

pub front-requires : goal.front-requires
front-requires c =
    let rest = key-rest c.in_ok-key.key.now _ (sym c.in_ok-end.ensures) in
    rw (c.unwrap_or-rest.ensures, unwrap_or-now c.after_compression.result c.in_ok-end.end, c.after_compression.ensures)
    rest
