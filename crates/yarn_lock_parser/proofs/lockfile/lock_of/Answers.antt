use Rattle.std.proofs.Common.{sym}
use Rattle.yarn_lock_parser.proofs.Rests.{behind}
use Rattle.yarn_lock_parser.proofs.BodyRests.{header_at-rest, metadata_after-rest}
use Rattle.yarn_lock_parser.proofs.lockfile.lock_of.Goals as goal

pub place_in-requires : goal.place_in-requires
place_in-requires c = header_at-rest _ _ (sym c.in-Some.ensures)

pub entries_of-requires : goal.entries_of-requires
entries_of-requires c = behind (header_at-rest _ _ (sym c.in-Some.ensures))
    (metadata_after-rest _ _ _ (sym c.in-Some-metadata_after.ensures))
