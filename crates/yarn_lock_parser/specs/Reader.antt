-- What the reader's own items and errors stand for. Contracts of private functions alone read this.
use Rattle.std.specs.Prelude.{◌≡◌, ℕ, Result, Err}
use Rattle.yarn_lock_parser.specs.declared.error.EntryError.{EntryError}
use Rattle.yarn_lock_parser.specs.declared.error.EntryError.TheVariants as of_entry
use Rattle.yarn_lock_parser.specs.declared.error.LockCause.{LockCause}
use Rattle.yarn_lock_parser.specs.declared.error.YarnLockError.{YarnLockError}
use Rattle.yarn_lock_parser.specs.declared.error.YarnLockError.TheVariants.{Parser, NoMemory}
use Rattle.yarn_lock_parser.specs.declared.item.Item.{Item as Given}
use Rattle.yarn_lock_parser.specs.declared.item.Item.TheVariants as given
use Rattle.yarn_lock_parser.specs.Item.{Item, Version, Dependencies, Integrity, Resolved, Metas, Other}
use Rattle.yarn_lock_parser.specs.Entry.{Entry}
use Rattle.yarn_lock_parser.specs.Given.{kind_said, meta_kind_said}

abbrev pub said : Given → Item
said (given.Version text) = Version text.now
said (given.Dependencies kind pairs) = Dependencies (kind_said kind) pairs.items
said (given.Integrity text) = Integrity text.now
said (given.Resolved text) = Resolved text.now
said (given.Metas kind metas) = Metas (meta_kind_said kind) metas.items
said given.Other = Other

-- what an error of an entry means of its reading: want of memory means nothing
abbrev pub Explains : Result Entry LockCause → EntryError → Type 0
Explains read (of_entry.Refused cause) = read ≡ Err cause
Explains read of_entry.NoMemory = Unit {0}

-- the error of a lock file with an entry at a place
abbrev pub error_at : ℕ → EntryError → YarnLockError
error_at place (of_entry.Refused cause) = Parser place cause
error_at place of_entry.NoMemory = NoMemory
