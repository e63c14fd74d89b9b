-- What a text holds.
use Rattle.std.specs.Prelude.{ℕ, List, take, string_bytes}
use Rattle.std.specs.Rc.{rc_str_bytes}
use Rattle.sugar_path.specs.declared.content.Front.{Front}
use Rattle.sugar_path.specs.declared.content.Kept.{Kept}
use Rattle.sugar_path.specs.declared.content.Kept.TheVariants.{Short, Owned, Shared}

-- the bytes at the front of a shared text
abbrev pub front_bytes : Front → List ℕ
front_bytes f = take f.end (rc_str_bytes f.whole)

-- the bytes of a text
abbrev pub kept_bytes : Kept → List ℕ
kept_bytes (Short short) = short.text.bytes
kept_bytes (Owned text) = string_bytes text
kept_bytes (Shared front) = front_bytes front
