-- What is put behind a text that is being written: the compact text of a value, or of an object but for its last
-- members.
use Rattle.std.specs.Prelude.{◌≡◌, ℕ, true, List, ◌++◌}
use Rattle.serde_json.specs.Data.{Data, Members}
use Rattle.serde_json.specs.Written.{compact_text, members_text}

-- the compact text of a value is put
abbrev pub IsPut : List ℕ → List ℕ → Data → Type 0
IsPut old new value = new ≡ old ++ compact_text value

-- an object is put, but for the members that stand behind its own, whatever they are
abbrev pub IsPutBut : List ℕ → List ℕ → (Members → Data) → Type 0
IsPutBut old new value = (last : Members) → old ++ compact_text (value last) ≡ new ++ members_text true last
