-- What a person is told of a text that is no requirement.
use Rattle.std.specs.Prelude.{◌≡◌, ℕ, List, ◌++◌, drop, codes}
use Rattle.std.specs.Str.{IsCharBoundary}
use Rattle.npm_req.specs.declared.error.NpmVersionReqParseError.{NpmVersionReqParseError}
use Rattle.npm_req.specs.declared.error.NpmVersionReqParseError.TheVariants.{Unexpected, NoMemory}

-- the message on a text that is unexpected from here on
abbrev pub unexpected_message : List ℕ → List ℕ
unexpected_message rest = codes "Invalid npm version requirement. Unexpected character.\n  " ++ rest ++ codes "\n  ~"

-- the message of an error shows the text from the place on, where a character begins there
abbrev pub IsMessage : NpmVersionReqParseError → List ℕ → List ℕ → Type 0
IsMessage (Unexpected place) text message = IsCharBoundary text place → message ≡ unexpected_message (drop place text)
IsMessage NoMemory text message = message ≡ codes "out of memory"
