-- The file URL of a path: its bytes, of which those that a URL can't hold are escaped (the URL Standard's
-- percent-encoding).
use Rattle.std.specs.Prelude.{◌==◌, ◌||◌, ℕ, Bool, List, [], ◌∷◌, ◌++◌, codes, nat_lt, if◌then◌else◌}
use Rattle.std.specs.List.{flat_map, list_any}
use Rattle.percent_encoding.specs.Percent.{percent_encode_byte}

abbrev pub is_control : ℕ → Bool
is_control b = nat_lt b 32 || b == 127

-- the marks that are escaped: " # % < > ? [ \ ] ^ ` { | }
abbrev pub marks : List ℕ
marks = 34 ∷ 35 ∷ 37 ∷ 60 ∷ 62 ∷ 63 ∷ 91 ∷ 92 ∷ 93 ∷ 94 ∷ 96 ∷ 123 ∷ 124 ∷ 125 ∷ []

-- controls, space, the marks, and all bytes above 127
abbrev pub is_escaped : ℕ → Bool
is_escaped b = is_control b || (b == 32 || (list_any (λ mark. b == mark) marks || nat_lt 127 b))

abbrev pub escaped : ℕ → List ℕ
escaped b = if is_escaped b then percent_encode_byte b else b ∷ []

abbrev pub file_url : List ℕ → List ℕ
file_url path = codes "file://" ++ flat_map escaped path
