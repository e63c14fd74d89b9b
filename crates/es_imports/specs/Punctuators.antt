-- Punctuators at a text's front, the longest that fits: Punctuator of ECMA-262, the brace and the slashes among
-- them, and `@` of decorators.
use Prim.Native.Char.{code}
use Rattle.std.specs.Prelude.{ℕ, ◌+◌, ◌==◌, ◌||◌, Bool, nat_eq, if◌then◌else◌, List, [], ◌∷◌, codes}
use Rattle.std.specs.Char.{is_ascii_digit, char_set_contains}
use Rattle.std.specs.List.{starts_with}

-- brackets and marks that begin no longer punctuator
abbrev pub is_single : ℕ → Bool
is_single c = char_set_contains (codes "(){}[],;:~@") c

-- one of the marks that begin nothing longer in code, and go on with nothing
abbrev pub stands_alone : ℕ → Bool
stands_alone c = c == code "(" || c == code ")" || c == code "{" || c == code "[" || c == code "]" || c == code ","
    || c == code ";" || c == code ":"

-- so many bytes, and one more if `=` follows
abbrev pub assigned_len : ℕ → List ℕ → ℕ
assigned_len len rest = if starts_with nat_eq rest (codes "=") then len + 1 else len

-- `.` and `...`, by what stands behind the first byte, as below
abbrev pub point_len : List ℕ → ℕ
point_len rest = if starts_with nat_eq rest (codes "..") then 3 else 1

-- `=`, `=>`, `==` and `===`
abbrev pub equals_len : List ℕ → ℕ
equals_len [] = 1
equals_len (c ∷ cs) = if c == code ">" then 2 else if c == code "=" then assigned_len 2 cs else 1

-- `!`, `!=` and `!==`
abbrev pub not_len : List ℕ → ℕ
not_len [] = 1
not_len (c ∷ cs) = if c == code "=" then assigned_len 2 cs else 1

-- a mark, the mark twice, or the mark with `=`
abbrev pub repeated_len : ℕ → List ℕ → ℕ
repeated_len mark [] = 1
repeated_len mark (c ∷ cs) = if c == mark then 2 else assigned_len 1 (c ∷ cs)

-- a mark, or the mark twice, and each of them with `=`
abbrev pub doubled_len : ℕ → List ℕ → ℕ
doubled_len mark [] = 1
doubled_len mark (c ∷ cs) = if c == mark then assigned_len 2 cs else assigned_len 1 (c ∷ cs)

-- `>`, `>>` and `>>>`, and each of them with `=`
abbrev pub greater_len : List ℕ → ℕ
greater_len [] = 1
greater_len (c ∷ []) = if c == code ">" then 2 else assigned_len 1 (c ∷ [])
greater_len (c ∷ d ∷ cs) =
    if c == code ">" then (if d == code ">" then assigned_len 3 cs else assigned_len 2 (d ∷ cs))
    else assigned_len 1 (c ∷ d ∷ cs)

-- `?`, `??`, `??=` and `?.`, which no digit follows
abbrev pub question_len : List ℕ → ℕ
question_len [] = 1
question_len (c ∷ []) = if c == code "?" || c == code "." then 2 else 1
question_len (c ∷ d ∷ cs) =
    if c == code "?" then assigned_len 2 (d ∷ cs) else if c == code "." then (if is_ascii_digit d then 1 else 2) else 1

-- how many bytes the longest punctuator at the front takes, and 0 where none is
abbrev pub punctuator_len : List ℕ → ℕ
punctuator_len [] = 0
punctuator_len (c ∷ cs) =
    if c == code "." then point_len cs
    else if c == code "=" then equals_len cs
    else if c == code "!" then not_len cs
    else if c == code "+" || c == code "-" then repeated_len c cs
    else if c == code "*" || c == code "&" || c == code "|" then doubled_len c cs
    else if c == code "/" || c == code "%" || c == code "^" then assigned_len 1 cs
    else if c == code "<" then doubled_len c cs
    else if c == code ">" then greater_len cs
    else if c == code "?" then question_len cs
    else if is_single c then 1 else 0
