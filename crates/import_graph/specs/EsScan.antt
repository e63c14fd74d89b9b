-- What a file of JavaScript or TypeScript imports, told from its tokens.
use Rattle.std.specs.Prelude.{ℕ, true, false, List, [], map, Result, Ok, Err}
use Rattle.std.specs.Str.Lossy.{utf8_lossy}
use Rattle.es_imports.specs.declared.imports.Import.{Import}
use Rattle.es_imports.specs.Imports.{Fault, imports_of}

abbrev pub specifiers_of : List Import → List (List ℕ)
specifiers_of imports = map (λ import. import.specifier) imports

-- the specifiers of a text with elements of JSX; a text that is none of the language imports nothing
abbrev pub specifiers_or_none : Result (List Import) Fault → List (List ℕ)
specifiers_or_none (Ok imports) = specifiers_of imports
specifiers_or_none (Err fault) = []

-- the specifiers of a text, by what it imports where no elements are read; where it is no text so, they are read
abbrev pub specifiers_by : List ℕ → Result (List Import) Fault → List (List ℕ)
specifiers_by text (Ok imports) = specifiers_of imports
specifiers_by text (Err fault) = specifiers_or_none (imports_of true text)

-- the specifiers of a text, in the order of their places
abbrev pub specifiers_in : List ℕ → List (List ℕ)
specifiers_in text = specifiers_by text (imports_of false text)

-- what the bytes of a file import, in the order of the places; each sequence in them that isn't UTF-8 is read as U+FFFD
unfoldable pub es_imports_of : List ℕ → List (List ℕ)
es_imports_of bytes = specifiers_in (utf8_lossy bytes)
