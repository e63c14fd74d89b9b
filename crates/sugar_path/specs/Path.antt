-- Clean paths: lists of names, the last name first, and their texts.
use Rattle.std.specs.Prelude.{
  ◌≡◌,
  ◌==◌,
  ◌&&◌,
  ◌||◌,
  ℕ,
  Bool,
  true,
  false,
  not,
  if◌then◌else◌,
  IsTrue,
  List,
  [],
  ◌∷◌,
  ◌++◌,
  bytes_eq,
  get_or,
}
use Rattle.std.specs.List.{AllByRecursion, slice_split}
use Rattle.sugar_path.specs.Part.{by_kind}

abbrev pub has_no_slash : List ℕ → Bool
has_no_slash [] = true
has_no_slash (c ∷ cs) = not (c == 47) && has_no_slash cs

-- a name of a path: not empty, no `.`, no `..`, no `/` in it. A test, so that a literal is seen to be one
abbrev pub is_name : List ℕ → Bool
is_name n = not (bytes_eq n []) && not (bytes_eq n (46 ∷ [])) && not (bytes_eq n (46 ∷ 46 ∷ [])) && has_no_slash n

abbrev pub IsName : List ℕ → Type 0
IsName n = IsTrue (is_name n)

-- a path as the list of its names, the last one first: so `n ∷ p` is the child n of p, and `[]` is `/`
abbrev pub Path : Type 0
Path = List (List ℕ)

abbrev pub IsPath : Path → Type 0
IsPath p = AllByRecursion IsName p

-- the folder that a path stands in; that of `/` is itself
abbrev pub parent : Path → Path
parent [] = []
parent (n ∷ p) = p

abbrev pub is_root : Path → Bool
is_root [] = true
is_root (n ∷ p) = false

-- each name behind a `/`
abbrev pub steps : Path → List ℕ
steps [] = []
steps (n ∷ p) = steps p ++ 47 ∷ n

abbrev pub text_of : Path → List ℕ
text_of [] = 47 ∷ []
text_of (n ∷ p) = steps (n ∷ p)

-- the text of a clean path
abbrev pub IsCleanPath : List ℕ → Type 0
IsCleanPath t = (p : Path) × IsPath p × (t ≡ text_of p)

-- a `/` begins a name, and another byte is the latest name's next one
abbrev pub with_byte : Path → ℕ → Path
with_byte [] c = if c == 47 then ([] ∷ []) else ((c ∷ []) ∷ [])
with_byte (n ∷ p) c = if c == 47 then ([] ∷ n ∷ p) else ((n ++ c ∷ []) ∷ p)

abbrev pub with_bytes : Path → List ℕ → Path
with_bytes p [] = p
with_bytes p (c ∷ cs) = with_bytes (with_byte p c) cs

-- the names in a text of steps
abbrev pub names_in : List ℕ → Path
names_in t = with_bytes [] t

-- each name behind a `/`, and nothing else
pub record IsSteps (t : List ℕ) : Type 0 where
  pub names : IsPath (names_in t)
  pub text : t ≡ steps (names_in t)

-- a text is absolute where its first byte is `/`
abbrev pub is_absolute : List ℕ → Bool
is_absolute t = get_or t 0 0 == 47

-- what stands between the slashes of a text
abbrev pub parts : List ℕ → List (List ℕ)
parts t = slice_split (λ b. b == 47) t

-- a part that is a name: neither empty, `.` nor `..`
abbrev pub is_plain : List ℕ → Bool
is_plain part = not (bytes_eq part []) && not (bytes_eq part (46 ∷ [])) && not (bytes_eq part (46 ∷ 46 ∷ []))

-- a path read on by one part: an empty one and `.` stay, `..` goes to the folder above, where `/` stays, and a name
-- goes to the child
abbrev pub by_part : Path → List ℕ → Path
by_part p part = by_kind part p (parent p) (part ∷ p)

-- a path read on by parts in order
abbrev pub by_parts : Path → List (List ℕ) → Path
by_parts p [] = p
by_parts p (part ∷ rest) = by_parts (by_part p part) rest

-- the path that an absolute text names
unfoldable pub path_in : List ℕ → Path
path_in t = by_parts [] (parts t)

-- the path that a text names, read from a folder
unfoldable pub clean : Path → List ℕ → Path
clean cwd t = by_parts (if is_absolute t then [] else cwd) (parts t)

-- the last byte of a text is `/`
abbrev pub ends_in_slash : List ℕ → Bool
ends_in_slash [] = false
ends_in_slash (c ∷ []) = c == 47
ends_in_slash (c ∷ d ∷ cs) = ends_in_slash (d ∷ cs)

-- a base that is empty or ends in `/` needs no `/` before what follows
abbrev pub with_slash : List ℕ → List ℕ
with_slash b = if bytes_eq b [] || ends_in_slash b then b else (b ++ 47 ∷ [])

-- one text behind another, as a path behind a folder: an absolute one stands alone
abbrev pub join : List ℕ → List ℕ → List ℕ
join b t = if is_absolute t then t else (with_slash b ++ t)

-- two paths have the same names
abbrev pub path_eq : Path → Path → Bool
path_eq [] [] = true
path_eq [] (m ∷ q) = false
path_eq (n ∷ p) [] = false
path_eq (n ∷ p) (m ∷ q) = bytes_eq n m && path_eq p q

-- a path is a location or lies below it: the location is the path itself, or the folder above the path is the location
-- or lies below it
abbrev pub below : Path → Path → Bool
below [] l = path_eq [] l
below (n ∷ p) l = path_eq (n ∷ p) l || below p l

-- the folders above a path, the nearest first, `/` last; none stands above `/`
abbrev pub up : Path → List Path
up [] = []
up (n ∷ p) = p ∷ up p
