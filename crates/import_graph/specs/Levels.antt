-- What is reached from some first files by what files lead to, level by level. A file is the text of its path.
use Rattle.std.specs.Prelude.{ℕ, zero, suc, Bool, not, IsTrue, bytes_eq, List, [], ◌∷◌, ◌++◌, filter}
use Rattle.std.specs.List.{flat_map, list_any}

-- a text stands among others
abbrev pub among : List ℕ → List (List ℕ) → Bool
among text others = list_any (bytes_eq text) others

-- texts without repeats: each where it first stands
abbrev pub once : List (List ℕ) → List (List ℕ)
once [] = []
once (text ∷ texts) = text ∷ filter (λ other. not (bytes_eq text other)) (once texts)

-- the texts that don't stand among others
abbrev pub without : List (List ℕ) → List (List ℕ) → List (List ℕ)
without others texts = filter (λ text. not (among text others)) texts

-- a level: its files, and those of the levels before it
pub record Level : Type 0 where
  pub before : List (List ℕ)
  pub files : List (List ℕ)

-- the files of a level and of those before it
abbrev pub up_to : Level → List (List ℕ)
up_to l = l.before ++ l.files

-- the level behind one: the files that its files lead to, without those of earlier levels, repeats dropped
abbrev pub level_behind : (List ℕ → List (List ℕ)) → Level → Level
level_behind leads l = record {
  before = up_to l;
  files = without (up_to l) (once (flat_map leads l.files));
}

-- the level with a number; level 0 has the first files
abbrev pub level_at : (List ℕ → List (List ℕ)) → List (List ℕ) → ℕ → Level
level_at leads first zero = record { before = []; files = first }
level_at leads first (suc k) = level_behind leads (level_at leads first k)

-- the files of the levels from 0 to a number, in order
abbrev pub levels_to : (List ℕ → List (List ℕ)) → List (List ℕ) → ℕ → List (List ℕ)
levels_to leads first n = up_to (level_at leads first n)

-- a walk, told from its end: each file leads to the one told before it, and the last one told is a first file
abbrev pub IsWalk : (List ℕ → List (List ℕ)) → List (List ℕ) → List (List ℕ) → Type 0
IsWalk leads first [] = ⊥
IsWalk leads first (file ∷ []) = IsTrue (among file first)
IsWalk leads first (file ∷ (before ∷ walk)) = IsTrue (among file (leads before)) × IsWalk leads first (before ∷ walk)
