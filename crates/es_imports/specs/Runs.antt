-- Runs of parts at a text's front. A part is told by how many bytes it takes there, which are 0 where none is.
use Rattle.std.specs.Prelude.{ℕ, zero, suc, ◌+◌, ◌==◌, if◌then◌else◌, List, length, drop}

-- how many bytes at most so many parts take, one after the other
abbrev pub run_up_to : ℕ → (List ℕ → ℕ) → List ℕ → ℕ
run_up_to zero part text = 0
run_up_to (suc n) part text = if part text == 0 then 0 else part text + run_up_to n part (drop (part text) text)

-- How many bytes as many parts take as fit. Each takes a byte or more, so there are no more of them than bytes.
unfoldable pub run : (List ℕ → ℕ) → List ℕ → ℕ
run part text = run_up_to (length text) part text
