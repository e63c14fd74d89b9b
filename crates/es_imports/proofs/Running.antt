-- A loop over a run of parts.
use Rattle.std.proofs.Common.{◌≡◌, ◌≢◌, ◌≤◌, ◌+◌, ℕ, zero, suc, List, length, drop, refl, ◌∙◌, arith, ne_eqb}
use Rattle.std.proofs.lemmas.List.{drop-drop, length-drop}
use Rattle.es_imports.specs.Runs.{run, run_up_to}

-- so far a run takes that many bytes, and goes on behind them
pub record Running (part : List ℕ → ℕ) (text : List ℕ) (at : ℕ) : Type 0 where
  pub within : at ≤ length text
  pub left : ℕ
  pub enough : length (drop at text) ≤ left
  pub is : at + run_up_to left part (drop at text) ≡ run_up_to (length text) part text

pub running_start : (part : List ℕ → ℕ) (text : List ℕ) → Running part text 0
running_start part text = record { within = omega arith; left = length text; enough = omega arith; is = omega arith }

-- no part is at the front
none_more : (part : List ℕ → ℕ) (n : ℕ) (t : List ℕ) → part t ≡ 0 → run_up_to n part t ≡ 0
none_more part zero t e = refl
none_more part (suc n) t e = rw e refl

-- a part is at the front
one_more : (part : List ℕ → ℕ) (n : ℕ) (t : List ℕ) → part t ≢ 0
    → run_up_to (suc n) part t ≡ part t + run_up_to n part (drop (part t) t)
one_more part n t h = rw (ne_eqb _ _ h) refl

pub running_end : (part : List ℕ → ℕ) (text : List ℕ) (at : ℕ) → Running part text at → part (drop at text) ≡ 0
    → at ≡ run part text
unfolding run
running_end part text at r e = let none = none_more part r.left (drop at text) e in let is = r.is in omega arith

next_from : (part : List ℕ → ℕ) (text : List ℕ) (at left : ℕ) → at ≤ length text → length (drop at text) ≤ left
    → at + run_up_to left part (drop at text) ≡ run_up_to (length text) part text
    → part (drop at text) ≢ 0 → part (drop at text) ≤ length (drop at text)
    → Running part text (at + part (drop at text))
next_from part text at zero w enough is h within = absurd (h (omega arith))
next_from part text at (suc n) w enough is h within =
    let rest = length-drop at text in
    let rest' = length-drop (part (drop at text)) (drop at text) in
    let more = one_more part n (drop at text) h in
    let there = drop-drop (part (drop at text)) at text in
    record {
      within = omega arith;
      left = n;
      enough = rw (← there) (omega arith);
      is = rw (← there) (omega arith);
    }

pub running_next : (part : List ℕ → ℕ) (text : List ℕ) (at len : ℕ) → Running part text at
    → len ≡ part (drop at text) → len ≢ 0 → len ≤ length (drop at text) → Running part text (at + len)
running_next part text at len r e h within =
    rw e (next_from part text at r.left r.within r.enough r.is (λ z. h (e ∙ z)) (rw (← e) within))
