-- A text has one first fault, and then no pattern is answered.
use Rattle.std.proofs.Common.{◌≡◌, ℕ, ◌+◌, ◌<◌, ◌≤◌, List, length, drop, inl, inr, refl, sym, ap, subst, ◌∙◌, arith}
use Rattle.std.specs.Prelude.{◌⊎◌}
use Rattle.std.proofs.lemmas.Bool.{cases_lt}
use Rattle.std.proofs.lemmas.List.{take-append-drop}
use Rattle.es_pattern.specs.Tree.{Tree}
use Rattle.es_pattern.specs.Grammar.{IsPattern}
use Rattle.es_pattern.proofs.NumberTests.{lt_or_same}
use Rattle.es_pattern.specs.declared.error.PatternError.{PatternError}
use Rattle.es_pattern.specs.declared.error.PatternError.TheVariants.{Syntax, Unsupported, CountTooLarge, NoMemory}
use Rattle.es_pattern.specs.Faults.{
  IsUnsupportedAt,
  IsTooLargeAt,
  IsSyntaxAt,
  IsClearBefore,
  IsFirstFault,
  IsCaused,
  IsClear,
  IsWithinLimits,
  byte_place,
}

-- something is refused at the place
abbrev IsRefusedAt : List ℕ → ℕ → Type 0
IsRefusedAt text p = IsUnsupportedAt text p ⊎ (IsTooLargeAt text p ⊎ IsSyntaxAt text p)

not_before : (text : List ℕ) (p q : ℕ) → IsClearBefore text q → IsRefusedAt text p → p < q → ⊥
not_before text p q clear (inl h) lt = clear.supported p lt h
not_before text p q clear (inr (inl h)) lt = clear.small p lt h
not_before text p q clear (inr (inr h)) lt = clear.grammatical p lt h

-- two first places of refusals are one
same_place : (text : List ℕ) (p q : ℕ) → IsClearBefore text p → IsRefusedAt text p → IsClearBefore text q
    → IsRefusedAt text q → p ≡ q
same_place text p q clear_p at_p clear_q at_q = by_order (cases_lt p q) (cases_lt q p)
  where
    by_order : (p < q) ⊎ (q ≤ p) → (q < p) ⊎ (p ≤ q) → p ≡ q
    by_order (inl lt) other = absurd (not_before text p q clear_q at_p lt)
    by_order (inr le) (inl lt) = absurd (not_before text q p clear_p at_q lt)
    by_order (inr le) (inr ge) = omega (arith, le, ge)

-- the places, and their bytes, are one
same_bytes : (text : List ℕ) (p q a b : ℕ) → a ≡ byte_place text p → b ≡ byte_place text q → p ≡ q → a ≡ b
same_bytes text p q a b at_p at_q same = at_p ∙ ap (byte_place text) same ∙ sym at_q

there : (text : List ℕ) (p q : ℕ) → p ≡ q → IsUnsupportedAt text p → IsUnsupportedAt text q
there text p q same h = subst (λ (k : ℕ). IsUnsupportedAt text k) same h

large_there : (text : List ℕ) (p q : ℕ) → p ≡ q → IsTooLargeAt text p → IsTooLargeAt text q
large_there text p q same h = subst (λ (k : ℕ). IsTooLargeAt text k) same h

same_fault : (text : List ℕ) (e f : PatternError) → IsFirstFault text e → IsFirstFault text f → e ≡ f
same_fault text (Unsupported a) (Unsupported b) (p, at_p, clear_p, u) (q, at_q, clear_q, v) =
    ap Unsupported (same_bytes text p q a b at_p at_q (same_place text p q clear_p (inl u) clear_q (inl v)))
same_fault text (Unsupported a) (CountTooLarge b) (p, at_p, clear_p, u) (q, at_q, clear_q, apart, v) =
    absurd (apart (there text p q (same_place text p q clear_p (inl u) clear_q (inr (inl v))) u))
same_fault text (Unsupported a) (Syntax b) (p, at_p, clear_p, u) (q, at_q, clear_q, apart, apart_q, v) =
    absurd (apart (there text p q (same_place text p q clear_p (inl u) clear_q (inr (inr v))) u))
same_fault text (CountTooLarge a) (Unsupported b) (p, at_p, clear_p, apart, u) (q, at_q, clear_q, v) =
    absurd (apart (there text q p (same_place text q p clear_q (inl v) clear_p (inr (inl u))) v))
same_fault text (CountTooLarge a) (CountTooLarge b) (p, at_p, clear_p, apart, u) (q, at_q, clear_q, not_q, v) =
    ap CountTooLarge (same_bytes text p q a b at_p at_q (same_place text p q clear_p (inr (inl u)) clear_q
    (inr (inl v))))
same_fault text (CountTooLarge a) (Syntax b) (p, at_p, clear_p, apart, u) (q, at_q, clear_q, apart_q, small, v) =
    absurd (small (large_there text p q (same_place text p q clear_p (inr (inl u)) clear_q (inr (inr v))) u))
same_fault text (Syntax a) (Unsupported b) (p, at_p, clear_p, apart, small, u) (q, at_q, clear_q, v) =
    absurd (apart (there text q p (same_place text q p clear_q (inl v) clear_p (inr (inr u))) v))
same_fault text (Syntax a) (CountTooLarge b) (p, at_p, clear_p, apart, small, u) (q, at_q, clear_q, apart_q, v) =
    absurd (small (large_there text q p (same_place text q p clear_q (inr (inl v)) clear_p (inr (inr u))) v))
same_fault text (Syntax a) (Syntax b) (p, at_p, clear_p, apart, small, u) (q, at_q, clear_q, apart_q, small_q, v) =
    ap Syntax (same_bytes text p q a b at_p at_q (same_place text p q clear_p (inr (inr u)) clear_q (inr (inr v))))
same_fault text NoMemory f h g = absurd h
same_fault text (Syntax a) NoMemory h g = absurd g
same_fault text (Unsupported a) NoMemory h g = absurd g
same_fault text (CountTooLarge a) NoMemory h g = absurd g

-- a clear text has no first fault
pub no_fault : (text : List ℕ) (e : PatternError) → IsClear text → IsFirstFault text e → ⊥
no_fault text (Unsupported a) clear (p, at_p, clear_p, u) = (clear p).0 u
no_fault text (CountTooLarge a) clear (p, at_p, clear_p, apart, u) = (clear p).1 u
no_fault text (Syntax a) clear (p, at_p, clear_p, apart, small, u) = (clear p).2 u
no_fault text NoMemory clear h = h

-- an error that is caused is the first fault, or tells that the call is out of memory
pub caused_as : (text : List ℕ) (e f : PatternError) → IsFirstFault text e → IsCaused text f → (f ≡ e) ⊎ (f ≡ NoMemory)
caused_as text e (Syntax a) h g = inl (same_fault text (Syntax a) e g h)
caused_as text e (Unsupported a) h g = inl (same_fault text (Unsupported a) e g h)
caused_as text e (CountTooLarge a) h g = inl (same_fault text (CountTooLarge a) e g h)
caused_as text e NoMemory h g = inr refl

-- a pattern has no syntax fault
no_syntax : (text : List ℕ) (tree : Tree) (p : ℕ) → IsPattern text tree → IsSyntaxAt text p → ⊥
no_syntax text tree p h fault = by_order (lt_or_same p (length text) fault.within)
  where
    by_order : (p < length text) ⊎ (p ≡ length text) → ⊥
    by_order (inl lt) = fault.stops lt (
      drop (p + 1) text,
      tree,
      subst (λ (xs : List ℕ). IsPattern xs tree) (sym (take-append-drop (p + 1) text)) h,
    )
    by_order (inr same) = fault.ends same tree h

-- a text of the grammar within the limits is refused only where the call is out of memory
pub caused_by_memory : (text : List ℕ) (tree : Tree) (e : PatternError) → IsPattern text tree → IsWithinLimits text
    → IsCaused text e → e ≡ NoMemory
caused_by_memory text tree (Syntax a) h limits (p, at_p, clear, apart, small, fault) =
    absurd (no_syntax text tree p h fault)
caused_by_memory text tree (Unsupported a) h limits (p, at_p, clear, u) = absurd ((limits p).0 u)
caused_by_memory text tree (CountTooLarge a) h limits (p, at_p, clear, apart, u) = absurd ((limits p).1 u)
caused_by_memory text tree NoMemory h limits g = refl
