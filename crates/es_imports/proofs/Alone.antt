-- The marks that begin nothing longer in code are pieces of their own.
use Rattle.std.proofs.Common.{
  ◌≡◌,
  ◌<◌,
  ◌==◌,
  ℕ,
  true,
  List,
  [],
  ◌∷◌,
  length,
  get_or,
  inl,
  inr,
  refl,
  subst,
  sym,
  eqb-true,
  arith,
}
use Rattle.std.specs.Prelude.{◌||◌, Ok}
use Rattle.std.proofs.Math.Bool.{and-false}
use Rattle.std.proofs.lemmas.Bool.{or_cases}
use Rattle.es_imports.specs.declared.piece.Kind.TheVariants as kinds
use Rattle.es_imports.specs.declared.piece.Goal.{Goal}
use Rattle.es_imports.specs.Literals.{piece}
use Rattle.es_imports.specs.Punctuators.{stands_alone}
use Rattle.es_imports.specs.Runs.{run}
use Rattle.es_imports.specs.Tokens.{code_at}

-- the byte is a piece, whatever stands behind it
abbrev IsAlone : Goal → List ℕ → ℕ → Type 0
IsAlone goal cs c = code_at goal (c ∷ cs) ≡ Ok (piece kinds.Punctuator 1)

alone_open : (goal : Goal) (cs : List ℕ) → IsAlone goal cs 40
unfolding run
alone_open goal [] = rw (and-false goal.begins_line) refl
alone_open goal (d ∷ cs) = rw (and-false goal.begins_line) refl

alone_close : (goal : Goal) (cs : List ℕ) → IsAlone goal cs 41
unfolding run
alone_close goal [] = rw (and-false goal.begins_line) refl
alone_close goal (d ∷ cs) = rw (and-false goal.begins_line) refl

alone_brace : (goal : Goal) (cs : List ℕ) → IsAlone goal cs 123
unfolding run
alone_brace goal [] = rw (and-false goal.begins_line) refl
alone_brace goal (d ∷ cs) = rw (and-false goal.begins_line) refl

alone_bracket : (goal : Goal) (cs : List ℕ) → IsAlone goal cs 91
unfolding run
alone_bracket goal [] = rw (and-false goal.begins_line) refl
alone_bracket goal (d ∷ cs) = rw (and-false goal.begins_line) refl

alone_closing : (goal : Goal) (cs : List ℕ) → IsAlone goal cs 93
unfolding run
alone_closing goal [] = rw (and-false goal.begins_line) refl
alone_closing goal (d ∷ cs) = rw (and-false goal.begins_line) refl

alone_comma : (goal : Goal) (cs : List ℕ) → IsAlone goal cs 44
unfolding run
alone_comma goal [] = rw (and-false goal.begins_line) refl
alone_comma goal (d ∷ cs) = rw (and-false goal.begins_line) refl

alone_semicolon : (goal : Goal) (cs : List ℕ) → IsAlone goal cs 59
unfolding run
alone_semicolon goal [] = rw (and-false goal.begins_line) refl
alone_semicolon goal (d ∷ cs) = rw (and-false goal.begins_line) refl

alone_colon : (goal : Goal) (cs : List ℕ) → IsAlone goal cs 58
unfolding run
alone_colon goal [] = rw (and-false goal.begins_line) refl
alone_colon goal (d ∷ cs) = rw (and-false goal.begins_line) refl

-- each of the marks
alone : (goal : Goal) (cs : List ℕ) (c : ℕ) → stands_alone c ≡ true → IsAlone goal cs c
alone goal cs c = at7
  where
    one : (k : ℕ) → IsAlone goal cs k → (c == k) ≡ true → IsAlone goal cs c
    one k is same = subst (λ (n : ℕ). IsAlone goal cs n) (sym (eqb-true c k same)) is

    at0 : (c == 40) ≡ true → IsAlone goal cs c
    at0 h = one 40 (alone_open goal cs) h

    at1 : (c == 40 || c == 41) ≡ true → IsAlone goal cs c
    at1 h = elim (or_cases (c == 40) (c == 41) h)
        [ inl before ↦ at0 before | inr same ↦ one 41 (alone_close goal cs) same ]

    at2 : (c == 40 || c == 41 || c == 123) ≡ true → IsAlone goal cs c
    at2 h = elim (or_cases (c == 40 || c == 41) (c == 123) h)
        [ inl before ↦ at1 before | inr same ↦ one 123 (alone_brace goal cs) same ]

    at3 : (c == 40 || c == 41 || c == 123 || c == 91) ≡ true → IsAlone goal cs c
    at3 h = elim (or_cases (c == 40 || c == 41 || c == 123) (c == 91) h)
        [ inl before ↦ at2 before | inr same ↦ one 91 (alone_bracket goal cs) same ]

    at4 : (c == 40 || c == 41 || c == 123 || c == 91 || c == 93) ≡ true → IsAlone goal cs c
    at4 h = elim (or_cases (c == 40 || c == 41 || c == 123 || c == 91) (c == 93) h)
        [ inl before ↦ at3 before | inr same ↦ one 93 (alone_closing goal cs) same ]

    at5 : (c == 40 || c == 41 || c == 123 || c == 91 || c == 93 || c == 44) ≡ true → IsAlone goal cs c
    at5 h = elim (or_cases (c == 40 || c == 41 || c == 123 || c == 91 || c == 93) (c == 44) h)
        [ inl before ↦ at4 before | inr same ↦ one 44 (alone_comma goal cs) same ]

    at6 : (c == 40 || c == 41 || c == 123 || c == 91 || c == 93 || c == 44 || c == 59) ≡ true → IsAlone goal cs c
    at6 h = elim (or_cases (c == 40 || c == 41 || c == 123 || c == 91 || c == 93 || c == 44) (c == 59) h)
        [ inl before ↦ at5 before | inr same ↦ one 59 (alone_semicolon goal cs) same ]

    at7 : (c == 40 || c == 41 || c == 123 || c == 91 || c == 93 || c == 44 || c == 59 || c == 58) ≡ true
        → IsAlone goal cs c
    at7 h = elim (or_cases (c == 40 || c == 41 || c == 123 || c == 91 || c == 93 || c == 44 || c == 59) (c == 58) h)
        [ inl before ↦ at6 before | inr same ↦ one 58 (alone_colon goal cs) same ]

pub alone_at : (goal : Goal) (t : List ℕ) → 0 < length t → stands_alone (get_or t 0 0) ≡ true
    → code_at goal t ≡ Ok (piece kinds.Punctuator 1)
alone_at goal [] some h = absurd (omega arith)
alone_at goal (c ∷ cs) some h = alone goal cs c h
