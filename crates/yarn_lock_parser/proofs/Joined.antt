-- The texts of the entries, joined, are the whole text.
use Rattle.std.proofs.Common.{
  ◌≡◌,
  ◌<◌,
  ◌≤◌,
  ℕ,
  zero,
  suc,
  List,
  [],
  ◌∷◌,
  ◌++◌,
  length,
  refl,
  sym,
  ap,
  ◌∙◌,
  Option,
  Some,
  None,
  arith,
}
use Rattle.std.specs.Prelude.{unwrap_or}
use Rattle.std.specs.List.{concat}
use Rattle.yarn_lock_parser.specs.Front.{IsRest, front}
use Rattle.yarn_lock_parser.specs.Cut.{after_first_empty_line, entry_text, entry_texts}
use Rattle.yarn_lock_parser.specs.Laws.{EntriesAreTheText}
use Rattle.yarn_lock_parser.proofs.Every.{every-none, every-more}
use Rattle.yarn_lock_parser.proofs.Fronts.{front-append}
use Rattle.yarn_lock_parser.proofs.Locks.{entry_text-cut, entry_text-shortens}

front-whole : (t r : List ℕ) → IsRest t r → front t r ++ r ≡ t
front-whole t r h =
    ap (λ (s : List ℕ). front s r ++ r) h.is ∙ ap (λ (s : List ℕ). s ++ r) (front-append h.prior r) ∙ sym h.is

entry_text-front : (t : List ℕ) (x : List ℕ × List ℕ) → entry_text t ≡ Some x → front t x.1 ≡ x.0
unfolding entry_text
entry_text-front [] x e = cc
entry_text-front (c ∷ cs) x e =
    let rest = unwrap_or (after_first_empty_line (c ∷ cs)) [] in
    let parts : (front (c ∷ cs) rest, rest) ≡ x = cc in
    rw (← parts) refl

entry_text-joined : (t : List ℕ) (x : List ℕ × List ℕ) → entry_text t ≡ Some x → x.0 ++ x.1 ≡ t
entry_text-joined t x e =
    ap (λ (s : List ℕ). s ++ x.1) (sym (entry_text-front t x e))
    ∙ front-whole t x.1 (entry_text-cut t x e).later.rest_is

entry_text-none : (t : List ℕ) → entry_text t ≡ None → t ≡ []
unfolding entry_text
entry_text-none [] e = refl
entry_text-none (c ∷ cs) e = cc

by_first : (t : List ℕ) → ((u : List ℕ) → length u < length t → concat (entry_texts u) ≡ u)
    → (o : Option (List ℕ × List ℕ)) → entry_text t ≡ o → concat (entry_texts t) ≡ t
by_first t shorter None e =
    ap (λ (read : List (List ℕ) × List ℕ). concat read.0) (every-none entry_text t e) ∙ sym (entry_text-none t e)
by_first t shorter (Some x) e =
    ap (λ (read : List (List ℕ) × List ℕ). concat read.0) (every-more entry_text entry_text-shortens t x e)
    ∙ ap (λ (u : List ℕ). x.0 ++ u) (shorter x.1 (entry_text-shortens t x e))
    ∙ entry_text-joined t x e

by_length : (n : ℕ) (t : List ℕ) → length t ≤ n → concat (entry_texts t) ≡ t
by_length zero t h = by_first t (λ u l. absurd (omega arith)) (entry_text t) refl
by_length (suc n) t h = by_first t (λ u l. by_length n u (omega arith)) (entry_text t) refl

pub entries-joined : EntriesAreTheText
entries-joined t = by_length (length t) t (omega arith)
