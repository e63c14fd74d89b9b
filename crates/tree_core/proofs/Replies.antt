-- What one more step of a trail says of a question.
use Rattle.sugar_path.proofs.Bools.{and_left, and_right}
use Rattle.std.proofs.Common.{
  ◌≡◌,
  ◌<◌,
  ℕ,
  zero,
  suc,
  length,
  get_or,
  arith,
  Bool,
  true,
  false,
  cond,
  ◌⊎◌,
  inl,
  inr,
  refl,
  sym,
  ap,
  ◌∙◌,
  List,
  [],
  ◌∷◌,
  ◌++◌,
  Result,
  Ok,
  Err,
  OnOk,
  OnErr,
  Some,
  None,
  subst,
}
use Rattle.std.proofs.lemmas.Slice.Eq.{bytes_eq-Decides}
use Rattle.tree_core.specs.declared.question.Question.{Question}
use Rattle.tree_core.specs.declared.question.Question.TheVariants.{File, Dir, Exists, Read, Canon}
use Rattle.tree_core.specs.declared.question.Reply.{Reply}
use Rattle.tree_core.specs.Question.{path_asked, same_kind, question_eq, reply_in, fits, all_fit}
use Rattle.tree_core.specs.Tree.{Files, reply, Agrees}

same_kind-is : (a b : Question) → same_kind a b ≡ true → path_asked a ≡ path_asked b → a ≡ b
same_kind-is (File a) (File b) kind path = ap File path
same_kind-is (File a) (Dir b) kind path = cc
same_kind-is (File a) (Exists b) kind path = cc
same_kind-is (File a) (Read b) kind path = cc
same_kind-is (File a) (Canon b) kind path = cc
same_kind-is (Dir a) (File b) kind path = cc
same_kind-is (Dir a) (Dir b) kind path = ap Dir path
same_kind-is (Dir a) (Exists b) kind path = cc
same_kind-is (Dir a) (Read b) kind path = cc
same_kind-is (Dir a) (Canon b) kind path = cc
same_kind-is (Exists a) (File b) kind path = cc
same_kind-is (Exists a) (Dir b) kind path = cc
same_kind-is (Exists a) (Exists b) kind path = ap Exists path
same_kind-is (Exists a) (Read b) kind path = cc
same_kind-is (Exists a) (Canon b) kind path = cc
same_kind-is (Read a) (File b) kind path = cc
same_kind-is (Read a) (Dir b) kind path = cc
same_kind-is (Read a) (Exists b) kind path = cc
same_kind-is (Read a) (Read b) kind path = ap Read path
same_kind-is (Read a) (Canon b) kind path = cc
same_kind-is (Canon a) (File b) kind path = cc
same_kind-is (Canon a) (Dir b) kind path = cc
same_kind-is (Canon a) (Exists b) kind path = cc
same_kind-is (Canon a) (Read b) kind path = cc
same_kind-is (Canon a) (Canon b) kind path = ap Canon path

same_kind-refl : (a : Question) → same_kind a a ≡ true
same_kind-refl (File a) = refl
same_kind-refl (Dir a) = refl
same_kind-refl (Exists a) = refl
same_kind-refl (Read a) = refl
same_kind-refl (Canon a) = refl

pub question_eq-is : (a b : Question) → question_eq a b ≡ true → a ≡ b
question_eq-is a b h = same_kind-is a b (and_left (same_kind a b) _ h)
    ((bytes_eq-Decides (path_asked a) (path_asked b)).0 (and_right (same_kind a b) _ h))

pub question_eq-refl : (a : Question) → question_eq a a ≡ true
question_eq-refl a = rw (same_kind-refl a) ((bytes_eq-Decides (path_asked a) (path_asked a)).1 refl)

pub chosen : {A : Type 0} (b : Bool) (x y z : A) → cond b x y ≡ z → ((b ≡ true) × (x ≡ z)) ⊎ ((b ≡ false) × (y ≡ z))
chosen true x y z h = inl (refl, h)
chosen false x y z h = inr (refl, h)

-- the first reply after one more step is the first before it, or that step's
pub reply_in-push : (steps : List (Question × Reply)) (q : Question) (x : Reply) (p : Question) (r : Reply)
    → reply_in (steps ++ (q, x) ∷ []) p ≡ Some r → (reply_in steps p ≡ Some r) ⊎ ((question_eq q p ≡ true) × (x ≡ r))
reply_in-push [] q x p r is =
    elim (chosen (question_eq q p) (Some x) None (Some r) is) [ inl w ↦ inr (w.0, cc) | inr w ↦ cc ]
reply_in-push (s ∷ steps) q x p r is =
    elim (chosen (question_eq s.0 p) (Some s.1) _ (Some r) is) [
      | inl w ↦ inl (ap (λ b. cond b (Some s.1) (reply_in steps p)) w.0 ∙ w.1)
      | inr w ↦ elim (reply_in-push steps q x p r w.1) [
        | inl h ↦ inl (ap (λ b. cond b (Some s.1) (reply_in steps p)) w.0 ∙ h)
        | inr h ↦ inr h
      ]
    ]

-- a tree agrees with one more reply of its own
pub agrees-push : (t : Files) (steps : List (Question × Reply)) (q : Question) (x : Reply) → Agrees t steps
    → x ≡ reply t q → Agrees t (steps ++ (q, x) ∷ [])
agrees-push t steps q x h e = λ p r is.
    elim (reply_in-push steps q x p r is) [
      | inl w ↦ h p r w
      | inr w ↦ let same : q ≡ p = question_eq-is q p w.0 in cc
    ]

-- what is recorded is of the question's kind
pub fits-reply_in : (steps : List (Question × Reply)) (q : Question) (r : Reply) → all_fit steps ≡ true
    → reply_in steps q ≡ Some r → fits q r ≡ true
fits-reply_in [] q r all is = cc
fits-reply_in (s ∷ steps) q r all is =
    elim (chosen (question_eq s.0 q) (Some s.1) _ (Some r) is) [
      | inl w ↦ let same : s.0 ≡ q =
          question_eq-is s.0 q w.0 in let value : s.1 ≡ r = cc in rw (← same, ← value) (and_left _ _ all)
      | inr w ↦ fits-reply_in steps q r (and_right (fits s.0 s.1) _ all) w.1
    ]

pub fits-at : (steps : List (Question × Reply)) (i : ℕ) (d : Question × Reply) → all_fit steps ≡ true → i < length steps
    → fits (get_or steps i d).0 (get_or steps i d).1 ≡ true
fits-at [] i d all lt = absurd (omega (arith, lt))
fits-at (s ∷ steps) zero d all lt = and_left (fits s.0 s.1) _ all
fits-at (s ∷ steps) (suc i) d all lt = fits-at steps i d (and_right (fits s.0 s.1) _ all) (omega (arith, lt))

pub all_fit-push : (steps : List (Question × Reply)) (q : Question) (r : Reply) → all_fit steps ≡ true → fits q r ≡ true
    → all_fit (steps ++ (q, r) ∷ []) ≡ true
all_fit-push [] q r all fit = rw fit
all_fit-push (s ∷ steps) q r all fit =
    rw (and_left (fits s.0 s.1) _ all) (all_fit-push steps q r (and_right (fits s.0 s.1) _ all) fit)

pub pushed : {A E : Type 0} (result : Result A E) (t : Files) (old new : List (Question × Reply)) (q : Question)
    (x : Reply) → OnOk result (new ≡ old ++ (q, x) ∷ []) → OnErr result (new ≡ old) → Agrees t old → x ≡ reply t q
    → Agrees t new
pushed (Ok _) t old new q x ok err h e =
    let P : List (Question × Reply) → Type 0 = Agrees t in subst P (sym ok) (agrees-push t old q x h e)
pushed (Err _) t old new q x ok err h e = let P : List (Question × Reply) → Type 0 = Agrees t in subst P (sym err) h
