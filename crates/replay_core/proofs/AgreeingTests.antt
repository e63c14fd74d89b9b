-- The test tells whether a tree agrees with a trail.
use Rattle.std.proofs.Common.{
  ◌≡◌,
  ℕ,
  Bool,
  true,
  false,
  ◌&&◌,
  List,
  [],
  ◌∷◌,
  Option,
  Some,
  None,
  IsTrue,
  refl,
  sym,
  ap,
  ◌∙◌,
  inl,
  inr,
}
use Rattle.std.specs.List.{list_all}
use Rattle.std.proofs.lemmas.Slice.Eq.{bytes_eq-Decides}
use Rattle.sugar_path.proofs.Bools.{and_left, and_right}
use Rattle.tree_core.specs.declared.question.Question.{Question}
use Rattle.tree_core.specs.declared.question.Reply.{Reply}
use Rattle.tree_core.specs.declared.question.Reply.TheVariants.{Flag, Bytes, Name}
use Rattle.tree_core.specs.Question.{question_eq, reply_in}
use Rattle.tree_core.specs.Tree.{Files, reply, Agrees}
use Rattle.tree_core.proofs.Replies.{question_eq-is, chosen}
use Rattle.replay_core.specs.Agreeing.{same_flag, same_text, same_reply, allows, agrees_with}

flag_is : (a b : Bool) → same_flag a b ≡ true → a ≡ b
flag_is true b h = sym h
flag_is false true h = cc
flag_is false false h = refl

text_is : (a b : Option (List ℕ)) → same_text a b ≡ true → a ≡ b
text_is None None h = refl
text_is None (Some b) h = cc
text_is (Some a) None h = cc
text_is (Some a) (Some b) h = ap Some ((bytes_eq-Decides a b).0 h)

reply_is : (a b : Reply) → same_reply a b ≡ true → a ≡ b
reply_is (Flag a) (Flag b) h = ap Flag (flag_is a b h)
reply_is (Flag a) (Bytes b) h = cc
reply_is (Flag a) (Name b) h = cc
reply_is (Bytes a) (Flag b) h = cc
reply_is (Bytes a) (Bytes b) h = ap Bytes (text_is a b h)
reply_is (Bytes a) (Name b) h = cc
reply_is (Name a) (Flag b) h = cc
reply_is (Name a) (Bytes b) h = cc
reply_is (Name a) (Name b) h = ap Name (text_is a b h)

same_flag-refl : (b : Bool) → same_flag b b ≡ true
same_flag-refl true = refl
same_flag-refl false = refl

same_text-refl : (o : Option (List ℕ)) → same_text o o ≡ true
same_text-refl None = refl
same_text-refl (Some a) = (bytes_eq-Decides a a).1 refl

same_reply-refl : (r : Reply) → same_reply r r ≡ true
same_reply-refl (Flag b) = same_flag-refl b
same_reply-refl (Bytes o) = same_text-refl o
same_reply-refl (Name o) = same_text-refl o

at_step : (trail steps : List (Question × Reply)) (t : Files) (q : Question) (r x : Reply)
    → list_all (λ step. allows (reply_in trail step.0) (reply t step.0)) steps ≡ true → reply_in steps q ≡ Some x
    → reply_in trail q ≡ Some r → r ≡ reply t q
at_step trail [] t q r x h found is = cc
at_step trail (s ∷ steps) t q r x h found is =
    elim (chosen (question_eq s.0 q) (Some s.1) _ (Some x) found) [
      | inl w ↦
          let same : s.0 ≡ q = question_eq-is s.0 q w.0 in
          reply_is r (reply t q) (ap (λ o. allows o (reply t q)) (sym is)
          ∙ ap (λ p. allows (reply_in trail p) (reply t p)) (sym same) ∙ and_left _ _ h)
      | inr w ↦ at_step trail steps t q r x (and_right (allows (reply_in trail s.0) (reply t s.0)) _ h) w.1 is
    ]

-- a tree that passes the test agrees with the trail
pub agrees_with-is : (trail : List (Question × Reply)) (t : Files) → IsTrue (agrees_with trail t) → Agrees t trail
agrees_with-is trail t h = λ q r is. at_step trail trail t q r r h is is

allows-own : (t : Files) (q : Question) (o : Option Reply) → ((r : Reply) → o ≡ Some r → r ≡ reply t q)
    → allows o (reply t q) ≡ true
allows-own t q None h = refl
allows-own t q (Some r) h = ap (λ x. same_reply x (reply t q)) (h r refl) ∙ same_reply-refl (reply t q)

each_allows : (trail steps : List (Question × Reply)) (t : Files) → Agrees t trail
    → list_all (λ step. allows (reply_in trail step.0) (reply t step.0)) steps ≡ true
each_allows trail [] t h = refl
each_allows trail (s ∷ steps) t h =
    ap (λ b. b && list_all (λ step. allows (reply_in trail step.0) (reply t step.0)) steps)
    (allows-own t s.0 (reply_in trail s.0) (h s.0))
    ∙ each_allows trail steps t h

-- a tree that agrees with the trail passes the test
pub agrees_with-passes : (trail : List (Question × Reply)) (t : Files) → Agrees t trail → IsTrue (agrees_with trail t)
agrees_with-passes trail t h = each_allows trail trail t h
