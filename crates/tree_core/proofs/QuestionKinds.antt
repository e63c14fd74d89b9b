-- What the kind and the path of a question say of it.
use Rattle.std.proofs.Common.{◌≡◌, ◌==◌, ◌&&◌, ℕ, List, bytes_eq, refl, ap, ◌∙◌}
use Rattle.tree_core.specs.declared.question.Question.{Question}
use Rattle.tree_core.specs.declared.question.Question.TheVariants.{File, Dir, Exists, Read, Canon}
use Rattle.tree_core.specs.declared.question.QuestionKind.{QuestionKind}
use Rattle.tree_core.specs.declared.question.QuestionKind.TheVariants as kind
use Rattle.tree_core.specs.Question.{path_asked, same_kind, question_eq}
use Rattle.tree_core.specs.QuestionKind.{kind_of, question_on, number_of}

pub kind_of-on : (k : QuestionKind) (p : List ℕ) → kind_of (question_on k p) ≡ k
kind_of-on kind.File p = refl
kind_of-on kind.Dir p = refl
kind_of-on kind.Exists p = refl
kind_of-on kind.Read p = refl
kind_of-on kind.Canon p = refl

pub path_asked-on : (k : QuestionKind) (p : List ℕ) → path_asked (question_on k p) ≡ p
path_asked-on kind.File p = refl
path_asked-on kind.Dir p = refl
path_asked-on kind.Exists p = refl
path_asked-on kind.Read p = refl
path_asked-on kind.Canon p = refl

question_on-of : (q : Question) → question_on (kind_of q) (path_asked q) ≡ q
question_on-of (File p) = refl
question_on-of (Dir p) = refl
question_on-of (Exists p) = refl
question_on-of (Read p) = refl
question_on-of (Canon p) = refl

-- what asks the same of the same path is the question
pub same_question : (q : Question) (k : QuestionKind) (p : List ℕ) → k ≡ kind_of q → p ≡ path_asked q
    → question_on k p ≡ q
same_question q k p kind path = ap (λ k. question_on k p) kind ∙ ap (question_on (kind_of q)) path ∙ question_on-of q

same_kind-numbers : (a b : Question) → same_kind a b ≡ (number_of (kind_of a) == number_of (kind_of b))
same_kind-numbers (File p) (File q) = refl
same_kind-numbers (File p) (Dir q) = refl
same_kind-numbers (File p) (Exists q) = refl
same_kind-numbers (File p) (Read q) = refl
same_kind-numbers (File p) (Canon q) = refl
same_kind-numbers (Dir p) (File q) = refl
same_kind-numbers (Dir p) (Dir q) = refl
same_kind-numbers (Dir p) (Exists q) = refl
same_kind-numbers (Dir p) (Read q) = refl
same_kind-numbers (Dir p) (Canon q) = refl
same_kind-numbers (Exists p) (File q) = refl
same_kind-numbers (Exists p) (Dir q) = refl
same_kind-numbers (Exists p) (Exists q) = refl
same_kind-numbers (Exists p) (Read q) = refl
same_kind-numbers (Exists p) (Canon q) = refl
same_kind-numbers (Read p) (File q) = refl
same_kind-numbers (Read p) (Dir q) = refl
same_kind-numbers (Read p) (Exists q) = refl
same_kind-numbers (Read p) (Read q) = refl
same_kind-numbers (Read p) (Canon q) = refl
same_kind-numbers (Canon p) (File q) = refl
same_kind-numbers (Canon p) (Dir q) = refl
same_kind-numbers (Canon p) (Exists q) = refl
same_kind-numbers (Canon p) (Read q) = refl
same_kind-numbers (Canon p) (Canon q) = refl

pub question_eq-on : (a : Question) (k : QuestionKind) (p : List ℕ)
    → question_eq a (question_on k p) ≡ ((number_of (kind_of a) == number_of k) && bytes_eq (path_asked a) p)
question_eq-on a k p =
    ap (λ b. b && bytes_eq (path_asked a) (path_asked (question_on k p)))
    (same_kind-numbers a (question_on k p) ∙ ap (λ j. number_of (kind_of a) == number_of j) (kind_of-on k p))
    ∙ ap (λ u. (number_of (kind_of a) == number_of k) && bytes_eq (path_asked a) u) (path_asked-on k p)
