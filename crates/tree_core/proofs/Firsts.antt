-- The plan of a list's first file answers the first that is a file, and asks for each up to it; so does the plan of the
-- first that exists.
use Rattle.std.proofs.Common.{◌≡◌, Bool, true, false, cond, List, [], ◌∷◌, Some, refl}
use Rattle.tree_core.specs.declared.question.Question.TheVariants.{File, Exists}
use Rattle.sugar_path.specs.Path.{Path, text_of}
use Rattle.tree_core.specs.Tree.{Files}
use Rattle.tree_core.specs.Plan.{Done, answer, asked, ◌>>=◌, file, first_file, exists, first_existing}
use Rattle.tree_core.specs.First.{is_key, first_key, up_to_first, is_there, first_there, up_to_first_there}

pub answer-first_file : (t : Files) (ps : List Path) → answer t (first_file ps) ≡ first_key t ps
unfolding answer ◌>>=◌ file
answer-first_file t [] = refl
answer-first_file t (p ∷ ps) = by_test (is_key t p) (answer-first_file t ps)
  where
    by_test : (b : Bool) → answer t (first_file ps) ≡ first_key t ps
        → answer t (cond b (Done (Some p)) (first_file ps)) ≡ cond b (Some p) (first_key t ps)
    by_test true rest = refl
    by_test false rest = rest

pub asked-first_file : (t : Files) (ps : List Path) → asked t (first_file ps) ≡ up_to_first t ps
unfolding answer asked ◌>>=◌ file
asked-first_file t [] = refl
asked-first_file t (p ∷ ps) = by_test (is_key t p) (asked-first_file t ps)
  where
    by_test : (b : Bool) → asked t (first_file ps) ≡ up_to_first t ps
        → File (text_of p) ∷ asked t (cond b (Done (Some p)) (first_file ps)) ≡ File (text_of p) ∷ cond b []
        (up_to_first t ps)
    by_test true rest = refl
    by_test false rest = λ i. File (text_of p) ∷ rest i

pub answer-first_existing : (t : Files) (ps : List Path) → answer t (first_existing ps) ≡ first_there t ps
unfolding answer ◌>>=◌ exists
answer-first_existing t [] = refl
answer-first_existing t (p ∷ ps) = by_test (is_there t p) (answer-first_existing t ps)
  where
    by_test : (b : Bool) → answer t (first_existing ps) ≡ first_there t ps
        → answer t (cond b (Done (Some p)) (first_existing ps)) ≡ cond b (Some p) (first_there t ps)
    by_test true rest = refl
    by_test false rest = rest

pub asked-first_existing : (t : Files) (ps : List Path) → asked t (first_existing ps) ≡ up_to_first_there t ps
unfolding answer asked ◌>>=◌ exists
asked-first_existing t [] = refl
asked-first_existing t (p ∷ ps) = by_test (is_there t p) (asked-first_existing t ps)
  where
    by_test : (b : Bool) → asked t (first_existing ps) ≡ up_to_first_there t ps
        → Exists (text_of p) ∷ asked t (cond b (Done (Some p)) (first_existing ps)) ≡ Exists (text_of p) ∷ cond b []
        (up_to_first_there t ps)
    by_test true rest = refl
    by_test false rest = λ i. Exists (text_of p) ∷ rest i
