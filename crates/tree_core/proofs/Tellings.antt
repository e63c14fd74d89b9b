-- What a plan tells of a tree goes by its steps.
use Rattle.std.proofs.Common.{◌≡◌, Bool, true, false, cond, List, Option, Result, Ok, Err, refl, ap, ◌∙◌}
use Rattle.sugar_path.specs.Path.{Path}
use Rattle.tree_core.specs.declared.question.Question.{Question}
use Rattle.tree_core.specs.Tree.{Files}
use Rattle.tree_core.specs.Plan.{
  Plan,
  Done,
  answer,
  asked,
  ◌>>=◌,
  ◌>>=?◌,
  on_ok,
  file,
  folder_there,
  exists,
  read,
  canon,
  first_file,
  first_existing,
}
use Rattle.tree_core.specs.Asks.{raised, widened}
use Rattle.tree_core.specs.Rows.{Going, Row, end_of, order, or_refused, decided, refuses_by, ends_by, never_refuses}
use Rattle.tree_core.specs.Told.{
  Told,
  told,
  unasked,
  made,
  where_ok,
  file_on,
  folder_there_on,
  exists_on,
  read_on,
  canon_on,
  first_file_on,
  first_existing_on,
}
use Rattle.tree_core.specs.Told as on
use Rattle.tree_core.proofs.Asking.{answer-then, asked-then, answer-done, asked-done}
use Rattle.tree_core.proofs.Firsts.{answer-first_file, asked-first_file, answer-first_existing, asked-first_existing}
use Rattle.tree_core.proofs.RowLaws.{answer-made, asked-made}

-- an equal result and equal questions are told alike
pub told-is : {A : Type 0} {m n : Told A} → m.result ≡ n.result → m.questions ≡ n.questions → m ≡ n
told-is result questions = λ i. record { result = result i; questions = questions i }

pub told-done : {A : Type 0} (t : Files) (a : A) → told t (Done a) ≡ unasked a
told-done t a = told-is (answer-done t a) (asked-done t a)

pub told-then : {A B : Type 0} (t : Files) (p : Plan A) (k : A → Plan B)
    → told t (p >>= k) ≡ on.◌>>=◌ (told t p) (λ a. told t (k a))
told-then t p k = told-is (answer-then t p k) (asked-then t p k)

-- searches that go on alike by each result
pub next_alike : {A B : Type 0} (m : Told A) (f g : A → Told B) → ((a : A) → f a ≡ g a) → on.◌>>=◌ m f ≡ on.◌>>=◌ m g
next_alike m f g same = ap (λ next. on.◌>>=◌ m next) (λ i a. same a i)

-- a plan, and then the plan that its answer gives, by what each of them tells
pub told-by : {A B : Type 0} {m : Told A} {f : A → Told B} (t : Files) (p : Plan A) (k : A → Plan B) → told t p ≡ m
    → ((a : A) → told t (k a) ≡ f a) → told t (p >>= k) ≡ on.◌>>=◌ m f
told-by {m = m} {f = f} t p k first rest =
    told-then t p k ∙ ap (λ x. on.◌>>=◌ x (λ a. told t (k a))) first ∙ next_alike m (λ a. told t (k a)) f rest

-- a plan that may refuse, and then the plan that its answer gives, by what each of them tells
pub told-refusing : {A B X : Type 0} {m : Told (Result A X)} {f : A → Told (Result B X)} (t : Files)
    (p : Plan (Result A X)) (k : A → Plan (Result B X)) → told t p ≡ m → ((a : A) → told t (k a) ≡ f a)
    → told t (p >>=? k) ≡ on.◌>>=?◌ m f
told-refusing {A = A} {B = B} {X = X} {f = f} t p k first rest = told-by t p (on_ok k) first by_result
  where
    by_result : (r : Result A X) → told t (on_ok k r) ≡ where_ok f r
    by_result (Ok a) = rest a
    by_result (Err x) = told-done t (Err x)

-- a result that is decided without a question, and then the plan that it gives
pub told-goes_on : {A B X : Type 0} {f : A → Told (Result B X)} (t : Files) (r : Result A X) (k : A → Plan (Result B X))
    → ((a : A) → told t (k a) ≡ f a) → told t (Done r >>=? k) ≡ on.◌>>=?◌ (unasked r) f
told-goes_on t r k rest = told-refusing t (Done r) k (told-done t r) rest

-- a plan whose answer is made into another without a question
pub told-made : {A B : Type 0} (t : Files) (p : Plan A) (f : A → B) → told t (p >>= λ a. Done (f a)) ≡ made f (told t p)
told-made t p f = told-is (answer-made t p f) (asked-made t p f)

pub told-raised : {A X Y : Type 0} (t : Files) (wide : X → Y) (p : Plan (Result A X))
    → told t (raised wide p) ≡ made (widened wide) (told t p)
told-raised t wide p = told-made t p (widened wide)

pub told-order : {R X : Type 0} (t : Files) (rows : Row R R X) → told t (order rows) ≡ made end_of (told t rows)
unfolding order
told-order t rows = told-made t rows end_of

pub told-decided : {A R X : Type 0} (t : Files) (r : Result A X) → told t (decided {R = R} r) ≡ unasked (or_refused r)
told-decided t r = told-done t (or_refused r)

pub told-refuses_by : {A R X : Type 0} (t : Files) (p : Plan (Result A X))
    → told t (refuses_by {R = R} p) ≡ made or_refused (told t p)
unfolding refuses_by
told-refuses_by t p = told-made t p or_refused

pub told-ends_by : {A R X : Type 0} (t : Files) (p : Plan (Result R X))
    → told t (ends_by {A = A} p) ≡ made (λ r. Err r) (told t p)
unfolding ends_by
told-ends_by t p = told-made t p (λ r. Err r)

pub told-never_refuses : {A X : Type 0} (t : Files) (p : Plan A)
    → told t (never_refuses {X = X} p) ≡ made (λ a. Ok a) (told t p)
unfolding never_refuses
told-never_refuses t p = told-made t p (λ a. Ok a)

pub told-file : (t : Files) (p : Path) → told t (file p) ≡ file_on t p
unfolding answer asked file
told-file t p = refl

pub told-folder_there : (t : Files) (p : Path) → told t (folder_there p) ≡ folder_there_on t p
unfolding answer asked folder_there
told-folder_there t p = refl

pub told-exists : (t : Files) (p : Path) → told t (exists p) ≡ exists_on t p
unfolding answer asked exists
told-exists t p = refl

pub told-read : (t : Files) (p : Path) → told t (read p) ≡ read_on t p
unfolding answer asked read
told-read t p = refl

pub told-canon : (t : Files) (p : Path) → told t (canon p) ≡ canon_on t p
unfolding answer asked canon
told-canon t p = refl

pub told-first_file : (t : Files) (ps : List Path) → told t (first_file ps) ≡ first_file_on t ps
told-first_file t ps = told-is (answer-first_file t ps) (asked-first_file t ps)

pub told-first_existing : (t : Files) (ps : List Path) → told t (first_existing ps) ≡ first_existing_on t ps
told-first_existing t ps = told-is (answer-first_existing t ps) (asked-first_existing t ps)

-- a test between two plans
pub told-if : {A : Type 0} {m n : Told A} (t : Files) (b : Bool) (p q : Plan A) → told t p ≡ m → told t q ≡ n
    → told t (cond b p q) ≡ cond b m n
told-if t true p q first second = first
told-if t false p q first second = second
