-- The numbers that a loop over a range has left.
use Rattle.std.proofs.Common.{
  ◌≡◌,
  ℕ,
  zero,
  suc,
  ◌+◌,
  ◌-◌,
  ◌<◌,
  ◌≤◌,
  List,
  [],
  ◌∷◌,
  ◌++◌,
  flat_map,
  refl,
  sym,
  ap,
  ◌∙◌,
  arith,
  append_assoc,
}
use Rattle.std.proofs.lemmas.List.{append-nil}
use Rattle.tree_core.specs.Tree.{Files}
use Rattle.generated_project.specs.Generated.{package_file, with_packages, with_text}
use Rattle.std.specs.List.{range_with_len}
use Rattle.std.specs.Prelude.{map}

-- from a first number on, where so many of all have been passed
abbrev pub numbers_left : ℕ → ℕ → ℕ → List ℕ
numbers_left first passed all = range_with_len (passed + first) (all - passed)

pub none_passed : (first all : ℕ) → numbers_left first 0 all ≡ range_with_len first all
none_passed first all =
    let a : 0 + first ≡ first = omega arith in
    let n : all - 0 ≡ all = omega arith in
    ap (λ k. range_with_len k (all - 0)) a ∙ ap (range_with_len first) n

pub one_passed : (first passed all : ℕ) → passed < all
    → numbers_left first passed all ≡ (passed + first) ∷ numbers_left first (passed + 1) all
one_passed first passed all lt =
    let n : all - passed ≡ suc (all - (passed + 1)) = omega arith in
    let a : passed + first + 1 ≡ passed + 1 + first = omega arith in
    ap (range_with_len (passed + first)) n ∙ ap (λ k. (passed + first) ∷ range_with_len k (all - (passed + 1))) a

pub all_passed : (first passed all : ℕ) → all ≤ passed → numbers_left first passed all ≡ []
all_passed first passed all le =
    let n : all - passed ≡ 0 = omega arith in
    ap (range_with_len (passed + first)) n

-- texts of numbers in order: before the first, one further, and behind the last
pub texts_begin : (f : ℕ → List ℕ) (first all : ℕ) (front text : List ℕ) → text ≡ front → front
    ++ flat_map f (range_with_len first all) ≡ text ++ flat_map f (numbers_left first 0 all)
texts_begin f first all front text is =
    ap (λ t. t ++ flat_map f (range_with_len first all)) (sym is)
    ∙ ap (λ ks. text ++ flat_map f ks) (sym (none_passed first all))

pub texts_go : (f : ℕ → List ℕ) (first passed all : ℕ) (whole text one new : List ℕ) → passed < all → whole ≡ text
    ++ flat_map f (numbers_left first passed all) → one ≡ f (passed + first) → new ≡ text ++ one → whole ≡ new
    ++ flat_map f (numbers_left first (passed + 1) all)
texts_go f first passed all whole text one new lt is one_is new_is =
    is ∙ ap (λ ks. text ++ flat_map f ks) (one_passed first passed all lt)
    ∙ sym (append_assoc text (f (passed + first)) (flat_map f (numbers_left first (passed + 1) all)))
    ∙ ap (λ t. (text ++ t) ++ flat_map f (numbers_left first (passed + 1) all)) (sym one_is)
    ∙ ap (λ t. t ++ flat_map f (numbers_left first (passed + 1) all)) (sym new_is)

pub texts_end : (f : ℕ → List ℕ) (first passed all : ℕ) (whole text : List ℕ) → all ≤ passed → whole ≡ text
    ++ flat_map f (numbers_left first passed all) → whole ≡ text
texts_end f first passed all whole text le is =
    is ∙ ap (λ ks. text ++ flat_map f ks) (all_passed first passed all le) ∙ append-nil text

-- values of numbers in order, one further
pub values_go : {X : Type 0} (f : ℕ → X) (first passed all : ℕ) (whole items : List X) (x : X) → passed < all
    → whole ≡ items ++ map f (numbers_left first passed all) → x ≡ f (passed + first) → whole ≡ (items ++ x ∷ [])
    ++ map f (numbers_left first (passed + 1) all)
values_go f first passed all whole items x lt is x_is =
    is ∙ ap (λ ks. items ++ map f ks) (one_passed first passed all lt)
    ∙ sym (append_assoc items (f (passed + first) ∷ []) (map f (numbers_left first (passed + 1) all)))
    ∙ ap (λ y. (items ++ y ∷ []) ++ map f (numbers_left first (passed + 1) all)) (sym x_is)

-- packages put into a tree, one further
pub packages_go : (passed all : ℕ) (whole t new : Files) → passed < all
    → whole ≡ with_packages t (numbers_left 1 passed all) → new ≡ with_text t (package_file (passed + 1)) []
    → whole ≡ with_packages new (numbers_left 1 (passed + 1) all)
packages_go passed all whole t new lt is new_is =
    is ∙ ap (with_packages t) (one_passed 1 passed all lt)
    ∙ ap (λ (f : Files). with_packages f (numbers_left 1 (passed + 1) all)) (sym new_is)
