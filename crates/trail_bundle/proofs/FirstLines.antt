-- The first lines of texts that are made of lines.
use Rattle.std.proofs.Common.{
  ◌≡◌,
  ◌<◌,
  ◌+◌,
  ◌==◌,
  ◌&&◌,
  not,
  ℕ,
  suc,
  Bool,
  true,
  false,
  cond,
  List,
  [],
  ◌∷◌,
  ◌++◌,
  length,
  refl,
  sym,
  ap,
  ◌∙◌,
  subst,
  arith,
  eq-eqb,
  append_assoc,
}
use Rattle.std.specs.List.{list_all, flat_map}
use Rattle.sugar_path.proofs.Bools.{and_left, and_right}
use Rattle.trail_bundle.specs.BundleText.{ended}
use Rattle.trail_bundle.specs.Lines.{first_lines, is_line, lacks}

-- the first line of a text
pub first_lines-line : (n : ℕ) (line rest : List ℕ) → is_line line ≡ true
    → first_lines (suc n) (line ++ 10 ∷ rest) ≡ line ++ 10 ∷ first_lines n rest
first_lines-line n [] rest h = refl
first_lines-line n (c ∷ line) rest h =
    ap (λ m. c ∷ first_lines m (line ++ 10 ∷ rest)) (by_byte (c == 10) (and_left (not (c == 10)) (is_line line) h))
    ∙ ap (λ t. c ∷ t) (first_lines-line n line rest (and_right (not (c == 10)) (is_line line) h))
  where
    by_byte : (b : Bool) → not b ≡ true → cond b n (suc n) ≡ suc n
    by_byte true h = cc
    by_byte false h = refl

no_end : (c d : ℕ) (m : List ℕ) → d ≡ c → lacks c (d ∷ m) ≡ true → ⊥
no_end c d m first h =
    let none = ap (λ b. not b && lacks c m) (eq-eqb d c first) in let no : false ≡ true = sym none ∙ h in cc

-- where a part ends, it ends
pub same_parts : (c : ℕ) (l m x y : List ℕ) → lacks c l ≡ true → lacks c m ≡ true → l ++ c ∷ x ≡ m ++ c ∷ y → (l ≡ m)
    × (x ≡ y)
same_parts c [] [] x y h k is = (refl, cc)
same_parts c [] (d ∷ m) x y h k is = let first : c ≡ d = cc in absurd (no_end c d m (sym first) k)
same_parts c (b ∷ l) [] x y h k is = let first : b ≡ c = cc in absurd (no_end c b l first h)
same_parts c (b ∷ l) (d ∷ m) x y h k is =
    let first : b ≡ d = cc in
    let more : l ++ c ∷ x ≡ m ++ c ∷ y = cc in
    let later =
    same_parts c l m x y (and_right (not (b == c)) (lacks c l) h) (and_right (not (d == c)) (lacks c m) k) more in
    ((λ i. first i ∷ later.0 i), later.1)

pub ended_first : (n : ℕ) (line rest : List ℕ) → is_line line ≡ true → first_lines (suc n) (ended line ++ rest) ≡ line
    ++ 10 ∷ first_lines n rest
ended_first n line rest h = ap (first_lines (suc n)) (append_assoc line (10 ∷ []) rest) ∙ first_lines-line n line rest h

-- two texts whose first lines are the same
pub peeled : (n : ℕ) (l m x y : List ℕ) → is_line l ≡ true → is_line m ≡ true
    → first_lines (suc n) (ended l ++ x) ≡ first_lines (suc n) (ended m ++ y) → (l ≡ m)
    × (first_lines n x ≡ first_lines n y)
peeled n l m x y h k is = same_parts 10 l m _ _ h k (sym (ended_first n l x h) ∙ is ∙ ended_first n m y k)

pub first-ended : (line rest : List ℕ) → is_line line ≡ true → first_lines 1 (ended line ++ rest) ≡ ended line
first-ended line rest h = ended_first 0 line rest h

module _ {A : Type 0} (line : A → List ℕ) (valid : A → Bool) (whole : (a : A) → is_line (line a) ≡ true)
    (same : (a b : A) → valid a ≡ true → valid b ≡ true → line a ≡ line b → a ≡ b) where
  abbrev lines_of : List A → List ℕ
  lines_of xs = flat_map (λ a. ended (line a)) xs

  -- a text whose next line is one that stands for the next of some
  pub record GoesOn (xs ys : List A) (rest : List ℕ) : Type 0 where
    pub next : A
    pub later : List A
    pub whole_list : ys ≡ xs ++ next ∷ later
    pub first : first_lines 1 rest ≡ ended (line next)

  pub goes_on : (xs ys : List A) (rest more : List ℕ) → list_all valid xs ≡ true → list_all valid ys ≡ true
      → length xs < length ys
      → first_lines (suc (length xs)) (lines_of xs ++ rest) ≡ first_lines (suc (length xs)) (lines_of ys ++ more)
      → GoesOn xs ys rest
  goes_on xs [] rest more h k less is = absurd (omega arith)
  goes_on [] (b ∷ ys) rest more h k less is = record {
    next = b;
    later = ys;
    whole_list = refl;
    first =
        is ∙ ap (first_lines 1) (append_assoc (ended (line b)) (lines_of ys) more) ∙ first-ended (line b) _ (whole b);
  }
  goes_on (a ∷ xs) (b ∷ ys) rest more h k less is =
      let two = peeled (suc (length xs)) (line a) (line b) _ _ (whole a) (whole b)
      (ap (first_lines (suc (suc (length xs)))) (sym (append_assoc (ended (line a)) (lines_of xs) rest)) ∙ is
      ∙ ap (first_lines (suc (suc (length xs)))) (append_assoc (ended (line b)) (lines_of ys) more)) in
      let on = goes_on xs ys rest more (and_right (valid a) _ h) (and_right (valid b) _ k) (omega arith) two.1 in
      let one : a ≡ b = same a b (and_left _ _ h) (and_left _ _ k) two.0 in record {
        next = on.next;
        later = on.later;
        whole_list = ap (λ c. c ∷ ys) (sym one) ∙ ap (λ t. a ∷ t) on.whole_list;
        first = on.first;
      }

  -- texts whose lines are all the same so far
  pub all_alike : (n m : ℕ) (xs ys : List A) (rest more : List ℕ) → list_all valid xs ≡ true → list_all valid ys ≡ true
      → length xs ≡ length ys → m ≡ length xs + n
      → first_lines m (lines_of xs ++ rest) ≡ first_lines m (lines_of ys ++ more) → (xs ≡ ys)
      × (first_lines n rest ≡ first_lines n more)
  all_alike n m [] [] rest more h k long at is =
      let here : m ≡ n = omega arith in (refl, subst (λ m. first_lines m rest ≡ first_lines m more) here is)
  all_alike n m [] (b ∷ ys) rest more h k long at is = absurd (omega arith)
  all_alike n m (a ∷ xs) [] rest more h k long at is = absurd (omega arith)
  all_alike n m (a ∷ xs) (b ∷ ys) rest more h k long at is =
      let next : m ≡ suc (length xs + n) = omega arith in
      let two = peeled (length xs + n) (line a) (line b) _ _ (whole a) (whole b)
      (ap (first_lines (suc (length xs + n))) (sym (append_assoc (ended (line a)) (lines_of xs) rest))
      ∙ subst (λ m. first_lines m (lines_of (a ∷ xs) ++ rest) ≡ first_lines m (lines_of (b ∷ ys) ++ more)) next is
      ∙ ap (first_lines (suc (length xs + n))) (append_assoc (ended (line b)) (lines_of ys) more)) in
      let on = all_alike n (length xs + n) xs ys rest more (and_right (valid a) _ h) (and_right (valid b) _ k)
      (omega arith) refl two.1 in
      let one : a ≡ b = same a b (and_left _ _ h) (and_left _ _ k) two.0 in
      ((λ i. one i ∷ on.0 i), on.1)

alone : (rest : List ℕ) → is_line rest ≡ true → first_lines 1 rest ≡ rest
alone [] h = refl
alone (c ∷ rest) h =
    ap (λ n. c ∷ first_lines n rest) (by_byte (c == 10) (and_left (not (c == 10)) (is_line rest) h))
    ∙ ap (λ t. c ∷ t) (alone rest (and_right (not (c == 10)) (is_line rest) h))
  where
    by_byte : (b : Bool) → not b ≡ true → ◌≡◌ {A = ℕ} (cond b 0 1) 1
    by_byte true n = cc
    by_byte false n = refl

has_end : (xs : List ℕ) → is_line (xs ++ 10 ∷ []) ≡ false
has_end [] = refl
has_end (x ∷ xs) = by_byte (not (x == 10)) (has_end xs)
  where
    by_byte : (b : Bool) → is_line (xs ++ 10 ∷ []) ≡ false → b && is_line (xs ++ 10 ∷ []) ≡ false
    by_byte true h = h
    by_byte false h = refl

-- a line that isn't followed by its end has none in it
pub unended : (rest target : List ℕ) → is_line rest ≡ true → first_lines 1 rest ≡ ended target → ⊥
unended rest target h is =
    let no = sym (has_end target) ∙ ap is_line (sym is ∙ alone rest h) ∙ h in
    let contrary : false ≡ true = no in
    cc

-- the line in front of a text is the only one
pub first-same : (line more target : List ℕ) → is_line line ≡ true → is_line target ≡ true
    → first_lines 1 (ended line ++ more) ≡ ended target → line ≡ target
first-same line more target h k is =
    (same_parts 10 line target [] [] h k (sym (first-ended line more h) ∙ is)).0
