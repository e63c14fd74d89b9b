-- What a list of entries gives at one of its keys, where no key stands twice.
use Rattle.std.proofs.Common.{◌≡◌, ℕ, Bool, true, false, cond, List, [], ◌∷◌, ◌++◌, Option, Some, None, bytes_eq}
use Rattle.std.proofs.Common.{refl, sym, ap, ◌∙◌, append-nil}
use Rattle.std.specs.Prelude.{flat_map, filter}
use Rattle.std.specs.List.{IsDistinct, AllByRecursion, cons_option, filter_map}
use Rattle.std.specs.Map.{lookup, keys_of}
use Rattle.std.specs.Option.{option_to_list}
use Rattle.std.proofs.lemmas.List.Concat.{flat_map-append}
use Rattle.std.proofs.lemmas.List.Elements.{filter-append}
use Rattle.std.proofs.lemmas.Map.Keys.{IsDistinct-head, IsDistinct-tail}
use Rattle.std.proofs.lemmas.Slice.Eq.{bytes_eq-Decides}

-- what a value gives, where there is one
abbrev pub flat_option : {A B : Type 0} → (A → List B) → Option A → List B
flat_option f None = []
flat_option f (Some a) = f a

pub filter-flat_map : {A B : Type 0} (p : B → Bool) (f : A → List B) (xs : List A)
    → filter p (flat_map f xs) ≡ flat_map (λ x. filter p (f x)) xs
filter-flat_map p f [] = refl
filter-flat_map p f (x ∷ xs) =
    filter-append p (f x) (flat_map f xs) ∙ ap (λ ys. filter p (f x) ++ ys) (filter-flat_map p f xs)

pub flat_map-flat_map : {A B C : Type 0} (g : B → List C) (f : A → List B) (xs : List A)
    → flat_map g (flat_map f xs) ≡ flat_map (λ x. flat_map g (f x)) xs
flat_map-flat_map g f [] = refl
flat_map-flat_map g f (x ∷ xs) =
    flat_map-append g (f x) (flat_map f xs) ∙ ap (λ ys. flat_map g (f x) ++ ys) (flat_map-flat_map g f xs)

filter-cons_option : {B : Type 0} (p : B → Bool) (item : Option B) (ys : List B)
    → filter p (cons_option item ys) ≡ filter p (option_to_list item) ++ filter p ys
filter-cons_option p None ys = refl
filter-cons_option p (Some y) ys = filter-append p (y ∷ []) ys

pub filter-filter_map : {A B : Type 0} (p : B → Bool) (h : A → Option B) (xs : List A)
    → filter p (filter_map h xs) ≡ flat_map (λ x. filter p (option_to_list (h x))) xs
filter-filter_map p h [] = refl
filter-filter_map p h (x ∷ xs) =
    filter-cons_option p (h x) (filter_map h xs)
    ∙ ap (λ ys. filter p (option_to_list (h x)) ++ ys) (filter-filter_map p h xs)

pub cons_option-nil : {A : Type 0} (item : Option A) → cons_option item [] ≡ option_to_list item
cons_option-nil None = refl
cons_option-nil (Some a) = refl

-- a test that says of each thing that is given what another says of what gives it
pub filter_map-filter : {A B : Type 0} (p : B → Bool) (q : A → Bool) (g : A → Option B) (xs : List A)
    → ((x : A) (y : B) → g x ≡ Some y → p y ≡ q x)
    → filter p (filter_map g xs) ≡ filter_map g (filter q xs)
filter_map-filter p q g [] same = refl
filter_map-filter {A = A} {B = B} p q g (x ∷ xs) same =
    by_item (g x) (q x) refl refl (filter_map-filter p q g xs same)
  where
    by_item : (item : Option B) (b : Bool) → g x ≡ item → q x ≡ b
        → filter p (filter_map g xs) ≡ filter_map g (filter q xs)
        → filter p (cons_option item (filter_map g xs)) ≡ filter_map g (cond b (x ∷ filter q xs) (filter q xs))
    by_item None true is test rest = rw is rest
    by_item None false is test rest = rest
    by_item (Some y) true is test rest = rw (is, same x y is ∙ test) (ap (λ ys. y ∷ ys) rest)
    by_item (Some y) false is test rest = rw (same x y is ∙ test) rest

-- entries of other names give nothing
nothing_given : {A B : Type 0} (f : List ℕ × A → List B) (name : List ℕ) (entries : List (List ℕ × A))
    → ((key : List ℕ) (a : A) → bytes_eq name key ≡ false → f (key, a) ≡ [])
    → AllByRecursion (λ key. bytes_eq name key ≡ false) (keys_of entries)
    → flat_map f entries ≡ []
nothing_given f name [] others apart = refl
nothing_given f name (e ∷ es) others apart =
    rw (others e.0 e.1 apart.0) (nothing_given f name es others apart.1)

-- so they all give what the entry of the name gives
pub given_at : {A B : Type 0} (f : List ℕ × A → List B) (name : List ℕ) (entries : List (List ℕ × A))
    → ((key : List ℕ) (a : A) → bytes_eq name key ≡ false → f (key, a) ≡ [])
    → IsDistinct bytes_eq (keys_of entries)
    → flat_map f entries ≡ flat_option (λ a. f (name, a)) (lookup (bytes_eq name) entries)
given_at f name [] others distinct = refl
given_at {A = A} {B = B} f name (e ∷ es) others distinct =
    by_test (bytes_eq name e.0) refl
    (given_at f name es others (IsDistinct-tail bytes_eq e.0 (keys_of es) distinct))
  where
    by_test : (b : Bool) → bytes_eq name e.0 ≡ b
        → flat_map f es ≡ flat_option (λ a. f (name, a)) (lookup (bytes_eq name) es)
        → f e ++ flat_map f es ≡ flat_option (λ a. f (name, a)) (cond b (Some e.1) (lookup (bytes_eq name) es))
    by_test true same rest =
        let key : name ≡ e.0 = (bytes_eq-Decides name e.0).0 same in
        let apart : AllByRecursion (λ k. bytes_eq name k ≡ false) (keys_of es) =
        rw key (IsDistinct-head bytes_eq e.0 (keys_of es) distinct) in
        ap (λ ys. f e ++ ys) (nothing_given f name es others apart)
        ∙ append-nil (f e) ∙ ap (λ k. f (k, e.1)) (sym key)
    by_test false other rest = rw (others e.0 e.1 other) rest
