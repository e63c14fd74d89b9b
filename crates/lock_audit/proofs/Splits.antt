-- Where an element stands in a list.
use Rattle.std.proofs.Common.{
  ◌≡◌,
  ℕ,
  Bool,
  true,
  false,
  cond,
  List,
  [],
  ◌∷◌,
  ◌++◌,
  Option,
  Some,
  bytes_eq,
  map,
  refl,
  sym,
  ap,
  ◌∙◌,
  append_assoc,
  arith,
}
use Rattle.std.specs.Prelude.{Contains, flat_map}
use Rattle.std.specs.List.{filter_map}
use Rattle.std.specs.Map.{lookup}
use Rattle.std.proofs.lemmas.List.{map-append}
use Rattle.std.proofs.lemmas.List.Concat.{flat_map-append}
use Rattle.std.proofs.lemmas.List.Elements.{filter_map-append, Contains-append_right}
use Rattle.std.proofs.lemmas.Slice.Eq.{bytes_eq-Decides}

-- an element with what stands in front of it and behind it
pub record Splits {A : Type 0} (xs : List A) (x : A) : Type 0 where
  pub front : List A
  pub back : List A
  pub is : xs ≡ front ++ x ∷ back

head_in : {A : Type 0} (x : A) (xs : List A) → Contains (x ∷ xs) x
head_in x xs = (0, omega arith, refl)

pub splits-contains : {A : Type 0} (xs : List A) (x : A) → Splits xs x → Contains xs x
splits-contains xs x s = rw s.is (Contains-append_right s.front (x ∷ s.back) x (head_in x s.back))

pub splits-map : {A B : Type 0} (f : A → B) (xs : List A) (x : A) → Splits xs x → Splits (map f xs) (f x)
splits-map f xs x s = record {
  front = map f s.front;
  back = map f s.back;
  is = ap (map f) s.is ∙ map-append f s.front (x ∷ s.back);
}

pub splits-filter_map : {A B : Type 0} (h : A → Option B) (xs : List A) (x : A) (y : B) → h x ≡ Some y → Splits xs x
    → Splits (filter_map h xs) y
splits-filter_map h xs x y gives s = record {
  front = filter_map h s.front;
  back = filter_map h s.back;
  is = ap (filter_map h) s.is ∙ filter_map-append h s.front (x ∷ s.back) ∙ rw gives refl;
}

pub splits-flat_map : {A B : Type 0} (f : A → List B) (xs : List A) (x : A) (y : B) → Splits (f x) y → Splits xs x
    → Splits (flat_map f xs) y
splits-flat_map f xs x y inner outer = record {
  front = flat_map f outer.front ++ inner.front;
  back = inner.back ++ flat_map f outer.back;
  is = ap (flat_map f) outer.is ∙ flat_map-append f outer.front (x ∷ outer.back)
      ∙ ap (λ ys. flat_map f outer.front ++ (ys ++ flat_map f outer.back)) inner.is
      ∙ ap (λ ys. flat_map f outer.front ++ ys) (append_assoc inner.front (y ∷ inner.back) (flat_map f outer.back))
      ∙ sym (append_assoc (flat_map f outer.front) inner.front (y ∷ (inner.back ++ flat_map f outer.back)));
}

-- what a look-up finds at a name
pub splits-lookup : {A : Type 0} (name : List ℕ) (entries : List (List ℕ × A)) (a : A)
    → lookup (bytes_eq name) entries ≡ Some a → Splits entries (name, a)
splits-lookup name [] a found = cc
splits-lookup {A = A} name (e ∷ es) a found = by_test (bytes_eq name e.0) refl (splits-lookup name es a) found
  where
    by_test : (b : Bool) → bytes_eq name e.0 ≡ b → (lookup (bytes_eq name) es ≡ Some a → Splits es (name, a))
        → cond b (Some e.1) (lookup (bytes_eq name) es) ≡ Some a → Splits (e ∷ es) (name, a)
    by_test true same rest h =
        let key : name ≡ e.0 = (bytes_eq-Decides name e.0).0 same in
        let value : e.1 ≡ a = cc in
        record { front = []; back = es; is = ap (λ x. x ∷ es) (λ i. (sym key i, value i)) }
    by_test false other rest h =
        let later = rest h in
        record { front = e ∷ later.front; back = later.back; is = ap (λ xs. e ∷ xs) later.is }
