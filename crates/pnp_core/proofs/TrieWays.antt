-- The ways from a trie's nodes to a path, and the values on them.
use Rattle.std.proofs.Common.{
  ◌≡◌,
  ◌≢◌,
  ◌⊎◌,
  inl,
  inr,
  ◌-◌,
  ◌≤◌,
  ◌<◌,
  ℕ,
  zero,
  suc,
  Bool,
  true,
  false,
  List,
  [],
  ◌∷◌,
  ◌++◌,
  length,
  refl,
  sym,
  ap,
  ◌∙◌,
  subst,
  arith,
  Option,
  Some,
  None,
  bytes_eq,
}
use Rattle.std.specs.Prelude.{option_map, is_some}
use Rattle.std.specs.Option.{option_or}
use Rattle.sugar_path.specs.Path.{Path, IsPath, below, path_eq, text_of, parent, is_root}
use Rattle.sugar_path.specs.PathEq.{path_eq-Decides}
use Rattle.sugar_path.proofs.Below.{below-tells, below-append, below-through, below-same, below-child, below-root}
use Rattle.pnp_core.specs.declared.trie_nodes.Node.{Node}
use Rattle.pnp_core.specs.Trie.{Locations, value_at, nearest_value}
use Rattle.pnp_core.specs.Nodes.{location_at, value_in, child_at, stored, IsTrie, AreTrie, IsNext, IsEnd}
use Rattle.pnp_core.proofs.Belows.{below-length, below-child_of_it, below-parent, below-next, below-one_name}
use Rattle.pnp_core.proofs.Tries.{bytes_eq-text_of}

-- ---- the value at a location

-- an entry of a node
abbrev entry : {T : Type 0} → Node T → Option (List ℕ × T)
entry n = option_map (λ v. (text_of n.location, v)) n.value

-- a path is another, or not
pub is_path : (p q : Path) → ((path_eq p q ≡ true) × (p ≡ q)) ⊎ ((path_eq p q ≡ false) × (p ≢ q))
is_path p q = by_test (path_eq p q) refl
  where
    by_test : (b : Bool) → path_eq p q ≡ b → ((path_eq p q ≡ true) × (p ≡ q)) ⊎ ((path_eq p q ≡ false) × (p ≢ q))
    by_test true e = inl (e, (path_eq-Decides p q).0 e)
    by_test false e = inr (e, λ same. let no : true ≡ false = sym ((path_eq-Decides p q).1 same) ∙ e in cc)

-- a node at another location has no say
value_at-other : {T : Type 0} (n : Node T) (ns : List (Node T)) (p : Path) → IsPath p → IsPath n.location
    → p ≢ n.location → value_at (stored (n ∷ ns)) p ≡ value_at (stored ns) p
value_at-other {T} n ns p hp hn other = by_value n.value
  where
    apart : bytes_eq (text_of p) (text_of n.location) ≡ false
    apart = bytes_eq-text_of p n.location hp hn ∙ by_case (is_path p n.location)
      where
        by_case : ((path_eq p n.location ≡ true) × (p ≡ n.location))
            ⊎ ((path_eq p n.location ≡ false) × (p ≢ n.location)) → path_eq p n.location ≡ false
        by_case (inl w) = absurd (other w.1)
        by_case (inr w) = w.0

    by_value : (o : Option T) → value_at (stored (record n { value = o } ∷ ns)) p ≡ value_at (stored ns) p
    by_value None = refl
    by_value (Some v) = rw apart refl

-- a node at the location has its value, where it has one
value_at-here : {T : Type 0} (n : Node T) (ns : List (Node T)) (v : T) → n.value ≡ Some v → IsPath n.location
    → value_at (stored (n ∷ ns)) n.location ≡ Some v
value_at-here {T} n ns v some hn =
    rw (some, bytes_eq-text_of n.location n.location hn hn, (path_eq-Decides n.location n.location).1 refl) refl

value_at-passed : {T : Type 0} (n : Node T) (ns : List (Node T)) (p : Path) → n.value ≡ None
    → value_at (stored (n ∷ ns)) p ≡ value_at (stored ns) p
value_at-passed n ns p none = rw none refl

pub value_at-none : {T : Type 0} (ns : List (Node T)) (p : Path) → IsPath p → ((i : ℕ) → IsPath (location_at ns i))
    → ((i : ℕ) → i < length ns → location_at ns i ≢ p) → value_at (stored ns) p ≡ None
value_at-none [] p hp paths none = refl
value_at-none (n ∷ ns) p hp paths none =
    value_at-other n ns p hp (paths 0) (λ e. none 0 (omega arith) (sym e))
    ∙ value_at-none ns p hp (λ i. paths (suc i)) (λ i lt. none (suc i) (omega arith))

pub value_at-node : {T : Type 0} (ns : List (Node T)) (i : ℕ) → i < length ns → ((j : ℕ) → IsPath (location_at ns j))
    → ((j k : ℕ) → j < length ns → k < length ns → location_at ns j ≡ location_at ns k → j ≡ k)
    → value_at (stored ns) (location_at ns i) ≡ value_in ns i
value_at-node [] i lt paths distinct = absurd (omega arith)
value_at-node {T} (n ∷ ns) zero lt paths distinct = by_value n.value refl
  where
    rest : value_at (stored ns) n.location ≡ None
    rest = value_at-none ns n.location (paths 0) (λ j. paths (suc j))
        (λ j ltj e. let no : suc j ≡ 0 = distinct (suc j) 0 (omega arith) (omega arith) e in omega arith)

    by_value : (o : Option T) → n.value ≡ o → value_at (stored (n ∷ ns)) n.location ≡ n.value
    by_value None e = value_at-passed n ns n.location e ∙ rest ∙ sym e
    by_value (Some v) e = value_at-here n ns v e (paths 0) ∙ sym e
value_at-node (n ∷ ns) (suc i) lt paths distinct =
    value_at-other n ns (location_at ns i) (paths (suc i)) (paths 0)
    (λ e. let no : suc i ≡ 0 = distinct (suc i) 0 (omega arith) (omega arith) e in omega arith)
    ∙ value_at-node ns i (omega arith) (λ j. paths (suc j)) (λ j k ltj ltk e. let one : suc j ≡ suc k =
    distinct (suc j) (suc k) (omega arith) (omega arith) e in omega arith)

-- where a trie has no node at a location, it has no value there
pub no_node : {T : Type 0} (ns : List (Node T)) (p : Path) → AreTrie ns → IsPath p
    → ((i : ℕ) → i < length ns → location_at ns i ≢ p) → value_at (stored ns) p ≡ None
no_node ns p t hp none = value_at-none ns p hp t.paths none

pub at_node : {T : Type 0} (ns : List (Node T)) (i : ℕ) → AreTrie ns → i < length ns
    → value_at (stored ns) (location_at ns i) ≡ value_in ns i
at_node ns i t lt = value_at-node ns i lt t.paths t.distinct

-- ---- the next child

-- the child of a name by which a path leaves a node is the next one
pub next_child_of : {T : Type 0} (ns : List (Node T)) (i : ℕ) (p : Path) (name : List ℕ) (o : Option ℕ)
    → below p (name ∷ location_at ns i) ≡ true → o ≡ child_at ns i name → IsNext ns i p o
next_child_of ns i p name None h is =
    λ k g. let one : k ≡ name = below-one_name p (location_at ns i) k name g h in rw one (sym is)
next_child_of ns i p name (Some c) h is = (name, h, sym is)

-- and the next one is the child of each such name
pub next_child_at : {T : Type 0} (ns : List (Node T)) (i : ℕ) (p : Path) (name : List ℕ) (o : Option ℕ)
    → IsNext ns i p o → below p (name ∷ location_at ns i) ≡ true → child_at ns i name ≡ o
next_child_at ns i p name None next h = next name h
next_child_at ns i p name (Some c) next h =
    let one : name ≡ next.0 = below-one_name p (location_at ns i) name next.0 h next.1 in rw one next.2

-- where the way to a path ends, no child is on it
not_further : {T : Type 0} (ns : List (Node T)) (i : ℕ) (p : Path) (name : List ℕ) (c : ℕ) (o : Option ℕ)
    → IsEnd ns i p o → below p (name ∷ location_at ns i) ≡ true → child_at ns i name ≡ Some c
    → below p (location_at ns c) ≡ false
not_further ns i p name c None end h is = absurd (let no : None ≡ Some c = sym (end.0 name h) ∙ is in cc)
not_further ns i p name c (Some d) end h is =
    let both : Some d ≡ Some c = sym (next_child_at ns i p name (Some d) end.0 h) ∙ is in
    let same : c ≡ d = cc in
    rw same end.1

-- ---- the nearest value

IsPath-folder : (q l : Path) → IsPath (q ++ l) → IsPath l
IsPath-folder [] l h = h
IsPath-folder (n ∷ q) l h = IsPath-folder q l h.1

-- folders without values have no say
nearest_value-passed : {T : Type 0} (t : Locations T) (q l : Path)
    → ((x : Path) → below (q ++ l) x ≡ true → below x l ≡ true → x ≢ l → value_at t x ≡ None)
    → nearest_value t (q ++ l) ≡ nearest_value t l
nearest_value-passed t [] l none = refl
nearest_value-passed t (n ∷ q) l none =
    let here : value_at t (n ∷ (q ++ l)) ≡ None =
    none ((n ∷ q) ++ l) (below-same ((n ∷ q) ++ l)) (below-append (n ∷ q) l) (longer n q l) in
    ap (λ o. option_or o (nearest_value t (q ++ l))) here
    ∙ nearest_value-passed t q l (λ x h. none x (below-child n (q ++ l) x h))
  where
    longer : (n : List ℕ) (q l : Path) → (n ∷ q) ++ l ≢ l
    longer n q l e = below-child_of_it (q ++ l) n (rw e (below-append q l))

-- at the node where the way to a path ends
pub nearest_value-end : {T : Type 0} (ns : List (Node T)) (at : ℕ) (p : Path) (o : Option ℕ) → AreTrie ns
    → at < length ns → IsPath p → below p (location_at ns at) ≡ true → IsEnd ns at p o
    → nearest_value (stored ns) p ≡ nearest_value (stored ns) (location_at ns at)
nearest_value-end {T} ns at p o t lt hp h end =
    let w = below-tells p (location_at ns at) h in
    ap (nearest_value (stored ns)) w.1 ∙ nearest_value-passed (stored ns) w.0 (location_at ns at)
    (λ x g k other. empty x (rw (← w.1) at g) k other)
  where
    empty : (x : Path) → below p x ≡ true → below x (location_at ns at) ≡ true → x ≢ location_at ns at
        → value_at (stored ns) x ≡ None
    empty x g k other =
        let v = below-tells p x g in
        let P : Path → Type 0 = IsPath in
        no_node ns x t (IsPath-folder v.0 x (subst P v.1 hp))
        (λ j ltj e. not_there j ltj e (below-next x (location_at ns at) k))
      where
        not_there : (j : ℕ) → j < length ns → location_at ns j ≡ x → (x ≡ location_at ns at)
            ⊎ ((m : List ℕ) × (below x (m ∷ location_at ns at) ≡ true)) → ⊥
        not_there j ltj e (inl same) = other same
        not_there j ltj e (inr m) =
            let way = t.routed at j m.0 lt ltj (rw e m.1) in
            let through : below p (location_at ns way.0) ≡ true =
            below-through p x (location_at ns way.0) g (rw e at way.2) in
            let no : true ≡ false = sym through
            ∙ not_further ns at p m.0 way.0 o end (below-through p x (m.0 ∷ location_at ns at) g m.1) way.1 in
            cc

-- at a child on the way
pub nearest_value-child : {T : Type 0} (ns : List (Node T)) (at c : ℕ) (name : List ℕ) → AreTrie ns
    → child_at ns at name ≡ Some c → nearest_value (stored ns) (location_at ns c) ≡ option_or (value_in ns c)
    (nearest_value (stored ns) (location_at ns at))
nearest_value-child {T} ns at c name t is = by_names (location_at ns c) refl
  where
    lead : (at < length ns) × (c < length ns) × (below (location_at ns c) (name ∷ location_at ns at) ≡ true)
    lead = t.leads at c name is

    upper : Path
    upper = location_at ns at

    by_names : (l : Path) → location_at ns c ≡ l
        → nearest_value (stored ns) (location_at ns c) ≡ option_or (value_in ns c)
        (nearest_value (stored ns) (location_at ns at))
    by_names [] e = absurd (let le = below-length (location_at ns c) (name ∷ location_at ns at) lead.2 in
        omega (arith, le, ap length e))
    by_names (n ∷ p) e =
        let h : below (n ∷ p) (name ∷ location_at ns at) ≡ true = rw e at lead.2 in
        let above : below p (location_at ns at) ≡ true = in_folder h in
        let w = below-tells p (location_at ns at) above in
        let here : value_at (stored ns) (n ∷ p) ≡ value_in ns c =
        ap (value_at (stored ns)) (sym e) ∙ at_node ns c t lead.1 in
        let up : nearest_value (stored ns) p ≡ nearest_value (stored ns) (location_at ns at) =
        ap (nearest_value (stored ns)) w.1 ∙ nearest_value-passed (stored ns) w.0 (location_at ns at)
        (λ x g k other. empty x (rw (← w.1) at g) k other) in
        rw e (ap (λ o. option_or o (nearest_value (stored ns) p)) here ∙ ap (λ o. option_or (value_in ns c) o) up)
      where
        shorter : (length (name ∷ location_at ns at) ≤ length (n ∷ p)) → length (location_at ns at) ≤ length p
        shorter le = omega arith

        in_folder : below (n ∷ p) (name ∷ location_at ns at) ≡ true → below p (location_at ns at) ≡ true
        in_folder h = by_case (below-next' h)
          where
            below-next' : below (n ∷ p) (name ∷ location_at ns at) ≡ true → (n ∷ p ≡ name ∷ location_at ns at)
                ⊎ (below p (name ∷ location_at ns at) ≡ true)
            below-next' g = by_tells (below-tells (n ∷ p) (name ∷ location_at ns at) g).0
                (below-tells (n ∷ p) (name ∷ location_at ns at) g).1
              where
                by_tells : (q : Path) → n ∷ p ≡ q ++ name ∷ location_at ns at → (n ∷ p ≡ name ∷ location_at ns at)
                    ⊎ (below p (name ∷ location_at ns at) ≡ true)
                by_tells [] f = inl f
                by_tells (x ∷ q) f = let rest : p ≡ q ++ name ∷ location_at ns at = cc in
                    inr (rw rest (below-append q (name ∷ location_at ns at)))

            by_case : (n ∷ p ≡ name ∷ location_at ns at) ⊎ (below p (name ∷ location_at ns at) ≡ true)
                → below p (location_at ns at) ≡ true
            by_case (inl f) = let same : p ≡ location_at ns at = cc in rw same (below-same (location_at ns at))
            by_case (inr g) = below-parent p (location_at ns at) name g

        empty : (x : Path) → below p x ≡ true → below x (location_at ns at) ≡ true → x ≢ location_at ns at
            → value_at (stored ns) x ≡ None
        empty x g k other =
            let v = below-tells p x g in
            let P : Path → Type 0 = IsPath in
            let whole : IsPath (n ∷ p) = subst P e (t.paths c) in
            no_node ns x t (IsPath-folder v.0 x (subst P v.1 whole.1))
            (λ j ltj f. not_there j ltj f (below-next x (location_at ns at) k))
          where
            not_there : (j : ℕ) → j < length ns → location_at ns j ≡ x → (x ≡ location_at ns at)
                ⊎ ((m : List ℕ) × (below x (m ∷ location_at ns at) ≡ true)) → ⊥
            not_there j ltj f (inl same) = other same
            not_there j ltj f (inr m) =
                let one : m.0 ≡ name = below-one_name (n ∷ p) (location_at ns at) m.0 name
                (below-through (n ∷ p) x (m.0 ∷ location_at ns at) (below-child n p x g) m.1) (rw e at lead.2) in
                let way = t.routed at j name lead.0 ltj (rw f (rw one at m.1)) in
                let same : way.0 ≡ c = (let both : Some way.0 ≡ Some c = sym way.1 ∙ is in cc) in
                let under : below x (n ∷ p) ≡ true = rw (f, same, e) at way.2 in
                below-child_of_it p n (below-through p x (n ∷ p) g under)

-- ---- the walk

pub nearest_value-nil : {T : Type 0} (ns : List (Node T)) (p : Path) → length ns ≡ 0
    → nearest_value (stored ns) p ≡ None
nearest_value-nil (n ∷ ns) p e = absurd (omega arith)
nearest_value-nil [] [] e = refl
nearest_value-nil [] (m ∷ p) e = nearest_value-nil [] p e

option_or-none : {A : Type 0} (x : Option A) → option_or x None ≡ x
option_or-none None = refl
option_or-none (Some a) = refl

pub nearest_value-first : {T : Type 0} (ns : List (Node T)) → AreTrie ns → 0 < length ns
    → nearest_value (stored ns) (location_at ns 0) ≡ option_or (value_in ns 0) None
nearest_value-first {T} ns t lt =
    ap (nearest_value (stored ns)) t.root ∙ ap (value_at (stored ns)) (sym t.root) ∙ at_node ns 0 t lt
    ∙ sym (option_or-none (value_in ns 0))

-- a node has its value, or the one above has its own
pub option_or-some : {A : Type 0} (o p : Option A) → is_some o ≡ true → o ≡ option_or o p
option_or-some None p h = cc
option_or-some (Some a) p h = refl

pub option_or-other : {A : Type 0} (o p : Option A) → is_some o ≡ false → p ≡ option_or o p
option_or-other None p h = refl
option_or-other (Some a) p h = cc

-- the way goes down
pub shorter_way : (n : ℕ) (loc : ℕ → Path) (child : ℕ → List ℕ → Option ℕ) (at c : ℕ) (name : List ℕ) (p : Path)
    → IsTrie n loc child → child at name ≡ Some c → below p (loc c) ≡ true
    → length p - length (loc c) < length p - length (loc at)
shorter_way n loc child at c name p t is h =
    let lower = below-length (loc c) (name ∷ loc at) (t.leads at c name is).2 in
    let upper = below-length p (loc c) h in
    omega (arith, lower, upper)

-- ---- the folder that two paths share

pub shared_up : (one other l : Path) → below one l ≡ true
    → ((k : Path) → below one k ≡ true → below other k ≡ true → below l k ≡ true) → below other l ≡ false
    → (below one (parent l) ≡ true) × ((k : Path) → below one k ≡ true → below other k ≡ true
    → below (parent l) k ≡ true)
shared_up one other [] h longest apart = absurd (let no : true ≡ false = sym (below-root other) ∙ apart in cc)
shared_up one other (n ∷ l) h longest apart =
    (below-parent one l n h, λ k g f. by_case k f (is_path (n ∷ l) k) (longest k g f))
  where
    by_case : (k : Path) → below other k ≡ true → ((path_eq (n ∷ l) k ≡ true) × (n ∷ l ≡ k))
        ⊎ ((path_eq (n ∷ l) k ≡ false) × (n ∷ l ≢ k)) → below (n ∷ l) k ≡ true → below l k ≡ true
    by_case k f (inl w) g = absurd (let no : true ≡ false = sym f ∙ rw (← w.1) apart in cc)
    by_case k f (inr w) g = rw w.0 at g

pub above_root : (other l : Path) → below other l ≡ false → is_root l ≡ false
above_root other [] apart = absurd (let no : true ≡ false = sym (below-root other) ∙ apart in cc)
above_root other (n ∷ l) apart = refl
