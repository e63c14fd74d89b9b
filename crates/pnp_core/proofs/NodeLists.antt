-- The nodes of a trie where one is read, changed or put at the end.
use Rattle.std.proofs.Common.{
  ◌≡◌,
  ◌≢◌,
  ◌⊎◌,
  inl,
  inr,
  ◌<◌,
  ℕ,
  zero,
  suc,
  Bool,
  true,
  false,
  cond,
  List,
  [],
  ◌∷◌,
  ◌++◌,
  length,
  map,
  get_or,
  set,
  nat_cmp,
  refl,
  sym,
  ap,
  ◌∙◌,
  arith,
  Some,
  None,
  bytes_eq,
  string_bytes,
}
use Rattle.std.specs.Prelude.{String, Result, Ok, Err, OnErr, option_map}
use Rattle.std.specs.declared.alloc.Global.{Global}
use Rattle.std.specs.Cmp.Lexicographic.{slice_cmp}
use Rattle.std.specs.String.{string_cmp}
use Rattle.std.specs.Map.{lookup}
use Rattle.std.specs.BTreeMap.{BTreeMap, is_at, UpdatesBy}
use Rattle.std.specs.List.{filter_map, cons_option}
use Rattle.std.proofs.lemmas.List.{get_or-map, map-set, length-append, length-set, length-map}
use Rattle.std.proofs.Math.Seq.{map-set_same, get_or-set_same, get_or-set_other}
use Rattle.std.proofs.lemmas.Map.Text.{is_eq-slice_cmp, btree_map_updates_text}
use Rattle.sugar_path.specs.Path.{Path, text_of}
use Rattle.pnp_core.specs.declared.trie_nodes.Node.{Node}
use Rattle.pnp_core.specs.declared.trie_nodes.NodeId.{NodeId}
use Rattle.pnp_core.specs.Nodes.{
  location_at,
  value_in,
  child_at,
  ways,
  stored,
  IsLeaf,
  IsLed,
  Attaches,
  PutsBetween,
  PutsBeside,
  AreSame,
}
use Rattle.pnp_core.proofs.TrieShapes.{is_place}

-- ---- one node is read

pub read : {A B : Type 0} (f : A → B) (xs : List A) (i : ℕ) (x : A) (d : B) → i < length xs → x ≡ get_or xs i x
    → get_or (map f xs) i d ≡ f x
read f xs i x d lt is = get_or-map f xs i x d lt ∙ ap f (sym is)

pub location_at-read : {T : Type 0} (ns : List (Node T)) (i : ℕ) (x : Node T) → i < length ns → x ≡ get_or ns i x
    → location_at ns i ≡ x.location
location_at-read {T} ns i x lt is = read (λ (n : Node T). n.location) ns i x [] lt is

-- the location of a node, as goals have it
pub location_at-at : {T : Type 0} (ns : List (Node T)) (i : ℕ) (d : Node T) → i < length ns
    → location_at ns i ≡ (get_or ns i d).location
location_at-at {T} ns i d lt = get_or-map (λ (n : Node T). n.location) ns i d [] lt

pub value_in-at : {T : Type 0} (ns : List (Node T)) (i : ℕ) (d : Node T) → i < length ns
    → value_in ns i ≡ (get_or ns i d).value
value_in-at {T} ns i d lt = get_or-map (λ (n : Node T). n.value) ns i d None lt

pub child_at-at : {T : Type 0} (ns : List (Node T)) (i : ℕ) (d : Node T) (name : List ℕ) → i < length ns
    → child_at ns i name ≡ lookup (bytes_eq name) (ways (get_or ns i d).children)
child_at-at {T} ns i d name lt = ap (lookup (bytes_eq name)) (get_or-map (λ (n : Node T). ways n.children) ns i d [] lt)

pub value_in-read : {T : Type 0} (ns : List (Node T)) (i : ℕ) (x : Node T) → i < length ns → x ≡ get_or ns i x
    → value_in ns i ≡ x.value
value_in-read {T} ns i x lt is = read (λ (n : Node T). n.value) ns i x None lt is

pub child_at-read : {T : Type 0} (ns : List (Node T)) (i : ℕ) (x : Node T) (name : List ℕ) → i < length ns
    → x ≡ get_or ns i x → child_at ns i name ≡ lookup (bytes_eq name) (ways x.children)
child_at-read {T} ns i x name lt is =
    ap (lookup (bytes_eq name)) (read (λ (n : Node T). ways n.children) ns i x [] lt is)

-- what a goal reads of a node
pub ruleset node_reads = (location_at-at)

-- ---- one node is put behind the others

pub past : {A B : Type 0} (f : A → B) (xs : List A) (d : B) → get_or (map f xs) (length xs) d ≡ d
past f [] d = refl
past f (x ∷ xs) d = past f xs d

pub push_here : {A B : Type 0} (f : A → B) (xs : List A) (x : A) (d : B)
    → get_or (map f (xs ++ x ∷ [])) (length xs) d ≡ f x
push_here f [] x d = refl
push_here f (y ∷ xs) x d = push_here f xs x d

pub push_other : {A B : Type 0} (f : A → B) (xs : List A) (x : A) (i : ℕ) (d : B) → i ≢ length xs
    → get_or (map f (xs ++ x ∷ [])) i d ≡ get_or (map f xs) i d
push_other f [] x zero d other = absurd (other refl)
push_other f [] x (suc i) d other = refl
push_other f (y ∷ xs) x zero d other = refl
push_other f (y ∷ xs) x (suc i) d other =
    let rest : i ≢ length xs = (λ e. other (ap suc e)) in push_other f xs x i d rest

pub stored-push : {T : Type 0} (ns : List (Node T)) (x : Node T) → x.value ≡ None → stored (ns ++ x ∷ []) ≡ stored ns
stored-push [] x none = rw none refl
stored-push {T} (n ∷ ns) x none =
    ap (cons_option (option_map (λ v. (text_of n.location, v)) n.value)) (stored-push ns x none)

-- ---- a name leads on

-- the way of a name, as a map by texts has it
pub ways-text : (t : List ℕ) (es : List (String Global × NodeId))
    → lookup (bytes_eq t) (map (λ e. (string_bytes e.0, e.1.0)) es) ≡ option_map (λ i. i.0)
    (lookup (is_at (λ k. slice_cmp nat_cmp t (string_bytes k))) es)
ways-text t [] = refl
ways-text t (e ∷ es) =
    rw (ways-text t es, is_eq-slice_cmp t (string_bytes e.0)) (by_test (bytes_eq t (string_bytes e.0)))
  where
    by_test : (b : Bool) → cond b (Some e.1.0) (option_map (λ i. i.0)
        (lookup (is_at (λ k. slice_cmp nat_cmp t (string_bytes k))) es)) ≡ option_map (λ i. i.0)
        (cond b (Some e.1) (lookup (is_at (λ k. slice_cmp nat_cmp t (string_bytes k))) es))
    by_test true = refl
    by_test false = refl

pub ways-updated : (m n : BTreeMap (String Global) NodeId) (k : String Global) (v : NodeId)
    → UpdatesBy string_cmp (string_cmp k) m n (Some v) → (t : List ℕ)
    → lookup (bytes_eq t) (ways n) ≡ cond (bytes_eq (string_bytes k) t) (Some v.0) (lookup (bytes_eq t) (ways m))
ways-updated m n k v updates t =
    ways-text t n.entries
    ∙ ap (option_map (λ i. i.0)) (btree_map_updates_text (string_bytes k) m n (Some v) updates t)
    ∙ by_test (bytes_eq (string_bytes k) t)
    ∙ ap (λ o. cond (bytes_eq (string_bytes k) t) (Some v.0) o) (sym (ways-text t m.entries))
  where
    by_test : (b : Bool) → option_map (λ i. i.0) (cond b (Some v)
        (lookup (is_at (λ k. slice_cmp nat_cmp t (string_bytes k))) m.entries)) ≡ cond b (Some v.0)
        (option_map (λ i. i.0) (lookup (is_at (λ k. slice_cmp nat_cmp t (string_bytes k))) m.entries))
    by_test true = refl
    by_test false = refl

pub on_err : {A E : Type 0} {P : Type 0} (r : Result A E) → P → OnErr r P
on_err (Ok a) p = tt
on_err (Err e) p = p

-- ---- one node gets other children

-- a node with other children in place of its own
abbrev pub with_children : {T : Type 0} → Node T → BTreeMap (String Global) NodeId → Node T
with_children x m = record { location = x.location; children = m; value = x.value }

other_children : {T B : Type 0} (f : Node T → B) (ns : List (Node T)) (at : ℕ) (x : Node T)
    (m : BTreeMap (String Global) NodeId) → x ≡ get_or ns at x → f (with_children x m) ≡ f x
    → map f (set ns at (with_children x m)) ≡ map f ns
other_children f ns at x m is same = map-set_same f ns at (with_children x m) x (same ∙ ap f is)

child_at-set_same : {T : Type 0} (ns : List (Node T)) (at : ℕ) (y : Node T) (k : List ℕ) → at < length ns
    → child_at (set ns at y) at k ≡ lookup (bytes_eq k) (ways y.children)
child_at-set_same {T} ns at y k lt =
    let f : Node T → List (List ℕ × ℕ) = λ n. ways n.children in
    let inside : at < length (map f ns) = omega (arith, length-map ns f) in
    ap (λ es. lookup (bytes_eq k) (get_or es at [])) (map-set f ns at y)
    ∙ ap (lookup (bytes_eq k)) (get_or-set_same (map f ns) at (f y) [] inside)

child_at-set_other : {T : Type 0} (ns : List (Node T)) (at i : ℕ) (y : Node T) (k : List ℕ) → i ≢ at
    → child_at (set ns at y) i k ≡ child_at ns i k
child_at-set_other {T} ns at i y k other =
    let f : Node T → List (List ℕ × ℕ) = λ n. ways n.children in
    ap (λ es. lookup (bytes_eq k) (get_or es i [])) (map-set f ns at y)
    ∙ ap (lookup (bytes_eq k)) (get_or-set_other (map f ns) at i (f y) [] other)

pub led : {T : Type 0} (ns : List (Node T)) (at : ℕ) (x : Node T) (m : BTreeMap (String Global) NodeId)
    (k : String Global) (v : NodeId) → at < length ns → x ≡ get_or ns at x
    → UpdatesBy string_cmp (string_cmp k) x.children m (Some v)
    → IsLed ns (set ns at (with_children x m)) at (string_bytes k) v.0
led {T} ns at x m k v lt is updates = record {
  size = length-set ns at (with_children x m);
  locations = λ i. ap (λ ps. get_or ps i []) (other_children (λ (n : Node T). n.location) ns at x m is refl);
  way = λ t. child_at-set_same ns at (with_children x m) t lt ∙ ways-updated x.children m k v updates t
      ∙ ap (λ o. cond (bytes_eq (string_bytes k) t) (Some v.0) o) (sym (child_at-read ns at x t lt is));
  others = λ i other t. child_at-set_other ns at i (with_children x m) t other;
  values = λ i. ap (λ vs. get_or vs i None) (other_children (λ (n : Node T). n.value) ns at x m is refl);
  stored = ap (filter_map (λ entry. entry)) (other_children (λ (n : Node T). option_map (λ v. (text_of n.location, v))
      n.value) ns at x m is refl);
}

pub unled : {T : Type 0} (ns : List (Node T)) (at : ℕ) (x : Node T) (m : BTreeMap (String Global) NodeId)
    → x ≡ get_or ns at x → m.entries ≡ x.children.entries → AreSame ns (set ns at (with_children x m))
unled {T} ns at x m is same = record {
  size = length-set ns at (with_children x m);
  locations = λ i. ap (λ ps. get_or ps i []) (other_children (λ (n : Node T). n.location) ns at x m is refl);
  children = λ i t. ap (λ es. lookup (bytes_eq t) (get_or es i []))
      (other_children (λ (n : Node T). ways n.children) ns at x m is (ap (map (λ e. (string_bytes e.0, e.1.0))) same));
  values = λ i. ap (λ vs. get_or vs i None) (other_children (λ (n : Node T). n.value) ns at x m is refl);
  stored = ap (filter_map (λ entry. entry)) (other_children (λ (n : Node T). option_map (λ v. (text_of n.location, v))
      n.value) ns at x m is refl);
}

-- ---- the three ways to make nodes

-- facts of a list with a node behind it
location_push : {T : Type 0} (ns : List (Node T)) (x : Node T) (i : ℕ) → i ≢ length ns
    → location_at (ns ++ x ∷ []) i ≡ location_at ns i
location_push {T} ns x i other = push_other (λ (n : Node T). n.location) ns x i [] other

child_push : {T : Type 0} (ns : List (Node T)) (x : Node T) (i : ℕ) (k : List ℕ) → i ≢ length ns
    → child_at (ns ++ x ∷ []) i k ≡ child_at ns i k
child_push {T} ns x i k other = ap (lookup (bytes_eq k)) (push_other (λ (n : Node T). ways n.children) ns x i [] other)

value_push : {T : Type 0} (ns : List (Node T)) (x : Node T) → x.value ≡ None → (i : ℕ)
    → value_in (ns ++ x ∷ []) i ≡ value_in ns i
value_push {T} ns x none i = by_place (is_place i (length ns))
  where
    by_place : (i ≡ length ns) ⊎ (i ≢ length ns) → value_in (ns ++ x ∷ []) i ≡ value_in ns i
    by_place (inl e) =
        rw e (push_here (λ (n : Node T). n.value) ns x None ∙ none ∙ sym (past (λ (n : Node T). n.value) ns None))
    by_place (inr other) = push_other (λ (n : Node T). n.value) ns x i None other

-- a leaf has no children, as a place without node has none
child_leaf : {T : Type 0} (ns : List (Node T)) (x : Node T) (l : Path) → IsLeaf x l → (i : ℕ) (k : List ℕ)
    → child_at (ns ++ x ∷ []) i k ≡ child_at ns i k
child_leaf {T} ns x l leaf i k = by_place (is_place i (length ns))
  where
    by_place : (i ≡ length ns) ⊎ (i ≢ length ns) → child_at (ns ++ x ∷ []) i k ≡ child_at ns i k
    by_place (inl e) = rw e (ap (lookup (bytes_eq k)) (push_here (λ (n : Node T). ways n.children) ns x []
        ∙ ap (map (λ e. (string_bytes e.0, e.1.0))) leaf.children ∙ sym (past (λ (n : Node T). ways n.children) ns [])))
    by_place (inr other) = child_push ns x i k other

pub attaches : {T : Type 0} (old led new : List (Node T)) (at : ℕ) (name : List ℕ) (l : Path) (leaf : Node T)
    → at < length old → IsLed old led at name (length old) → IsLeaf leaf l → new ≡ led ++ leaf ∷ []
    → Attaches old new at name l
attaches {T} old led new at name l leaf lt is empty made = rw made (record {
  size = length-append led (leaf ∷ []) ∙ omega (arith, is.size);
  attached = record {
    same = λ i other. location_push led leaf i (rw is.size other) ∙ is.locations i;
    made = rw (← is.size) (push_here (λ (n : Node T). n.location) led leaf []) ∙ empty.location;
    way = λ k. child_leaf led leaf l empty at k ∙ is.way k;
    others = λ i other k. child_leaf led leaf l empty i k ∙ is.others i other k;
  };
  values = λ i. value_push led leaf empty.value i ∙ is.values i;
  stored = stored-push led leaf empty.value ∙ is.stored;
})

pub puts_between : {T : Type 0} (old led : List (Node T)) (at : ℕ) (name : List ℕ) (node : Node T) → at < length old
    → node.value ≡ None → IsLed (old ++ node ∷ []) led at name (length old) → PutsBetween old led at name node
puts_between {T} old led at name node lt empty is =
    let other : at ≢ length old = omega arith in
    record {
      size = is.size ∙ length-append old (node ∷ []) ∙ omega arith;
      parted = record {
        same = λ i p. is.locations i ∙ location_push old node i p;
        made = is.locations (length old) ∙ push_here (λ (n : Node T). n.location) old node [];
        way = λ k. is.way k ∙ ap (λ o. cond (bytes_eq name k) (Some (length old)) o) (child_push old node at k other);
        further = λ k. is.others (length old) (λ e. other (sym e)) k
            ∙ ap (lookup (bytes_eq k)) (push_here (λ (n : Node T). ways n.children) old node []);
        others = λ i p q k. is.others i p k ∙ child_push old node i k q;
      };
      values = λ i. is.values i ∙ value_push old node empty i;
      stored = is.stored ∙ stored-push old node empty;
    }

pub puts_beside : {T : Type 0} (old led : List (Node T)) (at : ℕ) (name : List ℕ) (node leaf : Node T)
    (m : BTreeMap (String Global) NodeId) (beside : List ℕ) (p : Path) → at < length old → node.value ≡ None
    → IsLeaf leaf p
    → ((k : List ℕ) → lookup (bytes_eq k) (ways m) ≡ cond (bytes_eq beside k) (Some (suc (length old)))
    (lookup (bytes_eq k) (ways node.children)))
    → IsLed ((old ++ with_children node m ∷ []) ++ leaf ∷ []) led at name (length old)
    → PutsBeside old led at name node beside p
puts_beside {T} old led at name node leaf m beside p lt empty is_leaf ways_are is =
    let other : at ≢ length old = omega arith in
    let x : Node T = with_children node m in
    let size : length (old ++ x ∷ []) ≡ suc (length old) = length-append old (x ∷ []) ∙ omega arith in
    let apart : length old ≢ length (old ++ x ∷ []) = omega arith in
    record {
      size = is.size ∙ length-append (old ++ x ∷ []) (leaf ∷ []) ∙ omega (arith, size);
      parted = record {
        same = λ i q r. is.locations i ∙ location_push (old ++ x ∷ []) leaf i (rw size r) ∙ location_push old x i q;
        made = is.locations (length old) ∙ location_push (old ++ x ∷ []) leaf (length old) apart
            ∙ push_here (λ (n : Node T). n.location) old x [];
        made_beside = is.locations (suc (length old))
            ∙ rw (← size) (push_here (λ (n : Node T). n.location) (old ++ x ∷ []) leaf []) ∙ is_leaf.location;
        way = λ k. is.way k ∙ ap (λ o. cond (bytes_eq name k) (Some (length old)) o)
            (child_leaf (old ++ x ∷ []) leaf p is_leaf at k ∙ child_push old x at k other);
        further = λ k. is.others (length old) (λ e. other (sym e)) k
            ∙ child_leaf (old ++ x ∷ []) leaf p is_leaf (length old) k
            ∙ ap (lookup (bytes_eq k)) (push_here (λ (n : Node T). ways n.children) old x []) ∙ ways_are k;
        others = λ i q r k. is.others i q k ∙ child_leaf (old ++ x ∷ []) leaf p is_leaf i k ∙ child_push old x i k r;
      };
      values = λ i. is.values i ∙ value_push (old ++ x ∷ []) leaf is_leaf.value i ∙ value_push old x empty i;
      stored = is.stored ∙ stored-push (old ++ x ∷ []) leaf is_leaf.value ∙ stored-push old x empty;
    }
