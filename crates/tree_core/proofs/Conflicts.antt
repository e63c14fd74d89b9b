-- Which file is in the way of a path, and what putting and taking files keeps.
use Rattle.std.proofs.Common.{
  ◌≡◌,
  ◌≤◌,
  ◌&&◌,
  ◌||◌,
  ◌++◌,
  ◌⊎◌,
  inl,
  inr,
  ℕ,
  Bool,
  true,
  false,
  not,
  cond,
  List,
  [],
  ◌∷◌,
  Option,
  Some,
  None,
  Result,
  Ok,
  Err,
  OnOk,
  OnErr,
  is_err,
  option_map,
  IsSome,
  IfSome,
  IfNone,
  is_some,
  length,
  refl,
  sym,
  ap,
  ◌∙◌,
  subst,
  arith,
}
use Rattle.std.specs.List.{find, list_any}
use Rattle.std.specs.Bool.{Decides}
use Rattle.std.specs.Borrow.{Bor}
use Rattle.std.specs.Ordering.{nat_cmp, eq_by_cmp}
use Rattle.std.specs.Cmp.Lexicographic.{slice_cmp, nat_list_cmp_total}
use Rattle.std.specs.FinMap as finite
use Rattle.std.proofs.lemmas.Map.Text.{is_eq-slice_cmp}
use Rattle.std.proofs.lemmas.Slice.Eq.{bytes_eq-Decides}
use Rattle.tree_core.specs.Tree.{
  Files,
  TreeFile,
  IsValidTree,
  IsFilePath,
  is_root_text,
  is_clean_path,
  is_file,
  is_folder,
  stands_above,
}
use Rattle.tree_core.specs.Memory.{IsStore, with_file, NoneAbove, HasBelow, conflicts, conflict}
use Rattle.tree_core.proofs.Above.{
  continues,
  above-continues,
  continues-from,
  above-from,
  above-is,
  above-trans,
  above-shorter,
  of_two_above,
}

abbrev pub same_text : List ℕ → List ℕ → Bool
same_text = eq_by_cmp (slice_cmp nat_cmp)

pub same_text-Decides : (a b : List ℕ) → Decides (same_text a b) (a ≡ b)
same_text-Decides a b = (
  λ h. (bytes_eq-Decides a b).0 (sym (is_eq-slice_cmp a b) ∙ h),
  λ e. is_eq-slice_cmp a b
      ∙ (bytes_eq-Decides a b).1 e,
)

-- the list has the text
abbrev pub Has : List (List ℕ) → List ℕ → Type 0
Has ks q = list_any (same_text q) ks ≡ true

pub has-key : (t : Files) (q : List ℕ) → is_file t q ≡ true → Has (finite.keys t) q
has-key t q h = sym (finite.contains_key-keys t q) ∙ h

pub key-has : (t : Files) (q : List ℕ) → Has (finite.keys t) q → is_file t q ≡ true
key-has t q h = finite.contains_key-keys t q ∙ h

pub or_right : (a b : Bool) → b ≡ true → (a || b) ≡ true
or_right true b h = refl
or_right false b h = h

pub or_left : (a b : Bool) → a ≡ true → (a || b) ≡ true
or_left true b h = refl
or_left false b h = cc

pub or_cases : (a b : Bool) → (a || b) ≡ true → (a ≡ true) ⊎ (b ≡ true)
or_cases true b h = inl refl
or_cases false b h = inr h

pub has-head : (k : List ℕ) (ks : List (List ℕ)) → Has (k ∷ ks) k
has-head k ks = or_left (same_text k k) (list_any (same_text k) ks) ((same_text-Decides k k).1 refl)

pub has-tail : (k q : List ℕ) (ks : List (List ℕ)) → Has ks q → Has (k ∷ ks) q
has-tail k q ks h = or_right (same_text q k) (list_any (same_text q) ks) h

-- the only one that passes is the first that does
pub find-only : (P : List ℕ → Bool) (k : List ℕ) (ks : List (List ℕ)) → Has ks k → P k ≡ true
    → ((q : List ℕ) → Has ks q → P q ≡ true → q ≡ k) → find P ks ≡ Some k
find-only P k [] has pass only = cc
find-only P k (x ∷ ks) has pass only =
    by_test (P x) refl (or_cases (same_text k x) (list_any (same_text k) ks) has)
    (λ rest. find-only P k ks rest pass (λ q h. only q (has-tail x q ks h)))
  where
    by_test : (b : Bool) → P x ≡ b → (same_text k x ≡ true) ⊎ Has ks k → (Has ks k → find P ks ≡ Some k)
        → cond b (Some x) (find P ks) ≡ Some k
    by_test true e w rest = ap Some (only x (has-head x ks) e)
    by_test false e (inl w) rest = let same : k ≡ x = (same_text-Decides k x).0 w in let passed : P x ≡ true =
        subst (λ (q : List ℕ). P q ≡ true) same pass in cc
    by_test false e (inr w) rest = rest w

pub find-same : (P Q : List ℕ → Bool) (ks : List (List ℕ)) → ((q : List ℕ) → Has ks q → P q ≡ Q q)
    → find P ks ≡ find Q ks
find-same P Q [] same = refl
find-same P Q (x ∷ ks) same =
    ap (λ b. cond b (Some x) (find P ks)) (same x (has-head x ks))
    ∙ ap (cond (Q x) (Some x)) (find-same P Q ks (λ q h. same q (has-tail x q ks h)))

pub none-found : (P : List ℕ → Bool) (ks : List (List ℕ)) → find P ks ≡ None → (q : List ℕ) → Has ks q → P q ≡ false
none-found P [] none q has = cc
none-found P (x ∷ ks) none q has =
    by_test (P x) refl none (or_cases (same_text q x) (list_any (same_text q) ks) has) (none-found P ks)
  where
    by_test : (b : Bool) → P x ≡ b → cond b (Some x) (find P ks) ≡ None → (same_text q x ≡ true) ⊎ Has ks q
        → (find P ks ≡ None → (q : List ℕ) → Has ks q → P q ≡ false) → P q ≡ false
    by_test true e none w rest = cc
    by_test false e none (inl w) rest = let same : q ≡ x = (same_text-Decides q x).0 w in ap P same ∙ e
    by_test false e none (inr w) rest = rest none q w

pub any-found : (P : List ℕ → Bool) (ks : List (List ℕ)) → list_any P ks ≡ is_some (find P ks)
any-found P [] = refl
any-found P (x ∷ ks) = by_test (P x) (any-found P ks)
  where
    by_test : (b : Bool) → list_any P ks ≡ is_some (find P ks)
        → (b || list_any P ks) ≡ is_some (cond b (Some x) (find P ks))
    by_test true rest = refl
    by_test false rest = rest

none-passes : (P : List ℕ → Bool) (ks : List (List ℕ)) → ((q : List ℕ) → Has ks q → P q ≡ false) → list_any P ks ≡ false
none-passes P [] none = refl
none-passes P (x ∷ ks) none = rw (none x (has-head x ks)) (none-passes P ks (λ q h. none q (has-tail x q ks h)))

-- a file is not `/`
pub file-apart : (t : Files) (q : List ℕ) → IsValidTree t → is_file t q ≡ true → is_root_text q ≡ false
file-apart t q valid there = not_first (is_root_text q) (is_clean_path q) (valid.paths q there)
  where
    not_first : (a b : Bool) → (not a && b) ≡ true → a ≡ false
    not_first true b h = cc
    not_first false b h = refl

pub any-below : (p : List ℕ) (ks : List (List ℕ)) → is_root_text p ≡ false
    → list_any (stands_above p) ks ≡ list_any (continues p) ks
any-below p ks apart = ap (λ root. list_any (λ q. cond root (not (is_root_text q)) (continues p q)) ks) apart

pub find-below : (p : List ℕ) (ks : List (List ℕ)) → is_root_text p ≡ false
    → find (stands_above p) ks ≡ find (continues p) ks
find-below p ks apart = ap (λ root. find (λ q. cond root (not (is_root_text q)) (continues p q)) ks) apart

-- a file above is the only one in the way
pub conflict-above : (t : Files) (p k : List ℕ) → IsValidTree t → is_root_text p ≡ false → is_file t k ≡ true
    → stands_above k p ≡ true → conflict t p ≡ Some k
conflict-above t p k valid under there above =
    find-only (conflicts p) k (finite.keys t) (has-key t k there) (or_right (stands_above p k) (stands_above k p) above)
    (λ q has h. only q (key-has t q has) (or_cases (stands_above p q) (stands_above q p) h))
  where
    only : (q : List ℕ) → is_file t q ≡ true → (stands_above p q ≡ true) ⊎ (stands_above q p ≡ true) → q ≡ k
    only q file (inl w) =
        let through = above-from k q (file-apart t k valid there)
        (above-trans k p q (continues-from k p (file-apart t k valid there) above) (continues-from p q under w)) in
        let apart = valid.apart k q there file in
        cc
    only q file (inr w) = by_case (of_two_above q k (of_q).0 (of_k).0 (sym (of_q).1 ∙ (of_k).1))
      where
        of_q : (rest : List ℕ) × (p ≡ q ++ 47 ∷ rest)
        of_q = above-is q p (continues-from q p (file-apart t q valid file) w)

        of_k : (rest : List ℕ) × (p ≡ k ++ 47 ∷ rest)
        of_k = above-is k p (continues-from k p (file-apart t k valid there) above)

        by_case : (q ≡ k) ⊎ ((continues q k ≡ true) ⊎ (continues k q ≡ true)) → q ≡ k
        by_case (inl w) = w
        by_case (inr (inl w)) =
            let over = above-from q k (file-apart t q valid file) w in let apart = valid.apart q k file there in cc
        by_case (inr (inr w)) =
            let over = above-from k q (file-apart t k valid there) w in let apart = valid.apart k q there file in cc

-- with none above, what is in the way is the first below
pub conflict-below : (t : Files) (p : List ℕ) → NoneAbove t p → conflict t p ≡ find (stands_above p) (finite.keys t)
conflict-below t p none = find-same (conflicts p) (stands_above p) (finite.keys t)
    (λ q has. by_test (stands_above p q) (stands_above q p) (none q (key-has t q has)))
  where
    by_test : (a b : Bool) → b ≡ false → (a || b) ≡ a
    by_test true b e = refl
    by_test false b e = e

-- No file stands above a path with a file below: it would stand above that file.
above-files : (t : Files) (p q : List ℕ) → IsValidTree t → is_root_text p ≡ false → HasBelow t p → is_file t q ≡ true
    → stands_above q p ≡ false
above-files t p q valid under below there = by_test (stands_above q p) refl
  where
    by_test : (b : Bool) → stands_above q p ≡ b → b ≡ false
    by_test true above =
        let none = none-passes (stands_above p) (finite.keys t) (λ w has. lower w has (stands_above p w) refl) in
        cc
      where
        lower : (w : List ℕ) → Has (finite.keys t) w → (b : Bool) → stands_above p w ≡ b → b ≡ false
        lower w has true e = let own = file-apart t q valid there in let through =
            above-from q w own (above-trans q p w (continues-from q p own above) (continues-from p w under e)) in
            let apart = valid.apart q w there (key-has t w has) in cc
        lower w has false e = refl
    by_test false above = refl

-- none above a path with a file below
pub none-above_folder : (t : Files) (p : List ℕ) → IsValidTree t → is_root_text p ≡ false → HasBelow t p → NoneAbove t p
none-above_folder t p valid under below = λ q there. above-files t p q valid under below there

-- what is found above, or below, is in the way
pub conflict-is : (t : Files) (p : List ℕ) (o : Option (Bor (List ℕ))) → IsValidTree t → is_root_text p ≡ false
    → find (stands_above p) (finite.keys t) ≡ None → IfSome o (λ k. is_file t k.now ≡ true)
    → IfSome o (λ k. stands_above k.now p ≡ true) → IfNone o (NoneAbove t p) → option_map (λ k. k.now) o ≡ conflict t p
conflict-is t p (Some k) valid under below there above none = sym (conflict-above t p k.now valid under there above)
conflict-is t p None valid under below there above none = sym (conflict-below t p none ∙ below)

pub no-conflict : (t : Files) (p q : List ℕ) → conflict t p ≡ None → is_file t q ≡ true → conflicts p q ≡ false
no-conflict t p q none there = none-found (conflicts p) (finite.keys t) none q (has-key t q there)

-- whether a file is in the way, of one that is and where none is
pub is-conflict : (t : Files) (p q : List ℕ) → is_file t q ≡ true → conflicts p q ≡ true → is_some (conflict t p) ≡ true
is-conflict t p q there in_way = by_result (conflict t p) refl
  where
    by_result : (o : Option (List ℕ)) → conflict t p ≡ o → is_some o ≡ true
    by_result (Some k) e = refl
    by_result None e = let free = no-conflict t p q e there in cc

pub is-no_conflict : (t : Files) (p : List ℕ) → ((q : List ℕ) → is_file t q ≡ true → stands_above p q ≡ false)
    → NoneAbove t p → is_some (conflict t p) ≡ false
is-no_conflict t p below above =
    sym (any-found (conflicts p) (finite.keys t))
    ∙ none-passes (conflicts p) (finite.keys t) (λ q has. neither (below q (key-has t q has))
    (above q (key-has t q has)))
  where
    neither : {a b : Bool} → a ≡ false → b ≡ false → (a || b) ≡ false
    neither e f = rw (e, f) refl

-- what has as many bytes as the longest path of a file stands above none
none-below_longest : (t : Files) (p : List ℕ) (longest : ℕ) → IsStore t longest → is_root_text p ≡ false
    → longest ≤ length p → list_any (stands_above p) (finite.keys t) ≡ false
none-below_longest t p longest store under full =
    none-passes (stands_above p) (finite.keys t) (λ q has. by_test q (stands_above p q) refl
    (store.room q (key-has t q has)))
  where
    by_test : (q : List ℕ) (b : Bool) → stands_above p q ≡ b → length q ≤ longest → b ≡ false
    by_test q true e le = let shorter = above-shorter p q (continues-from p q under e) in absurd (omega arith)
    by_test q false e le = refl

pub store-grows : (t : Files) (longest more : ℕ) → IsStore t longest → longest ≤ more → IsStore t more
store-grows t longest more store le = record {
  valid = store.valid;
  room = λ q there. let fits = store.room q there in omega arith;
}

or_false_left : (a b : Bool) → (a || b) ≡ false → a ≡ false
or_false_left true b e = e
or_false_left false b e = refl

or_false_right : (a b : Bool) → (a || b) ≡ false → b ≡ false
or_false_right true b e = cc
or_false_right false b e = e

not_above-itself : (p : List ℕ) → stands_above p p ≡ false
not_above-itself p = by_root (is_root_text p) refl
  where
    by_test : (b : Bool) → continues p p ≡ b → b ≡ false
    by_test true e = let shorter = above-shorter p p e in absurd (omega arith)
    by_test false e = refl

    by_root : (b : Bool) → is_root_text p ≡ b → stands_above p p ≡ false
    by_root true e = rw e refl
    by_root false e = above-continues p p e ∙ by_test (continues p p) refl

-- a file that nothing is in the way of keeps the tree valid
pub store-put : (t : Files) (p : List ℕ) (f : TreeFile) (longest : ℕ) → IsStore t longest → length p ≤ longest
    → IsFilePath p → IsFilePath f.canonical → conflict t p ≡ None → IsStore (finite.insert t p f) longest
store-put t p f longest store fits path canonical free = record {
  valid = record {
    paths = λ q there. paths q (same_text q p) refl (rw (finite.get-insert nat_list_cmp_total t p f q) at there);
    canonicals = λ q. rw (finite.get-insert nat_list_cmp_total t p f q) (canonicals q (same_text q p));
    apart = λ q r there here. apart q r (same_text q p) (same_text r p) refl refl
        (rw (finite.get-insert nat_list_cmp_total t p f q) at there)
        (rw (finite.get-insert nat_list_cmp_total t p f r) at here);
  };
  room = λ q there. room q (same_text q p) refl (rw (finite.get-insert nat_list_cmp_total t p f q) at there);
}
  where
    paths : (q : List ℕ) (b : Bool) → same_text q p ≡ b → IsSome (cond b (Some f) (finite.get t q)) → IsFilePath q
    paths q true e there = let same : q ≡ p = (same_text-Decides q p).0 e in rw same path
    paths q false e there = store.valid.paths q there

    canonicals : (q : List ℕ) (b : Bool) → IfSome (cond b (Some f) (finite.get t q)) (λ f. IsFilePath f.canonical)
    canonicals q true = canonical
    canonicals q false = store.valid.canonicals q

    room : (q : List ℕ) (b : Bool) → same_text q p ≡ b → IsSome (cond b (Some f) (finite.get t q)) → length q ≤ longest
    room q true e there = let same : q ≡ p = (same_text-Decides q p).0 e in rw same fits
    room q false e there = store.room q there

    apart : (q r : List ℕ) (a b : Bool) → same_text q p ≡ a → same_text r p ≡ b
        → IsSome (cond a (Some f) (finite.get t q)) → IsSome (cond b (Some f) (finite.get t r))
        → stands_above q r ≡ false
    apart q r true true d e there here = let one : q ≡ p = (same_text-Decides q p).0 d in let two : r ≡ p =
        (same_text-Decides r p).0 e in rw (one, two) (not_above-itself p)
    apart q r true false d e there here = let one : q ≡ p = (same_text-Decides q p).0 d in
        rw one (or_false_left (stands_above p r) (stands_above r p) (no-conflict t p r free here))
    apart q r false true d e there here = let two : r ≡ p = (same_text-Decides r p).0 e in
        rw two (or_false_right (stands_above p q) (stands_above q p) (no-conflict t p q free there))
    apart q r false false d e there here = store.valid.apart q r there here

-- a file less keeps the tree valid
pub store-remove : (t : Files) (p : List ℕ) (longest : ℕ) → IsStore t longest → IsStore (finite.remove t p) longest
store-remove t p longest store = record {
  valid = record {
    paths = λ q there. store.valid.paths q (kept q (same_text q p)
        (rw (finite.get-remove nat_list_cmp_total t p q) at there));
    canonicals = λ q. rw (finite.get-remove nat_list_cmp_total t p q) (canonicals q (same_text q p));
    apart = λ q r there here. store.valid.apart q r (kept q (same_text q p)
        (rw (finite.get-remove nat_list_cmp_total t p q) at there))
        (kept r (same_text r p) (rw (finite.get-remove nat_list_cmp_total t p r) at here));
  };
  room = λ q there. store.room q (kept q (same_text q p) (rw (finite.get-remove nat_list_cmp_total t p q) at there));
}
  where
    kept : (q : List ℕ) (b : Bool) → IsSome (cond b None (finite.get t q)) → IsSome (finite.get t q)
    kept q true there = cc
    kept q false there = there

    canonicals : (q : List ℕ) (b : Bool) → IfSome (cond b None (finite.get t q)) (λ f. IsFilePath f.canonical)
    canonicals q true = tt
    canonicals q false = store.valid.canonicals q

pub store-empty : (longest : ℕ) → IsStore finite.empty longest
store-empty longest = record {
  valid = record {
    paths = λ q there. absurd (nothing q there);
    canonicals = λ q. rw (finite.get-empty (slice_cmp nat_cmp) q) tt;
    apart = λ q r there here. absurd (nothing q there);
  };
  room = λ q there. absurd (nothing q there);
}
  where
    nothing : (q : List ℕ) → IsSome (finite.get (finite.empty {X = TreeFile} {R = slice_cmp nat_cmp}) q) → ⊥
    nothing q there = let gone = finite.get-empty {X = TreeFile} (slice_cmp nat_cmp) q in cc

-- after a file is put, or out of memory
pub store-after : {A E : Type 0} (result : Result A E) (t u : Files) (p path : List ℕ) (f : TreeFile)
    (canonical : List ℕ) (longest more : ℕ) → IsStore t longest → longest ≤ more → length path ≤ more → p ≡ path
    → f.canonical ≡ canonical → IsFilePath path → IsFilePath canonical → conflict t path ≡ None
    → OnOk result (u ≡ with_file t p f) → OnErr result (u ≡ t) → IsStore u more
store-after (Ok _) t u p path f canonical longest more store le fits same named path_ok canonical_ok free ok err =
    rw (ok, same) (store-put t path f more (store-grows t longest more store le) fits path_ok (rw named canonical_ok)
    free)
store-after (Err _) t u p path f canonical longest more store le fits same named path_ok canonical_ok free ok err =
    rw err (store-grows t longest more store le)

-- what isn't `/` is a folder where something is below it
folder-is : (t : Files) (p : List ℕ) (b : Bool) → is_root_text p ≡ false → list_any (stands_above p) (finite.keys t) ≡ b
    → is_folder t p ≡ b
folder-is t p b apart below = ap (λ root. root || list_any (stands_above p) (finite.keys t)) apart ∙ below

-- What is found below tells folders, where no file's path is longer than the room.
pub folder-found : (t : Files) (p : List ℕ) (longest : ℕ) (b : Bool) → IsStore t longest → is_root_text p ≡ false
    → (b ≡ true → HasBelow t p) → (b ≡ false → HasBelow t p → longest ≤ length p) → b ≡ is_folder t p
folder-found t p longest true store apart found missed = sym (folder-is t p true apart (found refl))
folder-found t p longest false store apart found missed =
    sym (folder-is t p false apart (by_test (list_any (stands_above p) (finite.keys t)) refl))
  where
    by_test : (b : Bool) → list_any (stands_above p) (finite.keys t) ≡ b
        → list_any (stands_above p) (finite.keys t) ≡ false
    by_test true e = none-below_longest t p longest store apart (missed refl e)
    by_test false e = e

pub when_err : {A E : Type 0} (P : Type 0) (r : Result A E) → is_err r ≡ true → OnErr r P → P
when_err P (Ok _) e h = cc
when_err P (Err _) e h = h

pub when_ok : {A E : Type 0} (P : Type 0) (r : Result A E) → is_err r ≡ false → OnOk r P → P
when_ok P (Ok _) e h = h
when_ok P (Err _) e h = cc

pub is_some-option_map : {A B : Type 0} (f : A → B) (o : Option A) → is_some (option_map f o) ≡ is_some o
is_some-option_map f None = refl
is_some-option_map f (Some x) = refl
