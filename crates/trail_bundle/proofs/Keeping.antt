-- What a map has for a question, and what is put in and taken out.
use Rattle.std.proofs.Common.{
  ◌≡◌,
  ◌||◌,
  ℕ,
  zero,
  suc,
  Bool,
  true,
  false,
  cond,
  List,
  [],
  ◌∷◌,
  ◌++◌,
  Option,
  Some,
  None,
  is_some,
  Ordering,
  Less,
  Equal,
  Greater,
  length,
  Result,
  Ok,
  Err,
  inl,
  inr,
  refl,
  sym,
  ap,
  ◌∙◌,
  subst,
  arith,
  append_assoc,
  append-nil,
  take,
  ◌-◌,
  is_err,
  length-append,
}
use Rattle.std.specs.Prelude.{IfErr, IsErrAnd, OnErr}
use Rattle.std.specs.BTreeMap.{BTreeMap, UpdatesBy, insert_entry, is_at}
use Rattle.std.specs.Bool.{passes}
use Rattle.std.specs.Cmp.{both_ways, tied_itself}
use Rattle.std.specs.Cmp.Lexicographic.{slice_cmp}
use Rattle.std.specs.FinMap.{nat_cmp-IsAntisymmetric, slice_cmp-IsAntisymmetric}
use Rattle.std.specs.FinMap.Entries.{find, same_entries}
use Rattle.std.specs.List.{AllByRecursion, list_all, list_any}
use Rattle.std.specs.List.Sorted.{IsStrictlySortedBy}
use Rattle.std.specs.Option.{option_or}
use Rattle.std.specs.Map.{keys_of, lookup, remove_entry}
use Rattle.std.specs.Ordering.{is_eq, match_ordering, nat_cmp, ordering_then}
use Rattle.std.proofs.Math.Seq.{take-append_seam}
use Rattle.sugar_path.proofs.Bools.{and_both, and_left, and_right}
use Rattle.tree_core.specs.declared.question.Question.{Question}
use Rattle.tree_core.specs.declared.question.Question.TheVariants.{File, Dir, Exists, Read, Canon}
use Rattle.tree_core.specs.declared.question.Reply.{Reply}
use Rattle.tree_core.specs.Question.{path_asked, question_eq, reply_in}
use Rattle.tree_core.proofs.Replies.{chosen, question_eq-is, question_eq-refl}
use Rattle.trail_bundle.specs.declared.ordered.Ordered.{Ordered}
use Rattle.trail_bundle.specs.Bundle.{AreReplies, is_reply}
use Rattle.trail_bundle.specs.QuestionOrder.{question_cmp, question_cmp_total, rank}
use Rattle.trail_bundle.specs.declared.bundle_error.BundleError.{BundleError}
use Rattle.trail_bundle.specs.declared.bundle_error.BundleError.TheVariants.{Conflict, NoMemory}
use Rattle.trail_bundle.specs.Adding.{AgreeAt, IsRefusedBy, TellsDiffer}
use Rattle.trail_bundle.specs.Keeping.{first_of, is_among, kept_without, reply_at}
use Rattle.trail_bundle.specs.Steps.{steps_of}
use Rattle.trail_bundle.proofs.Orders.{ordered_cmp}
use Rattle.trail_bundle.proofs.Sorted.{sorted-entries}

both_equal : (r s : Ordering) → ordering_then r s ≡ Equal → (r ≡ Equal) × (s ≡ Equal)
both_equal Less s h = cc
both_equal Equal s h = (refl, h)
both_equal Greater s h = cc

-- the question with a rank on a path
abbrev ranked : ℕ → List ℕ → Question
ranked zero p = File p
ranked (suc zero) p = Dir p
ranked (suc (suc zero)) p = Exists p
ranked (suc (suc (suc zero))) p = Read p
ranked (suc (suc (suc (suc n)))) p = Canon p

whole : (q : Question) → ranked (rank q) (path_asked q) ≡ q
whole (File p) = refl
whole (Dir p) = refl
whole (Exists p) = refl
whole (Read p) = refl
whole (Canon p) = refl

-- only a question ties with itself
pub one_question : (p q : Question) → question_cmp p q ≡ Equal → p ≡ q
one_question p q h =
    let both = both_equal (slice_cmp nat_cmp (path_asked p) (path_asked q)) (nat_cmp (rank p) (rank q)) h in
    let path = slice_cmp-IsAntisymmetric nat_cmp-IsAntisymmetric (path_asked p) (path_asked q) both.0 in
    let number = nat_cmp-IsAntisymmetric (rank p) (rank q) both.1 in
    sym (whole p) ∙ ap (λ n. ranked n (path_asked p)) number ∙ ap (ranked (rank q)) path ∙ whole q

equal : (r : Ordering) → is_eq r ≡ true → r ≡ Equal
equal Less h = cc
equal Equal h = refl
equal Greater h = cc

pub same_test : (p q : Question) → is_eq (question_cmp q p) ≡ question_eq p q
same_test p q = both_ways (is_eq (question_cmp q p)) (question_eq p q)
    (λ h. let same = one_question q p (equal _ h) in ap (question_eq p) same ∙ question_eq-refl p)
    (λ h. let same = question_eq-is p q h in ap (λ r. is_eq (question_cmp r p)) (sym same)
    ∙ ap is_eq (tied_itself question_cmp_total p))

-- what a look-up finds
pub lookup_is : (es : List (Ordered × Reply)) (q : Question)
    → lookup (is_at (λ (k : Ordered). question_cmp q k.question)) es ≡ reply_in (steps_of es) q
lookup_is [] q = refl
lookup_is (e ∷ es) q =
    ap (λ b. cond b (Some e.1) (lookup (is_at (λ (k : Ordered). question_cmp q k.question)) es))
    (same_test e.0.question q)
    ∙ ap (cond (question_eq e.0.question q) (Some e.1)) (lookup_is es q)

pub fit-insert : (es : List (Ordered × Reply)) (k : Ordered) (r : Reply) → list_all is_reply (steps_of es) ≡ true
    → is_reply (k.question, r) ≡ true → list_all is_reply (steps_of (insert_entry ordered_cmp es k r)) ≡ true
fit-insert [] k r h fits = and_both (is_reply (k.question, r)) true fits refl
fit-insert (e ∷ es) k r h fits =
    by_order (ordered_cmp k e.0) refl (fit-insert es k r (and_right (is_reply (e.0.question, e.1)) _ h) fits)
  where
    by_order : (c : Ordering) → ordered_cmp k e.0 ≡ c
        → list_all is_reply (steps_of (insert_entry ordered_cmp es k r)) ≡ true
        → list_all is_reply (steps_of (match_ordering c ((k, r) ∷ e ∷ es) ((e.0, r) ∷ es)
        (e ∷ insert_entry ordered_cmp es k r))) ≡ true
    by_order Less is rest = and_both (is_reply (k.question, r)) _ fits h
    by_order Equal is rest =
        and_both (is_reply (e.0.question, r)) _ (ap (λ q. is_reply (q, r))
        (sym (one_question k.question e.0.question is)) ∙ fits)
        (and_right (is_reply (e.0.question, e.1)) _ h)
    by_order Greater is rest = and_both (is_reply (e.0.question, e.1)) _ (and_left _ _ h) rest

pub fit-remove : (test : Ordered → Bool) (es : List (Ordered × Reply)) → list_all is_reply (steps_of es) ≡ true
    → list_all is_reply (steps_of (remove_entry test es)) ≡ true
fit-remove test [] h = refl
fit-remove test (e ∷ es) h = by_test (test e.0) (fit-remove test es (and_right (is_reply (e.0.question, e.1)) _ h))
  where
    by_test : (b : Bool) → list_all is_reply (steps_of (remove_entry test es)) ≡ true
        → list_all is_reply (steps_of (cond b es (e ∷ remove_entry test es))) ≡ true
    by_test true rest = and_right (is_reply (e.0.question, e.1)) _ h
    by_test false rest = and_both (is_reply (e.0.question, e.1)) _ (and_left _ _ h) rest

-- one question is another
turned : (p q : Question) → question_eq p q ≡ question_eq q p
turned p q = both_ways (question_eq p q) (question_eq q p)
    (λ h. let same = question_eq-is p q h in ap (λ r. question_eq q r) same ∙ question_eq-refl q)
    (λ h. let same = question_eq-is q p h in ap (λ r. question_eq p r) same ∙ question_eq-refl p)

pub or_nothing : (o : Option Reply) → option_or o None ≡ o
or_nothing None = refl
or_nothing (Some r) = refl

or_held : (o x : Option Reply) → is_some o ≡ true → option_or o x ≡ o
or_held None x h = cc
or_held (Some r) x h = refl

-- a question that is held already
pub held : (a : Question → Option Reply) (trail : Question → Option Reply) (p : Question) → is_some (a p) ≡ true
    → (q : Question) → a q ≡ option_or (a q) (cond (question_eq p q) (trail q) None)
held a trail p some q = by_test (question_eq p q) refl
  where
    by_test : (b : Bool) → question_eq p q ≡ b → a q ≡ option_or (a q) (cond b (trail q) None)
    by_test true is = sym (or_held (a q) (trail q) (ap (λ r. is_some (a r)) (sym (question_eq-is p q is)) ∙ some))
    by_test false is = sym (or_nothing (a q))

-- a question that is put in
pub put_in : (a b : Question → Option Reply) (trail : Question → Option Reply) (p : Question) (r : Reply) → a p ≡ None
    → trail p ≡ Some r → ((q : Question) → b q ≡ cond (is_eq (question_cmp p q)) (Some r) (a q)) → (q : Question)
    → b q ≡ option_or (a q) (cond (question_eq p q) (trail q) None)
put_in a b trail p r none told up q =
    up q ∙ ap (λ t. cond t (Some r) (a q)) (same_test q p ∙ turned q p) ∙ by_test (question_eq p q) refl
  where
    by_test : (t : Bool) → question_eq p q ≡ t → cond t (Some r) (a q) ≡ option_or (a q) (cond t (trail q) None)
    by_test true is =
        let same = question_eq-is p q is in
        sym (ap (λ o. option_or o (trail q)) (ap a (sym same) ∙ none) ∙ ap trail (sym same) ∙ told)
    by_test false is = sym (or_nothing (a q))

among-push : (fresh : List Ordered) (k : Ordered) (q : Question)
    → is_among (fresh ++ k ∷ []) q ≡ (is_among fresh q || question_eq k.question q)
among-push [] k q = or_false (question_eq k.question q)
  where
    or_false : (b : Bool) → (b || false) ≡ b
    or_false true = refl
    or_false false = refl
among-push (f ∷ fresh) k q = by_first (question_eq f.question q) (among-push fresh k q)
  where
    by_first : (b : Bool) → is_among (fresh ++ k ∷ []) q ≡ (is_among fresh q || question_eq k.question q)
        → (b || is_among (fresh ++ k ∷ []) q) ≡ ((b || is_among fresh q) || question_eq k.question q)
    by_first true rest = refl
    by_first false rest = rest

-- without a fresh question all is as before it was put in
pub as_before : (fresh : List Ordered) (k : Ordered) (a b : Question → Option Reply) → a k.question ≡ None
    → ((q : Question) → question_eq k.question q ≡ false → b q ≡ a q) → (q : Question)
    → cond (is_among (fresh ++ k ∷ []) q) None (b q) ≡ cond (is_among fresh q) None (a q)
as_before fresh k a b none same q =
    ap (λ t. cond t None (b q)) (among-push fresh k q) ∙ by_fresh (is_among fresh q)
  where
    by_key : (t : Bool) → question_eq k.question q ≡ t → cond t None (b q) ≡ a q
    by_key true is = sym (ap a (sym (question_eq-is k.question q is)) ∙ none)
    by_key false is = same q is

    by_fresh : (t : Bool) → cond (t || question_eq k.question q) None (b q) ≡ cond t None (a q)
    by_fresh true = refl
    by_fresh false = by_key (question_eq k.question q) refl

-- one question more is taken out
pub one_out : (p : Question) (a b : Question → Option Reply) (before : Bool) (q : Question)
    → b q ≡ cond (is_eq (question_cmp p q)) None (a q) → b q ≡ cond (question_eq p q) None (a q)
one_out p a b before q up = up ∙ ap (λ t. cond t None (a q)) (same_test q p ∙ turned q p)

none_of : (o : Option Reply) → is_some o ≡ false → o ≡ None
none_of None h = refl
none_of (Some r) h = cc

-- what a look-up by a key tells of its question
pub found_at : (m : BTreeMap Ordered Reply) (k : Ordered) (p : Question) (b : Bool)
    → b ≡ is_some (lookup (is_at (ordered_cmp k)) m.entries) → k.question ≡ p → is_some (reply_at m p) ≡ b
found_at m k p b is same =
    ap (λ q. is_some (reply_at m q)) (sym same) ∙ ap is_some (sym (lookup_is m.entries k.question)) ∙ sym is

pub absent_at : (m : BTreeMap Ordered Reply) (k : Ordered) (p : Question) (b : Bool)
    → b ≡ is_some (lookup (is_at (ordered_cmp k)) m.entries) → k.question ≡ p → b ≡ false → reply_at m p ≡ None
absent_at m k p b is same lacks = none_of (reply_at m p) (found_at m k p b is same ∙ lacks)

-- a map after a change at a key
pub changed : (m n : BTreeMap Ordered Reply) (k : Ordered) (p : Question) (w : Option Reply)
    → UpdatesBy ordered_cmp (ordered_cmp k) m n w → k.question ≡ p → (q : Question)
    → reply_at n q ≡ cond (is_eq (question_cmp p q)) w (reply_at m q)
changed m n k p w up same q =
    sym (lookup_is n.entries q) ∙ up.0 (record { question = q })
    ∙ ap (cond (is_eq (question_cmp k.question q)) w) (lookup_is m.entries q)
    ∙ ap (λ r. cond (is_eq (question_cmp r q)) w (reply_at m q)) same

pub others : (a b : Question → Option Reply) (p : Question) (w : Option Reply)
    → ((q : Question) → b q ≡ cond (is_eq (question_cmp p q)) w (a q)) → (q : Question) → question_eq p q ≡ false
    → b q ≡ a q
others a b p w up q h = up q ∙ ap (λ t. cond t w (a q)) (same_test q p ∙ turned q p ∙ h)

pub unchanged : (m n : BTreeMap Ordered Reply) → n.entries ≡ m.entries → (q : Question) → reply_at n q ≡ reply_at m q
unchanged m n h q = ap (λ es. reply_in (steps_of es) q) h

pub before_push : (fresh after : List Ordered) (k : Ordered) (m n : BTreeMap Ordered Reply) → after ≡ fresh ++ k ∷ []
    → reply_at m k.question ≡ None → ((q : Question) → question_eq k.question q ≡ false → reply_at n q ≡ reply_at m q)
    → (q : Question) → kept_without after n q ≡ kept_without fresh m q
before_push fresh after k m n is none same q =
    ap (λ f. kept_without f n q) is ∙ as_before fresh k (reply_at m) (reply_at n) none same q

pub are_with : (m n : BTreeMap Ordered Reply) (k : Ordered) (r : Reply)
    → n.entries ≡ insert_entry ordered_cmp m.entries k r → IsStrictlySortedBy ordered_cmp (keys_of n.entries)
    → is_reply (k.question, r) ≡ true → AreReplies (steps_of m.entries) → AreReplies (steps_of n.entries)
are_with m n k r is sorted fits are = record {
  ascend = sorted-entries n.entries sorted;
  fit = ap (λ es. list_all is_reply (steps_of es)) is ∙ fit-insert m.entries k r are.fit fits;
}

pub are_without : (m n : BTreeMap Ordered Reply) (test : Ordered → Bool) → n.entries ≡ remove_entry test m.entries
    → IsStrictlySortedBy ordered_cmp (keys_of n.entries) → AreReplies (steps_of m.entries)
    → AreReplies (steps_of n.entries)
are_without m n test is sorted are = record {
  ascend = sorted-entries n.entries sorted;
  fit = ap (λ es. list_all is_reply (steps_of es)) is ∙ fit-remove test m.entries are.fit;
}

-- what is left to be taken out
pub out_step : (x : Ordered) (rest : List Ordered) (m n : BTreeMap Ordered Reply)
    → ((q : Question) → reply_at n q ≡ cond (is_eq (question_cmp x.question q)) None (reply_at m q)) → (q : Question)
    → kept_without rest n q ≡ kept_without (x ∷ rest) m q
out_step x rest m n up q =
    ap (cond (is_among rest q) None) (up q ∙ ap (λ t. cond t None (reply_at m q))
    (same_test q x.question ∙ turned q x.question))
    ∙ by_tests (is_among rest q) (question_eq x.question q)
  where
    by_tests : (t u : Bool) → cond t None (cond u None (reply_at m q)) ≡ cond (u || t) None (reply_at m q)
    by_tests true true = refl
    by_tests true false = refl
    by_tests false true = refl
    by_tests false false = refl

-- maps that have the same for each question are one
pub find_is : (steps : List (Question × Reply)) (q : Question) → find question_cmp q steps ≡ reply_in steps q
find_is [] q = refl
find_is (s ∷ steps) q =
    ap (λ b. cond b (Some s.1) (find question_cmp q steps)) (same_test s.0 q)
    ∙ ap (cond (question_eq s.0 q) (Some s.1)) (find_is steps q)

pub one_list : (xs ys : List (Question × Reply)) → AreReplies xs → AreReplies ys
    → ((q : Question) → reply_in xs q ≡ reply_in ys q) → xs ≡ ys
one_list xs ys h k is =
    same_entries question_cmp question_cmp_total one_question xs ys (passes _ h.ascend) (passes _ k.ascend)
    (λ q. find_is xs q ∙ is q ∙ sym (find_is ys q))

-- the conflict of a trail, if there is one
agree_push : (kept trail before : List (Question × Reply)) (step : Question × Reply)
    → AllByRecursion (λ s. AgreeAt kept trail s.0) before → AgreeAt kept trail step.0
    → AllByRecursion (λ s. AgreeAt kept trail s.0) (before ++ step ∷ [])
agree_push kept trail [] step all here = (here, tt)
agree_push kept trail (s ∷ before) step all here = (all.0, agree_push kept trail before step all.1 here)

-- the questions before what is left have no two replies
pub record Agreed (kept trail rest : List (Question × Reply)) : Type 0 where
  pub before : List (Question × Reply)
  pub in_order : trail ≡ before ++ rest
  pub agree : AllByRecursion (λ s. AgreeAt kept trail s.0) before

pub agreed_more : (kept trail rest more : List (Question × Reply)) (step : Question × Reply) → Agreed kept trail rest
    → rest ≡ step ∷ more → AgreeAt kept trail step.0 → Agreed kept trail more
agreed_more kept trail rest more step so_far next here = record {
  before = so_far.before ++ step ∷ [];
  in_order = so_far.in_order ∙ ap (λ r. so_far.before ++ r) next ∙ sym (append_assoc so_far.before (step ∷ []) more);
  agree = agree_push kept trail so_far.before step so_far.agree here;
}

agree_found : (kept trail steps : List (Question × Reply)) → AllByRecursion (λ s. AgreeAt kept trail s.0) steps
    → (q : Question) (x : Reply) → reply_in steps q ≡ Some x → AgreeAt kept trail q
agree_found kept trail [] all q x found = cc
agree_found kept trail (s ∷ steps) all q x found =
    elim (chosen (question_eq s.0 q) (Some s.1) _ (Some x) found) [
      | inl w ↦ subst (AgreeAt kept trail) (question_eq-is s.0 q w.0) all.0
      | inr w ↦ agree_found kept trail steps all.1 q x w.1
    ]

no_step : (rest : List (Question × Reply)) → length rest ≡ 0 → rest ≡ []
no_step [] h = refl
no_step (s ∷ rest) h = absurd (omega arith)

pub all_agree : (kept trail rest : List (Question × Reply)) → Agreed kept trail rest → length rest ≡ 0 → (q : Question)
    → AgreeAt kept trail q
all_agree kept trail rest so_far none q = λ a b h k.
    let all : trail ≡ so_far.before =
    so_far.in_order ∙ ap (λ r. so_far.before ++ r) (no_step rest none) ∙ append-nil so_far.before in
    agree_found kept trail so_far.before so_far.agree q b (ap (λ t. reply_in t q) (sym all) ∙ k) a b h k

pub refused_so : {A : Type 0} (kept trail rest more : List (Question × Reply)) (step : Question × Reply)
    (e : BundleError) (r : Result A BundleError) → IsErrAnd r (λ x. x ≡ e) → Agreed kept trail rest → rest ≡ step ∷ more
    → TellsDiffer e step.0 kept trail → IfErr r (λ x. IsRefusedBy x kept trail)
refused_so kept trail rest more step e (Ok a) is so_far next told = elim is [ ]
refused_so kept trail rest more step e (Err x) is so_far next told =
    subst (λ x. IsRefusedBy x kept trail) (sym is) (by_error e told)
  where
    by_error : (e : BundleError) → TellsDiffer e step.0 kept trail → IsRefusedBy e kept trail
    by_error (Conflict q a b) told = record {
      here = told.1;
      before = so_far.before;
      step = step;
      later = more;
      in_order = so_far.in_order ∙ ap (λ r. so_far.before ++ r) next;
      asked = sym told.0;
      first = so_far.agree;
    }
    by_error NoMemory told = tt

-- what a trail has added before what is left
any-push : (p : Question × Reply → Bool) (xs : List (Question × Reply)) (y : Question × Reply)
    → list_any p (xs ++ y ∷ []) ≡ (list_any p xs || p y)
any-push p [] y = or_false (p y)
  where
    or_false : (b : Bool) → (b || false) ≡ b
    or_false true = refl
    or_false false = refl
any-push p (x ∷ xs) y = by_first (p x) (any-push p xs y)
  where
    by_first : (b : Bool) → list_any p (xs ++ y ∷ []) ≡ (list_any p xs || p y)
        → (b || list_any p (xs ++ y ∷ [])) ≡ ((b || list_any p xs) || p y)
    by_first true rest = refl
    by_first false rest = rest

or_step : (f t : Option Reply) (a e : Bool) → option_or (option_or f (cond a t None)) (cond e t None) ≡ option_or f
    (cond (a || e) t None)
or_step (Some r) t a e = refl
or_step None None true true = refl
or_step None None true false = refl
or_step None None false true = refl
or_step None None false false = refl
or_step None (Some r) true e = refl
or_step None (Some r) false e = refl

pub record Added (from m : Question → Option Reply) (trail rest : List (Question × Reply)) : Type 0 where
  pub before : List (Question × Reply)
  pub in_order : trail ≡ before ++ rest
  pub has : (q : Question) → m q ≡ option_or (from q) (first_of trail before q)

pub added_more : (from m n : Question → Option Reply) (trail rest more : List (Question × Reply))
    (step : Question × Reply) → Added from m trail rest → rest ≡ step ∷ more
    → ((q : Question) → n q ≡ option_or (m q) (cond (question_eq step.0 q) (reply_in trail q) None))
    → Added from n trail more
added_more from m n trail rest more step so_far next here = record {
  before = so_far.before ++ step ∷ [];
  in_order = so_far.in_order ∙ ap (λ r. so_far.before ++ r) next ∙ sym (append_assoc so_far.before (step ∷ []) more);
  has = λ q.
      here q ∙ ap (λ o. option_or o (cond (question_eq step.0 q) (reply_in trail q) None)) (so_far.has q)
      ∙ or_step (from q) (reply_in trail q) (list_any (λ s. question_eq s.0 q) so_far.before) (question_eq step.0 q)
      ∙ ap (λ t. option_or (from q) (cond t (reply_in trail q) None))
      (sym (any-push (λ s. question_eq s.0 q) so_far.before step));
}

all_first : (trail : List (Question × Reply)) (steps : List (Question × Reply)) (q : Question)
    → list_any (λ s. question_eq s.0 q) steps ≡ is_some (reply_in steps q)
all_first trail [] q = refl
all_first trail (s ∷ steps) q = by_first (question_eq s.0 q) (all_first trail steps q)
  where
    by_first : (b : Bool) → list_any (λ s. question_eq s.0 q) steps ≡ is_some (reply_in steps q)
        → (b || list_any (λ s. question_eq s.0 q) steps) ≡ is_some (cond b (Some s.1) (reply_in steps q))
    by_first true rest = refl
    by_first false rest = rest

if_some : (o : Option Reply) → cond (is_some o) o None ≡ o
if_some None = refl
if_some (Some r) = refl

pub all_added : (from m : Question → Option Reply) (trail rest : List (Question × Reply)) → Added from m trail rest
    → length rest ≡ 0 → (q : Question) → m q ≡ option_or (from q) (reply_in trail q)
all_added from m trail rest so_far none q =
    let all : trail ≡ so_far.before =
    so_far.in_order ∙ ap (λ r. so_far.before ++ r) (no_step rest none) ∙ append-nil so_far.before in
    so_far.has q ∙ ap (λ b. option_or (from q) (first_of trail b q)) (sym all)
    ∙ ap (λ t. option_or (from q) (cond t (reply_in trail q) None)) (all_first trail trail q)
    ∙ ap (option_or (from q)) (if_some (reply_in trail q))

pub on_error : {A E : Type 0} (r : Result A E) (P : Type 0) → P → OnErr r P
on_error (Ok a) P h = tt
on_error (Err e) P h = h

-- the replies of a conflict
pub agree_absent : (kept trail : List (Question × Reply)) (q : Question) → reply_in kept q ≡ None → AgreeAt kept trail q
agree_absent kept trail q none = λ a b h k. cc

pub agree_same : (kept trail : List (Question × Reply)) (q : Question) (x y : Reply) → Some x ≡ reply_in kept q
    → Some y ≡ reply_in trail q → x ≡ y → AgreeAt kept trail q
agree_same kept trail q x y of_kept of_trail same = λ a b h k. cc

pub kept_at : (m : BTreeMap Ordered Reply) (k : Ordered) (p : Question) (o : Option Reply)
    → o ≡ lookup (is_at (ordered_cmp k)) m.entries → k.question ≡ p → o ≡ reply_in (steps_of m.entries) p
kept_at m k p o is same = is ∙ lookup_is m.entries k.question ∙ ap (reply_in (steps_of m.entries)) same

pub from_error : {A E : Type 0} (r : Result A E) (P : Type 0) → is_err r ≡ true → OnErr r P → P
from_error (Ok a) P is h = cc
from_error (Err e) P is h = h

-- what is left when the last is gone
pub without_last : {A : Type 0} (xs new old : List A) (y : A) (n : ℕ) → new ≡ take (n - 1) old → n ≡ length old
    → old ≡ xs ++ y ∷ [] → new ≡ xs
without_last xs new old y n is count front =
    let held : n - 1 ≡ length xs = omega (arith, count, ap length front, length-append xs (y ∷ [])) in
    is ∙ ap (λ k. take k old) held ∙ ap (take (length xs)) front ∙ take-append_seam xs (y ∷ [])
