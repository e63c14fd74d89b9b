-- What an edit of a tree leaves: the replies to questions that it doesn't bear on, and the outcomes that those decide.
use Rattle.std.proofs.Common.{◌≡◌, ◌||◌, ◌⊎◌, inl, inr, ℕ, Bool, true, false, cond, List, [], ◌∷◌, Option, Some, None}
use Rattle.std.proofs.Common.{is_some, option_map, bytes_eq, refl, sym, ap, ◌∙◌, subst}
use Rattle.std.specs.List.{list_any}
use Rattle.std.specs.Bool.{Decides}
use Rattle.std.specs.Ordering.{nat_cmp, eq_by_cmp}
use Rattle.std.specs.Cmp.Lexicographic.{slice_cmp, nat_list_cmp_total}
use Rattle.std.specs.FinMap as finite
use Rattle.std.proofs.lemmas.Map.Text.{is_eq-slice_cmp}
use Rattle.std.proofs.lemmas.Slice.Eq.{bytes_eq-Decides}
use Rattle.tree_core.specs.declared.question.Question.{Question}
use Rattle.tree_core.specs.declared.question.Question.TheVariants.{File, Dir, Exists, Read, Canon}
use Rattle.tree_core.specs.declared.question.Reply.{Reply}
use Rattle.tree_core.specs.declared.question.Reply.TheVariants.{Flag, Bytes, Name}
use Rattle.tree_core.specs.declared.tree.TreeFile.{TreeFile}
use Rattle.tree_core.specs.Question.{path_asked, question_eq, reply_in}
use Rattle.tree_core.specs.Tree.{Files, reply, is_file, is_root_text, is_folder, stands_above, Agrees, AgreeOn}
use Rattle.tree_core.specs.Tree.{recorded, noted, noted_as}
use Rattle.tree_core.specs.Plan.{answer, asked}
use Rattle.tree_core.specs.Memory.{with_file}
use Rattle.tree_core.proofs.Asking.{decided}
use Rattle.tree_core.proofs.Recorded.{agrees-recorded, agree_on-recorded}
use Rattle.tree_core.proofs.Replies.{question_eq-is, chosen}
use Rattle.swc_loader.specs.declared.resolution.FileName.{FileName}
use Rattle.resolve_stack.specs.Settings.{ProjectSettings}
use Rattle.resolve_stack.specs.Request.{asked_for}
use Rattle.resolve_stack.specs.Verdict.{verdict}
use Rattle.resolve_stack.specs.Outcomes.{request_outcome}
use Rattle.session_core.specs.Entries.{bears_on, asks}
use Rattle.session_core.specs.Session.{outcome_on}

abbrev same_text : List ℕ → List ℕ → Bool
same_text = eq_by_cmp (slice_cmp nat_cmp)

same_text-Decides : (a b : List ℕ) → Decides (same_text a b) (a ≡ b)
same_text-Decides a b = (
  λ h. (bytes_eq-Decides a b).0 (sym (is_eq-slice_cmp a b) ∙ h),
  λ e. is_eq-slice_cmp a b
      ∙ (bytes_eq-Decides a b).1 e,
)

-- two trees have the same files but at one path
pub record SameBut (t u : Files) (path : List ℕ) : Type 0 where
  pub elsewhere : (q : List ℕ) → bytes_eq q path ≡ false → finite.get u q ≡ finite.get t q

pub same_but-put : (t : Files) (path : List ℕ) (file : TreeFile) → SameBut t (with_file t path file) path
same_but-put t path file =
    record {
      elsewhere =
          λ q other. finite.get-insert nat_list_cmp_total t path file q ∙ by_test q (same_text q path) refl other;
    }
  where
    by_test : (q : List ℕ) (b : Bool) → same_text q path ≡ b → bytes_eq q path ≡ false →
        cond b (Some file) (finite.get t q) ≡ finite.get t q
    by_test q true e other = let same = (bytes_eq-Decides q path).1 ((same_text-Decides q path).0 e) in cc
    by_test q false e other = refl

pub same_but-remove : (t : Files) (path : List ℕ) → SameBut t (finite.remove t path) path
same_but-remove t path =
    record {
      elsewhere =
          λ q other. finite.get-remove nat_list_cmp_total t path q ∙ by_test q (same_text q path) refl other;
    }
  where
    by_test : (q : List ℕ) (b : Bool) → same_text q path ≡ b → bytes_eq q path ≡ false →
        cond b None (finite.get t q) ≡ finite.get t q
    by_test q true e other = let same = (bytes_eq-Decides q path).1 ((same_text-Decides q path).0 e) in cc
    by_test q false e other = refl

-- what isn't there can't be taken out
pub remove-absent : (t : Files) (path : List ℕ) → is_file t path ≡ false → finite.remove t path ≡ t
remove-absent t path absent =
    finite.same_map nat_list_cmp_total (finite.slice_cmp-IsAntisymmetric finite.nat_cmp-IsAntisymmetric) _ _ (λ q.
    finite.get-remove nat_list_cmp_total t path q ∙ by_test q (same_text q path) refl)
  where
    none_at : (o : Option TreeFile) → is_some o ≡ false → None ≡ o
    none_at None h = refl
    none_at (Some f) h = cc

    by_test : (q : List ℕ) (b : Bool) → same_text q path ≡ b → cond b None (finite.get t q) ≡ finite.get t q
    by_test q true e = let same : q ≡ path = (same_text-Decides q path).0 e in
        rw same (none_at (finite.get t path) absent)
    by_test q false e = refl

or_false : (a b : Bool) → (a || b) ≡ false → (a ≡ false) × (b ≡ false)
or_false true b e = cc
or_false false b e = (refl, e)

or_cases : (a b : Bool) → (a || b) ≡ true → (a ≡ true) ⊎ (b ≡ true)
or_cases true b h = inl refl
or_cases false b h = inr h

both_ways : (a b : Bool) → (a ≡ true → b ≡ true) → (b ≡ true → a ≡ true) → a ≡ b
both_ways true b to from = sym (to refl)
both_ways false true to from = from refl
both_ways false false to from = refl

-- a key that passes
any-has : (P : List ℕ → Bool) (ks : List (List ℕ)) → list_any P ks ≡ true →
    (k : List ℕ) × (list_any (same_text k) ks ≡ true) × (P k ≡ true)
any-has P [] h = cc
any-has P (x ∷ ks) h = elim (or_cases (P x) (list_any P ks) h) [
  | inl e ↦ (x, rw ((same_text-Decides x x).1 refl) refl, e)
  | inr e ↦ let later = any-has P ks e in
      (later.0, past (same_text later.0 x) (list_any (same_text later.0) ks) later.1, later.2)
]
  where
    past : (a b : Bool) → b ≡ true → (a || b) ≡ true
    past true b e = refl
    past false b e = e

has-any : (P : List ℕ → Bool) (ks : List (List ℕ)) (k : List ℕ) → list_any (same_text k) ks ≡ true → P k ≡ true →
    list_any P ks ≡ true
has-any P [] k has pass = cc
has-any P (x ∷ ks) k has pass = elim (or_cases (same_text k x) (list_any (same_text k) ks) has) [
  | inl e ↦ let same : k ≡ x = (same_text-Decides k x).0 e in let passed : P x ≡ true =
      subst (λ (q : List ℕ). P q ≡ true) same pass in rw passed refl
  | inr e ↦ past (P x) (list_any P ks) (has-any P ks k e pass)
]
  where
    past : (a b : Bool) → b ≡ true → (a || b) ≡ true
    past true b e = refl
    past false b e = e

keys-any : (t u : Files) (P : List ℕ → Bool) → ((k : List ℕ) → P k ≡ true → is_file t k ≡ true → is_file u k ≡ true) →
    list_any P (finite.keys t) ≡ true → list_any P (finite.keys u) ≡ true
keys-any t u P kept h =
    let key = any-has P (finite.keys t) h in
    has-any P (finite.keys u) key.0 (sym (finite.contains_key-keys u key.0)
    ∙ kept key.0 key.2 (finite.contains_key-keys t key.0 ∙ key.1)) key.2

-- a path that doesn't stand above the edited one is a folder as before
folder-same : (t u : Files) (path q : List ℕ) → SameBut t u path → stands_above q path ≡ false →
    is_folder u q ≡ is_folder t q
folder-same t u path q same apart =
    ap (λ b. is_root_text q || b)
    (both_ways (list_any (stands_above q) (finite.keys u)) (list_any (stands_above q) (finite.keys t))
    (keys-any u t (stands_above q) (λ k pass there. sym (ap is_some (same.elsewhere k (other k pass))) ∙ there))
    (keys-any t u (stands_above q) (λ k pass there. ap is_some (same.elsewhere k (other k pass)) ∙ there)))
  where
    other : (k : List ℕ) → stands_above q k ≡ true → bytes_eq k path ≡ false
    other k pass = by_test (bytes_eq k path) refl
      where
        by_test : (b : Bool) → bytes_eq k path ≡ b → b ≡ false
        by_test true e = let is : k ≡ path = (bytes_eq-Decides k path).0 e in let above : stands_above q path ≡ true =
            subst (λ (p : List ℕ). stands_above q p ≡ true) is pass in cc
        by_test false e = refl

-- An edit changes no reply to a question that it doesn't bear on.
pub reply-same : (t u : Files) (path : List ℕ) (q : Question) → SameBut t u path →
    bears_on path (path_asked q) ≡ false → reply u q ≡ reply t q
reply-same t u path (File p) same h = ap (λ f. Flag (is_some f)) (same.elsewhere p (or_false _ _ h).0)
reply-same t u path (Dir p) same h = ap Flag (folder-same t u path p same (or_false _ _ h).1)
reply-same t u path (Exists p) same h =
    ap (λ f. Flag (is_some f || is_folder u p)) (same.elsewhere p (or_false _ _ h).0)
    ∙ ap (λ b. Flag (is_file t p || b)) (folder-same t u path p same (or_false _ _ h).1)
reply-same t u path (Read p) same h =
    ap (λ (f : Option TreeFile). Bytes (option_map (λ (x : TreeFile). x.content) f))
    (same.elsewhere p (or_false _ _ h).0)
reply-same t u path (Canon p) same h =
    ap (λ (f : Option TreeFile). Name (option_map (λ (x : TreeFile). x.canonical) f))
    (same.elsewhere p (or_false _ _ h).0)

-- an edit that touches no step of a trail bears on none of its questions
not_borne : (path : List ℕ) (steps : List (Question × Reply)) (q : Question) (r : Reply) →
    asks (bears_on path) steps ≡ false → reply_in steps q ≡ Some r → bears_on path (path_asked q) ≡ false
not_borne path [] q r none known = cc
not_borne path (s ∷ steps) q r none known =
    let apart = or_false (bears_on path (path_asked s.0)) (asks (bears_on path) steps) none in
    elim (chosen (question_eq s.0 q) (Some s.1) (reply_in steps q) (Some r) known) [
      | inl w ↦ let is : s.0 ≡ q = question_eq-is s.0 q w.0 in
          subst (λ (x : Question). bears_on path (path_asked x) ≡ false) is apart.0
      | inr w ↦ not_borne path steps q r apart.1 w.1
    ]

-- trees that agree on questions have one record of them
recorded-same : (t u : Files) (steps : List (Question × Reply)) (qs : List Question) → AgreeOn t u qs →
    recorded u steps qs ≡ recorded t steps qs
recorded-same t u steps [] agree = refl
recorded-same t u steps (q ∷ qs) agree =
    ap (λ r. recorded u (noted_as steps q r) qs) agree.0 ∙ recorded-same t u (noted t steps q) qs agree.1

agrees-nothing : (t : Files) → Agrees t []
agrees-nothing t = λ q r known. cc

-- An edit that doesn't touch the trail of an outcome leaves the outcome as it is.
pub outcome-same : (t u : Files) (path : List ℕ) (project : ProjectSettings) (importer : FileName)
    (specifier : List ℕ) → SameBut t u path →
    asks (bears_on path) (outcome_on t project importer specifier).trail ≡ false →
    outcome_on u project importer specifier ≡ outcome_on t project importer specifier
unfolding request_outcome
outcome-same t u path project importer specifier same untouched =
    let plan = verdict project (asked_for importer specifier) in
    let agree : AgreeOn t u (asked t plan) = agree_on-recorded t u [] (asked t plan) (agrees-nothing t) (λ q r known.
    agrees-recorded t [] (asked t plan) (agrees-nothing t) q r known
    ∙ sym (reply-same t u path q same (not_borne path (recorded t [] (asked t plan)) q r untouched known))) in
    let both = decided t u plan agree in
    let trails : recorded u [] (asked u plan) ≡ recorded t [] (asked t plan) =
    ap (recorded u []) both.1 ∙ recorded-same t u [] (asked t plan) agree in
    ap (λ v. record { verdict = v; trail = recorded u [] (asked u plan) }) both.0
    ∙ ap (λ s. record { verdict = answer t plan; trail = s }) trails
