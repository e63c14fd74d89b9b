use Rattle.std.proofs.Common.{
  ◌≡◌,
  ◌-◌,
  ◌<◌,
  ℕ,
  List,
  Bool,
  true,
  false,
  refl,
  cond,
  Option,
  Some,
  None,
  IfSome,
  IfNone,
  option_map,
  nat_eq,
  length,
  take,
  get_or,
  sym,
  ap,
  ◌∙◌,
  subst,
  arith,
}
use denote.Ref.{Bor}
use Rattle.std.specs.List.{common_prefix_len}
use Rattle.tree_core.specs.Memory.{files_of}
use Rattle.tree_core.specs.Before.{SharesNoFile}
use Rattle.tree_core.specs.Tree.{is_file, stands_above}
use Rattle.tree_core.proofs.Above.{continues-from, above-from, cut-above}
use Rattle.tree_core.proofs.Conflicts.{file-apart}
use Rattle.tree_core.proofs.Before.{above-at}
use Rattle.tree_core.proofs.memory.shared_file.Goals as goal
use Rattle.tree_core.proofs.memory.shared_file.Goals.{in_default-via-in-Some+else-byte-eq47, in_default-via-in_default}

cut-is : (p : List ℕ) (n : ℕ) (f : List ℕ) → f ≡ take (n - 0) p → f ≡ take n p
cut-is p n f is = let whole : n - 0 ≡ n = omega arith in is ∙ ap (λ k. take k p) whole

when_there : (r : Option (Bor (List ℕ))) (b : Bool) (folder : List ℕ) (P : List ℕ → Type 0)
    → option_map (λ p. p.now) r ≡ cond b (Some folder) None → (b ≡ true → P folder) → IfSome r (λ p. P p.now)
when_there None b folder P told h = tt
when_there (Some p) true folder P told h = let same : folder ≡ p.now = cc in subst P same (h refl)
when_there (Some p) false folder P told h = cc

when_none : (r : Option (Bor (List ℕ))) (b : Bool) (folder : List ℕ) (P : Type 0)
    → option_map (λ p. p.now) r ≡ cond b (Some folder) None → (b ≡ false → P) → IfNone r P
when_none None true folder P told h = cc
when_none None false folder P told h = h refl
when_none (Some p) b folder P told h = tt

slash : (c : goal.After-file_at) → (c.common_prefix_len-shared.result < length c.args.path.now)
    × (get_or c.args.path.now c.common_prefix_len-shared.result 0 ≡ 47)
slash c =
    let P : List ℕ → Type 0 =
    λ s. (c.common_prefix_len-shared.result < length s) × (get_or s c.common_prefix_len-shared.result 0 ≡ 47) in
    subst P c.as_bytes-3.ensures.value (
      c.in-Some.ensures.lookup.3.0,
      sym (c.in-Some.ensures.lookup.3.1 0)
          ∙ c.if-byte-eq47.true,
    )

pub returns-in-Some-clause-above : goal.returns-in-Some-clause-above
returns-in-Some-clause-above c =
    let folder = cut-is c.args.path.now c.common_prefix_len-shared.result c.range.result.now c.range.ensures.value in
    let P : List ℕ → Type 0 = λ p. stands_above p c.args.path.now ≡ true in
    when_there c.file_at.result (is_file (files_of c.args.files.now.entries) c.range.result.now) c.range.result.now P
    c.file_at.ensures
    (λ there. above-from c.range.result.now c.args.path.now (file-apart (files_of c.args.files.now.entries)
    c.range.result.now c.requires there)
    (rw folder (cut-above c.args.path.now c.common_prefix_len-shared.result (slash c).0 (slash c).1)))

pub returns-in-Some-clause-none : goal.returns-in-Some-clause-none
returns-in-Some-clause-none c =
    let files = files_of c.args.files.now.entries in
    let folder = cut-is c.args.path.now c.common_prefix_len-shared.result c.range.result.now c.range.ensures.value in
    let shared = c.common_prefix_len-shared.ensures
    ∙ ap (λ p. common_prefix_len nat_eq p c.as_bytes-2.result.now) c.as_bytes.ensures.value
    ∙ ap (common_prefix_len nat_eq c.args.path.now) c.as_bytes-2.ensures.value in
    when_none c.file_at.result (is_file files c.range.result.now) c.range.result.now
    (SharesNoFile files c.args.path.now c.args.other.now) c.file_at.ensures (λ absent q there above is.
    let at = above-at q c.args.path.now c.common_prefix_len-shared.result (shared ∙ sym is)
    (continues-from q c.args.path.now (file-apart (files_of c.args.files.now.entries) q c.requires there) above) in
    let gone : is_file files q ≡ false = ap (is_file files) (sym (folder ∙ at.2)) ∙ absent in
    cc)

pub returns-in_default-clause-none : goal.returns-in_default-clause-none
returns-in_default-clause-none c = λ q there above is.
    let shared = c.common_prefix_len-shared.ensures
    ∙ ap (λ p. common_prefix_len nat_eq p c.as_bytes-2.result.now) c.as_bytes.ensures.value
    ∙ ap (common_prefix_len nat_eq c.args.path.now) c.as_bytes-2.ensures.value in
    let at = above-at q c.args.path.now c.common_prefix_len-shared.result (shared ∙ sym is)
    (continues-from q c.args.path.now (file-apart (files_of c.args.files.now.entries) q c.requires there) above) in
    let inside : c.common_prefix_len-shared.result < length c.as_bytes-3.result.now =
    omega (arith, at.0, ap length c.as_bytes-3.ensures.value) in
    elim c.in_default.branch [
      | in_default-via-in-Some+else-byte-eq47 w ↦
          w.if-byte-eq47.false (w.in-Some.ensures.lookup.3.1 0
          ∙ ap (λ (s : List ℕ). get_or s c.common_prefix_len-shared.result 0) c.as_bytes-3.ensures.value ∙ at.1)
      | in_default-via-in_default w ↦ (let e = w.in_default.ensures.lookup.2 inside in cc)
    ]
