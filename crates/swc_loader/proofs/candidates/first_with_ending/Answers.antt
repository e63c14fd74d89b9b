use Rattle.std.proofs.Common.{
  ◌≡◌,
  ◌++◌,
  ◌∷◌,
  [],
  List,
  ℕ,
  Some,
  length,
  get_or,
  take,
  string_bytes,
  refl,
  ap,
  ◌∙◌,
  arith,
}
use Rattle.std.proofs.lemmas.List.{length-append}
use Rattle.std.proofs.Math.Seq.{take-append_seam}
use Rattle.sugar_path.specs.Path.{Path, parent}
use Rattle.tree_core.proofs.Asking.{
  asks_as,
  asks_done,
  asks_fails,
  asks_starved,
  leads_self,
  leads_as,
  leads_item,
  leads_end,
}
use Rattle.swc_loader.specs.Endings.{is_ending}
use Rattle.swc_loader.proofs.Naming.{is_name-ending, dot-behind}
use Rattle.swc_loader.proofs.Firsts.{with_each, same_at, passes_at}
use Rattle.swc_loader.proofs.candidates.first_with_ending.Goals as goal

-- the base with an ending, where the buffer held the base
pushed : (base held name e : List ℕ) → name ≡ held ++ e → held ≡ base → name ≡ base ++ e
pushed base held name e is old = is ∙ ap (λ s. s ++ e) old

-- of a text that is the buffer's
with_ending : (base now held name e : List ℕ) → now ≡ name → name ≡ held ++ e → held ≡ base → now ≡ base ++ e
with_ending base now held name e same is old = same ∙ pushed base held name e is old

-- the candidate, where the buffer held its folder
child : (folder held : Path) (name now : List ℕ) (p : Path) → p ≡ now ∷ held → now ≡ name → held ≡ folder
    → p ≡ name ∷ folder
child folder held name now p down is old = down ∙ ap (λ n. n ∷ held) is ∙ ap (λ f. name ∷ f) old

pub loop-ending-init : goal.loop-ending-init
loop-ending-init g c = record { folder = c.in_ok-candidate.ensures; base = c.in_ok-name.ensures.ok; left = leads_self }

pub returns-in_err-candidate : goal.returns-in_err-candidate
returns-in_err-candidate g c = asks_starved _ c.from_residual.ensures.1

pub returns-in_err-name : goal.returns-in_err-name
returns-in_err-name g c = asks_starved _ c.from_residual-in_err-name.ensures.1

pub returns-in_err-push_str : goal.returns-in_err-push_str
returns-in_err-push_str g c = c.loop-ending.invariant.left.to (asks_starved _ c.from_residual-in_err-push_str.ensures.1)

pub go_down-requires : goal.go_down-requires
go_down-requires g c =
    let e = get_or c.args.endings.now c.loop-ending.ending-index (record { ref_ptr = (0, 0); now = [] }) in
    rw (with_ending c.args.base.now _ _ _ e.now c.as_str.ensures.value c.in_ok-push_str.ensures.bytes
    c.loop-ending.invariant.base)
    (is_name-ending c.args.base.now e.now c.requires.base (passes_at is_ending c.args.endings.now
    c.loop-ending.ending-index (record { ref_ptr = (0, 0); now = [] }) c.loop-ending-test.true c.requires.endings))

pub returns-in_err-go_down : goal.returns-in_err-go_down
returns-in_err-go_down g c = c.loop-ending.invariant.left.to (asks_starved _ c.from_residual-in_err-go_down.ensures.1)

pub returns-in_err-is_file : goal.returns-in_err-is_file
returns-in_err-is_file g c =
    let h = leads_item (with_each c.args.folder.now c.args.base.now) c.args.endings.now c.loop-ending.ending-index _
    c.loop-ending.invariant.left c.loop-ending-test.true
    (same_at c.args.endings.now c.loop-ending.ending-index (record { ref_ptr = (0, 0); now = [] })
    c.loop-ending-test.true) in
    let at = child c.args.folder.now c.loop-ending.candidate _ _ _ c.in_ok-go_down.ensures.ok
    (with_ending c.args.base.now _ _ _ (get_or c.args.endings.now c.loop-ending.ending-index
    (record { ref_ptr = (0, 0); now = [] })).now c.as_str.ensures.value c.in_ok-push_str.ensures.bytes
    c.loop-ending.invariant.base) c.loop-ending.invariant.folder in
    h.to (asks_fails _ _ c.from_residual-in_err-is_file.ensures.1 (rw at at c.in_err-is_file.ensures))

pub returns-then-branch : goal.returns-then-branch
returns-then-branch g c =
    let h = leads_item (with_each c.args.folder.now c.args.base.now) c.args.endings.now c.loop-ending.ending-index _
    c.loop-ending.invariant.left c.loop-ending-test.true
    (same_at c.args.endings.now c.loop-ending.ending-index (record { ref_ptr = (0, 0); now = [] })
    c.loop-ending-test.true) in
    let at = child c.args.folder.now c.loop-ending.candidate _ _ _ c.in_ok-go_down.ensures.ok
    (with_ending c.args.base.now _ _ _ (get_or c.args.endings.now c.loop-ending.ending-index
    (record { ref_ptr = (0, 0); now = [] })).now c.as_str.ensures.value c.in_ok-push_str.ensures.bytes
    c.loop-ending.invariant.base) c.loop-ending.invariant.folder in
    h.to (asks_as _ (rw at at c.in_ok-is_file.ensures) c.if-branch.true (asks_done (ap Some at)))

pub truncate-requires : goal.truncate-requires
truncate-requires g c =
    let e = get_or c.args.endings.now c.loop-ending.ending-index (record { ref_ptr = (0, 0); now = [] }) in
    let whole : string_bytes c.push_str.new.self ≡ c.args.base.now ++ e.now =
    pushed c.args.base.now (string_bytes c.loop-ending.name) (string_bytes c.push_str.new.self) e.now
    c.in_ok-push_str.ensures.bytes c.loop-ending.invariant.base in
    let dot = dot-behind c.args.base.now e.now (string_bytes c.push_str.new.self) whole
    (passes_at is_ending c.args.endings.now c.loop-ending.ending-index (record { ref_ptr = (0, 0); now = [] })
    c.loop-ending-test.true c.requires.endings) in
    λ _. (omega (arith, ap length whole, length-append c.args.base.now e.now), λ _ _ high. absurd (omega (arith, dot)))

pub loop-ending-preserved : goal.loop-ending-preserved
loop-ending-preserved g c =
    let e = get_or c.args.endings.now c.loop-ending.ending-index (record { ref_ptr = (0, 0); now = [] }) in
    let h = leads_item (with_each c.args.folder.now c.args.base.now) c.args.endings.now c.loop-ending.ending-index _
    c.loop-ending.invariant.left c.loop-ending-test.true
    (same_at c.args.endings.now c.loop-ending.ending-index (record { ref_ptr = (0, 0); now = [] })
    c.loop-ending-test.true) in
    let at = child c.args.folder.now c.loop-ending.candidate _ _ _ c.in_ok-go_down.ensures.ok
    (with_ending c.args.base.now _ _ _ (get_or c.args.endings.now c.loop-ending.ending-index
    (record { ref_ptr = (0, 0); now = [] })).now c.as_str.ensures.value c.in_ok-push_str.ensures.bytes
    c.loop-ending.invariant.base) c.loop-ending.invariant.folder in
    let whole : string_bytes c.push_str.new.self ≡ c.args.base.now ++ e.now =
    pushed c.args.base.now (string_bytes c.loop-ending.name) (string_bytes c.push_str.new.self) e.now
    c.in_ok-push_str.ensures.bytes c.loop-ending.invariant.base in
    record {
      folder = c.go_up-below.ensures.up ∙ ap parent at;
      base = c.truncate.ensures.bytes ∙ ap (λ s. take (length c.args.base.now) s) whole
          ∙ take-append_seam c.args.base.now e.now;
      left = leads_as _ h (rw at at c.in_ok-is_file.ensures) c.if-branch.false;
    }

pub returns : goal.returns
returns g c =
    let h = leads_end (with_each c.args.folder.now c.args.base.now) _ _ c.loop-ending.invariant.left
    c.loop-ending-test.false in
    h.to (asks_done refl)
