use Rattle.std.proofs.Common.{◌≡◌, ◌-◌, true, not, [], ◌∷◌, take, filter, length, sym, ap, ◌∙◌, arith}
use Rattle.std.proofs.lemmas.Str.Pattern.{rfind_char}
use Rattle.tree_core.proofs.Above.{continues, cut-above}
use Rattle.session_core.specs.Entries.{bears_on, is_asking, is_touched, untouched}
use Rattle.session_core.specs.Numbered.{kept_in}
use Rattle.session_core.proofs.Lists.{count-filter}
use Rattle.session_core.proofs.Touched.{on_way, untouched-dropped, asks-others, asks-begin, bears-cases, bears-path}
use Rattle.session_core.proofs.Touched.{bears-root, way-cases, way-path, way-bears, way-cut, none-touched, above-cut}
use Rattle.session_core.proofs.Touched.{none-above}
use Rattle.session_core.proofs.latest.Latest.drop_touched.Goals as goal

pub loop-at-init : goal.loop-at-init
loop-at-init c =
    let path = c.args.path.now in
    let kept = kept_in c.args.self.now in
    let rest = kept_in c.drop_asking.new.self in (
      c.utf8.path,
      way-path path,
      ap (untouched path) c.drop_asking-2.ensures.left
          ∙ untouched-dropped path path rest (bears-path path)
          ∙ ap (untouched path) c.drop_asking.ensures.left
          ∙ untouched-dropped path (47 ∷ []) kept (bears-root path),
      rw (c.drop_asking-2.ensures.left, c.drop_asking.ensures.left)
          (asks-others path path (on_way path) (λ a. continues a path)
          (filter (λ e. not (is_asking (47 ∷ []) e)) kept) (way-cases path)
          (asks-others path (47 ∷ []) (bears_on path) (on_way path) kept (bears-cases path)
          (asks-begin path kept))),
      c.drop_asking-2.ensures.capacity ∙ c.drop_asking.ensures.capacity,
    )

pub loop-at-preserved : goal.loop-at-preserved
loop-at-preserved c =
    let path = c.args.path.now in
    let kept = kept_in c.loop-at.self in
    let folder = c.loop-at.folder.now in
    let next = c.range-folder.result.now in
    let slash = rw c.in-Some.is at (rfind_char 47 folder c.rfind.result c.rfind.ensures.cases (omega arith)) in
    let whole : c.in-Some.at - 0 ≡ c.in-Some.at = omega arith in
    let cut : next ≡ take c.in-Some.at folder = c.range-folder.ensures.value ∙ ap (λ n. take n folder) whole in
    let above : continues next folder ≡ true = rw cut (cut-above folder c.in-Some.at slash.0 slash.1) in
    let way = way-cut path folder next c.loop-at.invariant.1 above in (
      c.range-folder.utf8,
      way,
      ap (untouched path) c.drop_asking-in-Some.ensures.left
          ∙ untouched-dropped path next kept (way-bears path next way) ∙ c.loop-at.invariant.2,
      rw c.drop_asking-in-Some.ensures.left (asks-others path next (λ a. continues a folder) (λ a. continues a next)
          kept (λ a h. rw cut (above-cut a folder c.in-Some.at slash.0 slash.1 slash.2 h)) c.loop-at.invariant.3),
      c.drop_asking-in-Some.ensures.capacity ∙ c.loop-at.invariant.4,
    )

pub overflow_sub-result : goal.overflow_sub-result
overflow_sub-result c =
    let path = c.args.path.now in
    let none = rw c.in_default.is at (rfind_char 47 c.loop-at.folder.now c.rfind.result c.rfind.ensures.cases
    (omega arith)) in
    let left : kept_in c.loop-at.self ≡ untouched path (kept_in c.args.self.now) =
    sym (none-touched path (λ a. continues a c.loop-at.folder.now) (kept_in c.loop-at.self)
    (λ a. none-above a c.loop-at.folder.now none) c.loop-at.invariant.3) ∙ c.loop-at.invariant.2 in
    let now : c.len.result ≡ length (untouched path (kept_in c.args.self.now)) = c.len.ensures.len ∙ ap length left in
    let all = count-filter (is_touched path) (kept_in c.args.self.now) in
    let before = c.len-before.ensures.len in
    omega (arith, now, all, before)

pub returns-clause-left : goal.returns-clause-left
returns-clause-left c =
    let path = c.args.path.now in
    let none = rw c.in_default.is at (rfind_char 47 c.loop-at.folder.now c.rfind.result c.rfind.ensures.cases
    (omega arith)) in
    sym (none-touched path (λ a. continues a c.loop-at.folder.now) (kept_in c.loop-at.self)
    (λ a. none-above a c.loop-at.folder.now none) c.loop-at.invariant.3) ∙ c.loop-at.invariant.2

pub returns-clause-dropped : goal.returns-clause-dropped
returns-clause-dropped c =
    let path = c.args.path.now in
    let none = rw c.in_default.is at (rfind_char 47 c.loop-at.folder.now c.rfind.result c.rfind.ensures.cases
    (omega arith)) in
    let left : kept_in c.loop-at.self ≡ untouched path (kept_in c.args.self.now) =
    sym (none-touched path (λ a. continues a c.loop-at.folder.now) (kept_in c.loop-at.self)
    (λ a. none-above a c.loop-at.folder.now none) c.loop-at.invariant.3) ∙ c.loop-at.invariant.2 in
    let now : c.len.result ≡ length (untouched path (kept_in c.args.self.now)) = c.len.ensures.len ∙ ap length left in
    let all = count-filter (is_touched path) (kept_in c.args.self.now) in
    let before = c.len-before.ensures.len in
    omega (arith, now, all, before)
