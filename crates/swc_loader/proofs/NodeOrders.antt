-- How the order for Node's modules goes on behind its first row.
use Rattle.std.proofs.Common.{
  ◌≡◌,
  ℕ,
  Bool,
  true,
  not,
  if◌then◌else◌,
  List,
  Option,
  Some,
  None,
  Result,
  Ok,
  Err,
  refl,
  sym,
  ◌∙◌,
  subst,
}
use Rattle.sugar_path.specs.Path.{Path, clean, is_absolute}
use Rattle.tree_core.specs.declared.tree.ReadError.{ReadError}
use Rattle.tree_core.specs.Asks.{Asking, Asks}
use Rattle.tree_core.specs.Plan.{Plan, Done, ◌>>=◌, ◌>>=?◌, on_ok}
use Rattle.tree_core.specs.Rows.{Row, order, decided, refuses_by, never_refuses, end_of}
use Rattle.tree_core.proofs.RowCalls.{order-then, order-end}
use Rattle.tree_core.proofs.RowOrders.{then-then, then_alike, order-ends_by, order-goes_on, order-last}
use Rattle.swc_loader.specs.declared.resolution.FileName.{FileName}
use Rattle.swc_loader.specs.declared.resolution.FileName.TheVariants.{Real, Custom, Anon}
use Rattle.swc_loader.specs.declared.resolution.Resolution.{Resolution}
use Rattle.swc_loader.specs.declared.refusal.NodeRefusal.{NodeRefusal}
use Rattle.swc_loader.specs.declared.refusal.NodeRefusal.TheVariants.{NotFound, BaseNotAFile}
use Rattle.swc_loader.specs.declared.before.Before.{Before}
use Rattle.swc_loader.specs.declared.before.Before.TheVariants.{Decided, Target}
use Rattle.swc_loader.specs.Settings.{NodeSettings}
use Rattle.swc_loader.specs.Spelling.{answered}
use Rattle.swc_loader.specs.NodeRows.{
  probe,
  or_unanswered,
  unless_probed,
  path_text,
  before_search,
  target_or_answer,
  target_before_search,
  walked,
  by_modules,
  search,
}
use Rattle.swc_loader.specs.NodeOrder.{node}

-- from what is known before a search
abbrev pub by_target : NodeSettings → List ℕ → Before → Plan (Result Resolution NodeRefusal)
by_target s importer (Decided resolution) = Done (Ok resolution)
by_target s importer (Target target) = search s importer target

-- from the base
abbrev pub by_base : NodeSettings → FileName → List ℕ → Plan (Result Resolution NodeRefusal)
by_base s (Real importer) specifier = before_search s (clean s.cwd importer) specifier >>= by_target s importer
by_base s (Custom name) specifier = Done (Err BaseNotAFile)
by_base s Anon specifier = Done (Err BaseNotAFile)

-- from what the first row finds
abbrev pub by_probe : NodeSettings → FileName → List ℕ → Option Path → Plan (Result Resolution NodeRefusal)
by_probe s base specifier (Some f) = never_refuses (answered s None f (not (is_absolute specifier)))
by_probe s base specifier None = by_base s base specifier

-- the rows behind the base
abbrev target_rows : NodeSettings → List ℕ → List ℕ → Row Resolution Resolution NodeRefusal
target_rows s specifier importer =
    target_before_search s (clean s.cwd importer) specifier >>=? λ target. refuses_by (search s importer target)

-- the rows behind the first one
abbrev base_rows : NodeSettings → FileName → List ℕ → Row Resolution Resolution NodeRefusal
base_rows s base specifier = decided (path_text base) >>=? target_rows s specifier

order-target : (s : NodeSettings) (specifier importer : List ℕ)
    → order (target_rows s specifier importer) ≡ before_search s (clean s.cwd importer) specifier
    >>= by_target s importer
unfolding target_before_search
order-target s specifier importer =
    order-then (before_search s (clean s.cwd importer) specifier) (λ before. Done (target_or_answer before)) rest
    ∙ then_alike (before_search s (clean s.cwd importer) specifier) _ (by_target s importer) by_before
  where
    rest : List ℕ → Row Resolution Resolution NodeRefusal
    rest target = refuses_by (search s importer target)

    by_before : (before : Before) → order (Done (target_or_answer before) >>=? rest) ≡ by_target s importer before
    by_before (Decided resolution) = order-end (Ok resolution) rest
    by_before (Target target) = order-goes_on target rest ∙ order-last (search s importer target)

order-base : (s : NodeSettings) (base : FileName) (specifier : List ℕ)
    → order (base_rows s base specifier) ≡ by_base s base specifier
unfolding order ◌>>=◌
order-base s (Real importer) specifier =
    order-goes_on importer (target_rows s specifier) ∙ order-target s specifier importer
order-base s (Custom name) specifier = refl
order-base s Anon specifier = refl

order-probe : (s : NodeSettings) (base : FileName) (specifier : List ℕ) (found : Option Path)
    → order (or_unanswered s specifier found >>=? base_rows s base) ≡ by_probe s base specifier found
order-probe s base specifier (Some f) =
    order-ends_by (never_refuses (answered s None f (not (is_absolute specifier)))) (base_rows s base)
order-probe s base specifier None = order-goes_on specifier (base_rows s base) ∙ order-base s base specifier

-- the first row, and then what it finds
pub node-probe : (s : NodeSettings) (base : FileName) (specifier : List ℕ) → node s base specifier ≡ probe s specifier
    >>= by_probe s base specifier
unfolding order unless_probed
node-probe s base specifier =
    then-then (probe s specifier >>= or_unanswered s specifier) (on_ok (base_rows s base))
    (λ going. Done (end_of going))
    ∙ then-then (probe s specifier) (or_unanswered s specifier)
    (λ going. on_ok (base_rows s base) going >>= λ e. Done (end_of e))
    ∙ then_alike (probe s specifier) _ (by_probe s base specifier) regrouped
  where
    regrouped : (found : Option Path) → (or_unanswered s specifier found >>= λ going. on_ok (base_rows s base) going
        >>= λ e. Done (end_of e)) ≡ by_probe s base specifier found
    regrouped found =
        sym (then-then (or_unanswered s specifier found) (on_ok (base_rows s base)) (λ e. Done (end_of e)))
        ∙ order-probe s base specifier found

-- a call by the first row and what follows
pub asks_node : {old new : Asking} {result : Result (Result Resolution NodeRefusal) ReadError} (s : NodeSettings)
    (base : FileName) (specifier : List ℕ) → Asks old new result (probe s specifier >>= by_probe s base specifier)
    → Asks old new result (node s base specifier)
asks_node {old = old} {new = new} {result = result} s base specifier h =
    let P : Plan (Result Resolution NodeRefusal) → Type 0 = λ plan. Asks old new result plan in
    subst P (sym (node-probe s base specifier)) h

-- where the walk is on, it is the search
pub asks_walked : {old new : Asking} {result : Result (Result Resolution NodeRefusal) ReadError} (s : NodeSettings)
    (base target : List ℕ) → s.node_modules ≡ true → Asks old new result (walked s base target)
    → Asks old new result (by_modules s base target)
asks_walked {old = old} {new = new} {result = result} s base target on h =
    let P : Bool → Type 0 =
    λ b. Asks old new result (if b then walked s base target else Done (Err (NotFound target))) in
    subst P (sym on) h

-- a base that is no path is refused
pub no_path : (base : FileName) → ((text : List ℕ) → base ≡ Real text → ⊥) → path_text base ≡ Err BaseNotAFile
no_path (Real text) other = absurd (other text refl)
no_path (Custom name) other = refl
no_path Anon other = refl

pub refused_base : (s : NodeSettings) (base : FileName) (specifier : List ℕ) → path_text base ≡ Err BaseNotAFile
    → by_base s base specifier ≡ Done (Err BaseNotAFile)
refused_base s (Real text) specifier e = cc
refused_base s (Custom name) specifier e = refl
refused_base s Anon specifier e = refl
