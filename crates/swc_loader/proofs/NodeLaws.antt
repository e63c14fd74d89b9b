-- The order for Node's modules tells of a tree what its laws say.
use Rattle.std.proofs.Common.{◌≡◌, ℕ, Bool, false, true, not, List, [], ◌∷◌, Option, Some, None, Ok, Err, ap, ◌∙◌}
use Rattle.sugar_path.specs.Path.{Path, text_of, clean, join, up, below, is_absolute}
use Rattle.tree_core.specs.Tree.{Files}
use Rattle.tree_core.specs.Plan.{Plan, ◌>>=◌, file, canon}
use Rattle.tree_core.specs.Rows.{end_of, or_refused, never_refuses}
use Rattle.tree_core.specs.Told.{told, made}
use Rattle.tree_core.specs.Told as on
use Rattle.tree_core.proofs.Tellings.{
  told-done,
  told-by,
  told-refusing,
  told-goes_on,
  told-made,
  told-if,
  told-order,
  told-refuses_by,
  told-ends_by,
  told-never_refuses,
  told-file,
  told-canon,
}
use Rattle.swc_loader.specs.declared.resolution.FileName.{FileName}
use Rattle.swc_loader.specs.declared.resolution.FileName.TheVariants.{Real}
use Rattle.swc_loader.specs.declared.resolution.Resolution.{Resolution}
use Rattle.swc_loader.specs.declared.resolution.Via.{Via}
use Rattle.swc_loader.specs.declared.browser_rules.ModuleRule.{ModuleRule}
use Rattle.swc_loader.specs.declared.browser_rules.ModuleRule.TheVariants as rule
use Rattle.swc_loader.specs.declared.browser_rules.Source.TheVariants as source
use Rattle.swc_loader.specs.declared.located.Placed.{Placed}
use Rattle.swc_loader.specs.declared.located.Placed.TheVariants as placed
use Rattle.swc_loader.specs.declared.search.Searched.{Searched}
use Rattle.swc_loader.specs.Search.{place}
use Rattle.swc_loader.specs.SearchOnTree.{place_on}
use Rattle.swc_loader.specs.Walk.{walk}
use Rattle.swc_loader.specs.Specifier.{is_relative}
use Rattle.swc_loader.specs.Settings.{NodeSettings}
use Rattle.swc_loader.specs.Spelling.{canonical_or_path, canonical_name, spelled, answer_of, answered}
use Rattle.swc_loader.specs.BrowserRules.{module_rule}
use Rattle.swc_loader.specs.Located.{searched}
use Rattle.swc_loader.specs.NodeRows.{
  is_probed,
  path_text,
  probe,
  or_unanswered,
  unless_probed,
  by_rule,
  ruled_specifier,
  before_search,
  target_or_answer,
  target_before_search,
  is_told_relative,
  answered_placed,
  folder_from,
  base_folder,
  at_root,
  behind_base,
  walked,
  search,
}
use Rattle.swc_loader.specs.NodeRows as rows
use Rattle.swc_loader.specs.NodeOrder.{node_rows, node}
use Rattle.swc_loader.specs.NodeOnTree.{
  name_on,
  answer_on,
  probe_on,
  or_unanswered_on,
  unless_probed_on,
  by_rule_on,
  ruled_specifier_on,
  known_by_rules,
  before_on,
  base_on,
  answer_placed_on,
  told_on,
  at_root_on,
  behind_base_on,
  walked_on,
  search_on,
  node_rows_on,
  node_on,
  NameOnTree,
  AnswerOnTree,
  BeforeSearchOnTree,
  NodeSearchOnTree,
  NodeOnTree,
}
use Rattle.swc_loader.proofs.BrowserLaws.{rule_on_tree}
use Rattle.swc_loader.proofs.Locations.{told-searched}
use Rattle.swc_loader.proofs.Searches.{place_on_tree, place_without_entry_on_tree}
use Rattle.swc_loader.proofs.WalkLaws.{walk_on_tree}

told-canonical : (t : Files) (f : Path) → told t (canonical_name f) ≡ made (λ name. Real (canonical_or_path f name))
    (on.canon_on t f)
unfolding canonical_name
told-canonical t f = told-made t (canon f) (λ name. Real (canonical_or_path f name))
    ∙ ap (made (λ name. Real (canonical_or_path f name))) (told-canon t f)

told-spelled : (t : Files) (s : NodeSettings) (f : Path) (relative : Bool)
    → told t (spelled s f relative) ≡ name_on t s f relative
told-spelled t s f relative = told-if t s.preserve_symlinks _ _ (told-done t _) (told-canonical t f)

pub told-answered : (t : Files) (s : NodeSettings) (via : Option Via) (f : Path) (relative : Bool)
    → told t (answered s via f relative) ≡ answer_on t s via f relative
unfolding answered
told-answered t s via f relative =
    told-made t (spelled s f relative) (answer_of via f) ∙ ap (made (answer_of via f)) (told-spelled t s f relative)

pub name_on_tree : NameOnTree
name_on_tree = record { tells = told-spelled }

pub answer_on_tree : AnswerOnTree
answer_on_tree = record { tells = told-answered }

told-answered_placed : (t : Files) (s : NodeSettings) (relative : Bool) (found : Placed)
    → told t (answered_placed s relative found) ≡ answer_placed_on t s relative found
told-answered_placed t s relative (placed.File f rewritten) =
    told-answered t s None f (is_told_relative s relative f rewritten)
told-answered_placed t s relative (placed.Ignored name) = told-done t _

told-answer_found : (t : Files) (s : NodeSettings) (target : List ℕ) (relative : Bool) (found : Searched)
    → told t (rows.answer_found s target relative found) ≡ told_on t s target relative found
unfolding rows.answer_found
told-answer_found t s target relative found =
    told-refusing t (searched s target found) _ (told-searched t s target found) (λ what.
    told-never_refuses t (answered_placed s relative what)
    ∙ ap (made (λ resolution. Ok resolution)) (told-answered_placed t s relative what))

told-base_folder : (t : Files) (importer : Path) → told t (base_folder importer) ≡ base_on t importer
unfolding base_folder
told-base_folder t importer =
    told-made t (file importer) (folder_from importer) ∙ ap (made (folder_from importer)) (told-file t importer)

-- the place of a text that is read from `/`, and then what it is told as
told-place : (t : Files) (s : NodeSettings) (target text : List ℕ) (relative : Bool)
    → told t (place s.conventions s.target [] text >>= rows.answer_found s target relative) ≡ on.◌>>=◌
    (place_on t s.conventions s.target [] text) (told_on t s target relative)
told-place t s target text relative =
    told-by t (place s.conventions s.target [] text) _ (place_on_tree.tells t s.conventions s.target (clean [] text)
    text) (told-answer_found t s target relative)

told-at_root : (t : Files) (s : NodeSettings) (target : List ℕ) → told t (at_root s target) ≡ at_root_on t s target
unfolding at_root
told-at_root t s target = told-place t s target target false

told-behind_base : (t : Files) (s : NodeSettings) (base target : List ℕ)
    → told t (behind_base s base target) ≡ behind_base_on t s base target
unfolding behind_base
told-behind_base t s base target =
    told-by t (base_folder (clean s.cwd base)) _ (told-base_folder t (clean s.cwd base)) (λ folder.
    told-place t s target (join (text_of folder) target) (not (is_absolute base)))

told-walked : (t : Files) (s : NodeSettings) (base target : List ℕ)
    → told t (walked s base target) ≡ walked_on t s base target
unfolding walked
told-walked t s base target =
    told-by t (base_folder (clean s.cwd base)) _ (told-base_folder t (clean s.cwd base)) (λ folder.
    told-by t (walk s.conventions s.target target (folder ∷ up folder)) _
    (walk_on_tree.tells t s.conventions s.target target (folder ∷ up folder)) (λ found.
    told-answer_found t s target true found))

told-search : (t : Files) (s : NodeSettings) (base target : List ℕ)
    → told t (search s base target) ≡ search_on t s base target
told-search t s base target =
    told-if t (is_absolute target) _ _ (told-at_root t s target)
    (told-if t (is_relative target) _ _ (told-behind_base t s base target)
    (told-if t s.node_modules _ _ (told-walked t s base target) (told-done t _)))

pub search_on_tree : NodeSearchOnTree
search_on_tree = record { tells = told-search }

told-probe : (t : Files) (s : NodeSettings) (specifier : List ℕ) → told t (probe s specifier) ≡ probe_on t s specifier
told-probe t s specifier = told-if t (is_probed s specifier) _ _
    (place_without_entry_on_tree.tells t s.conventions s.cwd specifier) (told-done t None)

told-or_unanswered : (t : Files) (s : NodeSettings) (specifier : List ℕ) (found : Option Path)
    → told t (or_unanswered s specifier found) ≡ or_unanswered_on t s specifier found
told-or_unanswered t s specifier None = told-done t _
told-or_unanswered t s specifier (Some f) =
    let plan : Plan Resolution = answered s None f (not (is_absolute specifier)) in
    told-ends_by t (never_refuses plan)
    ∙ ap (made (λ r. Err r)) (told-never_refuses t plan
    ∙ ap (made (λ resolution. Ok resolution)) (told-answered t s None f (not (is_absolute specifier))))

told-unless_probed : (t : Files) (s : NodeSettings) (specifier : List ℕ)
    → told t (unless_probed s specifier) ≡ unless_probed_on t s specifier
unfolding unless_probed
told-unless_probed t s specifier =
    told-by t (probe s specifier) _ (told-probe t s specifier) (told-or_unanswered t s specifier)

told-by_rule : (t : Files) (s : NodeSettings) (specifier : List ℕ) (said : ModuleRule)
    → told t (by_rule s specifier said) ≡ by_rule_on t s specifier said
told-by_rule t s specifier rule.NoRule = told-done t _
told-by_rule t s specifier rule.Ignored = told-done t _
told-by_rule t s specifier (rule.File f) =
    told-made t (answered s None f (below f s.cwd)) (λ resolution. Some resolution)
    ∙ ap (made (λ resolution. Some resolution)) (told-answered t s None f (below f s.cwd))

told-ruled_specifier : (t : Files) (s : NodeSettings) (importer : Path) (specifier : List ℕ)
    → told t (ruled_specifier s importer specifier) ≡ ruled_specifier_on t s importer specifier
unfolding ruled_specifier
told-ruled_specifier t s importer specifier =
    told-by t (module_rule s importer specifier) _ (rule_on_tree.tells t s importer (source.Specifier specifier))
    (told-by_rule t s specifier)

told-before : (t : Files) (s : NodeSettings) (importer : Path) (specifier : List ℕ)
    → told t (before_search s importer specifier) ≡ before_on t s importer specifier
unfolding before_search
told-before t s importer specifier =
    told-made t (ruled_specifier s importer specifier) (known_by_rules s specifier)
    ∙ ap (made (known_by_rules s specifier)) (told-ruled_specifier t s importer specifier)

pub before_search_on_tree : BeforeSearchOnTree
before_search_on_tree = record { tells = told-before }

told-target : {X : Type 0} (t : Files) (s : NodeSettings) (importer : Path) (specifier : List ℕ)
    → told t (target_before_search {X = X} s importer specifier) ≡ made target_or_answer
    (before_on t s importer specifier)
unfolding target_before_search
told-target t s importer specifier = told-made t (before_search s importer specifier) target_or_answer
    ∙ ap (made target_or_answer) (told-before t s importer specifier)

told-rows : (t : Files) (s : NodeSettings) (base : FileName) (specifier : List ℕ)
    → told t (node_rows s base specifier) ≡ node_rows_on t s base specifier
told-rows t s base specifier =
    told-refusing t (unless_probed s specifier) _ (told-unless_probed t s specifier) (λ unanswered.
    told-goes_on t (or_refused (path_text base)) _ (λ importer.
    told-refusing t (target_before_search s (clean s.cwd importer) unanswered) _
    (told-target t s (clean s.cwd importer) unanswered) (λ target.
    told-refuses_by t (search s importer target) ∙ ap (made or_refused) (told-search t s importer target))))

told-node : (t : Files) (s : NodeSettings) (base : FileName) (specifier : List ℕ)
    → told t (node s base specifier) ≡ node_on t s base specifier
told-node t s base specifier =
    told-order t (node_rows s base specifier) ∙ ap (made end_of) (told-rows t s base specifier)

pub node_on_tree : NodeOnTree
node_on_tree = record { tells = told-node }
