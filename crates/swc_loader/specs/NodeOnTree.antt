-- What the order for Node's modules tells of a tree: the laws by which a reader checks the plans. Each `do` here is
-- over what is told.
use Rattle.std.specs.Prelude.{
  ◌≡◌,
  ℕ,
  Bool,
  true,
  false,
  not,
  if◌then◌else◌,
  List,
  [],
  ◌∷◌,
  Option,
  Some,
  None,
  Result,
  Ok,
  Err,
}
use Rattle.std.specs.Option.{option_or}
use Rattle.sugar_path.specs.Path.{Path, text_of, clean, join, up, below, is_absolute}
use Rattle.tree_core.specs.Tree.{Files}
use Rattle.tree_core.specs.Rows.{Going, end_of, or_refused}
use Rattle.tree_core.specs.Told.{Told, told, unasked, ◌>>=◌, ◌>>=?◌, made, file_on, canon_on, first_file_on}
use Rattle.swc_loader.specs.declared.resolution.FileName.{FileName}
use Rattle.swc_loader.specs.declared.resolution.FileName.TheVariants.{Real}
use Rattle.swc_loader.specs.declared.resolution.Resolution.{Resolution}
use Rattle.swc_loader.specs.declared.resolution.Via.{Via}
use Rattle.swc_loader.specs.declared.refusal.NodeRefusal.{NodeRefusal}
use Rattle.swc_loader.specs.declared.refusal.NodeRefusal.TheVariants.{NotFound}
use Rattle.swc_loader.specs.declared.before.Before.{Before}
use Rattle.swc_loader.specs.declared.browser_rules.ModuleRule.{ModuleRule}
use Rattle.swc_loader.specs.declared.browser_rules.ModuleRule.TheVariants as rule
use Rattle.swc_loader.specs.declared.browser_rules.Source.TheVariants as source
use Rattle.swc_loader.specs.declared.located.Placed.{Placed}
use Rattle.swc_loader.specs.declared.located.Placed.TheVariants as placed
use Rattle.swc_loader.specs.declared.search.Searched.{Searched}
use Rattle.swc_loader.specs.Search.{places}
use Rattle.swc_loader.specs.SearchOnTree.{place_on}
use Rattle.swc_loader.specs.WalkOnTree.{walk_on}
use Rattle.swc_loader.specs.Specifier.{is_relative}
use Rattle.swc_loader.specs.Settings.{NodeSettings}
use Rattle.swc_loader.specs.Spelling.{path_as_written, canonical_or_path, spelled, custom, answer_of, answered}
use Rattle.swc_loader.specs.BrowserRulesOnTree.{rule_for_on}
use Rattle.swc_loader.specs.LocatedOnTree.{searched_on}
use Rattle.swc_loader.specs.NodeRows.{
  is_probed,
  path_text,
  core_module_for,
  decided_or_target,
  before_search,
  target_or_answer,
  folder_from,
  is_told_relative,
  search,
}
use Rattle.swc_loader.specs.NodeOrder.{node}

-- the name that a file is answered by: where links are preserved its path, which asks nothing, else its canonical name
abbrev pub name_on : Files → NodeSettings → Path → Bool → Told FileName
name_on t s f relative =
    if s.preserve_symlinks
    then unasked (Real (path_as_written s f relative))
    else made (λ name. Real (canonical_or_path f name)) (canon_on t f)

-- the answer of a file that was found, by its name
abbrev pub answer_on : Files → NodeSettings → Option Via → Path → Bool → Told Resolution
answer_on t s via f relative = made (answer_of via f) (name_on t s f relative)

-- the place of a specifier that is first looked for from the working folder
abbrev pub probe_on : Files → NodeSettings → List ℕ → Told (Option Path)
probe_on t s specifier =
    if is_probed s specifier then first_file_on t (places s.conventions s.cwd specifier) else unasked None

-- a file that is found there is the answer at once; else the specifier goes on
abbrev pub or_unanswered_on : Files → NodeSettings → List ℕ → Option Path → Told (Going (List ℕ) Resolution NodeRefusal)
or_unanswered_on t s specifier None = unasked (Ok specifier)
or_unanswered_on t s specifier (Some f) =
    made (λ resolution. Err (Ok resolution)) (answer_on t s None f (not (is_absolute specifier)))

abbrev pub unless_probed_on : Files → NodeSettings → List ℕ → Told (Going (List ℕ) Resolution NodeRefusal)
unless_probed_on t s specifier = do
  found ← probe_on t s specifier
  or_unanswered_on t s specifier found

-- what the rules for an importer say of a specifier
abbrev pub module_rule_on : Files → NodeSettings → Path → List ℕ → Told ModuleRule
module_rule_on t s importer specifier = rule_for_on t s importer (source.Specifier specifier)

-- what a rule decides: a file that it leads to is the answer
abbrev pub by_rule_on : Files → NodeSettings → List ℕ → ModuleRule → Told (Option Resolution)
by_rule_on t s specifier rule.NoRule = unasked None
by_rule_on t s specifier rule.Ignored = unasked (Some (custom specifier))
by_rule_on t s specifier (rule.File f) =
    made (λ resolution. Some resolution) (answer_on t s None f (below f s.cwd))

-- what is decided by the rules for the importer
abbrev pub ruled_specifier_on : Files → NodeSettings → Path → List ℕ → Told (Option Resolution)
ruled_specifier_on t s importer specifier = do
  said ← module_rule_on t s importer specifier
  by_rule_on t s specifier said

-- what is known of a specifier before a search, by what the rules decide of it
abbrev pub known_by_rules : NodeSettings → List ℕ → Option Resolution → Before
known_by_rules s specifier ruled =
    decided_or_target s specifier (option_or ruled (core_module_for s.target s.conventions specifier))

-- what is decided before a search, or its target
abbrev pub before_on : Files → NodeSettings → Path → List ℕ → Told Before
before_on t s importer specifier =
    made (known_by_rules s specifier) (ruled_specifier_on t s importer specifier)

-- the folder that an importer stands in, or the importer itself where it is no file
abbrev pub base_on : Files → Path → Told Path
base_on t importer = made (folder_from importer) (file_on t importer)

-- the answer of what was found, by its rules
abbrev pub answer_placed_on : Files → NodeSettings → Bool → Placed → Told Resolution
answer_placed_on t s relative (placed.File f rewritten) =
    answer_on t s None f (is_told_relative s relative f rewritten)
answer_placed_on t s relative (placed.Ignored name) = unasked (custom name)

-- what a search by a target comes to: a file by the rules for it, and then its answer
abbrev pub told_on : Files → NodeSettings → List ℕ → Bool → Searched → Told (Result Resolution NodeRefusal)
told_on t s target relative found =
    searched_on t s target found >>=? λ placed. made (λ resolution. Ok resolution)
    (answer_placed_on t s relative placed)

-- an absolute target
abbrev pub at_root_on : Files → NodeSettings → List ℕ → Told (Result Resolution NodeRefusal)
at_root_on t s target = do
  found ← place_on t s.conventions s.target [] target
  told_on t s target false found

-- a relative target, behind the base folder
abbrev pub behind_base_on : Files → NodeSettings → List ℕ → List ℕ → Told (Result Resolution NodeRefusal)
behind_base_on t s base target = do
  folder ← base_on t (clean s.cwd base)
  found ← place_on t s.conventions s.target [] (join (text_of folder) target)
  told_on t s target (not (is_absolute base)) found

-- any other target, by the walk up from the base folder
abbrev pub walked_on : Files → NodeSettings → List ℕ → List ℕ → Told (Result Resolution NodeRefusal)
walked_on t s base target = do
  folder ← base_on t (clean s.cwd base)
  found ← walk_on t s.conventions s.target target (folder ∷ up folder)
  told_on t s target true found

-- the search by a target: an absolute one, one behind the base folder, or one by the walk
abbrev pub search_on : Files → NodeSettings → List ℕ → List ℕ → Told (Result Resolution NodeRefusal)
search_on t s base target =
    if is_absolute target then at_root_on t s target
    else if is_relative target then behind_base_on t s base target
    else if s.node_modules then walked_on t s base target
    else unasked (Err (NotFound target))

-- the order's rows, each of which may end it: the first look, the base, what is decided before a search, and the search
abbrev pub node_rows_on : Files → NodeSettings → FileName → List ℕ → Told (Going Resolution Resolution NodeRefusal)
node_rows_on t s base specifier =
    unless_probed_on t s specifier >>=? λ unanswered.
    unasked (or_refused (path_text base)) >>=? λ importer.
    made target_or_answer (before_on t s (clean s.cwd importer) unanswered) >>=? λ target.
    made or_refused (search_on t s importer target)

-- the order's answer or refusal
abbrev pub node_on : Files → NodeSettings → FileName → List ℕ → Told (Result Resolution NodeRefusal)
node_on t s base specifier = made end_of (node_rows_on t s base specifier)

-- the name that a file is answered by, on each tree
pub record NameOnTree : Type 0 where
  pub tells : (t : Files) (s : NodeSettings) (f : Path) (relative : Bool) →
      told t (spelled s f relative) ≡ name_on t s f relative

-- the answer of a file that was found, on each tree
pub record AnswerOnTree : Type 0 where
  pub tells : (t : Files) (s : NodeSettings) (via : Option Via) (f : Path) (relative : Bool) →
      told t (answered s via f relative) ≡ answer_on t s via f relative

-- what is decided before a search, or its target, on each tree
pub record BeforeSearchOnTree : Type 0 where
  pub tells : (t : Files) (s : NodeSettings) (importer : Path) (specifier : List ℕ) →
      told t (before_search s importer specifier) ≡ before_on t s importer specifier

-- the search by a target, on each tree
pub record NodeSearchOnTree : Type 0 where
  pub tells : (t : Files) (s : NodeSettings) (base target : List ℕ) →
      told t (search s base target) ≡ search_on t s base target

-- the order, on each tree
pub record NodeOnTree : Type 0 where
  pub tells : (t : Files) (s : NodeSettings) (base : FileName) (specifier : List ℕ) →
      told t (node s base specifier) ≡ node_on t s base specifier
