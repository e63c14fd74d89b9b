-- The rows of the order of search for Node's modules, each by itself, as docs/ORDER.md lists the node rows. Each `do`
-- here is over plans.
use Rattle.std.specs.Prelude.{
  ℕ,
  ◌==◌,
  ◌&&◌,
  ◌||◌,
  Bool,
  true,
  false,
  not,
  if◌then◌else◌,
  List,
  [],
  ◌∷◌,
  ◌++◌,
  codes,
  bytes_eq,
  drop,
  get_or,
  Option,
  Some,
  None,
  Result,
  Ok,
  Err,
}
use Rattle.std.specs.List.{list_any}
use Rattle.std.specs.Option.{option_or, option_map_or}
use Rattle.sugar_path.specs.Path.{Path, text_of, clean, join, up, parent, below, is_absolute}
use Rattle.tree_core.specs.Plan.{Plan, Done, ◌>>=◌, ◌>>=?◌, file}
use Rattle.tree_core.specs.Rows.{Going, Row, ends_by, never_refuses}
use Rattle.swc_loader.specs.declared.resolution.FileName.{FileName}
use Rattle.swc_loader.specs.declared.resolution.FileName.TheVariants.{Real, Custom, Anon}
use Rattle.swc_loader.specs.declared.resolution.Resolution.{Resolution}
use Rattle.swc_loader.specs.declared.refusal.NodeRefusal.{NodeRefusal}
use Rattle.swc_loader.specs.declared.refusal.NodeRefusal.TheVariants.{NotFound, BaseNotAFile}
use Rattle.swc_loader.specs.declared.before.Before.{Before}
use Rattle.swc_loader.specs.declared.before.Before.TheVariants.{Decided, Target}
use Rattle.swc_loader.specs.declared.browser_rules.ModuleRule.{ModuleRule}
use Rattle.swc_loader.specs.declared.browser_rules.ModuleRule.TheVariants as rule
use Rattle.swc_loader.specs.declared.located.Placed.{Placed}
use Rattle.swc_loader.specs.declared.located.Placed.TheVariants as placed
use Rattle.swc_loader.specs.declared.target.TargetEnv.{TargetEnv}
use Rattle.swc_loader.specs.declared.target.TargetEnv.TheVariants.{Browser, Node}
use Rattle.swc_loader.specs.declared.search.Searched.{Searched}
use Rattle.swc_loader.specs.Conventions.{Conventions}
use Rattle.swc_loader.specs.Search.{place_without_entry, place}
use Rattle.swc_loader.specs.Walk.{walk}
use Rattle.swc_loader.specs.Specifier.{is_relative, has_node_scheme}
use Rattle.swc_loader.specs.Settings.{NodeSettings, alias_of}
use Rattle.swc_loader.specs.Spelling.{custom, answered}
use Rattle.swc_loader.specs.BrowserRules.{module_rule}
use Rattle.swc_loader.specs.Located.{searched}

-- whether a specifier is first looked for from the working folder: where it doesn't begin with a dot
abbrev pub is_probed : NodeSettings → List ℕ → Bool
is_probed s specifier = s.conventions.probes_working_folder && not (get_or specifier 0 0 == 46)

-- Node row 1: the place of the specifier, without entry
abbrev pub probe : NodeSettings → List ℕ → Plan (Option Path)
probe s specifier =
    if is_probed s specifier then place_without_entry s.conventions s.cwd specifier else Done None

-- A file that is found there is the answer at once; else the specifier goes on.
abbrev pub or_unanswered : NodeSettings → List ℕ → Option Path → Row (List ℕ) Resolution NodeRefusal
or_unanswered s specifier None = Done (Ok specifier)
or_unanswered s specifier (Some f) =
    ends_by (never_refuses (answered s None f (not (is_absolute specifier))))

unfoldable pub unless_probed : NodeSettings → List ℕ → Row (List ℕ) Resolution NodeRefusal
unless_probed s specifier = do
  found ← probe s specifier
  or_unanswered s specifier found

-- Node row 2: the base's own path
abbrev pub path_text : FileName → Result (List ℕ) NodeRefusal
path_text (Real text) = Ok text
path_text (Custom name) = Err BaseNotAFile
path_text Anon = Err BaseNotAFile

-- Node row 3: what the rules for the importer say of the specifier. A file that stands for it is the answer at once.
abbrev pub by_rule : NodeSettings → List ℕ → ModuleRule → Plan (Option Resolution)
by_rule s specifier rule.NoRule = Done None
by_rule s specifier rule.Ignored = Done (Some (custom specifier))
by_rule s specifier (rule.File f) = answered s None f (below f s.cwd) >>= λ r. Done (Some r)

unfoldable pub ruled_specifier : NodeSettings → Path → List ℕ → Plan (Option Resolution)
ruled_specifier s importer specifier = do
  said ← module_rule s importer specifier
  by_rule s specifier said

-- a text is one of these
abbrev pub is_among : List (List ℕ) → List ℕ → Bool
is_among texts text = list_any (λ t. bytes_eq t text) texts

-- a name is a core module's behind Node's scheme
abbrev pub is_schemed : Conventions → List ℕ → Bool
is_schemed c name = option_map_or (λ names. is_among names name || is_among c.core_modules name) c.schemed_modules true

-- Node row 4: for the target Node, a core module's name behind Node's scheme is answered as it is, and one that needs
-- no scheme by that scheme
abbrev pub core_module : Conventions → List ℕ → Option Resolution
core_module c specifier =
    if has_node_scheme specifier
    then (if is_schemed c (drop 5 specifier) then Some (custom specifier) else None)
    else if is_among c.core_modules specifier then Some (custom (codes "node:" ++ specifier))
    else None

abbrev pub core_module_for : TargetEnv → Conventions → List ℕ → Option Resolution
core_module_for Browser c specifier = None
core_module_for Node c specifier = core_module c specifier

-- Node row 5: else the alias of the specifier is searched
abbrev pub decided_or_target : NodeSettings → List ℕ → Option Resolution → Before
decided_or_target s specifier (Some resolution) = Decided resolution
decided_or_target s specifier None = Target (alias_of s specifier)

-- Node rows 3 to 5
unfoldable pub before_search : NodeSettings → Path → List ℕ → Plan Before
before_search s importer specifier = do
  ruled ← ruled_specifier s importer specifier
  Done (decided_or_target s specifier (option_or ruled (core_module_for s.target s.conventions specifier)))

-- what was decided ends the order, and a target goes on
abbrev pub target_or_answer : {X : Type 0} → Before → Going (List ℕ) Resolution X
target_or_answer (Decided resolution) = Err (Ok resolution)
target_or_answer (Target target) = Ok target

unfoldable pub target_before_search : {X : Type 0} → NodeSettings → Path → List ℕ → Row (List ℕ) Resolution X
target_before_search s importer specifier = do
  before ← before_search s importer specifier
  Done (target_or_answer before)

-- the folder that an importer stands in, or the importer itself where it is no file
abbrev pub folder_from : Path → Bool → Path
folder_from importer is_file = if is_file then parent importer else importer

unfoldable pub base_folder : Path → Plan Path
base_folder importer = do
  is_file ← file importer
  Done (folder_from importer is_file)

-- Where links are preserved, a file that a rule led to is told from the working folder if it lies below it, and any
-- other as its row tells it.
abbrev pub is_told_relative : NodeSettings → Bool → Path → Bool → Bool
is_told_relative s relative f rewritten = if rewritten then below f s.cwd else relative

-- the answer of what was found, by its rules; an ignored file is answered by its path as a name
abbrev pub answered_placed : NodeSettings → Bool → Placed → Plan Resolution
answered_placed s relative (placed.File f rewritten) =
    answered s None f (is_told_relative s relative f rewritten)
answered_placed s relative (placed.Ignored name) = Done (custom name)

-- Node rows 9 and 10: what a search by a target comes to, a file by the rules for it
unfoldable pub answer_found : NodeSettings → List ℕ → Bool → Searched → Plan (Result Resolution NodeRefusal)
answer_found s target relative found =
    searched s target found >>=? λ placed. never_refuses (answered_placed s relative placed)

-- Node row 6: an absolute target
unfoldable pub at_root : NodeSettings → List ℕ → Plan (Result Resolution NodeRefusal)
at_root s target = do
  found ← place s.conventions s.target [] target
  answer_found s target false found

-- Node row 7: a target whose first component is `.` or `..`, behind the base folder
unfoldable pub behind_base : NodeSettings → List ℕ → List ℕ → Plan (Result Resolution NodeRefusal)
behind_base s base target = do
  folder ← base_folder (clean s.cwd base)
  found ← place s.conventions s.target [] (join (text_of folder) target)
  answer_found s target (not (is_absolute base)) found

-- Node row 8: every other target, by the walk up from the base folder
unfoldable pub walked : NodeSettings → List ℕ → List ℕ → Plan (Result Resolution NodeRefusal)
walked s base target = do
  folder ← base_folder (clean s.cwd base)
  found ← walk s.conventions s.target target (folder ∷ up folder)
  answer_found s target true found

-- Node row 8; where `node_modules` is off, nothing is found and nothing is asked
abbrev pub by_modules : NodeSettings → List ℕ → List ℕ → Plan (Result Resolution NodeRefusal)
by_modules s base target = if s.node_modules then walked s base target else Done (Err (NotFound target))

-- Node rows 6 to 10: the search by a target, from a base
abbrev pub search : NodeSettings → List ℕ → List ℕ → Plan (Result Resolution NodeRefusal)
search s base target =
    if is_absolute target then at_root s target
    else if is_relative target then behind_base s base target
    else by_modules s base target
