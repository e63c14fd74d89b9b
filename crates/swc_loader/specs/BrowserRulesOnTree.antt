-- What the reading of the rules for browsers tells of a tree: the laws by which a reader checks the plans. Each `do`
-- here is over what is told.
use Rattle.std.specs.Prelude.{◌≡◌, ℕ, false, if◌then◌else◌, List, [], map, codes, Option, Some, None, option_map}
use Rattle.serde_json.specs.Data.{Data, boolean, string, Members, no_members, member}
use Rattle.sugar_path.specs.Path.{Path, text_of, join, up, parent}
use Rattle.tree_core.specs.Tree.{Files}
use Rattle.tree_core.specs.Told.{Told, told, unasked, ◌>>=◌, made, read_on, first_file_on}
use Rattle.swc_loader.specs.declared.browser_rules.Source.{Source}
use Rattle.swc_loader.specs.declared.browser_rules.Source.TheVariants as source
use Rattle.swc_loader.specs.declared.browser_rules.Rule.{Rule}
use Rattle.swc_loader.specs.declared.browser_rules.ModuleRule.{ModuleRule}
use Rattle.swc_loader.specs.declared.browser_rules.ModuleRule.TheVariants.{NoRule}
use Rattle.swc_loader.specs.declared.located.Placed.{Placed}
use Rattle.swc_loader.specs.declared.target.TargetEnv.{TargetEnv}
use Rattle.swc_loader.specs.declared.target.TargetEnv.TheVariants.{Browser, Node}
use Rattle.swc_loader.specs.Conventions.{Conventions}
use Rattle.swc_loader.specs.Search.{places, package_file}
use Rattle.swc_loader.specs.Specifier.{begins_in}
use Rattle.swc_loader.specs.Settings.{NodeSettings}
use Rattle.swc_loader.specs.BrowserRules.{
  file_or_specifier,
  ignoring_rule,
  placed_rule,
  with_rule,
  browser_entries,
  ruled,
  placed_by,
  rules_for,
  rule_for,
}

-- the place of a text behind a root, without entry
abbrev pub place_behind_on : Files → Conventions → Path → List ℕ → Told (Option Path)
place_behind_on t c root text = first_file_on t (places c [] (join (text_of root) text))

-- what an entry is about: only a key whose first component is `.` may mean a file
abbrev pub source_on : Files → Conventions → Path → List ℕ → Told Source
source_on t c root key =
    if begins_in key (codes ".")
    then made (file_or_specifier key) (place_behind_on t c root key)
    else unasked (source.Specifier key)

-- the rule of an entry; its source is looked for where the entry is a text or `false`
abbrev pub rule_on : Files → Conventions → Path → List ℕ → Data → Told (Option Rule)
rule_on t c root key (string text) = do
  about ← source_on t c root key
  made (placed_rule about) (place_behind_on t c root text)
rule_on t c root key (boolean false) = made ignoring_rule (source_on t c root key)
rule_on t c root key _ = unasked None

-- the rules of entries: each entry is read, also where an earlier one would decide
abbrev pub rules_on : Files → Conventions → Path → Members → Told (List Rule)
rules_on t c root no_members = unasked []
rules_on t c root (member key value entries) = do
  rule ← rule_on t c root key value
  made (with_rule rule) (rules_on t c root entries)

-- the rules of a folder's package.json
abbrev pub rules_at_on : Files → Conventions → Path → Told (List Rule)
rules_at_on t c folder = do
  content ← read_on t (package_file folder)
  rules_on t c folder (browser_entries c content)

-- for the target Node there are none, and nothing is asked
abbrev pub rules_by_target_on : Files → TargetEnv → Conventions → Path → Told (List Rule)
rules_by_target_on t Browser c folder = rules_at_on t c folder
rules_by_target_on t Node c folder = unasked []

-- the nearest folder above a path that has a package.json
abbrev pub root_on : Files → Path → Told (Option Path)
root_on t p = made (option_map parent) (first_file_on t (map package_file (up p)))

abbrev pub rules_if_on : Files → Conventions → Option Path → Told (List Rule)
rules_if_on t c None = unasked []
rules_if_on t c (Some folder) = rules_at_on t c folder

-- the rules for a path: those of the nearest folder above it that has a package.json
abbrev pub rules_over_on : Files → Conventions → Path → Told (List Rule)
rules_over_on t c p = do
  found ← root_on t p
  rules_if_on t c found

-- what the rules for a path say of a source
abbrev pub rule_by_target_on : Files → TargetEnv → Conventions → Path → Source → Told ModuleRule
rule_by_target_on t Browser c p about = made (λ rules. ruled rules about) (rules_over_on t c p)
rule_by_target_on t Node c p about = unasked NoRule

abbrev pub rule_for_on : Files → NodeSettings → Path → Source → Told ModuleRule
rule_for_on t s p about = rule_by_target_on t s.target s.conventions p about

-- what the rules for a file make of it
abbrev pub ruled_file_on : Files → NodeSettings → Path → Told Placed
ruled_file_on t s f = made (placed_by f) (rule_for_on t s f (source.File f))

-- the rules of a package.json, on each tree
pub record RulesOnTree : Type 0 where
  pub tells : (t : Files) (s : NodeSettings) (folder : Path) →
      told t (rules_for s folder) ≡ rules_by_target_on t s.target s.conventions folder

-- what the rules for a path say, on each tree
pub record RuleOnTree : Type 0 where
  pub tells : (t : Files) (s : NodeSettings) (p : Path) (about : Source) →
      told t (rule_for s p about) ≡ rule_for_on t s p about
