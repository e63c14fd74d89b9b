-- The rules that the `browser` map of a package.json gives, as bundlers read it: which files and modules something else
-- stands for, and which are ignored. Each `do` here is over plans.
use Rattle.std.specs.Prelude.{
  ℕ,
  Bool,
  true,
  false,
  if◌then◌else◌,
  List,
  [],
  ◌∷◌,
  map,
  filter,
  codes,
  bytes_eq,
  Option,
  Some,
  None,
  option_map,
  option_and_then,
  unwrap_or,
}
use Rattle.std.specs.List.{list_any, last_or}
use Rattle.std.specs.Option.{option_map_or}
use Rattle.serde_json.specs.Data.{Data, boolean, string, Members, no_members, member}
use Rattle.serde_json.specs.Find.{get, as_object}
use Rattle.sugar_path.specs.Path.{Path, text_of, join, up, parent, path_eq}
use Rattle.tree_core.specs.Plan.{Plan, Done, ◌>>=◌, read, first_file}
use Rattle.swc_loader.specs.declared.browser_rules.Source.{Source}
use Rattle.swc_loader.specs.declared.browser_rules.Source.TheVariants as source
use Rattle.swc_loader.specs.declared.browser_rules.Rule.{Rule}
use Rattle.swc_loader.specs.declared.browser_rules.ModuleRule.{ModuleRule}
use Rattle.swc_loader.specs.declared.browser_rules.ModuleRule.TheVariants.{NoRule, Ignored, File}
use Rattle.swc_loader.specs.declared.located.Placed.{Placed}
use Rattle.swc_loader.specs.declared.located.Placed.TheVariants as placed
use Rattle.swc_loader.specs.declared.target.TargetEnv.{TargetEnv}
use Rattle.swc_loader.specs.declared.target.TargetEnv.TheVariants.{Browser, Node}
use Rattle.swc_loader.specs.Conventions.{Conventions}
use Rattle.swc_loader.specs.Entry.{package_in}
use Rattle.swc_loader.specs.Search.{package_file, place_without_entry}
use Rattle.swc_loader.specs.Specifier.{begins_in}
use Rattle.swc_loader.specs.Settings.{NodeSettings}

-- the place of a text behind the root of the rules, without entry
abbrev pub place_behind : Conventions → Path → List ℕ → Plan (Option Path)
place_behind c root text = place_without_entry c [] (join (text_of root) text)

-- the file that a key means, or else the key itself as a specifier
abbrev pub file_or_specifier : List ℕ → Option Path → Source
file_or_specifier key (Some f) = source.File f
file_or_specifier key None = source.Specifier key

-- What an entry is about: only a key whose first component is `.` may mean a file.
abbrev pub source_of : Conventions → Path → List ℕ → Plan Source
source_of c root key =
    if begins_in key (codes ".")
    then (place_behind c root key >>= λ found. Done (file_or_specifier key found))
    else Done (source.Specifier key)

-- the rule by which its source is ignored
abbrev pub ignoring_rule : Source → Option Rule
ignoring_rule about = Some (record { source = about; target = None })

-- the rule by which a file stands for its source; without a place there is none
abbrev pub placed_rule : Source → Option Path → Option Rule
placed_rule about target = option_map (λ f. record { source = about; target = Some f }) target

-- The rule of an entry, by the kind of its value: the place of a text stands for the source, whatever the text begins
-- with; by `false` the source is ignored; any other value gives no rule.
abbrev pub rule_of : Conventions → Path → List ℕ → Data → Plan (Option Rule)
rule_of c root key (string text) = do
  about ← source_of c root key
  target ← place_behind c root text
  Done (placed_rule about target)
rule_of c root key (boolean false) = source_of c root key >>= λ about. Done (ignoring_rule about)
rule_of c root key _ = Done None

abbrev pub with_rule : Option Rule → List Rule → List Rule
with_rule None rules = rules
with_rule (Some rule) rules = rule ∷ rules

-- the rules of entries, each read in full, in their order
abbrev pub rules_of : Conventions → Path → Members → Plan (List Rule)
rules_of c root no_members = Done []
rules_of c root (member key value entries) = do
  rule ← rule_of c root key value
  rules ← rules_of c root entries
  Done (with_rule rule rules)

-- the `browser` map of a package.json
abbrev pub map_in : Data → Option Members
map_in value = option_and_then as_object (get (codes "browser") value)

-- The entries of a package.json's `browser` map, in the byte order of their keys, as objects keep them. A file that
-- can't be read or is malformed has none, and so has one whose `browser` is a text.
abbrev pub browser_entries : Conventions → Option (List ℕ) → Members
browser_entries c content = unwrap_or (option_and_then map_in (package_in c content)) no_members

-- the rules of a folder's package.json
unfoldable pub rules_at : Conventions → Path → Plan (List Rule)
rules_at c root = do
  content ← read (package_file root)
  rules_of c root (browser_entries c content)

abbrev pub rules_by_target : TargetEnv → Conventions → Path → Plan (List Rule)
rules_by_target Browser c folder = rules_at c folder
rules_by_target Node c folder = Done []

-- the rules of a folder's package.json by a resolver's settings: for the target Node there are none
abbrev pub rules_for : NodeSettings → Path → Plan (List Rule)
rules_for s folder = rules_by_target s.target s.conventions folder

-- the nearest folder above a path that has a package.json
unfoldable pub root : Path → Plan (Option Path)
root p = do
  found ← first_file (map package_file (up p))
  Done (option_map parent found)

abbrev pub rules_if : Conventions → Option Path → Plan (List Rule)
rules_if c None = Done []
rules_if c (Some folder) = rules_at c folder

-- the rules for a path: those of the nearest folder above it that has a package.json
unfoldable pub rules_over : Conventions → Path → Plan (List Rule)
rules_over c p = do
  found ← root p
  rules_if c found

abbrev pub is_source : Source → Source → Bool
is_source (source.File f) (source.File g) = path_eq f g
is_source (source.File f) (source.Specifier t) = false
is_source (source.Specifier t) (source.File f) = false
is_source (source.Specifier t) (source.Specifier u) = bytes_eq t u

-- the rules that are about a source, in their order
abbrev pub rules_about : Source → List Rule → List Rule
rules_about about rules = filter (λ rule. is_source rule.source about) rules

-- by this rule its source is ignored
abbrev pub ignores : Rule → Bool
ignores rule = option_map_or (λ _. false) rule.target true

-- what the last of rules says: its file stands for the source
abbrev pub said_by_last : Option Rule → ModuleRule
said_by_last None = NoRule
said_by_last (Some rule) = option_map_or File rule.target Ignored

-- of rules about one source, an ignore wins, else the last
abbrev pub ignore_or_last : List Rule → ModuleRule
ignore_or_last rules = if list_any ignores rules then Ignored else said_by_last (last_or None rules)

-- what rules say of a source: of those about it, an ignore wins, else the last
abbrev pub ruled : List Rule → Source → ModuleRule
ruled rules about = ignore_or_last (rules_about about rules)

-- what the rules for a path say of a source; for the target Node there are none
abbrev pub rule_by_target : TargetEnv → Conventions → Path → Source → Plan ModuleRule
rule_by_target Browser c p about = rules_over c p >>= λ rules. Done (ruled rules about)
rule_by_target Node c p about = Done NoRule

abbrev pub rule_for : NodeSettings → Path → Source → Plan ModuleRule
rule_for s p about = rule_by_target s.target s.conventions p about

-- what the rules for an importer say of a specifier
abbrev pub module_rule : NodeSettings → Path → List ℕ → Plan ModuleRule
module_rule s importer specifier = rule_for s importer (source.Specifier specifier)

-- what a rule makes of a file
abbrev pub placed_by : Path → ModuleRule → Placed
placed_by f NoRule = placed.File f false
placed_by f Ignored = placed.Ignored (text_of f)
placed_by f (File g) = placed.File g true

-- A file that was found, by the rules for it. They are applied once: what stands for it is not looked for among them
-- again.
unfoldable pub ruled_file : NodeSettings → Path → Plan Placed
ruled_file s f = do
  rule ← rule_for s f (source.File f)
  Done (placed_by f rule)
