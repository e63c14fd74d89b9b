-- The reading of the rules for browsers tells of a tree what the laws say.
use Rattle.std.proofs.Common.{◌≡◌, ℕ, List, map, codes, Option, Some, None, option_map, ap, ◌∙◌, true, false}
use Rattle.serde_json.specs.Data.{Data, null, boolean, number, string, array, object, Members, no_members, member}
use Rattle.sugar_path.specs.Path.{Path, parent, up}
use Rattle.tree_core.specs.Tree.{Files}
use Rattle.tree_core.specs.Plan.{read, first_file}
use Rattle.tree_core.specs.Told.{told, made}
use Rattle.tree_core.proofs.Tellings.{told-done, told-by, told-made, told-if, told-read, told-first_file}
use Rattle.swc_loader.specs.declared.browser_rules.Source.{Source}
use Rattle.swc_loader.specs.declared.browser_rules.Source.TheVariants as source
use Rattle.swc_loader.specs.declared.target.TargetEnv.{TargetEnv}
use Rattle.swc_loader.specs.declared.target.TargetEnv.TheVariants.{Browser, Node}
use Rattle.swc_loader.specs.Conventions.{Conventions}
use Rattle.swc_loader.specs.Search.{package_file}
use Rattle.swc_loader.specs.Specifier.{begins_in}
use Rattle.swc_loader.specs.Settings.{NodeSettings}
use Rattle.swc_loader.specs.BrowserRules.{
  place_behind,
  file_or_specifier,
  source_of,
  ignoring_rule,
  placed_rule,
  rule_of,
  with_rule,
  rules_of,
  browser_entries,
  rules_at,
  rules_by_target,
  root,
  rules_if,
  rules_over,
  ruled,
  rule_by_target,
  rule_for,
  placed_by,
  ruled_file,
}
use Rattle.swc_loader.specs.BrowserRulesOnTree.{
  place_behind_on,
  source_on,
  rule_on,
  rules_on,
  rules_at_on,
  rules_by_target_on,
  root_on,
  rules_if_on,
  rules_over_on,
  rule_by_target_on,
  ruled_file_on,
  RulesOnTree,
  RuleOnTree,
}

told-place_behind : (t : Files) (c : Conventions) (r : Path) (text : List ℕ)
    → told t (place_behind c r text) ≡ place_behind_on t c r text
told-place_behind t c r text = told-first_file t _

told-source : (t : Files) (c : Conventions) (r : Path) (key : List ℕ) → told t (source_of c r key) ≡ source_on t c r key
told-source t c r key =
    told-if t (begins_in key (codes ".")) _ _
    (told-made t (place_behind c r key) (file_or_specifier key)
    ∙ ap (made (file_or_specifier key)) (told-place_behind t c r key))
    (told-done t _)

told-rule : (t : Files) (c : Conventions) (r : Path) (key : List ℕ) (d : Data)
    → told t (rule_of c r key d) ≡ rule_on t c r key d
told-rule t c r key (string text) =
    told-by t (source_of c r key) _ (told-source t c r key) (λ about.
    told-made t (place_behind c r text) (placed_rule about)
    ∙ ap (made (placed_rule about)) (told-place_behind t c r text))
told-rule t c r key (boolean false) =
    told-made t (source_of c r key) ignoring_rule ∙ ap (made ignoring_rule) (told-source t c r key)
told-rule t c r key (boolean true) = told-done t _
told-rule t c r key null = told-done t _
told-rule t c r key (number n) = told-done t _
told-rule t c r key (array ds) = told-done t _
told-rule t c r key (object ms) = told-done t _

told-rules : (t : Files) (c : Conventions) (r : Path) (ms : Members) → told t (rules_of c r ms) ≡ rules_on t c r ms
told-rules t c r no_members = told-done t _
told-rules t c r (member key d ms) =
    told-by t (rule_of c r key d) _ (told-rule t c r key d) (λ rule.
    told-made t (rules_of c r ms) (with_rule rule) ∙ ap (made (with_rule rule)) (told-rules t c r ms))

told-rules_at : (t : Files) (c : Conventions) (folder : Path) → told t (rules_at c folder) ≡ rules_at_on t c folder
unfolding rules_at
told-rules_at t c folder =
    told-by t (read (package_file folder)) _ (told-read t (package_file folder))
    (λ content. told-rules t c folder (browser_entries c content))

told-rules_for : (t : Files) (env : TargetEnv) (c : Conventions) (folder : Path)
    → told t (rules_by_target env c folder) ≡ rules_by_target_on t env c folder
told-rules_for t Browser c folder = told-rules_at t c folder
told-rules_for t Node c folder = told-done t _

pub rules_on_tree : RulesOnTree
rules_on_tree = record { tells = λ t s folder. told-rules_for t s.target s.conventions folder }

told-root : (t : Files) (p : Path) → told t (root p) ≡ root_on t p
unfolding root
told-root t p = told-made t (first_file (map package_file (up p))) (option_map parent)
    ∙ ap (made (option_map parent)) (told-first_file t (map package_file (up p)))

told-rules_if : (t : Files) (c : Conventions) (found : Option Path) → told t (rules_if c found) ≡ rules_if_on t c found
told-rules_if t c None = told-done t _
told-rules_if t c (Some folder) = told-rules_at t c folder

told-rules_over : (t : Files) (c : Conventions) (p : Path) → told t (rules_over c p) ≡ rules_over_on t c p
unfolding rules_over
told-rules_over t c p = told-by t (root p) (rules_if c) (told-root t p) (told-rules_if t c)

told-by_target : (t : Files) (env : TargetEnv) (c : Conventions) (p : Path) (about : Source)
    → told t (rule_by_target env c p about) ≡ rule_by_target_on t env c p about
told-by_target t Browser c p about = told-made t (rules_over c p) (λ rules. ruled rules about)
    ∙ ap (made (λ rules. ruled rules about)) (told-rules_over t c p)
told-by_target t Node c p about = told-done t _

pub rule_on_tree : RuleOnTree
rule_on_tree = record { tells = λ t s p about. told-by_target t s.target s.conventions p about }

pub told-ruled_file : (t : Files) (s : NodeSettings) (f : Path) → told t (ruled_file s f) ≡ ruled_file_on t s f
unfolding ruled_file
told-ruled_file t s f = told-made t (rule_for s f (source.File f)) (placed_by f)
    ∙ ap (made (placed_by f)) (rule_on_tree.tells t s f (source.File f))
