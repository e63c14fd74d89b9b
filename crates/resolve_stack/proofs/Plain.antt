-- What the node rows answer was found without a row of a manifest.
use Rattle.std.proofs.Common.{◌≡◌, ℕ, Bool, true, false, cond, List, ◌++◌, Option, Some, None, Result, Ok, Err, refl}
use Rattle.std.proofs.Common.{not}
use Rattle.std.specs.Prelude.{codes, drop}
use Rattle.std.specs.Option.{option_or}
use Rattle.sugar_path.specs.Path.{Path, clean, is_absolute}
use Rattle.tree_core.specs.Tree.{Files}
use Rattle.swc_loader.specs.declared.resolution.FileName.{FileName}
use Rattle.swc_loader.specs.declared.resolution.FileName.TheVariants.{Real, Custom, Anon}
use Rattle.swc_loader.specs.declared.resolution.Found.{Found}
use Rattle.swc_loader.specs.declared.resolution.Resolution.{Resolution}
use Rattle.swc_loader.specs.declared.refusal.NodeRefusal.{NodeRefusal}
use Rattle.swc_loader.specs.declared.refusal.NodeRefusal.TheVariants.{NotFound}
use Rattle.swc_loader.specs.declared.before.Before.{Before}
use Rattle.swc_loader.specs.declared.before.Before.TheVariants.{Decided, Target}
use Rattle.swc_loader.specs.declared.browser_rules.ModuleRule.{ModuleRule}
use Rattle.swc_loader.specs.declared.browser_rules.ModuleRule.TheVariants as rule
use Rattle.swc_loader.specs.declared.located.Placed.{Placed}
use Rattle.swc_loader.specs.declared.located.Placed.TheVariants as placed
use Rattle.swc_loader.specs.declared.target.TargetEnv.{TargetEnv}
use Rattle.swc_loader.specs.declared.target.TargetEnv.TheVariants.{Browser, Node}
use Rattle.swc_loader.specs.declared.search.Searched.{Searched}
use Rattle.swc_loader.specs.declared.search.Searched.TheVariants.{File, Nothing, Malformed, Unfound}
use Rattle.tree_core.specs.Rows.{Going, end_of, or_refused}
use Rattle.tree_core.specs.Told.{Told, unasked, made, where_ok, ◌>>=?◌}
use Rattle.swc_loader.specs.Conventions.{Conventions}
use Rattle.swc_loader.specs.Settings.{NodeSettings}
use Rattle.swc_loader.specs.Specifier.{is_relative, has_node_scheme}
use Rattle.swc_loader.specs.Spelling.{custom}
use Rattle.swc_loader.specs.BrowserRulesOnTree.{ruled_file_on}
use Rattle.swc_loader.specs.NodeRows.{path_text, is_among, is_schemed, core_module_for, decided_or_target}
use Rattle.swc_loader.specs.NodeRows.{target_or_answer}
use Rattle.swc_loader.specs.NodeOnTree.{probe_on, or_unanswered_on, module_rule_on, by_rule_on, ruled_specifier_on}
use Rattle.swc_loader.specs.NodeOnTree.{before_on, answer_placed_on, told_on, at_root_on, behind_base_on, walked_on}
use Rattle.swc_loader.specs.NodeOnTree.{search_on, node_on}

-- a file that was found, without a row
abbrev pub IsPlain : Option Found → Type 0
IsPlain None = Unit {0}
IsPlain (Some found) = found.via ≡ None

abbrev pub IsPlainResult : {X : Type 0} → Result Resolution X → Type 0
IsPlainResult (Ok resolution) = IsPlain resolution.found
IsPlainResult (Err refusal) = Unit {0}

placed-plain : (t : Files) (s : NodeSettings) (relative : Bool) (found : Placed) →
    IsPlain (answer_placed_on t s relative found).result.found
placed-plain t s relative (placed.File f rewritten) = refl
placed-plain t s relative (placed.Ignored name) = tt

told-plain : (t : Files) (s : NodeSettings) (target : List ℕ) (relative : Bool) (found : Searched) →
    IsPlainResult (told_on t s target relative found).result
told-plain t s target relative (File f) = placed-plain t s relative (ruled_file_on t s f).result
told-plain t s target relative Nothing = tt
told-plain t s target relative (Malformed p) = tt
told-plain t s target relative Unfound = tt

pub search-plain : (t : Files) (s : NodeSettings) (base target : List ℕ) →
    IsPlainResult (search_on t s base target).result
search-plain t s base target = by_absolute (is_absolute target)
  where
    by_modules : (b : Bool) →
        IsPlainResult (cond b (walked_on t s base target) (unasked (Err (NotFound target)))).result
    by_modules true = told-plain t s target true _
    by_modules false = tt

    by_relative : (b : Bool) →
        IsPlainResult (cond b (behind_base_on t s base target)
        (cond s.node_modules (walked_on t s base target) (unasked (Err (NotFound target))))).result
    by_relative true = told-plain t s target (not (is_absolute base)) _
    by_relative false = by_modules s.node_modules

    by_absolute : (b : Bool) →
        IsPlainResult (cond b (at_root_on t s target)
        (cond (is_relative target) (behind_base_on t s base target)
        (cond s.node_modules (walked_on t s base target) (unasked (Err (NotFound target)))))).result
    by_absolute true = told-plain t s target false _
    by_absolute false = by_relative (is_relative target)

-- what is decided before a search has no file
abbrev pub IsPlainBefore : Before → Type 0
IsPlainBefore (Decided resolution) = IsPlain resolution.found
IsPlainBefore (Target target) = Unit {0}

abbrev IsPlainIfDecided : Option Resolution → Type 0
IsPlainIfDecided None = Unit {0}
IsPlainIfDecided (Some resolution) = IsPlain resolution.found

decided-plain : (s : NodeSettings) (specifier : List ℕ) (ruled core : Option Resolution) → IsPlainIfDecided ruled →
    IsPlainIfDecided core → IsPlainBefore (decided_or_target s specifier (option_or ruled core))
decided-plain s specifier (Some resolution) core plain other = plain
decided-plain s specifier None (Some resolution) plain other = other
decided-plain s specifier None None plain other = tt

core-plain : (env : TargetEnv) (c : Conventions) (specifier : List ℕ) →
    IsPlainIfDecided (core_module_for env c specifier)
core-plain Browser c specifier = tt
core-plain Node c specifier =
    by_scheme (has_node_scheme specifier) (is_schemed c (drop 5 specifier)) (is_among c.core_modules specifier)
  where
    by_scheme : (scheme schemed core : Bool) →
        IsPlainIfDecided (cond scheme (cond schemed (Some (custom specifier)) None)
        (cond core (Some (custom (codes "node:" ++ specifier))) None))
    by_scheme true true core = tt
    by_scheme true false core = tt
    by_scheme false schemed true = tt
    by_scheme false schemed false = tt

ruled-plain : (t : Files) (s : NodeSettings) (specifier : List ℕ) (said : ModuleRule) →
    IsPlainIfDecided (by_rule_on t s specifier said).result
ruled-plain t s specifier rule.NoRule = tt
ruled-plain t s specifier rule.Ignored = tt
ruled-plain t s specifier (rule.File f) = refl

pub before-plain : (t : Files) (s : NodeSettings) (importer : Path) (specifier : List ℕ) →
    IsPlainBefore (before_on t s importer specifier).result
before-plain t s importer specifier =
    decided-plain s specifier (ruled_specifier_on t s importer specifier).result
    (core_module_for s.target s.conventions specifier)
    (ruled-plain t s specifier (module_rule_on t s importer specifier).result)
    (core-plain s.target s.conventions specifier)

-- the rows behind the importer, and behind the first look
abbrev behind_importer : Files → NodeSettings → List ℕ → List ℕ → Told (Going Resolution Resolution NodeRefusal)
behind_importer t s specifier importer =
    made target_or_answer (before_on t s (clean s.cwd importer) specifier) >>=? λ target.
    made or_refused (search_on t s importer target)

abbrev behind_probe : Files → NodeSettings → FileName → List ℕ → Told (Going Resolution Resolution NodeRefusal)
behind_probe t s base specifier = unasked (or_refused (path_text base)) >>=? behind_importer t s specifier

pub node-plain : (t : Files) (s : NodeSettings) (base : FileName) (specifier : List ℕ) →
    IsPlainResult (node_on t s base specifier).result
node-plain t s base specifier = by_probe (probe_on t s specifier).result
  where
    by_before : (text : List ℕ) (b : Before) → IsPlainBefore b →
        IsPlainResult (end_of (where_ok (λ target. made or_refused (search_on t s text target))
        (target_or_answer b)).result)
    by_before text (Decided resolution) plain = plain
    by_before text (Target target) plain = by_result (search_on t s text target).result (search-plain t s text target)
      where
        by_result : (r : Result Resolution NodeRefusal) → IsPlainResult r →
            IsPlainResult (end_of (or_refused {R = Resolution} r))
        by_result (Ok resolution) plain = plain
        by_result (Err refusal) plain = tt

    by_base : (base : FileName) → IsPlainResult (end_of (behind_probe t s base specifier).result)
    by_base (Real text) =
        by_before text (before_on t s (clean s.cwd text) specifier).result
        (before-plain t s (clean s.cwd text) specifier)
    by_base (Custom name) = tt
    by_base Anon = tt

    by_probe : (found : Option Path) →
        IsPlainResult (end_of (where_ok (behind_probe t s base) (or_unanswered_on t s specifier found).result).result)
    by_probe (Some f) = refl
    by_probe None = by_base base
