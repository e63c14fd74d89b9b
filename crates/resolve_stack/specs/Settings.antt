-- What settings make a project, what the project is known by, and why settings make none.
-- A `do` here is over results: it goes on with what a step gives, and ends by the first error.
use Rattle.std.specs.Prelude.{◌≡◌, ℕ, Bool, if◌then◌else◌, List, codes, Option, Some, None, option_map, Result, Ok, Err}
use Rattle.sugar_path.specs.Path.{Path, clean, path_in}
use Rattle.sugar_path.specs.Results.{◌>>=◌}
use Rattle.tree_core.specs.Asks.{widened}
use Rattle.tree_core.specs.Tree.{is_clean_path}
use Rattle.swc_loader.specs.declared.target.TargetEnv.{TargetEnv}
use Rattle.swc_loader.specs.Settings.{NodeSettings, settings_of}
use Rattle.yarn_lock_parser.specs.declared.error.YarnLockError.{YarnLockError}
use Rattle.yarn_lock_parser.specs.declared.error.YarnLockError.TheVariants as yarn_lock_error
use Rattle.yarn_lock_parser.specs.Lock.{Lock, Refusal, lock_of}
use Rattle.resolver_core.specs.declared.pattern.TsError.{TsError}
use Rattle.resolver_core.specs.declared.pattern.TsError.TheVariants as ts_error
use Rattle.resolver_core.specs.Mapping.{Mapping}
use Rattle.resolver_core.specs.Pattern.{patterns_of}
use Rattle.resolve_stack.specs.declared.project.Settings.{Settings}
use Rattle.resolve_stack.specs.declared.project.TsSettings.{TsSettings}
use Rattle.resolve_stack.specs.declared.project.ProjectError.{ProjectError}
use Rattle.resolve_stack.specs.declared.project.ProjectError.TheVariants.{SettingsFault, EmptyTargets, TwoWildcards}
use Rattle.resolve_stack.specs.declared.project.ProjectError.TheVariants.{ExactNeedsOne, LockParser, NoMemory}

-- settings as they are given, with the aliases as pairs
pub record GivenSettings : Type 0 where
  pub cwd : List ℕ
  pub target : TargetEnv
  pub preserve_symlinks : Bool
  pub node_modules : Bool
  pub alias : List (List ℕ × List ℕ)
  pub ts : Option TsSettings
  pub lock : Option (List ℕ)
  pub conditions : Option (List (List ℕ))

abbrev pub given : Settings → GivenSettings
given s = record {
  cwd = s.cwd;
  target = s.target;
  preserve_symlinks = s.preserve_symlinks;
  node_modules = s.node_modules;
  alias = s.alias.entries;
  ts = s.ts;
  lock = option_map (λ text. text.now) s.lock;
  conditions = s.conditions;
}

-- a project, as contracts see it
pub record ProjectSettings : Type 0 where
  -- the settings of the search for Node's modules
  pub node : NodeSettings
  -- the mapping that stands before the join
  pub mapping : Option Mapping
  -- the lock that bindings are held to
  pub lock : Option Lock
  -- the conditions under which the exports of a bound package count, in their order
  pub conditions : Option (List (List ℕ))

-- the path that a setting names, or the fault that it isn't a clean absolute one
abbrev pub clean_setting : List ℕ → List ℕ → Result Path ProjectError
clean_setting field text = if is_clean_path text then Ok (path_in text) else Err (SettingsFault field)

-- why patterns make no mapping, as a cause against the settings
abbrev pub cause_of : TsError → ProjectError
cause_of (ts_error.EmptyTargets at) = EmptyTargets at
cause_of (ts_error.TwoWildcards at) = TwoWildcards at
cause_of (ts_error.ExactNeedsOne at) = ExactNeedsOne at
cause_of ts_error.NoMemory = NoMemory

-- the mapping of a base folder and patterns under a version: the base folder is looked at first
unfoldable pub mapping_of : TsSettings → Result Mapping ProjectError
mapping_of ts = do
  base ← clean_setting (codes "base_url") ts.base_url
  patterns ← widened cause_of (patterns_of ts.paths)
  Ok (record { base_url = ts.base_url; version = ts.version; patterns = patterns })

abbrev pub mapping_given : Option TsSettings → Result (Option Mapping) ProjectError
mapping_given None = Ok None
mapping_given (Some ts) = do
  mapping ← mapping_of ts
  Ok (Some mapping)

-- why a text is no lock file, as a cause against the settings
abbrev pub cause_in_lock : Refusal → ProjectError
cause_in_lock refusal = LockParser refusal.place refusal.cause

-- why a reader tells no lock file, which may be want of memory, as an error against the settings
abbrev pub error_of_lock : YarnLockError → ProjectError
error_of_lock (yarn_lock_error.Parser place cause) = LockParser place cause
error_of_lock yarn_lock_error.NoMemory = NoMemory

-- the lock that a text is
abbrev pub lock_in : List ℕ → Result Lock ProjectError
lock_in text = widened cause_in_lock (lock_of text)

abbrev pub lock_given : Option (List ℕ) → Result (Option Lock) ProjectError
lock_given None = Ok None
lock_given (Some text) = do
  lock ← lock_in text
  Ok (Some lock)

-- the project of settings, or the first cause against them: the working folder, then the mapping, then the lock
unfoldable pub project_of : GivenSettings → Result ProjectSettings ProjectError
project_of s = do
  cwd ← clean_setting (codes "cwd") s.cwd
  mapping ← mapping_given s.ts
  lock ← lock_given s.lock
  Ok (record {
    node = settings_of cwd s.target s.alias s.preserve_symlinks s.node_modules;
    mapping = mapping;
    lock = lock;
    conditions = s.conditions;
  })

-- this is the cause against settings. Want of memory needs none
abbrev pub IsCauseOf : {A : Type 0} → ProjectError → Result A ProjectError → Type 0
IsCauseOf (SettingsFault field) made = made ≡ Err (SettingsFault field)
IsCauseOf (EmptyTargets at) made = made ≡ Err (EmptyTargets at)
IsCauseOf (TwoWildcards at) made = made ≡ Err (TwoWildcards at)
IsCauseOf (ExactNeedsOne at) made = made ≡ Err (ExactNeedsOne at)
IsCauseOf (LockParser place cause) made = made ≡ Err (LockParser place cause)
IsCauseOf NoMemory made = Unit {0}

-- a base's path, read from the working folder
abbrev pub path_of : ProjectSettings → List ℕ → Path
path_of project base = clean project.node.cwd base
