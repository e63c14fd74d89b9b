-- The settings of a resolver of Node's modules, as contracts see them.
use Rattle.std.specs.Prelude.{ℕ, Bool, List, unwrap_or, bytes_eq}
use Rattle.std.specs.Map.{lookup}
use Rattle.sugar_path.specs.Path.{Path}
use Rattle.swc_loader.specs.declared.target.TargetEnv.{TargetEnv}
use Rattle.swc_loader.specs.Conventions.{Conventions, the_order}

pub record NodeSettings : Type 0 where
  -- the working folder, from which relative texts are read
  pub cwd : Path
  -- for what the modules are resolved
  pub target : TargetEnv
  -- from specifiers to the targets that stand for them
  pub alias : List (List ℕ × List ℕ)
  -- files are answered by their own paths and not by their canonical names
  pub preserve_symlinks : Bool
  -- the walk looks into `node_modules`
  pub node_modules : Bool
  pub conventions : Conventions

-- the target of a specifier: its alias, else the specifier itself
abbrev pub alias_of : NodeSettings → List ℕ → List ℕ
alias_of s specifier = unwrap_or (lookup (bytes_eq specifier) s.alias) specifier

-- settings with the order's own conventions
abbrev pub settings_of : Path → TargetEnv → List (List ℕ × List ℕ) → Bool → Bool → NodeSettings
settings_of cwd target alias preserve_symlinks node_modules = record {
  cwd = cwd;
  target = target;
  alias = alias;
  preserve_symlinks = preserve_symlinks;
  node_modules = node_modules;
  conventions = the_order;
}

-- settings with these conventions in place of their own
abbrev pub following : Conventions → NodeSettings → NodeSettings
following conventions s = record {
  cwd = s.cwd;
  target = s.target;
  alias = s.alias;
  preserve_symlinks = s.preserve_symlinks;
  node_modules = s.node_modules;
  conventions = conventions;
}
