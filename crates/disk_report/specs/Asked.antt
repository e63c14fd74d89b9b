-- What contracts see of requests over a tree.
use Rattle.std.specs.Prelude.{ℕ, List}
use Rattle.swc_loader.specs.declared.target.TargetEnv.{TargetEnv}
use Rattle.disk_report.specs.declared.forms.DiskForm.{DiskForm}

-- what is asked: specifiers, by a file's path, from a working folder and for a target; and how it is told
pub record Asked : Type 0 where
  pub cwd : List ℕ
  pub target : TargetEnv
  pub importer : List ℕ
  pub specifiers : List (List ℕ)
  pub form : DiskForm
