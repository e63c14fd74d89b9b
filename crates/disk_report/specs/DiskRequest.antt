-- Requests over a tree of files: the project that they are asked in.
use Rattle.std.specs.Prelude.{ℕ, true, false, List, [], None, Result}
use Rattle.resolve_stack.specs.Settings.{GivenSettings, ProjectSettings}
use Rattle.document_core.specs.Document.{project_in}
use Rattle.document_core.specs.declared.cause.Cause.{Cause}
use Rattle.disk_report.specs.Asked.{Asked}

-- all other settings are as they are by default
abbrev pub settings_for : Asked → GivenSettings
settings_for r = record {
  cwd = r.cwd;
  target = r.target;
  preserve_symlinks = false;
  node_modules = true;
  alias = [];
  ts = None;
  lock = None;
  conditions = None;
}

-- the project that they are asked in, or the cause against its working folder
abbrev pub project_of : Asked → Result ProjectSettings Cause
project_of r = project_in (settings_for r)
