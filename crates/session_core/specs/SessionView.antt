-- What contracts see of a session, and of its keys.
use Rattle.std.specs.Prelude.{ℕ, List, map}
use Rattle.swc_loader.specs.declared.resolution.FileName.{FileName}
use Rattle.session_core.specs.declared.session.Session.{Session}
use Rattle.session_core.specs.declared.keys.Keys.{Keys}
use Rattle.session_core.specs.Numbered.{kept_in}
use Rattle.session_core.specs.Session.{Session as State}

abbrev pub state_of : Session → State
state_of s = record {
  project = s.project;
  tree = s.tree;
  capacity = s.latest.capacity;
  kept = kept_in s.latest;
}

-- the importers and specifiers, the most recently used first
abbrev pub keys_in : Keys → List (FileName × List ℕ)
keys_in k = map (λ e. (e.importer, e.specifier)) (kept_in k.latest.now)
