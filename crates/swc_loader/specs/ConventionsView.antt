-- What contracts see of conventions, and what holds of them.
use Rattle.std.specs.Prelude.{IsTrue, map, option_map}
use Rattle.swc_loader.specs.declared.conventions.Conventions.TheInside.{Inside}
use Rattle.swc_loader.specs.Conventions.{Conventions, make_names}

abbrev pub conventions_of : Inside → Conventions
conventions_of c = record {
  endings = map (λ e. e.now) c.endings.now;
  first_endings = map (λ e. e.now) c.first_endings.now;
  source_endings = map (λ s. (s.0.now, map (λ e. e.now) s.1.now)) c.source_endings.now;
  main_fields = map (λ f. f.now) c.main_fields.now;
  index_names = map (λ n. n.now) c.index_names.now;
  probes_working_folder = c.probes_working_folder;
  folders_by_slash = c.folders_by_slash;
  empty_entries = c.empty_entries;
  lenient_packages = c.lenient_packages;
  byte_order_mark = c.byte_order_mark;
  malformed_ends_walk = c.malformed_ends_walk;
  unfound_ends_walk = c.unfound_ends_walk;
  modules_in_modules = c.modules_in_modules;
  core_modules = map (λ n. n.now) c.core_modules.now;
  schemed_modules = option_map (λ names. map (λ n. n.now) names.now) c.schemed_modules;
}

-- what is tried behind a name makes a name of it
abbrev pub MakeNames : Inside → Type 0
MakeNames c = IsTrue (make_names (conventions_of c))
