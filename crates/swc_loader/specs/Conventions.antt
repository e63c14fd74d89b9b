-- What other resolvers let their users set and this order fixes, as one value that the definitions take.
use Rattle.std.specs.Prelude.{ℕ, Bool, true, false, ◌&&◌, List, [], ◌∷◌, codes, Option, Some, None}
use Rattle.std.specs.List.{list_all}
use Rattle.sugar_path.specs.Path.{has_no_slash}
use Rattle.tree_core.specs.Builtins.{node_builtins}
use Rattle.swc_loader.specs.Endings.{are_endings, all_are_endings}

-- Lists stand in the order in which they are tried.
pub record Conventions : Type 0 where
  -- the endings that any name is tried with
  pub endings : List (List ℕ)
  -- the endings that a name without extension is tried with before the name itself
  pub first_endings : List (List ℕ)
  -- from a written extension to the endings of the sources that it may stand for
  pub source_endings : List (List ℕ × List (List ℕ))
  -- the fields of a package.json that name its entry
  pub main_fields : List (List ℕ)
  -- the names of a folder's index files, without their endings
  pub index_names : List (List ℕ)
  -- a specifier that doesn't begin with a dot is first looked for from the working folder
  pub probes_working_folder : Bool
  -- a specifier whose last part is empty, `.` or `..`, as behind a last `/`, has no file candidates
  pub folders_by_slash : Bool
  -- an empty entry text is an entry
  pub empty_entries : Bool
  -- floats, and fields of another kind, don't make a package.json malformed: such a field counts as absent
  pub lenient_packages : Bool
  -- a byte order mark at the front of a package.json is passed over
  pub byte_order_mark : Bool
  -- a malformed package.json ends the walk
  pub malformed_ends_walk : Bool
  -- a package that names an entry, of which neither that nor an index file is found, ends the walk
  pub unfound_ends_walk : Bool
  -- a folder with the name `node_modules` is asked for one of its own
  pub modules_in_modules : Bool
  -- the names of core modules
  pub core_modules : List (List ℕ)
  -- the names that are core modules only behind Node's scheme; without a list each name behind it is one
  pub schemed_modules : Option (List (List ℕ))

-- what is tried behind a name makes a name of it
abbrev pub make_names : Conventions → Bool
make_names c =
    are_endings c.endings && are_endings c.first_endings && all_are_endings c.source_endings &&
    list_all has_no_slash c.index_names

-- the order's own
unfoldable pub the_order : Conventions
the_order = record {
  endings = codes ".ts" ∷ codes ".tsx" ∷ codes ".js" ∷ codes ".jsx" ∷ codes ".node" ∷ [];
  first_endings = codes ".js" ∷ [];
  source_endings =
      (codes "js", codes ".ts" ∷ codes ".tsx" ∷ []) ∷
      (codes "jsx", codes ".ts" ∷ codes ".tsx" ∷ []) ∷
      (codes "mjs", codes ".mts" ∷ []) ∷
      (codes "cjs", codes ".cts" ∷ []) ∷ [];
  main_fields = codes "module" ∷ codes "main" ∷ [];
  index_names = codes "index" ∷ [];
  probes_working_folder = true;
  folders_by_slash = false;
  empty_entries = true;
  lenient_packages = false;
  byte_order_mark = false;
  malformed_ends_walk = false;
  unfound_ends_walk = false;
  modules_in_modules = true;
  core_modules = node_builtins;
  schemed_modules = None;
}

-- the names of the builtin modules of Node 20 that need no scheme
unfoldable pub node_20_builtins : List (List ℕ)
node_20_builtins =
    codes "_http_agent" ∷ codes "_http_client" ∷ codes "_http_common" ∷ codes "_http_incoming" ∷
    codes "_http_outgoing" ∷ codes "_http_server" ∷ codes "_stream_duplex" ∷ codes "_stream_passthrough" ∷
    codes "_stream_readable" ∷ codes "_stream_transform" ∷ codes "_stream_wrap" ∷ codes "_stream_writable" ∷
    codes "_tls_common" ∷ codes "_tls_wrap" ∷ codes "assert" ∷ codes "assert/strict" ∷ codes "async_hooks" ∷
    codes "buffer" ∷ codes "child_process" ∷ codes "cluster" ∷ codes "console" ∷ codes "constants" ∷ codes "crypto" ∷
    codes "dgram" ∷ codes "diagnostics_channel" ∷ codes "dns" ∷ codes "dns/promises" ∷ codes "domain" ∷
    codes "events" ∷ codes "fs" ∷ codes "fs/promises" ∷ codes "http" ∷ codes "http2" ∷ codes "https" ∷
    codes "inspector" ∷ codes "inspector/promises" ∷ codes "module" ∷ codes "net" ∷ codes "os" ∷ codes "path" ∷
    codes "path/posix" ∷ codes "path/win32" ∷ codes "perf_hooks" ∷ codes "process" ∷ codes "punycode" ∷
    codes "querystring" ∷ codes "readline" ∷ codes "readline/promises" ∷ codes "repl" ∷ codes "stream" ∷
    codes "stream/consumers" ∷ codes "stream/promises" ∷ codes "stream/web" ∷ codes "string_decoder" ∷ codes "sys" ∷
    codes "timers" ∷ codes "timers/promises" ∷ codes "tls" ∷ codes "trace_events" ∷ codes "tty" ∷ codes "url" ∷
    codes "util" ∷ codes "util/types" ∷ codes "v8" ∷ codes "vm" ∷ codes "wasi" ∷ codes "worker_threads" ∷
    codes "zlib" ∷ []

-- those of Node 20's `require`
unfoldable pub node_order : Conventions
node_order = record {
  endings = codes ".js" ∷ codes ".json" ∷ codes ".node" ∷ [];
  first_endings = [];
  source_endings = [];
  main_fields = codes "main" ∷ [];
  index_names = codes "index" ∷ [];
  probes_working_folder = false;
  folders_by_slash = true;
  empty_entries = false;
  lenient_packages = true;
  byte_order_mark = true;
  malformed_ends_walk = true;
  unfound_ends_walk = true;
  modules_in_modules = false;
  core_modules = node_20_builtins;
  schemed_modules = Some (codes "sea" ∷ codes "test" ∷ codes "test/reporters" ∷ []);
}
