-- The names of Node's builtin modules.
use Rattle.std.specs.Prelude.{ℕ, Bool, List, [], ◌∷◌, codes, bytes_eq}
use Rattle.std.specs.List.{list_any}

unfoldable pub node_builtins : List (List ℕ)
node_builtins =
    codes "_http_agent" ∷ codes "_http_client" ∷ codes "_http_common" ∷ codes "_http_incoming" ∷
    codes "_http_outgoing" ∷ codes "_http_server" ∷ codes "_stream_duplex" ∷
    codes "_stream_passthrough" ∷ codes "_stream_readable" ∷ codes "_stream_transform" ∷
    codes "_stream_wrap" ∷ codes "_stream_writable" ∷ codes "_tls_common" ∷ codes "_tls_wrap" ∷
    codes "assert" ∷ codes "assert/strict" ∷ codes "async_hooks" ∷ codes "buffer" ∷
    codes "child_process" ∷ codes "cluster" ∷ codes "console" ∷ codes "constants" ∷
    codes "crypto" ∷ codes "dgram" ∷ codes "diagnostics_channel" ∷ codes "dns" ∷
    codes "dns/promises" ∷ codes "domain" ∷ codes "events" ∷ codes "fs" ∷ codes "fs/promises" ∷
    codes "http" ∷ codes "http2" ∷ codes "https" ∷ codes "inspector" ∷ codes "module" ∷
    codes "net" ∷ codes "os" ∷ codes "path" ∷ codes "path/posix" ∷ codes "path/win32" ∷
    codes "perf_hooks" ∷ codes "process" ∷ codes "punycode" ∷ codes "querystring" ∷
    codes "readline" ∷ codes "readline/promises" ∷ codes "repl" ∷ codes "stream" ∷
    codes "stream/consumers" ∷ codes "stream/promises" ∷ codes "stream/web" ∷
    codes "string_decoder" ∷ codes "sys" ∷ codes "timers" ∷ codes "timers/promises" ∷ codes "tls" ∷
    codes "trace_events" ∷ codes "tty" ∷ codes "url" ∷ codes "util" ∷ codes "util/types" ∷
    codes "v8" ∷ codes "vm" ∷ codes "worker_threads" ∷ codes "zlib" ∷ []

-- whether a text is one of them
unfoldable pub is_builtin : List ℕ → Bool
is_builtin name = list_any (λ builtin. bytes_eq builtin name) node_builtins
