-- The manifest of a file, known or read.
use Rattle.std.proofs.Common.{◌≡◌, ℕ, true, ◌&&◌, bytes_eq, List, Option, Some, None, Result, Ok, Err, sym, ap, ◌∙◌}
use Rattle.std.proofs.Common.{◌<◌, get_or, length}
use Rattle.std.proofs.lemmas.List.{get_or_default}
use Rattle.std.specs.Borrow.{Bor}
use Rattle.std.proofs.lemmas.Slice.Eq.{bytes_eq-Decides}
use Rattle.sugar_path.specs.Path.{Path, path_eq}
use Rattle.sugar_path.specs.PathEq.{path_eq-Decides}
use Rattle.sugar_path.proofs.Bools.{and_left, and_right}
use Rattle.tree_core.specs.declared.resolve_error.ResolveError.{ResolveError}
use Rattle.tree_core.specs.declared.resolve_error.ResolveError.TheVariants.{Refused, TreeFault, NoMemory}
use Rattle.tree_core.specs.Plan.{Done}
use Rattle.tree_core.specs.Asks.{Asking, Asks, seen}
use Rattle.tree_core.specs.Resolving.{IsDecided, IsDecidedTo, Resolves, resolving}
use Rattle.tree_core.proofs.Asking.{asks_done, asks_decided}
use Rattle.lock_checks.specs.Borrowed.{borrowed}
use Rattle.pnp_core.specs.Manifest.{Contents}
use Rattle.pnp_core.specs.ManifestReading.{reading}
use Rattle.resolve_stack.specs.declared.verdict.JoinRefusal.{JoinRefusal}
use Rattle.resolve_stack.specs.Rows.{readable}
use Rattle.resolve_stack.specs.Known.{ReadManifest, known_or_read}

decided_borrowed : {A X : Type 0} (result : Result (Bor A) (ResolveError X)) (r : Result A X) → IsDecidedTo result r →
    IsDecided (borrowed result) r
decided_borrowed (Ok a) r is = is
decided_borrowed (Err (Refused x)) r is = is
decided_borrowed (Err TreeFault) r is = is
decided_borrowed (Err NoMemory) r is = is

-- where a manifest is known, it is that one
pub known_row : {s : Asking} {m : Contents} (known : Option Contents) (file : Path) (content : Option (List ℕ)) →
    known ≡ Some m → Asks s s (seen resolving (Ok m)) (Done (known_or_read known file content))
known_row known file content is = asks_done (sym (ap (λ o. known_or_read o file content) is))

-- else what the bytes say
pub read_row : {s : Asking} (result : Result (Bor Contents) (ResolveError JoinRefusal)) (known : Option Contents)
    (file : Path) (content : Option (List ℕ)) → known ≡ None →
    IsDecidedTo result (readable file (reading content file)) →
    Resolves s s (borrowed result) (Done (known_or_read known file content))
read_row result known file content is decided =
    rw is (asks_decided (borrowed result) (decided_borrowed result _ decided))

-- a kept manifest of a file and of its bytes is one with this path and these bytes
pub is_reading : (read : ReadManifest) (file : Path) (bytes : List ℕ) →
    path_eq read.path file && bytes_eq read.bytes bytes ≡ true → (read.path ≡ file) × (read.bytes ≡ bytes)
is_reading read file bytes is = (
  (path_eq-Decides read.path file).0 (and_left _ _ is),
  (bytes_eq-Decides read.bytes bytes).0 (and_right (path_eq read.path file) _ is),
)

-- two items at one place of a list are one
pub same_item : {A : Type 0} (xs : List A) (i : ℕ) (x y : A) → x ≡ get_or xs i x → y ≡ get_or xs i y → i < length xs →
    x ≡ y
same_item xs i x y at_x at_y within = at_x ∙ get_or_default xs i x y within ∙ sym at_y
