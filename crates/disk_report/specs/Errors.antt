-- Why nothing is told of requests over a tree.
use Rattle.std.specs.Prelude.{◌≡◌, Bool, Option, Some, None, Result, Ok, Err, IsOk}
use Rattle.tree_core.specs.Tree.{Files}
use Rattle.tree_core.specs.declared.tree.ReadError.{ReadError}
use Rattle.tree_core.specs.declared.tree.ReadError.TheVariants as read_error
use Rattle.resolve_stack.specs.declared.import.ImportError.{ImportError}
use Rattle.resolve_stack.specs.declared.import.ImportError.TheVariants as import_error
use Rattle.document_core.specs.declared.cause.DocumentError.{DocumentError}
use Rattle.document_core.specs.declared.cause.DocumentError.TheVariants as document_error
use Rattle.trail_bundle.specs.declared.bundle_error.BundleError.{BundleError}
use Rattle.trail_bundle.specs.declared.bundle_error.BundleError.TheVariants as bundle_error
use Rattle.disk_report.specs.declared.error.DiskError.{DiskError}
use Rattle.disk_report.specs.declared.error.DiskError.TheVariants.{Refused, TreeFault, TwoReplies, NoMemory}

-- an error as one of the tree's: neither a refusal nor two replies to one question is one
abbrev pub as_read : {A : Type 0} → Result A DiskError → Result (Option A) ReadError
as_read (Ok a) = Ok (Some a)
as_read (Err (Refused cause)) = Ok None
as_read (Err TreeFault) = Err read_error.Fault
as_read (Err TwoReplies) = Ok None
as_read (Err NoMemory) = Err read_error.NoMemory

-- an error of reading settings, of a request, and of adding to a bundle, as that of requests over a tree
abbrev pub of_document : DocumentError → DiskError
of_document (document_error.Refused cause) = Refused cause
of_document document_error.NoMemory = NoMemory

abbrev pub of_import : ImportError → DiskError
of_import import_error.TreeFault = TreeFault
of_import import_error.NoMemory = NoMemory

abbrev pub of_bundle : BundleError → DiskError
of_bundle (bundle_error.Conflict question kept given) = TwoReplies
of_bundle bundle_error.NoMemory = NoMemory
