use Rattle.std.proofs.Common.{◌≡◌, drop}
use Rattle.std.specs.FinMap as finite
use Rattle.document_core.specs.Document.{put_files}
use Rattle.document_core.proofs.document.tree_of.Given as goal

-- what is left is put into what was made so far
abbrev pub invariant-loop-file : goal.invariant-loop-file
invariant-loop-file l = put_files finite.empty l.files ≡ put_files l.tree.files (drop l.file-index l.files)
