-- What stands at a path of the disk, by what the system says of it.
use Rattle.std.specs.Prelude.{◌==◌, if◌then◌else◌, Option, Some, None, Result, Ok, Err}
use Rattle.std.specs.Fs.{file_type}
use Rattle.std.specs.declared.fs.Metadata.{Metadata}
use Rattle.std.specs.declared.io.ErrorKind.{ErrorKind}
use Rattle.std.specs.declared.io.ErrorKind.TheVariants.{NotFound, NotADirectory, OutOfMemory}
use Rattle.tree_core.specs.declared.tree.ReadError.{ReadError}
use Rattle.tree_core.specs.declared.tree.ReadError.TheVariants.{Fault, NoMemory}
use Rattle.disk_tree.specs.declared.entry.Entry.{Entry}
use Rattle.disk_tree.specs.declared.entry.Entry.TheVariants.{Absent, File, Folder, Other}

-- by the kind that the system tells (`st_mode`): a regular file, a folder, or something else
abbrev pub kind_of : Metadata → Entry
kind_of m =
    if (file_type m).bits == 0o100000 then File
    else if (file_type m).bits == 0o040000 then Folder else Other

-- An error that says that nothing is there, or that a name on the way is no folder, means that the path is absent.
-- Every other one is a fault, but for want of memory.
abbrev pub failed : ErrorKind → Result Entry ReadError
failed NotFound = Ok Absent
failed NotADirectory = Ok Absent
failed OutOfMemory = Err NoMemory
failed _ = Err Fault

-- what is told of a file alone
abbrev pub of_file : {A : Type 0} → Entry → A → Option A
of_file Absent a = None
of_file File a = Some a
of_file Folder a = None
of_file Other a = None
