use Rattle.std.proofs.Common.{◌≡◌, length, map, string_bytes}
use Rattle.cli_core.specs.DiskWords.{no_options, options_in}
use Rattle.cli_core.proofs.disk_words.options_in.Given as goal

-- the options so far are read on by the words that are left
abbrev pub invariant-loop-left : goal.invariant-loop-left
invariant-loop-left l =
    options_in no_options (map string_bytes l.words) ≡ options_in l.options (map string_bytes l.left)

-- each turn but the last reads a word
abbrev pub decreases-loop-left : goal.decreases-loop-left
decreases-loop-left l = length l.left
