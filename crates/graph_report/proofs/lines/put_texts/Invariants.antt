use Rattle.std.proofs.Common.{◌++◌, string_bytes}
use Rattle.std.specs.Prelude.{map}
use Rattle.serde_json.specs.Data.{array}
use Rattle.serde_json.specs.Data.{string}
use Rattle.serde_json.specs.View.{items_of}
use Rattle.serde_json.specs.Written.{compact_text}
use Rattle.graph_report.proofs.Items.{AreLeft}
use Rattle.graph_report.proofs.lines.put_texts.Given as goal

-- what is put, and the items that are left, are the text of all
abbrev pub invariant-loop-i : goal.invariant-loop-i
invariant-loop-i l =
    AreLeft string l.texts l.i (string_bytes l.fn.out ++ compact_text (array (items_of (map string l.texts))))
    (string_bytes l.out)
