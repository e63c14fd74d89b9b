use Rattle.std.proofs.Common.{◌≡◌, [], length, sym, ap, ◌∙◌}
use Rattle.std.proofs.lemmas.Bool.Decides.{Decides-eqb}
use Rattle.std.proofs.lemmas.List.{nil_from_length}
use Rattle.sugar_path.specs.Route.{normal}
use Rattle.sugar_path.proofs.Rooms.{normal-none}
use Rattle.sugar_path.proofs.lexical_buf.PathBufSugarPathBuf.into_normalized.Goals as goal

pub returns-in-Ok-clause-path : goal.returns-in-Ok-clause-path
returns-in-Ok-clause-path c =
    let none : c.args.self ≡ [] = nil_from_length c.args.self
    (ap length (sym c.as_path.ensures) ∙ ap length (sym c.bytes-bytes.ensures)
    ∙ (Decides-eqb _ 0).0 (sym c.is_empty.ensures ∙ c.if-is_empty.true)) in
    c.in-Ok.ensures ∙ c.of_bytes.ensures ∙ sym normal-none ∙ ap normal (sym none)
