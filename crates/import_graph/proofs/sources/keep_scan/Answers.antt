use Rattle.std.proofs.Common.{◌≡◌, Some, ap, ◌∙◌}
use Rattle.std.specs.HashMap.{get_by_text}
use Rattle.std.specs.Map.{update}
use Rattle.std.specs.Str.{bytes_eq}
use Rattle.std.specs.String.{string_bytes}
use Rattle.std.proofs.lemmas.Map.Text.{hash_map_updates_text}
use Rattle.session_core.specs.SessionView.{state_of}
use Rattle.import_graph.proofs.Scans.{scans-more}
use Rattle.import_graph.proofs.sources.keep_scan.Goals as goal

pub returns-clause-kept : goal.returns-clause-kept
returns-clause-kept g c =
    let path : string_bytes c.in_ok-from_str.field-0 ≡ c.args.file.now =
    c.in_ok-from_str.ensures.ok ∙ c.as_str-2.ensures in
    let updates = hash_map_updates_text (string_bytes c.in_ok-from_str.field-0) c.args.scans.now c.insert.new.self
    (Some c.in_ok-texts.texts) c.in_ok-insert.ensures.updates in
    scans-more g.S.Scan.imports (state_of c.args.session.now).tree.files (get_by_text c.args.scans.now)
    (get_by_text c.insert.new.self) c.args.file.now c.in_ok-texts.texts c.in_ok-texts.ensures
    (λ file. updates file ∙ ap (λ p. update bytes_eq (get_by_text c.args.scans.now) p (Some c.in_ok-texts.texts) file)
    path) c.requires
