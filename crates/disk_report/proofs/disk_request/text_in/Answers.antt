use Rattle.std.proofs.Common.{◌∙◌, ap, string_bytes, sym}
use Rattle.swc_loader.specs.declared.resolution.FileName.TheVariants.{Real}
use Rattle.trail_bundle.specs.BundleView.{bundle_of}
use Rattle.disk_report.specs.Asked.{Asked}
use Rattle.disk_report.proofs.Told.{bundle_told, if_ok_more, lines_told}
use Rattle.disk_report.proofs.disk_request.text_in.Goals as goal

pub returns-in-Outcomes-clause-told : goal.returns-in-Outcomes-clause-told
returns-in-Outcomes-clause-told g c =
    let asks = ap Real (c.in_ok-of.ensures ∙ ap (λ (r : Asked). r.importer) c.request.view_is) in
    let wanted = ap (λ (r : Asked). r.specifiers) c.request.view_is in
    let is = sym (ap (λ (r : Asked). r.form) c.request.view_is) ∙ c.in-Outcomes.is in
    if_ok_more c.lines_on_tree.result
    (λ text told. lines_told c.args.request.now c.args.project.now _ _ c.in-Outcomes.form (string_bytes text)
    c.requires asks wanted is told) c.lines_on_tree.ensures.told

pub returns-clause-told : goal.returns-clause-told
returns-clause-told g c =
    let asks = ap Real (c.in_ok-of.ensures ∙ ap (λ (r : Asked). r.importer) c.request.view_is) in
    let wanted = ap (λ (r : Asked). r.specifiers) c.request.view_is in
    let is = sym (ap (λ (r : Asked). r.form) c.request.view_is) ∙ c.in-Bundle.is in
    bundle_told c.args.request.now c.args.project.now _ _ (bundle_of c.in_ok-bundle-in-Bundle.bundle) _
    c.requires asks wanted is c.in_ok-bundle-in-Bundle.ensures.told
    (c.in_ok-into_string-in-Bundle.ensures ∙ c.in_ok-encode-in-Bundle.ensures)
