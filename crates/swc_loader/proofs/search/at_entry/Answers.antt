use Rattle.std.proofs.Common.{◌≡◌, [], refl, ◌∙◌}
use Rattle.sugar_path.specs.Path.{clean, join, text_of}
use Rattle.tree_core.proofs.Asking.{asks_as, asks_done, asks_fails}
use Rattle.swc_loader.proofs.Firsts.{first_or-append}
use Rattle.swc_loader.proofs.search.at_entry.Goals as goal

pub returns-in_err-file : goal.returns-in_err-file
returns-in_err-file g c =
    let text : c.as_str.result.now ≡ join (text_of c.args.folder.now) c.args.entry.now =
    c.as_str.ensures.value ∙ c.in_ok-text.ensures in
    let same : c.as_str-2.result.now ≡ join (text_of c.args.folder.now) c.args.entry.now =
    c.as_str-2.ensures.value ∙ c.in_ok-text.ensures in
    let at : c.in_ok-at.at ≡ clean [] (join (text_of c.args.folder.now) c.args.entry.now) =
    rw (c.root.ensures, text) at c.in_ok-at.ensures in
    rw first_or-append (asks_fails _ _ c.from_residual-in_err-file.ensures.1
    (rw (same, at) at c.in_err-file.ensures))

pub returns-in-Some : goal.returns-in-Some
returns-in-Some g c =
    let text : c.as_str.result.now ≡ join (text_of c.args.folder.now) c.args.entry.now =
    c.as_str.ensures.value ∙ c.in_ok-text.ensures in
    let same : c.as_str-2.result.now ≡ join (text_of c.args.folder.now) c.args.entry.now =
    c.as_str-2.ensures.value ∙ c.in_ok-text.ensures in
    let at : c.in_ok-at.at ≡ clean [] (join (text_of c.args.folder.now) c.args.entry.now) =
    rw (c.root.ensures, text) at c.in_ok-at.ensures in
    rw first_or-append (asks_as _ (rw (same, at) at c.in_ok-file.ensures) c.in-Some.is (asks_done refl))

pub returns : goal.returns
returns g c =
    let text : c.as_str.result.now ≡ join (text_of c.args.folder.now) c.args.entry.now =
    c.as_str.ensures.value ∙ c.in_ok-text.ensures in
    let same : c.as_str-2.result.now ≡ join (text_of c.args.folder.now) c.args.entry.now =
    c.as_str-2.ensures.value ∙ c.in_ok-text.ensures in
    let at : c.in_ok-at.at ≡ clean [] (join (text_of c.args.folder.now) c.args.entry.now) =
    rw (c.root.ensures, text) at c.in_ok-at.ensures in
    rw first_or-append (asks_as _ (rw (same, at) at c.in_ok-file.ensures) c.in-None.is c.index_or_unfound.ensures)
