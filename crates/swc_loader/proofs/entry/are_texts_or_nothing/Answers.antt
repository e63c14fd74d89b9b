use Rattle.std.proofs.Common.{List, ℕ, Bor, rules}
use Rattle.std.proofs.lemmas.Iterator.{YieldsList-from_slice}
use Rattle.std.proofs.lemmas.Iterator.Search.{all_from_yields_List}
use Rattle.std.proofs.lemmas.List.Folds.{list_all-map}
use Rattle.serde_json.specs.Find.{get}
use Rattle.serde_json.specs.View.{view}
use Rattle.swc_loader.specs.Entry.{is_text_or_nothing}
use Rattle.swc_loader.proofs.entry.are_texts_or_nothing.Goals as goal

pub returns : goal.returns
returns c =
    rw list_all-map (all_from_yields_List (λ (field : Bor (List ℕ)). is_text_or_nothing
    (get field.now (view c.args.package_json.now))) _ _ c.all.result c.all.ensures.ran
    (YieldsList-from_slice c.args.fields.now c.iter.ensures.rest)
    (λ x b q k. search rules))
