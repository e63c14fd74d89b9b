use Rattle.std.proofs.Common.{refl, sym, ◌∙◌}
use Rattle.tree_core.proofs.Asking.{asks_done}
use Rattle.swc_loader.proofs.search.specified_file.Goals as goal

pub returns-then-means_folder : goal.returns-then-means_folder
returns-then-means_folder g c = rw (sym c.means_folder.ensures ∙ c.if-means_folder.true) (asks_done refl)

pub returns : goal.returns
returns g c = rw (sym c.means_folder.ensures ∙ c.if-means_folder.false) c.file_of.ensures
