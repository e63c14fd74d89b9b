use Rattle.std.proofs.Common.{drop, take, ◌+◌, sym, ap, ◌∙◌}
use Rattle.std.specs.Prelude.{Some}
use Rattle.std.proofs.lemmas.Bool.Decides.{Decides-eqb, not_from_Decides}
use Rattle.sugar_path.specs.Parent.{or_slash, parent_of}
use Rattle.sugar_path.proofs.ParentEnds.{last-cut, uncut-parts, parent-lone, parent-cut, lone-empty, lone-some}
use Rattle.sugar_path.proofs.parents.parent.Goals as goal

pub returns-in-Some : goal.returns-in-Some
returns-in-Some c =
    let path = c.bytes.result.now in
    let text = c.until_last-text.result.now in
    ap Some (c.of_bytes.ensures ∙ c.or_root.ensures ∙ ap or_slash c.until_last.ensures)
    ∙ sym (parent-cut path text (take c.in-Some.slash text) (drop (c.in-Some.slash + 1) text) c.until_last-text.ensures
    (last-cut text c.in-Some.slash c.in-Some.ensures))
    ∙ ap parent_of c.bytes.ensures

pub returns-in-None : goal.returns-in-None
returns-in-None c =
    let text = c.until_last-text.result.now in
    lone-empty text ((Decides-eqb _ 0).0 (sym c.is_empty.ensures ∙ c.if-is_empty.true))
    ∙ sym (parent-lone c.bytes.result.now text c.until_last-text.ensures
    (uncut-parts text (rw c.in-None.is at c.memrchr.ensures)))
    ∙ ap parent_of c.bytes.ensures

pub returns-in-None-2 : goal.returns-in-None-2
returns-in-None-2 c =
    let text = c.until_last-text.result.now in
    ap Some c.of_bytes-in-None-2.ensures
    ∙ lone-some text (not_from_Decides _ (Decides-eqb _ 0) (sym c.is_empty.ensures ∙ c.if-is_empty.false))
    ∙ sym (parent-lone c.bytes.result.now text c.until_last-text.ensures
    (uncut-parts text (rw c.in-None.is at c.memrchr.ensures)))
    ∙ ap parent_of c.bytes.ensures
