use Rattle.std.proofs.Common.{◌==◌, [], ◌∷◌, ◌++◌, List, ℕ, Bor, map, Some, append-nil, ◌∙◌, sym, ap, rules}
use Rattle.std.specs.Prelude.{None, option_map}
use Rattle.std.specs.List.{filter_map}
use Rattle.std.proofs.lemmas.Iterator.Consumers.{YieldsList-end, YieldsList-at}
use Rattle.std.proofs.lemmas.Iterator.Splits.{YieldsList-from_slice_split}
use Rattle.std.proofs.lemmas.List.{map-append}
use Rattle.import_graph.specs.Lines.{import_of, imports_of}
use Rattle.import_graph.proofs.Texts.{with-line}
use Rattle.import_graph.proofs.lines.scan_lines.Goals as goal

pub loop-line-preserved-in_ok-push : goal.loop-line-preserved-in_ok-push
loop-line-preserved-in_ok-push c =
    let now = λ (line : Bor (List ℕ)). line.now in
    let text = ap (option_map (λ x. x.now)) (sym c.in-Some-import_of.is) ∙ c.import_of.ensures in (
      search rules,
      tt,
      c.in_ok-push.ensures.items
          ∙ ap (λ texts. texts ++ c.in_ok-of.field-0 ∷ []) c.loop-line.invariant.2
          ∙ ap (λ t. filter_map import_of (map now c.loop-line.yielded) ++ t ∷ []) c.in_ok-of.ensures
          ∙ sym (ap (filter_map import_of) (map-append now c.loop-line.yielded (c.in-Some.line ∷ []))
          ∙ with-line (map now c.loop-line.yielded) c.in-Some.line.now (Some c.in-Some-import_of.text.now)
          (sym text)),
    )

pub loop-line-preserved : goal.loop-line-preserved
loop-line-preserved c =
    let now = λ (line : Bor (List ℕ)). line.now in
    let none = ap (option_map (λ x. x.now)) (sym c.in_default.is) ∙ c.import_of.ensures in (
      search rules,
      tt,
      c.loop-line.invariant.2
          ∙ sym (append-nil (filter_map import_of (map now c.loop-line.yielded)))
          ∙ sym (ap (filter_map import_of) (map-append now c.loop-line.yielded (c.in-Some.line ∷ []))
          ∙ with-line (map now c.loop-line.yielded) c.in-Some.line.now None (sym none)),
    )

pub returns : goal.returns
unfolding imports_of
returns c =
    let all = YieldsList-end (YieldsList-at c.into_iter-line-iterator.ensures.into_iter_gives
    (YieldsList-from_slice_split _ (λ b. b == 10) c.args.bytes.now c.split-line-items.ensures.rest
    c.split-line-items.ensures.done c.split-line-items.ensures.closure (λ x b q k. search rules)))
    c.loop-line.yielded _ c.loop-line.yielded_by _ _ c.in-None.is c.next.ensures.steps in
    c.from.ensures ∙ c.loop-line.invariant.2 ∙ ap (filter_map import_of) all.0
