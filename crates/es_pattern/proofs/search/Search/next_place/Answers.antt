use Rattle.std.proofs.Common.{◌≡◌, [], sym, ◌∙◌, arith}
use Rattle.std.proofs.lemmas.List.{nil_from_length}
use Rattle.std.proofs.lemmas.Grind.{common_steps}
use Rattle.es_pattern.specs.Pieces.{tree_of}
use Rattle.es_pattern.proofs.Beginning.{unbegun_later}
use Rattle.es_pattern.proofs.search.Search.next_place.Goals as goal

pub returns-then-not-begins_later : goal.returns-then-not-begins_later
returns-then-not-begins_later c = λ k le lt.
    let empty : c.args.alive.now.waiting.items ≡ [] =
    nil_from_length c.args.alive.now.waiting.items (grind (arith, common_steps)) in (
      empty,
      unbegun_later (tree_of c.args.self.now.pieces.now) c.args.self.now.text.now c.args.from
          (sym c.begins_later.ensures ∙ c.if-not-begins_later.true) (sym c.begins_at.ensures ∙ c.if-begins_at.false) k le,
    )
