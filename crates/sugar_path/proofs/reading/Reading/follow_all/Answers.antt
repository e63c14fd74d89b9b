use Rattle.std.proofs.Common.{◌≡◌, ◌+◌, ◌<◌, List, ℕ, drop, length, sym, ap, ◌∙◌, subst, arith, length-take}
use Rattle.sugar_path.specs.Path.{ends_in_slash, parts}
use Rattle.sugar_path.specs.Route.{route_by_part, route_by_parts}
use Rattle.sugar_path.specs.Reading.{IsPartEnd, part_in, read_text}
use Rattle.sugar_path.proofs.Rooms.{drop-later, ends-behind, with_slash-most}
use Rattle.sugar_path.proofs.reading.Reading.follow_all.Goals as goal

pub loop-at-preserved : goal.loop-at-preserved
loop-at-preserved c =
    let s = c.loop-at.self in
    let t = c.args.self.now.text.items in
    let at = c.loop-at.at in
    let end = c.part_end-end.result in
    let inv = c.loop-at.invariant in
    let P : List ℕ → Type 0 = λ u. IsPartEnd u at end in
    let ends : IsPartEnd s.text.items at end = subst P c.as_slice.ensures.value c.part_end-end.ensures in
    let part = part_in at end s.text.items in
    let passed = c.follow.ensures.passed in
    let inside : at < length s.text.items = omega (arith, s.text.ok.0) in
    let later : drop (end + 1) s.text.items ≡ drop (end + 1) t =
    drop-later s.text.items t at (end + 1) (omega (arith, ends.order)) inv.rest in
    record {
      read = λ r h.
          let before = inv.read r h in (
            route_by_part before.0 part,
            c.follow.ensures.read before.0 before.1,
            ap (λ u. route_by_parts (route_by_part before.0 part) (parts u)) (sym later)
                ∙ sym (ends.next before.0)
                ∙ ap (λ u. route_by_parts before.0 (parts u)) inv.rest
                ∙ before.2,
          );
      rest = drop-later c.follow.new.self.text.items s.text.items end (end + 1) (omega arith) passed.rest ∙ later;
      room = omega (
        arith,
        with_slash-most (read_text c.follow.new.self),
        length-take c.follow.new.self.len c.follow.new.self.text.items,
        passed.read,
      );
      passed = omega (arith, passed.read);
      within = omega (arith, ends.within, s.text.ok.0, inv.size);
      size = passed.size ∙ inv.size;
      last = λ e.
          ends-behind t at (omega (arith, inside, s.text.ok.0, inv.size, c.args.self.now.text.ok.0))
          ∙ ap ends_in_slash (sym inv.rest)
          ∙ sym (ends-behind s.text.items at inside)
          ∙ ends.last (omega (arith, s.text.ok.0, inv.size));
    }
