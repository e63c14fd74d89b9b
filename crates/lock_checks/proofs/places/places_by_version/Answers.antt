use Rattle.std.proofs.Common.{◌≡◌, ◌&&◌, ℕ, List, Some, None, cond, bytes_eq, sym, ap, ◌∙◌}
use Rattle.std.specs.HashMap.{get_by}
use Rattle.lock_checks.specs.Places.{first_place}
use Rattle.lock_checks.proofs.EntryPlaces.{both_eq, is_none, lent_at, pairs_keyed, some_in}
use Rattle.lock_checks.proofs.FirstPlaces.{kept_at, noted_at, take_whole}
use Rattle.lock_checks.proofs.places.places_by_version.Goals as goal
use Rattle.lock_checks.proofs.places.places_by_version.Goals.{then-not-contains_key+in_ok-insert, else-not-contains_key}

pub loop-place-preserved : goal.loop-place-preserved
loop-place-preserved c =
    let old = λ (q : List ℕ × List ℕ). get_by (λ k. bytes_eq q.0 k.0.now && bytes_eq q.1 k.1.now) c.loop-place.places in
    let entry = c.index-entries-place.result in
    let key : (c.name.result.now, c.version.result.now) ≡ (entry.name, entry.version) =
    (λ i. (c.name.ensures i, c.version.ensures i)) in
    elim c.if-not-contains_key.branch [
      | then-not-contains_key+in_ok-insert w ↦
          (λ name version. let new = λ (q : List ℕ × List ℕ). get_by (λ k. bytes_eq q.0 k.0.now && bytes_eq q.1 k.1.now)
          w.insert.new.self in
          let absent : old (entry.name, entry.version) ≡ None = ap old (sym key)
          ∙ is_none (old (c.name.result.now, c.version.result.now))
          (sym c.contains_key.ensures ∙ w.if-not-contains_key.true) in
          let puts : (q : List ℕ × List ℕ) → new q ≡ cond (both_eq (entry.name, entry.version) q)
          (Some c.loop-place.place) (old q) = λ q. w.in_ok-insert.ensures.updates.0 (lent_at q.0, lent_at q.1)
          ∙ ap (λ k. cond (both_eq k q) (Some c.loop-place.place) (old q)) key in
          ap (λ m. get_by (λ k. bytes_eq name k.0.now && bytes_eq version k.1.now) m) w.places-is
          ∙ noted_at both_eq (λ e. (e.name, e.version)) pairs_keyed old new c.args.entries.now c.loop-place.place entry
          c.loop-place-test.true c.index-entries-place.is (λ q. c.loop-place.invariant q.0 q.1) absent puts
          (name, version))
      | else-not-contains_key w ↦ (λ name version. let there =
          some_in (old (c.name.result.now, c.version.result.now))
          (sym c.contains_key.ensures ∙ w.if-not-contains_key.false) in
          ap (λ m. get_by (λ k. bytes_eq name k.0.now && bytes_eq version k.1.now) m) w.places-is
          ∙ kept_at both_eq (λ e. (e.name, e.version)) pairs_keyed old c.args.entries.now c.loop-place.place entry
          there.0 c.loop-place-test.true c.index-entries-place.is (λ q. c.loop-place.invariant q.0 q.1)
          (ap old (sym key) ∙ there.1) (name, version))
    ]

pub returns : goal.returns
returns c = λ name version. c.loop-place.invariant name version
    ∙ ap (λ es. first_place (λ e. bytes_eq name e.name && bytes_eq version e.version) es)
    (take_whole c.args.entries.now c.loop-place.place c.loop-place-test.false)
