use Rattle.std.proofs.Common.{ℕ, List, Some, cond, bytes_eq, sym, ap, ◌∙◌}
use Rattle.std.specs.HashMap.{get_by}
use Rattle.lock_checks.proofs.EntryPlaces.{is_none, lent_at, some_in, texts_keyed}
use Rattle.lock_checks.proofs.FirstPlaces.{kept_at, noted_at}
use Rattle.lock_checks.proofs.places.places_of_resolutions.Goals as goal
use Rattle.lock_checks.proofs.places.places_of_resolutions.Goals.{
  then-not-contains_key+in_ok-insert,
  else-not-contains_key,
}

pub loop-place-preserved : goal.loop-place-preserved
loop-place-preserved c =
    let old = λ (text : List ℕ). get_by (λ k. bytes_eq text k.now) c.loop-place.places in
    let entry = c.index-entries-place.result in
    let key = c.resolved-text.ensures in
    elim c.if-not-contains_key.branch [
      | then-not-contains_key+in_ok-insert w ↦
          (λ text. let new = λ (text : List ℕ). get_by (λ k. bytes_eq text k.now) w.insert.new.self in
          let absent = ap old (sym key) ∙ is_none (old c.resolved-text.result.now)
          (sym c.contains_key.ensures ∙ w.if-not-contains_key.true) in
          let puts = λ (q : List ℕ). w.in_ok-insert.ensures.updates.0 (lent_at q)
          ∙ ap (λ t. cond (bytes_eq t q) (Some c.loop-place.place) (old q)) key in
          ap (λ m. get_by (λ k. bytes_eq text k.now) m) w.places-is
          ∙ noted_at bytes_eq (λ e. e.resolved) texts_keyed old new c.args.entries.now c.loop-place.place entry
          c.loop-place-test.true c.index-entries-place.is c.loop-place.invariant absent puts text)
      | else-not-contains_key w ↦ (λ text. let there =
          some_in (old c.resolved-text.result.now) (sym c.contains_key.ensures ∙ w.if-not-contains_key.false) in
          ap (λ m. get_by (λ k. bytes_eq text k.now) m) w.places-is
          ∙ kept_at bytes_eq (λ e. e.resolved) texts_keyed old c.args.entries.now c.loop-place.place entry there.0
          c.loop-place-test.true c.index-entries-place.is c.loop-place.invariant (ap old (sym key) ∙ there.1) text)
    ]
