use Rattle.std.proofs.Common.{◌≡◌, ◌∙◌, ap, sym, ℕ, Some, None, bytes_eq, rules}
use Rattle.std.specs.Global.{Vec}
use Rattle.std.specs.Map.{lookup}
use Rattle.indexmap.proofs.CallerLemmas.{insert_entry-new}
use Rattle.resolver_core.proofs.PlacesKept.{at-written, at-new}
use Rattle.resolver_core.proofs.places.PlacesByText.add.Goals as goal

pub returns-in-Some : goal.returns-in-Some
returns-in-Some c = λ q.
    let found : lookup (λ (k : Vec ℕ). bytes_eq c.args.text.now k.items) c.self.inside.kept.entries ≡ Some
    c.in-Some.places.now = sym (rw c.as_bytes.ensures.value at c.in-Some.ensures.value) in
    let written = rw c.as_bytes.ensures.value at ((c.get_mut.follows.holds c.push.new.self).0) in
    rw (← c.self.view_is, written) (at-written (λ (k : Vec ℕ). k.items) (λ (v : Vec ℕ). v.items) q c.args.text.now
    c.args.place c.push.new.self c.self.inside.kept.entries c.in-Some.places.now found c.in_ok-push.ensures.items)

pub returns : goal.returns
returns c = λ q.
    let key : c.in_ok-key.key.items ≡ c.args.text.now = search rules in
    let none : lookup (λ (k : Vec ℕ). bytes_eq c.args.text.now k.items) c.self.inside.kept.entries ≡ None =
    sym (rw c.as_bytes.ensures.value at c.in_default.ensures.value) in
    let same = ap (λ m. m.entries) c.get_mut.follows.holds-at-none in
    let absent : lookup (λ (k : Vec ℕ). bytes_eq c.in_ok-key.key.items k.items) c.get_mut.follows.lender-at-none.entries
    ≡ None = rw (key, same) none in
    let put = c.in_ok-insert.ensures.entries ∙ insert_entry-new (λ (a b : Vec ℕ). bytes_eq a.items b.items)
    c.get_mut.follows.lender-at-none c.in_ok-key.key c.in_ok-places.places absent in
    rw (← c.self.view_is, put, same) (at-new (λ (k : Vec ℕ). k.items) (λ (v : Vec ℕ). v.items) q c.args.text.now
    c.args.place c.in_ok-places.places c.self.inside.kept.entries c.in_ok-key.key none key
    c.in_ok-places.ensures.items)
