use Rattle.std.proofs.Common.{◌≡◌, ◌++◌, codes, bytes_eq, sym, ap, ◌∙◌, append_assoc}
use Rattle.yarn_lock_parser.specs.Lock.{Lock}
use Rattle.lock_checks.specs.Places.{earlier, first_place}
use Rattle.lock_checks.proofs.EntryPlaces.{of_either}
use Rattle.lock_checks.proofs.lock.Lock.place_of.Goals as goal

pub returns : goal.returns
returns c =
    let text = c.as_str.result.now in
    let is : text ≡ c.args.name.now ++ codes "@" ++ c.args.reference.now = c.as_str.ensures.value
    ∙ c.in_ok-resolution.ensures.ok ∙ sym (append_assoc c.args.name.now (codes "@") c.args.reference.now) in
    let resolved = c.copied-resolved.ensures ∙ c.get.ensures.value ∙ c.self.invariant.0 text
    ∙ ap (λ (l : Lock). first_place (λ e. bytes_eq text e.resolved) l.entries) c.self.view_is in
    c.earlier.ensures
    ∙ ap (λ o. earlier o c.place_of_release.result) resolved
    ∙ ap (λ o. earlier (first_place (λ e. bytes_eq text e.resolved) c.args.self.now.entries) o)
    c.place_of_release.ensures
    ∙ of_either c.args.self.now.version c.args.name.now c.args.reference.now text c.args.self.now.entries is
