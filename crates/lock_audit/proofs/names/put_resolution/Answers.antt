use Rattle.std.proofs.Common.{◌≡◌, ◌++◌, ◌||◌, true, bytes_eq, codes, string_bytes, sym, ap, ◌∙◌, append_assoc}
use Rattle.std.specs.HashSet.{contains_text}
use Rattle.std.proofs.lemmas.Map.Text.{hash_set_updates_text}
use Rattle.lock_checks.proofs.EntryPlaces.{texts_keyed}
use Rattle.lock_checks.proofs.FirstPlaces.{swapped}
use Rattle.lock_audit.proofs.NameSets.{cond_or}
use Rattle.lock_audit.proofs.names.put_resolution.Goals as goal

pub returns : goal.returns
returns c = λ text.
    let key = string_bytes c.in_ok-resolution.resolution in
    let old = c.args.resolutions.now in
    let is : key ≡ c.args.name.now ++ codes "@" ++ c.args.reference.now =
    c.in_ok-resolution.ensures.ok ∙ sym (append_assoc c.args.name.now (codes "@") c.args.reference.now) in
    hash_set_updates_text key old c.insert.new.self true c.in_ok-insert.ensures.updates text
    ∙ cond_or (bytes_eq key text) (contains_text old text)
    ∙ ap (λ b. b || contains_text old text) (swapped bytes_eq texts_keyed key text ∙ ap (bytes_eq text) is)
