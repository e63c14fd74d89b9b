-- A requirement under a name that isn't there yet goes behind the others.
use Rattle.std.proofs.Common.{◌≡◌, ℕ, false, List, Option, Some, None, bytes_eq, refl, sym, ◌∙◌, true≢false}
use Rattle.std.specs.Prelude.{is_some}
use Rattle.indexmap.specs.IndexMap.{IndexMap, get_by, insert_entry}
use Rattle.indexmap.proofs.CallerLemmas.{insert_entry-new}
use Rattle.deno_package_json.specs.Requirements.{Required, Requirements, required, with_new}

nothing : {A : Type 0} (o : Option A) → is_some o ≡ false → o ≡ None
nothing None e = refl
nothing (Some x) e = absurd (true≢false e)

pub with_new-insert_entry : {S : Type 0} (m : IndexMap (List ℕ) Required S) (name value key : List ℕ) (found : Required)
    (made : Requirements) → is_some (get_by (bytes_eq name) m) ≡ false → key ≡ name → found ≡ required name value
    → made ≡ insert_entry bytes_eq m.entries key found → made ≡ with_new m.entries (name, value)
with_new-insert_entry m name value key found made absent same is entries =
    entries ∙ (λ i. insert_entry bytes_eq m.entries (same i) (is i))
    ∙ insert_entry-new bytes_eq m name (required name value) (nothing _ absent) ∙ sym (rw absent refl)
