-- A copy of an object has the object's members.
use Rattle.std.proofs.Common.{◌≡◌, List, [], ◌∷◌, String, Global, string_bytes, refl}
use Rattle.std.specs.List.{AllZip}
use Rattle.serde_json.specs.Data.{member}
use Rattle.serde_json.specs.View.{view, members_view}
use Rattle.serde_json.specs.declared.value.Value.{Value}

abbrev IsCopy : String Global × Value → String Global × Value → Type 0
IsCopy p q = (string_bytes q.0 ≡ string_bytes p.0) × (view q.1 ≡ view p.1)

pub members_view-copied : (es copies : List (String Global × Value)) → AllZip IsCopy es copies
    → members_view copies ≡ members_view es
members_view-copied [] [] h = refl
members_view-copied [] (q ∷ qs) h = absurd h
members_view-copied (p ∷ ps) [] h = absurd h
members_view-copied (p ∷ ps) (q ∷ qs) h =
    let rest = members_view-copied ps qs h.1 in λ i. member (h.0.0 i) (h.0.1 i) (rest i)
