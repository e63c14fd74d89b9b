-- The places of refused ranges are told, one requirement after the other.
use Rattle.std.proofs.Common.{◌≡◌, ℕ, Bool, true, false, cond, List, [], ◌∷◌, ◌++◌, bytes_eq}
use Rattle.std.specs.Prelude.{is_some}
use Rattle.std.specs.Map.{lookup}
use Rattle.deno_package_json.specs.Message.{ArePlaced, IsPlaced}
use Rattle.deno_package_json.specs.Requirements.{Required, Requirements, required, with_new}

ArePlaced-push : (es : Requirements) (e : List ℕ × Required) → ArePlaced es → IsPlaced e.1 → ArePlaced (es ++ e ∷ [])
ArePlaced-push [] e h one = (one, tt)
ArePlaced-push (d ∷ es) e h one = (h.0, ArePlaced-push es e h.1 one)

pub ArePlaced-with_new : (es : Requirements) (name value : List ℕ) → IsPlaced (required name value) → ArePlaced es
    → ArePlaced (with_new es (name, value))
ArePlaced-with_new es name value one h = by_test (is_some (lookup (bytes_eq name) es))
  where
    by_test : (b : Bool) → ArePlaced (cond b es (es ++ (name, required name value) ∷ []))
    by_test true = h
    by_test false = ArePlaced-push es (name, required name value) h one
