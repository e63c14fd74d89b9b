-- What holds between the normal form of a manifest's texts and that of paths.
use Rattle.std.specs.Prelude.{◌≡◌, ◌==◌, ◌&&◌, ℕ, Bool, true, not, if◌then◌else◌, List, [], ◌∷◌, bytes_eq}
use Rattle.sugar_path.specs.Route.{normal}
use Rattle.pnp_core.specs.NormalizePath.{normalize_path}

abbrev pub has_no_backslash : List ℕ → Bool
has_no_backslash [] = true
has_no_backslash (c ∷ t) = not (c == 92) && has_no_backslash t

-- `.` in place of `./`
abbrev pub with_bare_dot : List ℕ → List ℕ
with_bare_dot t = if bytes_eq t (46 ∷ 47 ∷ []) then 46 ∷ [] else t

-- a text without `\` has the normal form of a path, but for `./`
abbrev pub NormalizesAsNormal : Type 0
NormalizesAsNormal =
    (t : List ℕ) → has_no_backslash t ≡ true → normalize_path t ≡ with_bare_dot (normal t)
