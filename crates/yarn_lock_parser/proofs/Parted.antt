-- Descriptors, one after the other.
use Rattle.std.proofs.Common.{◌≡◌, ℕ, List, [], ◌∷◌, ◌++◌, refl, ap, Option, Some, None, append_assoc, append-nil}
use Rattle.sugar_path.specs.Front.{◌>>=◌}
use Rattle.yarn_lock_parser.specs.Front.{every}
use Rattle.yarn_lock_parser.specs.Descriptors.{parted, each_parted, next_descriptor, put_before}
use Rattle.yarn_lock_parser.proofs.Every.{every-none, every-more}
use Rattle.yarn_lock_parser.proofs.Shorter.{next_descriptor-shortens}

abbrev Pairs : Type 0
Pairs = List (List ℕ × List ℕ)

-- what the descriptors at a text's front give, after those that were found
abbrev pub found_at : Pairs → List ℕ → Option Pairs
found_at found t = put_before found (each_parted (every next_descriptor t).0)

put_before-push : (found : Pairs) (pair : List ℕ × List ℕ) (o : Option Pairs)
    → put_before (found ++ pair ∷ []) o ≡ put_before found (o >>= λ others. Some (pair ∷ others))
put_before-push found pair None = refl
put_before-push found pair (Some others) = ap Some (append_assoc found (pair ∷ []) others)

pub found_at-end : (found : Pairs) (t : List ℕ) → next_descriptor t ≡ None → found_at found t ≡ Some found
found_at-end found t e = rw (every-none next_descriptor t e) (ap Some (append-nil found))

pub found_at-none : (found : Pairs) (t : List ℕ) (x : List ℕ × List ℕ) → next_descriptor t ≡ Some x → parted x.0 ≡ None
    → found_at found t ≡ None
found_at-none found t x e none = rw (every-more next_descriptor next_descriptor-shortens t x e, none) refl

pub found_at-more : (found : Pairs) (pair : List ℕ × List ℕ) (t : List ℕ) (x : List ℕ × List ℕ)
    → next_descriptor t ≡ Some x → parted x.0 ≡ Some pair → found_at (found ++ pair ∷ []) x.1 ≡ found_at found t
found_at-more found pair t x e some = rw (every-more next_descriptor next_descriptor-shortens t x e, some)
    (put_before-push found pair (each_parted (every next_descriptor x.1).0))
