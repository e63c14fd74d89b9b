-- The `>>=` of a `do` over what is told of searches that may refuse: each line goes on with the answer of the one
-- before, and a refusal ends them all.
use Rattle.std.specs.Prelude.{Result}
use Rattle.tree_core.specs.Told.{Told, ◌>>=?◌}

infixl 10 ◌>>=◌
abbrev pub ◌>>=◌ : {A B X : Type 0} → Told (Result A X) → (A → Told (Result B X)) → Told (Result B X)
m >>= next = m >>=? next
