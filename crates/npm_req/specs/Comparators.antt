-- What an operator before a partial version stands for: comparators, as npm's documentation of `semver` lists them.
use Rattle.std.specs.Prelude.{ℕ, ◌+◌, ◌==◌, if◌then◌else◌, List, [], ◌∷◌}
use Rattle.semver.specs.Parse.{Parts}
use Rattle.npm_req.specs.declared.comparator.Operator.{Operator}
use Rattle.npm_req.specs.declared.comparator.Operator.TheVariants as op
use Rattle.npm_req.specs.declared.comparator.Relation.TheVariants.{Equal, AtLeast, Above, Below, AtMost}
use Rattle.npm_req.specs.declared.comparator.Comparator.{Comparator}
use Rattle.npm_req.specs.declared.comparator.Comparator.TheVariants.{Never, Bound}
use Rattle.npm_req.specs.declared.partial.Partial.{Partial}
use Rattle.npm_req.specs.declared.partial.Partial.TheVariants.{Any, Major, Minor, Full}

-- a.b.c
abbrev pub release : ℕ → ℕ → ℕ → Parts
release a b c = (a, b, c, [], [])

-- a.b.c-0, which comes before all other versions of a.b.c
abbrev pub first_of : ℕ → ℕ → ℕ → Parts
first_of a b c = (a, b, c, 48 ∷ [], [])

-- where `^` ends: the leftmost number that isn't 0 stays
abbrev pub end_of_minor : ℕ → ℕ → Parts
end_of_minor a b = if a == 0 then first_of 0 (b + 1) 0 else first_of (a + 1) 0 0

-- where `^` ends behind three numbers: the leftmost one that isn't 0 stays
abbrev pub end_of_patch : ℕ → ℕ → ℕ → Parts
end_of_patch a b c =
    if a == 0 then (if b == 0 then first_of 0 0 (c + 1) else first_of 0 (b + 1) 0) else first_of (a + 1) 0 0

-- from the first bound on, and before the second
abbrev pub between : Parts → Parts → List Comparator
between low high = Bound AtLeast low ∷ Bound Below high ∷ []

-- the comparators of an operator and a partial version; `Any` has none, since each version meets it
abbrev pub comparators : Operator → Partial → List Comparator
comparators op.Equal (Full p) = Bound Equal p ∷ []
comparators op.Equal (Minor a b) = between (release a b 0) (first_of a (b + 1) 0)
comparators op.Equal (Major a) = between (release a 0 0) (first_of (a + 1) 0 0)
comparators op.Equal Any = []
comparators op.Caret (Full p) = between p (end_of_patch p.0 p.1 p.2)
comparators op.Caret (Minor a b) = between (release a b 0) (end_of_minor a b)
comparators op.Caret (Major a) = between (release a 0 0) (first_of (a + 1) 0 0)
comparators op.Caret Any = []
comparators op.Tilde (Full p) = between p (first_of p.0 (p.1 + 1) 0)
comparators op.Tilde (Minor a b) = between (release a b 0) (first_of a (b + 1) 0)
comparators op.Tilde (Major a) = between (release a 0 0) (first_of (a + 1) 0 0)
comparators op.Tilde Any = []
comparators op.AtLeast (Full p) = Bound AtLeast p ∷ []
comparators op.AtLeast (Minor a b) = Bound AtLeast (release a b 0) ∷ []
comparators op.AtLeast (Major a) = Bound AtLeast (release a 0 0) ∷ []
comparators op.AtLeast Any = []
comparators op.Above (Full p) = Bound Above p ∷ []
comparators op.Above (Minor a b) = Bound AtLeast (release a (b + 1) 0) ∷ []
comparators op.Above (Major a) = Bound AtLeast (release (a + 1) 0 0) ∷ []
comparators op.Above Any = Never ∷ []
comparators op.Below (Full p) = Bound Below p ∷ []
comparators op.Below (Minor a b) = Bound Below (first_of a b 0) ∷ []
comparators op.Below (Major a) = Bound Below (first_of a 0 0) ∷ []
comparators op.Below Any = Never ∷ []
comparators op.AtMost (Full p) = Bound AtMost p ∷ []
comparators op.AtMost (Minor a b) = Bound Below (first_of a (b + 1) 0) ∷ []
comparators op.AtMost (Major a) = Bound Below (first_of (a + 1) 0 0) ∷ []
comparators op.AtMost Any = []
