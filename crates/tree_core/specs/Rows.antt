-- An order that is written row by row: each row gives what the next one goes on with, or ends the order by an answer or
-- a refusal.
use Rattle.std.specs.Prelude.{Result, Ok, Err}
use Rattle.tree_core.specs.Plan.{Plan, Done, ◌>>=◌}

-- what a row comes to: a value to go on with, or the order's end, which is an answer or a refusal
abbrev pub Going : Type 0 → Type 0 → Type 0 → Type 0
Going A R X = Result A (Result R X)

-- a row, by the questions that it puts
abbrev pub Row : Type 0 → Type 0 → Type 0 → Type 0
Row A R X = Plan (Going A R X)

-- how an order ends whose last row gives the answer
abbrev pub end_of : {R X : Type 0} → Going R R X → Result R X
end_of (Ok answer) = Ok answer
end_of (Err end) = end

-- an order by its rows
unfoldable pub order : {R X : Type 0} → Row R R X → Plan (Result R X)
order rows = rows >>= λ going. Done (end_of going)

-- a step that may refuse
abbrev pub or_refused : {A R X : Type 0} → Result A X → Going A R X
or_refused (Ok a) = Ok a
or_refused (Err x) = Err (Err x)

-- a row that asks nothing and may refuse
abbrev pub decided : {A R X : Type 0} → Result A X → Row A R X
decided result = Done (or_refused result)

-- a row by a plan that may refuse
unfoldable pub refuses_by : {A R X : Type 0} → Plan (Result A X) → Row A R X
refuses_by p = p >>= λ result. Done (or_refused result)

-- a row that ends the order by a plan
unfoldable pub ends_by : {A R X : Type 0} → Plan (Result R X) → Row A R X
ends_by p = p >>= λ result. Done (Err result)

-- a plan that never refuses, as one that may
unfoldable pub never_refuses : {A X : Type 0} → Plan A → Plan (Result A X)
never_refuses p = p >>= λ a. Done (Ok a)
