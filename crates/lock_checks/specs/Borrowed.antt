-- What is seen of a result that borrows its answer.
use Rattle.std.specs.Prelude.{Option, Result, Ok, Err}
use Rattle.std.specs.Borrow.{Bor}
use Rattle.std.specs.Option.{option_copied}

-- a result that borrows its answer, as what it borrows
abbrev pub borrowed : {A E : Type 0} → Result (Bor A) E → Result A E
borrowed (Ok a) = Ok a.now
borrowed (Err e) = Err e

-- a result that borrows its answer where it has one, as what it borrows
abbrev pub borrowed_if_any : {A E : Type 0} → Result (Option (Bor A)) E → Result (Option A) E
borrowed_if_any (Ok found) = Ok (option_copied found)
borrowed_if_any (Err e) = Err e
