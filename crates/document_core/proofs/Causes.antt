-- Steps that may find a cause, one behind the other.
use Rattle.std.proofs.Common.{◌≡◌, ℕ, List, Result, Ok, Err, IsErrAnd, refl}
use Rattle.std.specs.Result.{result_map_both}
use Rattle.document_core.specs.Cause.{◌>>=◌, Meets}
use Rattle.document_core.specs.declared.cause.DocumentError.{DocumentError}
use Rattle.document_core.specs.declared.cause.DocumentError.TheVariants.{Refused, NoMemory}
use Rattle.document_core.specs.declared.cause.Cause.{Cause}

-- a step that finds none leads to the next
pub ok_then : {A B : Type 0} {a : A} {r : Result B Cause} (next : A → Result B Cause) (o : Result A Cause) → o ≡ Ok a
    → next a ≡ r → (o >>= next) ≡ r
ok_then next o found rest = rw found rest

-- a step that finds one ends there
pub meets_stops : {A B : Type 0} (next : A → Result B Cause) (o : Result A Cause) (e : DocumentError)
    → Meets {A = A} (Err e) o → Meets {A = B} (Err e) (o >>= next)
meets_stops next o (Refused cause) found = rw found refl
meets_stops next o NoMemory found = tt

-- a step that leads on goes on with what it found
pub meets_then : {A B : Type 0} (next : A → Result B Cause) (o : Result A Cause) (a : A)
    (result : Result B DocumentError) → o ≡ Ok a → Meets result (next a) → Meets result (o >>= next)
meets_then next o a result found rest = rw found rest

-- an error that was raised
pub meets_raised : {A : Type 0} (result : Result A DocumentError) (e : DocumentError) (wanted : Result A Cause)
    → IsErrAnd result (λ raised. raised ≡ e) → Meets {A = A} (Err e) wanted → Meets result wanted
meets_raised (Ok a) e wanted raised found = elim raised [ ]
meets_raised (Err other) e wanted raised found = rw raised found

-- an error that was raised, where a text was to come
pub raised_text : {A : Type 0} (f : A → List ℕ) (result : Result A DocumentError) (e : DocumentError)
    (wanted : Result (List ℕ) Cause) → IsErrAnd result (λ raised. raised ≡ e) → Meets {A = List ℕ} (Err e) wanted
    → Meets (result_map_both f (λ x. x) result) wanted
raised_text f (Ok a) e wanted raised found = elim raised [ ]
raised_text f (Err other) e wanted raised found = rw raised found
