-- Entries, one after the other, each at its place.
use Rattle.std.proofs.Common.{
  ◌≡◌,
  ◌≤◌,
  ◌+◌,
  ◌-◌,
  ℕ,
  List,
  [],
  ◌∷◌,
  ◌++◌,
  length,
  refl,
  sym,
  ap,
  ◌∙◌,
  Option,
  Some,
  None,
  Result,
  Ok,
  Err,
  arith,
  append_assoc,
  append-nil,
}
use Rattle.std.specs.Prelude.{unwrap_or}
use Rattle.std.proofs.lemmas.List.{length-take}
use Rattle.yarn_lock_parser.specs.declared.error.EntryError.{EntryError}
use Rattle.yarn_lock_parser.specs.declared.error.EntryError.TheVariants.{Refused, NoMemory}
use Rattle.yarn_lock_parser.specs.declared.error.LockCause.{LockCause}
use Rattle.yarn_lock_parser.specs.Front.{IsRest, front}
use Rattle.yarn_lock_parser.specs.Cut.{after_first_empty_line, entry_text, entry_texts}
use Rattle.yarn_lock_parser.specs.Entry.{◌>>=◌, Entry, entry_of}
use Rattle.yarn_lock_parser.specs.Reader as by_cause
use Rattle.yarn_lock_parser.specs.Reader.{error_at}
use Rattle.yarn_lock_parser.specs.Lock.{Explains, Refusal, at_place, entries_from, place_in}
use Rattle.yarn_lock_parser.proofs.Rests.{IsLater, rest-length}
use Rattle.yarn_lock_parser.proofs.Every.{Shortens, every-none, every-more}
use Rattle.yarn_lock_parser.proofs.Cuts.{first_empty-rest}

-- ---- the text of an entry

all_later : (c : ℕ) (cs : List ℕ) → IsLater (c ∷ cs) []
all_later c cs = record { rest_is = record { prior = c ∷ cs; is = sym (append-nil (c ∷ cs)) }; shorter = omega arith }

after_empty-later : (c : ℕ) (cs : List ℕ) (o : Option (List ℕ)) → after_first_empty_line (c ∷ cs) ≡ o
    → IsLater (c ∷ cs) (unwrap_or o [])
after_empty-later c cs None e = all_later c cs
after_empty-later c cs (Some r) e = first_empty-rest (c ∷ cs) r e

front-length : (t r : List ℕ) → length r ≤ length t → length (front t r) + length r ≡ length t
unfolding front
front-length t r h = omega (arith, length-take (length t - length r) t)

-- an entry's text, and what follows it, are all of a text
pub record IsCut (t : List ℕ) (x : List ℕ × List ℕ) : Type 0 where
  pub later : IsLater t x.1
  pub whole : length x.0 + length x.1 ≡ length t

pub entry_text-cut : (t : List ℕ) (x : List ℕ × List ℕ) → entry_text t ≡ Some x → IsCut t x
unfolding entry_text
entry_text-cut [] x e = cc
entry_text-cut (c ∷ cs) x e =
    let rest = unwrap_or (after_first_empty_line (c ∷ cs)) [] in
    let later : IsLater (c ∷ cs) rest = after_empty-later c cs (after_first_empty_line (c ∷ cs)) refl in
    let parts : (front (c ∷ cs) rest, rest) ≡ x = cc in
    rw (← parts) (record { later = later; whole = front-length (c ∷ cs) rest (rest-length later.rest_is) })

pub entry_text-shortens : Shortens entry_text
entry_text-shortens t x e = (entry_text-cut t x e).later.shorter

pub next_place : (content t : List ℕ) (x : List ℕ × List ℕ) → IsRest content t → entry_text t ≡ Some x
    → place_in content t + length x.0 ≡ place_in content x.1
next_place content t x r e = omega (arith, rest-length r, (entry_text-cut t x e).whole)

-- ---- entries

-- what was read already stands before what is read
abbrev put_found : List Entry → Result (List Entry) Refusal → Result (List Entry) Refusal
put_found found read = read >>= λ others. Ok (found ++ others)

-- what the entries of a text give, after those that were found
abbrev pub entries_at : List Entry → ℕ → List ℕ → Result (List Entry) Refusal
entries_at found place t = put_found found (entries_from place (entry_texts t))

pub entries_at-start : (place : ℕ) (t : List ℕ) → entries_at [] place t ≡ entries_from place (entry_texts t)
entries_at-start place t = by_read (entries_from place (entry_texts t))
  where
    by_read : (read : Result (List Entry) Refusal) → put_found [] read ≡ read
    by_read (Ok es) = refl
    by_read (Err refusal) = refl

abbrev over : List Entry → ℕ → List (List ℕ) × List ℕ → Result (List Entry) Refusal
over found place texts = put_found found (entries_from place texts.0)

pub entries_at-end : (found : List Entry) (place : ℕ) (t : List ℕ) → entry_text t ≡ None
    → entries_at found place t ≡ Ok found
entries_at-end found place t e = ap (over found place) (every-none entry_text t e) ∙ ap Ok (append-nil found)

-- the first entry's reading, and the texts of the others
abbrev joined : List Entry → ℕ → ℕ → List (List ℕ) → Result Entry LockCause → Result (List Entry) Refusal
joined found place len texts read = put_found found (at_place place read
    >>= λ first. (entries_from (place + len) texts >>= λ others. Ok (first ∷ others)))

entries_at-refused : (found : List Entry) (place : ℕ) (t : List ℕ) (x : List ℕ × List ℕ) (cause : LockCause)
    → entry_text t ≡ Some x → entry_of x.0 ≡ Err cause
    → entries_at found place t ≡ Err (record { place = place; cause = cause })
entries_at-refused found place t x cause e refused =
    ap (over found place) (every-more entry_text entry_text-shortens t x e)
    ∙ ap (joined found place (length x.0) (entry_texts x.1)) refused

pub entries_at-error : (found : List Entry) (place : ℕ) (t : List ℕ) (x : List ℕ × List ℕ) (e : EntryError)
    → entry_text t ≡ Some x → by_cause.Explains (entry_of x.0) e
    → Explains (entries_at found place t) (error_at place e)
entries_at-error found place t x (Refused cause) e refused = entries_at-refused found place t x cause e refused
entries_at-error found place t x NoMemory e refused = tt

put_found-push : (found : List Entry) (e : Entry) (read : Result (List Entry) Refusal)
    → put_found (found ++ e ∷ []) read ≡ put_found found (read >>= λ others. Ok (e ∷ others))
put_found-push found e (Ok others) = ap Ok (append_assoc found (e ∷ []) others)
put_found-push found e (Err refusal) = refl

pub entries_at-more : (found : List Entry) (entry : Entry) (place : ℕ) (t : List ℕ) (x : List ℕ × List ℕ)
    → entry_text t ≡ Some x → entry_of x.0 ≡ Ok entry
    → entries_at (found ++ entry ∷ []) (place + length x.0) x.1 ≡ entries_at found place t
entries_at-more found entry place t x e read =
    put_found-push found entry (entries_from (place + length x.0) (entry_texts x.1))
    ∙ sym (ap (over found place) (every-more entry_text entry_text-shortens t x e)
    ∙ ap (joined found place (length x.0) (entry_texts x.1)) read)
