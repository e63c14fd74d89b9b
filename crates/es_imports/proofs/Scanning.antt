-- A scan of a text, as far as it has come.
use Rattle.std.proofs.Common.{
  ◌≡◌,
  ◌<◌,
  ◌≤◌,
  ◌+◌,
  ℕ,
  zero,
  suc,
  true,
  List,
  [],
  ◌∷◌,
  ◌++◌,
  length,
  take,
  drop,
  map,
  refl,
  ap,
  sym,
  ◌∙◌,
  arith,
  append_assoc,
  append-nil,
}
use Rattle.std.specs.Prelude.{Bool, Result, Ok, Err}
use Rattle.std.specs.Option.{option_to_list}
use Rattle.std.proofs.lemmas.List.{drop-drop, length-drop, length-take-le, map-append}
use Rattle.es_imports.specs.declared.imports.Import.{Import}
use Rattle.es_imports.specs.declared.piece.Piece.{Piece}
use Rattle.es_imports.specs.declared.refusal.Cause.{Cause}
use Rattle.es_imports.specs.declared.expected.Expected.{Expected}
use Rattle.es_imports.specs.declared.expected.Expected.TheVariants.{Nothing}
use Rattle.es_imports.specs.Tokens.{piece_at}
use Rattle.es_imports.specs.Goals.{Context, start, goal_at, behind}
use Rattle.es_imports.specs.Signs.{sign_of}
use Rattle.es_imports.specs.Forms.{found, next}
use Rattle.es_imports.specs.Quoted.{IsQuoted}
use Rattle.es_imports.specs.Imports.{
  Fault,
  Placed,
  behind_token,
  fault_at,
  followed,
  found_at,
  found_in,
  hash_bang_len,
  import_of,
  imports_by,
  imports_of,
  pieces_from,
  pieces_of,
}
use Rattle.es_imports.proofs.Quoting.{piece_quotes, quoted_behind}
use Rattle.es_imports.proofs.Pending.{IsFound, IsPending, found_quoted, literal_sign, next_pending, sign_literal}

-- these imports, and then those that are told
abbrev pub with_front : List Import → Result (List Import) Fault → Result (List Import) Fault
with_front imports (Ok more) = Ok (imports ++ more)
with_front imports (Err fault) = Err fault

-- so far these are the imports, and the pieces from that place on tell the rest
pub record Scanning (jsx : Bool) (text : List ℕ) (at : ℕ) (context : Context) (state : Expected)
    (imports : List Import) : Type 0 where
  pub within : at ≤ length text
  pub left : ℕ
  pub enough : length (drop at text) ≤ left
  pub is : with_front imports
      (imports_by text state (pieces_from jsx left context at (drop at text))) ≡ imports_of jsx text
  pub pending : IsPending text state

with_none : (r : Result (List Import) Fault) → with_front [] r ≡ r
with_none (Ok imports) = refl
with_none (Err fault) = refl

pub scanning_start : (jsx : Bool) (text : List ℕ) (at : ℕ) → at ≡ hash_bang_len text → at ≤ length text
    → Scanning jsx text at start Nothing []
unfolding imports_of pieces_of
scanning_start jsx text at e within = record {
  within = within;
  left = length text;
  enough = omega (arith, length-drop at text);
  is = rw e (with_none (imports_by text Nothing (pieces_of jsx text)));
  pending = tt;
}

none_left : (jsx : Bool) (n : ℕ) (context : Context) (at : ℕ) (t : List ℕ) → length t ≡ 0
    → pieces_from jsx n context at t ≡ Ok []
none_left jsx zero context at t e = refl
none_left jsx (suc n) context at [] e = refl
none_left jsx (suc n) context at (c ∷ cs) e = absurd (omega arith)

pub scanning_end : (jsx : Bool) (text : List ℕ) (at : ℕ) (context : Context) (state : Expected) (imports : List Import)
    → Scanning jsx text at context state imports → length text ≤ at → imports_of jsx text ≡ Ok imports
scanning_end jsx text at context state imports s h =
    let none = none_left jsx s.left context at (drop at text) (omega (arith, length-drop at text)) in
    sym s.is ∙ ap (λ (r : Result (List Placed) Fault). with_front imports (imports_by text state r)) none
    ∙ ap (λ (xs : List Import). Ok xs) (append-nil imports)

pub one_fault : (jsx : Bool) (n : ℕ) (context : Context) (at : ℕ) (t : List ℕ) (cause : Cause) → 0 < length t
    → piece_at (goal_at context) t ≡ Err cause → pieces_from jsx (suc n) context at t ≡ Err (fault_at at cause)
one_fault jsx n context at [] cause h e = absurd (omega arith)
one_fault jsx n context at (c ∷ cs) cause h e = rw (e, pieces_from) refl

pub scanning_fault : (jsx : Bool) (text : List ℕ) (at : ℕ) (context : Context) (state : Expected)
    (imports : List Import)
    (cause : Cause)
    → Scanning jsx text at context state imports → at < length text
    → piece_at (goal_at context) (drop at text) ≡ Err cause → imports_of jsx text ≡ Err (fault_at at cause)
scanning_fault jsx text at context state imports cause s h e = from s.left s.enough s.is
  where
    from : (left : ℕ) → length (drop at text) ≤ left
        → with_front imports (imports_by text state
        (pieces_from jsx left context at (drop at text))) ≡ imports_of jsx text
        → imports_of jsx text ≡ Err (fault_at at cause)
    from zero enough is = absurd (omega (arith, length-drop at text))
    from (suc n) enough is =
        sym is ∙ ap (λ (r : Result (List Placed) Fault). with_front imports (imports_by text state r))
        (one_fault jsx n context at (drop at text) cause (omega (arith, length-drop at text)) e)

-- the piece at a place
abbrev pub placed : Piece → ℕ → List ℕ → Placed
placed p at t = record { kind = p.kind; place = at; text = take p.len t }

pub one_piece : (jsx : Bool) (n : ℕ) (context : Context) (at : ℕ) (t : List ℕ) (p : Piece) → 0 < length t
    → piece_at (goal_at context) t ≡ Ok p
    → pieces_from jsx (suc n) context at t ≡ followed (placed p at t)
    (pieces_from jsx n (behind jsx context p.kind (take p.len t)) (at + p.len) (drop p.len t))
one_piece jsx n context at [] p h e = absurd (omega arith)
one_piece jsx n context at (c ∷ cs) p h e = rw (e, pieces_from) refl

-- what a piece is found to import goes in front
front_grows : (text : List ℕ) (state : Expected) (imports : List Import) (p : Placed)
    (r : Result (List Placed) Fault)
    → with_front imports (imports_by text state (followed p r)) ≡ with_front (imports
    ++ map (import_of text) (option_to_list (found_at state p))) (imports_by text (behind_token state p) r)
front_grows text state imports p (Err fault) = refl
front_grows text state imports p (Ok ps) =
    let more = map-append (import_of text) (option_to_list (found_at state p)) (found_in (behind_token state p) ps) in
    ap (λ (xs : List Import). Ok xs)
    (ap (λ (xs : List Import). imports ++ xs) more
    ∙ sym (append_assoc imports (map (import_of text) (option_to_list (found_at state p)))
    (map (import_of text) (found_in (behind_token state p) ps))))

-- the literal at a place is quoted
pub here_quoted : (jsx : Bool) (text : List ℕ) (at : ℕ) (context : Context) (p : Piece) → at ≤ length text
    → piece_at (goal_at context) (drop at text) ≡ Ok p
    → (t : List ℕ) → literal_sign (sign_of p.kind t) ≡ true → IsQuoted text at p.len
here_quoted jsx text at context p within e t l =
    quoted_behind text at p.len (piece_quotes (goal_at context) (drop at text) p e (sign_literal p.kind t l)) within

pub scanning_finds : (jsx : Bool) (text : List ℕ) (at : ℕ) (context : Context) (state : Expected)
    (imports : List Import)
    (p : Piece) (t : List ℕ)
    → Scanning jsx text at context state imports → piece_at (goal_at context) (drop at text) ≡ Ok p
    → IsFound text (found state (sign_of p.kind t) at p.len)
scanning_finds jsx text at context state imports p t s e =
    found_quoted text state (sign_of p.kind t) at p.len s.pending (here_quoted jsx text at context p s.within e t)

pub scanning_next : (jsx : Bool) (text : List ℕ) (at : ℕ) (context : Context) (state : Expected)
    (imports : List Import) (p : Piece)
    → Scanning jsx text at context state imports → at < length text
    → piece_at (goal_at context) (drop at text) ≡ Ok p → 0 < p.len → p.len ≤ length (drop at text)
    → Scanning jsx text (at + p.len) (behind jsx context p.kind (take p.len (drop at text)))
    (next state (sign_of p.kind (take p.len (drop at text))) at p.len)
    (imports ++ map (import_of text)
    (option_to_list (found state (sign_of p.kind (take p.len (drop at text))) at p.len)))
scanning_next jsx text at context state imports p s h e some within = from s.left s.enough s.is
  where
    from : (left : ℕ) → length (drop at text) ≤ left
        → with_front imports (imports_by text state
        (pieces_from jsx left context at (drop at text))) ≡ imports_of jsx text
        → Scanning jsx text (at + p.len) (behind jsx context p.kind (take p.len (drop at text)))
        (next state (sign_of p.kind (take p.len (drop at text))) at p.len)
        (imports ++ map (import_of text)
        (option_to_list (found state (sign_of p.kind (take p.len (drop at text))) at p.len)))
    from zero enough is = absurd (omega (arith, length-drop at text))
    from (suc n) enough is =
        let rest = length-drop at text in
        let rest' = length-drop p.len (drop at text) in
        let there = drop-drop p.len at text in
        let size = length-take-le p.len (drop at text) within in
        let one = one_piece jsx n context at (drop at text) p (omega arith) e in
        let told = ap (λ (r : Result (List Placed) Fault). with_front imports (imports_by text state r)) one in
        let grown = front_grows text state imports (placed p at (drop at text))
        (pieces_from jsx n (behind jsx context p.kind (take p.len (drop at text))) (at + p.len)
        (drop p.len (drop at text))) in
        let all = sym grown ∙ sym told ∙ is in
        record {
          within = omega arith;
          left = n;
          enough = rw (← there) (omega arith);
          is = rw (← there) (rw size at all);
          pending = next_pending text state (sign_of p.kind (take p.len (drop at text))) at p.len s.pending
              (here_quoted jsx text at context p s.within e (take p.len (drop at text)));
        }

pub scanning_same : (jsx : Bool) (text : List ℕ) (at : ℕ) (context context' : Context) (state state' : Expected)
    (imports imports' : List Import)
    → context' ≡ context → state' ≡ state → imports' ≡ imports → Scanning jsx text at context state imports
    → Scanning jsx text at context' state' imports'
scanning_same jsx text at context context' state state' imports imports' c s i scanning = rw (c, s, i) scanning
