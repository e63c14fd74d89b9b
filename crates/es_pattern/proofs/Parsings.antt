-- A text's characters, read in order, and their bytes.
use Rattle.std.proofs.Common.{
  ◌≡◌,
  ℕ,
  zero,
  suc,
  ◌+◌,
  ◌-◌,
  ◌≤◌,
  ◌<◌,
  List,
  [],
  ◌∷◌,
  ◌++◌,
  length,
  get_or,
  take,
  Option,
  Some,
  None,
  refl,
  sym,
  ap,
  subst,
  ◌∙◌,
  arith,
  drop,
}
use Rattle.std.specs.Prelude.{option_and_then, encode_utf8_all, encode_utf8}
use Rattle.std.specs.Char.{len_utf8}
use Rattle.std.proofs.lemmas.List.{get_or_read, take_more, length-append, append-nil, take-take, take-append-drop}
use Rattle.std.proofs.lemmas.Str.{encodes-append, length-encode}
use Rattle.std.proofs.lemmas.Option.{same_Some}
use Rattle.es_pattern.specs.Reading.{Reading, reads, step, start}
use Rattle.es_pattern.specs.Faults.{byte_place}
use Rattle.es_pattern.proofs.NumberTests.{no_some}
use Rattle.es_pattern.specs.Parsing.{PassesBefore}

pub reads-append : (xs ys : List ℕ) (r : Reading) → reads (xs ++ ys) r ≡ option_and_then (reads ys) (reads xs r)
reads-append [] ys r = refl
reads-append (c ∷ xs) ys r = by_step (step c r) (reads-append xs ys)
  where
    by_step : (o : Option Reading) → ((s : Reading) → reads (xs ++ ys) s ≡ option_and_then (reads ys) (reads xs s))
        → option_and_then (reads (xs ++ ys)) o ≡ option_and_then (reads ys) (option_and_then (reads xs) o)
    by_step None again = refl
    by_step (Some s) again = again s

pub reads_more : (cs : List ℕ) (n : ℕ) (r s new : Reading) → n < length cs → reads (take n cs) r ≡ Some s
    → step (get_or cs n 0) s ≡ Some new → reads (take (n + 1) cs) r ≡ Some new
reads_more cs n r s new lt so_far next =
    ap (λ (xs : List ℕ). reads xs r) (take_more cs n 0 lt) ∙ reads-append (take n cs) (get_or cs n 0 ∷ []) r
    ∙ ap (option_and_then (reads (get_or cs n 0 ∷ []))) so_far ∙ ap (option_and_then (reads [])) next

byte_place_more : (cs : List ℕ) (n : ℕ) → n < length cs
    → byte_place cs (n + 1) ≡ byte_place cs n + len_utf8 (get_or cs n 0)
byte_place_more cs n lt =
    let e : byte_place cs (n + 1) ≡ length (encode_utf8_all (take n cs) ++ encode_utf8_all (get_or cs n 0 ∷ [])) =
    ap (λ (xs : List ℕ). length (encode_utf8_all xs)) (take_more cs n 0 lt)
    ∙ ap length (encodes-append (take n cs) (get_or cs n 0 ∷ [])) in
    let one : length (encode_utf8_all (get_or cs n 0 ∷ [])) ≡ len_utf8 (get_or cs n 0) =
    ap length (append-nil (encode_utf8 (get_or cs n 0))) ∙ length-encode (get_or cs n 0) in
    omega (arith, e, one, length-append (encode_utf8_all (take n cs)) (encode_utf8_all (get_or cs n 0 ∷ [])))

pub byte_place_next : (cs : List ℕ) (n c : ℕ) → n < length cs → c ≡ get_or cs n c
    → byte_place cs (n + 1) ≡ byte_place cs n + len_utf8 c
byte_place_next cs n c lt e =
    byte_place_more cs n lt ∙ ap (λ (d : ℕ). byte_place cs n + len_utf8 d) (sym (get_or_read cs n c lt e 0))

pub byte_place_below : (cs : List ℕ) (n : ℕ) → n ≤ length cs → byte_place cs n ≤ byte_place cs (length cs)
byte_place_below cs n le = below (length cs - n) n (omega (arith, le))
  where
    below : (k n : ℕ) → n + k ≡ length cs → byte_place cs n ≤ byte_place cs (length cs)
    below zero n e = let same : n ≡ length cs = omega (arith, e) in
        subst (λ (m : ℕ). byte_place cs n ≤ byte_place cs m) same (omega arith)
    below (suc k) n e =
        let next = below k (n + 1) (omega (arith, e)) in
        let more = byte_place_more cs n (omega (arith, e)) in
        omega (arith, next, more)

pub reads_next : (cs : List ℕ) (n c : ℕ) (r s new : Reading) → n < length cs → c ≡ get_or cs n c
    → reads (take n cs) r ≡ Some s → step c s ≡ Some new → reads (take (n + 1) cs) r ≡ Some new
reads_next cs n c r s new lt e so_far next =
    reads_more cs n r s new lt so_far (subst (λ (d : ℕ). step d s ≡ Some new) (get_or_read cs n c lt e 0) next)

-- what is read in two parts
part_reads : (xs ys : List ℕ) (r s : Reading) → reads (xs ++ ys) r ≡ Some s → (m : Reading) × (reads xs r ≡ Some m)
    × (reads ys m ≡ Some s)
part_reads xs ys r s e = by_part (reads xs r) refl (sym (reads-append xs ys r) ∙ e)
  where
    by_part : (o : Option Reading) → reads xs r ≡ o → option_and_then (reads ys) o ≡ Some s → (m : Reading)
        × (reads xs r ≡ Some m) × (reads ys m ≡ Some s)
    by_part None is g = no_some s g
    by_part (Some m) is g = (m, is, g)

-- a part of what is read is read
pub reads_part : (text : List ℕ) (q n : ℕ) (r : Reading) → q ≤ n → reads (take n text) start ≡ Some r → (s : Reading)
    × (reads (take q text) start ≡ Some s)
reads_part text q n r le e =
    let split : take q text ++ drop q (take n text) ≡ take n text =
    ap (λ (xs : List ℕ). xs ++ drop q (take n text)) (sym (take-take q n text le))
    ∙ take-append-drop q (take n text) in
    let p = part_reads (take q text) (drop q (take n text)) start r (ap (λ (xs : List ℕ). reads xs start) split ∙ e) in
    (p.0, p.1)

reads_one : (c : ℕ) (r s : Reading) → reads (c ∷ []) r ≡ Some s → step c r ≡ Some s
reads_one c r s e = by_step (step c r) refl e
  where
    by_step : (o : Option Reading) → step c r ≡ o → option_and_then (reads []) o ≡ Some s → step c r ≡ Some s
    by_step None is g = no_some s g
    by_step (Some m) is g = is ∙ g

-- the last character's step
pub reads_last : (text : List ℕ) (n : ℕ) (s : Reading) → n < length text → reads (take (n + 1) text) start ≡ Some s
    → (r : Reading) × (reads (take n text) start ≡ Some r) × (step (get_or text n 0) r ≡ Some s)
reads_last text n s lt e =
    let p = part_reads (take n text) (get_or text n 0 ∷ []) start s
    (ap (λ (xs : List ℕ). reads xs start) (sym (take_more text n 0 lt)) ∙ e) in
    (p.0, p.1, reads_one (get_or text n 0) p.0 s p.2)

-- one character more
pub reads_step : (text : List ℕ) (n : ℕ) (r s : Reading) → n < length text → reads (take n text) start ≡ Some r
    → reads (take (n + 1) text) start ≡ Some s → step (get_or text n 0) r ≡ Some s
reads_step text n r s lt e g =
    let p = reads_last text n s lt g in
    let same : p.0 ≡ r = same_Some p.0 r (sym p.1 ∙ e) in
    subst (λ (y : Reading). step (get_or text n 0) y ≡ Some s) same p.2

-- what has no refusal has none before
pub passes_less : (text : List ℕ) (n p : ℕ) → PassesBefore text n → p ≤ n → PassesBefore text p
passes_less text n p passes le = record { each = λ q lt. passes.each q (omega (arith, lt, le)) }
