-- The text of a path that is read part by part.
use Rattle.std.proofs.Common.{
  ◌≡◌,
  ◌≢◌,
  ◌==◌,
  ◌||◌,
  ◌⊎◌,
  inl,
  inr,
  ℕ,
  zero,
  suc,
  ◌+◌,
  ◌-◌,
  ◌<◌,
  ◌≤◌,
  Bool,
  true,
  false,
  not,
  cond,
  List,
  [],
  ◌∷◌,
  ◌++◌,
  length,
  get_or,
  take,
  max,
  bytes_eq,
  refl,
  sym,
  ap,
  ◌∙◌,
  subst,
  append_assoc,
  append-nil,
  arith,
  length-append,
  add-one,
  reverse,
  replicate,
}
use Rattle.std.specs.List.{join_with_byte, AllByRecursion}
use Rattle.std.proofs.lemmas.List.{length-take}
use Rattle.std.specs.Prelude.{Option, Some, None, unwrap_or}
use Rattle.std.proofs.lemmas.Bool.Decides.{Decides-eqb}
use Rattle.std.proofs.lemmas.Slice.Eq.{bytes_eq-Decides}
use Rattle.std.proofs.lemmas.Grind.{reverse_onto}
use Rattle.std.proofs.lemmas.List.{replicate_more}
use Rattle.std.proofs.Math.Seq.{get_or-append_seam, take-append_seam}
use Rattle.memchr.specs.Find.{IsLastByte, is_byte}
use Rattle.sugar_path.specs.declared.reading.Reading.{Reading}
use Rattle.sugar_path.specs.Path.{
  Path,
  IsName,
  IsPath,
  has_no_slash,
  ends_in_slash,
  with_slash,
  is_absolute,
  parts,
  join,
}
use Rattle.sugar_path.specs.Route.{
  Route,
  Rooted,
  Relative,
  route_up,
  route_by_part,
  route_by_parts,
  route_start,
  route_of,
  route_names,
  route_text,
  or_dot,
}
use Rattle.sugar_path.specs.Reading.{text_on, dots_text, base_text, IsPart, HasRead, StandsOn, read_text}
use Rattle.sugar_path.proofs.Bools.{and_left, and_right}
use Rattle.sugar_path.proofs.Paths.{no_slash-name}
use Rattle.sugar_path.proofs.Parts.{parts-slash}

-- whether a text ends in a slash, by its last byte
pub ends-last : (c : ℕ) (t : List ℕ) → ends_in_slash (c ∷ t) ≡ (get_or (c ∷ t) (length t) 0 == 47)
ends-last c [] = refl
ends-last c (d ∷ t) = ends-last d t

pub ends-byte : (t : List ℕ) (x : ℕ) → length t ≢ 0 → x ≡ get_or t (length t - 1) 0 → (x == 47) ≡ ends_in_slash t
ends-byte [] x some is = absurd (some refl)
ends-byte (c ∷ t) x some is =
    let last : length (c ∷ t) - 1 ≡ length t = omega arith in
    rw (is, last) (sym (ends-last c t))

no_slash-get : (n : List ℕ) (i : ℕ) → has_no_slash n ≡ true → i < length n → get_or n i 0 ≡ 47 → ⊥
no_slash-get [] i h lt is = absurd (omega arith)
no_slash-get (c ∷ cs) zero h lt is =
    let e : not (c == 47) ≡ true = and_left (not (c == 47)) (has_no_slash cs) h in
    let f : (c == 47) ≡ true = (Decides-eqb c 47).1 is in
    cc
no_slash-get (c ∷ cs) (suc i) h lt is =
    no_slash-get cs i (and_right (not (c == 47)) (has_no_slash cs) h) (omega arith) is

pub ends-append : (s : List ℕ) (c : ℕ) (t : List ℕ) → ends_in_slash (s ++ c ∷ t) ≡ ends_in_slash (c ∷ t)
ends-append [] c t = refl
ends-append (a ∷ []) c t = refl
ends-append (a ∷ b ∷ s) c t = ends-append (b ∷ s) c t

pub no_slash-ends : (n : List ℕ) → has_no_slash n ≡ true → ends_in_slash n ≡ false
no_slash-ends [] h = refl
no_slash-ends (c ∷ []) h = by_test (c == 47) (and_left (not (c == 47)) true h)
  where
    by_test : (b : Bool) → not b ≡ true → b ≡ false
    by_test true e = cc
    by_test false e = refl
no_slash-ends (c ∷ d ∷ cs) h = no_slash-ends (d ∷ cs) (and_right (not (c == 47)) (has_no_slash (d ∷ cs)) h)

-- a text with a part behind it, which is not empty and holds no slash, gets a slash
pub with_slash-part : (s : List ℕ) (c : ℕ) (n : List ℕ) → has_no_slash (c ∷ n) ≡ true
    → with_slash (s ++ c ∷ n) ≡ (s ++ c ∷ n) ++ 47 ∷ []
with_slash-part s c n h = by_tests (bytes_eq (s ++ c ∷ n) []) (ends_in_slash (s ++ c ∷ n)) (some s)
    (ends-append s c n ∙ no_slash-ends (c ∷ n) h)
  where
    some : (s : List ℕ) → bytes_eq (s ++ c ∷ n) [] ≡ false
    some [] = refl
    some (a ∷ s) = refl

    by_tests : (a b : Bool) → a ≡ false → b ≡ false
        → cond (a || b) (s ++ c ∷ n) ((s ++ c ∷ n) ++ 47 ∷ []) ≡ (s ++ c ∷ n) ++ 47 ∷ []
    by_tests true b e f = cc
    by_tests false true e f = cc
    by_tests false false e f = refl

pub with_slash-name : (s n : List ℕ) → IsName n → with_slash (s ++ n) ≡ (s ++ n) ++ 47 ∷ []
with_slash-name s [] h = cc
with_slash-name s (c ∷ n) h = with_slash-part s c n (no_slash-name (c ∷ n) h)

-- the last slash in front of a name
last-before : (front n : List ℕ) (k : ℕ) → has_no_slash n ≡ true → k < length (front ++ n)
    → get_or (front ++ n) k 0 ≡ 47 → k < length front
last-before [] n k h lt is = absurd (no_slash-get n k h lt is)
last-before (c ∷ front) n zero h lt is = omega arith
last-before (c ∷ front) n (suc k) h lt is = omega (arith, last-before front n k h (omega arith) is)

-- behind a front that needs no slash, the last slash stands within the front
kept-front : (front n : List ℕ) (r : Option ℕ) → IsName n → IsLastByte (is_byte 47) (front ++ n) r
    → max (length front) (unwrap_or r 0) ≡ length front
kept-front front n None name last = omega arith
kept-front front n (Some k) name last =
    let low : k < length front =
    last-before front n k (no_slash-name n name) last.0.high ((Decides-eqb _ 47).0 last.1) in
    omega arith

-- behind a front that needs one, the last slash is that one
last-between : (front n : List ℕ) (base : ℕ) (r : Option ℕ) → base ≤ length front → IsName n
    → IsLastByte (is_byte 47) (front ++ 47 ∷ n) r → max base (unwrap_or r 0) ≡ length front
last-between front n base None within name last =
    absurd (last (length front) (omega arith) (omega (arith, length-append front (47 ∷ n)))
    ((Decides-eqb _ 47).1 (get_or-append_seam front 47 n 0)))
last-between front n base (Some k) within name last =
    let not_below : k < length front → ⊥ = λ lt. last.0.after (length front) (omega arith)
    (omega (arith, length-append front (47 ∷ n))) ((Decides-eqb _ 47).1 (get_or-append_seam front 47 n 0)) in
    let text : front ++ 47 ∷ n ≡ (front ++ 47 ∷ []) ++ n = sym (append_assoc front (47 ∷ []) n) in
    let low : k < length (front ++ 47 ∷ []) =
    last-before (front ++ 47 ∷ []) n k (no_slash-name n name)
    (let P : List ℕ → Type 0 = λ t. k < length t in subst P text last.0.high)
    (ap (λ t. get_or t k 0) (sym text) ∙ (Decides-eqb _ 47).0 last.1) in
    omega (arith, length-append front (47 ∷ []), not_below)

-- where a text ends in a name behind a front, its last slash and its base tell where the front ends
pub cut-at_slash : (text front n : List ℕ) (base : ℕ) (r : Option ℕ) → StandsOn base front → IsName n
    → text ≡ with_slash front ++ n → IsLastByte (is_byte 47) text r → take (max base (unwrap_or r 0)) text ≡ front
cut-at_slash text front n base r stands name is last = by_test (bytes_eq front [] || ends_in_slash front) refl
  where
    by_test : (b : Bool) → (bytes_eq front [] || ends_in_slash front) ≡ b → take (max base (unwrap_or r 0)) text ≡ front
    by_test true e =
        let whole : with_slash front ≡ front = rw e refl in
        let text_is : text ≡ front ++ n = is ∙ ap (λ s. s ++ n) whole in
        let P : List ℕ → Type 0 = λ t. IsLastByte (is_byte 47) t r in
        let at : max base (unwrap_or r 0) ≡ length front =
        ap (λ b. max b (unwrap_or r 0)) (stands.all whole) ∙ kept-front front n r name (subst P text_is last) in
        rw (at, text_is) (take-append_seam front n)
    by_test false e =
        let more : with_slash front ≡ front ++ 47 ∷ [] = rw e refl in
        let text_is : text ≡ front ++ 47 ∷ n = is ∙ ap (λ s. s ++ n) more ∙ append_assoc front (47 ∷ []) n in
        let P : List ℕ → Type 0 = λ t. IsLastByte (is_byte 47) t r in
        let at : max base (unwrap_or r 0) ≡ length front =
        last-between front n base r stands.within name (subst P text_is last) in
        rw (at, text_is) (take-append_seam front (47 ∷ n))

-- a text on which names stand, and how much of it is kept where one is taken away
with_slash-longer : (s : List ℕ) → length s ≤ length (with_slash s)
with_slash-longer s = by_test (bytes_eq s [] || ends_in_slash s)
  where
    by_test : (b : Bool) → length s ≤ length (cond b s (s ++ 47 ∷ []))
    by_test true = omega arith
    by_test false = omega (arith, length-append s (47 ∷ []))

pub text_on-longer : (base : List ℕ) (p : Path) → length base ≤ length (text_on base p)
text_on-longer base [] = omega arith
text_on-longer base (n ∷ p) = omega (
  arith,
  text_on-longer base p,
  with_slash-longer (text_on base p),
  length-append (with_slash (text_on base p)) n,
)

StandsOn-text_on : (base : List ℕ) (p : Path) → IsPath p → StandsOn (length base) (text_on base p)
StandsOn-text_on base p names = record {
  within = text_on-longer base p;
  all = by_names p names;
}
  where
    by_names : (p : Path) → IsPath p → with_slash (text_on base p) ≡ text_on base p
        → length base ≡ length (text_on base p)
    by_names [] h same = refl
    by_names (n ∷ p) h same =
        let more = with_slash-name (with_slash (text_on base p)) n h.0 in
        absurd (omega (arith, ap length (sym more ∙ same), length-append (with_slash (text_on base p) ++ n) (47 ∷ [])))

-- a name is longer than nothing
text_on-name : (base : List ℕ) (n : List ℕ) (p : Path) → IsName n → length base < length (text_on base (n ∷ p))
text_on-name base [] p h = cc
text_on-name base (c ∷ n) p h = omega (
  arith,
  text_on-longer base p,
  with_slash-longer (text_on base p),
  length-append (with_slash (text_on base p)) (c ∷ n),
)

-- as much was read as stands there
pub read-length : (r : Route) (s : Reading) → HasRead r s → length (read_text s) ≡ s.len
read-length r s h = omega (arith, length-take s.len s.text.items, h.within)

-- `..` where names stand takes the last one away
pub HasRead-up : (r : Route) (s t : Reading) → HasRead r s → s.base < s.len
    → ((front n : List ℕ) → StandsOn s.base front → IsName n → read_text s ≡ with_slash front ++ n
    → read_text t ≡ front) → t.len ≤ length t.text.items → t.base ≡ s.base → t.rooted ≡ s.rooted
    → HasRead (route_up r) t
HasRead-up (Rooted []) s t h lt pops within base rooted =
    absurd (omega (arith, ap length h.text, read-length (Rooted []) s h, h.base))
HasRead-up (Rooted (n ∷ p)) s t h lt pops within base rooted = record {
  text = pops (text_on (47 ∷ []) p) n (rw h.base (StandsOn-text_on (47 ∷ []) p h.names.1)) h.names.0 h.text;
  within = within;
  base = base ∙ h.base;
  rooted = rooted ∙ h.rooted;
  names = h.names.1;
}
HasRead-up (Relative k []) s t h lt pops within base rooted =
    absurd (omega (arith, ap length h.text, read-length (Relative k []) s h, h.base))
HasRead-up (Relative k (n ∷ p)) s t h lt pops within base rooted = record {
  text = pops (text_on (dots_text k) p) n (rw h.base (StandsOn-text_on (dots_text k) p h.names.1)) h.names.0 h.text;
  within = within;
  base = base ∙ h.base;
  rooted = rooted ∙ h.rooted;
  names = h.names.1;
}

-- `..` where no name stands: `/` stays
pub HasRead-root : (r : Route) (s : Reading) → HasRead r s → s.len ≤ s.base → s.rooted ≡ true → HasRead (route_up r) s
HasRead-root (Rooted []) s h le root = h
HasRead-root (Rooted (n ∷ p)) s h le root = absurd (omega (
  arith,
  ap length h.text,
  read-length (Rooted (n ∷ p)) s h,
  h.base,
  text_on-name (47 ∷ []) n p h.names.0,
))
HasRead-root (Relative k p) s h le root = absurd (let e : true ≡ false = sym root ∙ h.rooted in cc)

-- and a relative path goes up once more
pub HasRead-above : (r : Route) (s t : Reading) → HasRead r s → s.len ≤ s.base → s.rooted ≡ false
    → read_text t ≡ with_slash (read_text s) ++ 46 ∷ 46 ∷ [] → t.len ≤ length t.text.items → t.base ≡ t.len
    → t.rooted ≡ s.rooted → HasRead (route_up r) t
HasRead-above (Rooted p) s t h le loose text within base rooted =
    absurd (let e : true ≡ false = sym h.rooted ∙ loose in cc)
HasRead-above (Relative k (n ∷ p)) s t h le loose text within base rooted =
    absurd (omega (
      arith,
      ap length h.text,
      read-length (Relative k (n ∷ p)) s h,
      h.base,
      text_on-name (dots_text k) n p h.names.0,
    ))
HasRead-above (Relative k []) s t h le loose text within base rooted =
    let dots : read_text t ≡ dots_text (k + 1) =
    text ∙ ap (λ s. with_slash s ++ 46 ∷ 46 ∷ []) h.text ∙ ap dots_text (sym (add-one k)) in
    record {
      text = dots;
      within = within;
      base = omega (arith, base, ap length dots, length-take t.len t.text.items);
      rooted = rooted ∙ h.rooted;
      names = tt;
    }

-- what a test for a word tells
pub told-same : (part word literal : List ℕ) (b : Bool) → b ≡ not (bytes_eq part word) → b ≡ false → word ≡ literal
    → part ≡ literal
told-same part word literal b told equal is =
    (bytes_eq-Decides part word).0 (by_test (bytes_eq part word) (sym told ∙ equal)) ∙ is
  where
    by_test : (b : Bool) → not b ≡ false → b ≡ true
    by_test true e = refl
    by_test false e = cc

pub told-other : (part word literal : List ℕ) (b : Bool) → b ≡ not (bytes_eq part word) → b ≡ true → word ≡ literal
    → bytes_eq part literal ≡ false
told-other part word literal b told differs is =
    ap (bytes_eq part) (sym is) ∙ by_test (bytes_eq part word) (sym told ∙ differs)
  where
    by_test : (b : Bool) → not b ≡ true → b ≡ false
    by_test true e = cc
    by_test false e = refl

pub IsPart-name : (n : List ℕ) → IsName n → IsPart n
IsPart-name [] h = cc
IsPart-name (c ∷ n) h = no_slash-name (c ∷ n) h

with_slash-behind : (s n : List ℕ) → IsPart n → with_slash (s ++ n) ≡ (s ++ n) ++ 47 ∷ []
with_slash-behind s [] h = absurd h
with_slash-behind s (c ∷ n) h = with_slash-part s c n h

-- parts joined by slashes need one before the next
pub with_slash-joined : (s : List ℕ) (a : List ℕ) (xs : List (List ℕ)) → AllByRecursion IsPart (a ∷ xs)
    → with_slash (s ++ join_with_byte 47 (a ∷ xs)) ≡ (s ++ join_with_byte 47 (a ∷ xs)) ++ 47 ∷ []
with_slash-joined s a [] h = with_slash-behind s a h.0
with_slash-joined s a (b ∷ xs) h =
    let more : s ++ (a ++ 47 ∷ join_with_byte 47 (b ∷ xs)) ≡ (s ++ a ++ 47 ∷ []) ++ join_with_byte 47 (b ∷ xs) =
    simp append_assoc in
    rw more (with_slash-joined (s ++ a ++ 47 ∷ []) b xs h.1)

pub join-push : (a : List ℕ) (xs : List (List ℕ)) (x : List ℕ)
    → join_with_byte 47 ((a ∷ xs) ++ x ∷ []) ≡ join_with_byte 47 (a ∷ xs) ++ 47 ∷ x
join-push a [] x = refl
join-push a (b ∷ xs) x =
    ap (λ t. a ++ 47 ∷ t) (join-push b xs x) ∙ sym (append_assoc a (47 ∷ join_with_byte 47 (b ∷ xs)) (47 ∷ x))

-- one more part behind a base and parts joined by slashes; the base is empty or ends in a slash
pub joined-push : (s : List ℕ) (xs : List (List ℕ)) (x : List ℕ) → AllByRecursion IsPart xs → with_slash s ≡ s → s
    ++ join_with_byte 47 (xs ++ x ∷ []) ≡ with_slash (s ++ join_with_byte 47 xs) ++ x
joined-push s [] x h bare = rw (append-nil s, bare) refl
joined-push s (a ∷ xs) x h bare =
    ap (λ t. s ++ t) (join-push a xs x)
    ∙ sym (append_assoc s (join_with_byte 47 (a ∷ xs)) (47 ∷ x))
    ∙ sym (append_assoc (s ++ join_with_byte 47 (a ∷ xs)) (47 ∷ []) x)
    ∙ ap (λ t. t ++ x) (sym (with_slash-joined s a xs h))

pub AllByRecursion-append : (xs ys : List (List ℕ)) → AllByRecursion IsPart xs → AllByRecursion IsPart ys
    → AllByRecursion IsPart (xs ++ ys)
AllByRecursion-append [] ys h k = k
AllByRecursion-append (x ∷ xs) ys h k = (h.0, AllByRecursion-append xs ys h.1 k)

pub reverse-names : (p : Path) → IsPath p → AllByRecursion IsPart (reverse p)
reverse-names [] h = tt
reverse-names (n ∷ p) h =
    let P : List (List ℕ) → Type 0 = AllByRecursion IsPart in
    subst P (sym (reverse_onto p n [])) (AllByRecursion-append (reverse p) (n ∷ []) (reverse-names p h.1)
    (IsPart-name n h.0, tt))

pub replicate-dots : (k : ℕ) → AllByRecursion IsPart (replicate k (46 ∷ 46 ∷ []))
replicate-dots zero = tt
replicate-dots (suc k) = (refl, replicate-dots k)

dots_text-joined : (k : ℕ) → dots_text k ≡ join_with_byte 47 (replicate k (46 ∷ 46 ∷ []))
dots_text-joined zero = refl
dots_text-joined (suc k) =
    ap (λ t. with_slash t ++ 46 ∷ 46 ∷ []) (dots_text-joined k)
    ∙ sym (joined-push [] (replicate k (46 ∷ 46 ∷ [])) (46 ∷ 46 ∷ []) (replicate-dots k) refl)
    ∙ ap (join_with_byte 47) (replicate_more k (46 ∷ 46 ∷ []) ∙ ap (λ n. replicate n (46 ∷ 46 ∷ [])) (add-one k))

text_on-joined : (s base : List ℕ) (xs : List (List ℕ)) (p : Path) → IsPath p → AllByRecursion IsPart xs
    → with_slash s ≡ s → base ≡ s ++ join_with_byte 47 xs → text_on base p ≡ s ++ join_with_byte 47 (xs ++ reverse p)
text_on-joined s base xs [] h parts bare is = is ∙ ap (λ ys. s ++ join_with_byte 47 ys) (sym (append-nil xs))
text_on-joined s base xs (n ∷ p) h parts bare is =
    ap (λ t. with_slash t ++ n) (text_on-joined s base xs p h.1 parts bare is)
    ∙ sym (joined-push s (xs ++ reverse p) n (AllByRecursion-append xs (reverse p) parts (reverse-names p h.1)) bare)
    ∙ ap (λ ys. s ++ join_with_byte 47 ys) (append_assoc xs (reverse p) (n ∷ [])
    ∙ ap (λ ys. xs ++ ys) (sym (reverse_onto p n [])))

-- the text of a route is its names on its base
pub route_text-on : (r : Route) → IsPath (route_names r) → route_text r ≡ text_on (base_text r) (route_names r)
unfolding route_text
route_text-on (Rooted p) h = sym (text_on-joined (47 ∷ []) (47 ∷ []) [] p h tt refl refl)
route_text-on (Relative k p) h =
    sym (text_on-joined [] (dots_text k) (replicate k (46 ∷ 46 ∷ [])) p h (replicate-dots k) refl (dots_text-joined k))

-- a text that was read, with `.` where it is empty
pub place-read : (r : Route) (s : Reading) (t : List ℕ) → HasRead r s → ((read_text s ≡ []) × (t ≡ 46 ∷ []))
    ⊎ ((length (read_text s) ≢ 0) × (t ≡ read_text s)) → t ≡ or_dot (route_text r)
place-read r s t h cases = rw (route_text-on r h.names) (by_case cases h.text)
  where
    by_case : ((read_text s ≡ []) × (t ≡ 46 ∷ [])) ⊎ ((length (read_text s) ≢ 0) × (t ≡ read_text s))
        → read_text s ≡ text_on (base_text r) (route_names r) → t ≡ or_dot (text_on (base_text r) (route_names r))
    by_case (inl w) is = w.1 ∙ ap or_dot (sym w.0 ∙ is)
    by_case (inr w) is = w.1 ∙ some (read_text s) w.0 ∙ ap or_dot is
      where
        some : (u : List ℕ) → length u ≢ 0 → u ≡ or_dot u
        some [] e = absurd (e refl)
        some (c ∷ u) e = refl

pub route_by_parts-append : (r : Route) (xs ys : List (List ℕ))
    → route_by_parts r (xs ++ ys) ≡ route_by_parts (route_by_parts r xs) ys
route_by_parts-append r [] ys = refl
route_by_parts-append r (x ∷ xs) ys = route_by_parts-append (route_by_part r x) xs ys

pub ends-split : (b : List ℕ) → ends_in_slash b ≡ true → (s : List ℕ) × (b ≡ s ++ 47 ∷ [])
ends-split [] h = cc
ends-split (c ∷ []) h = ([], ap (λ x. x ∷ []) ((Decides-eqb c 47).0 h))
ends-split (c ∷ d ∷ b) h = let w = ends-split (d ∷ b) h in ((c ∷ w.0), ap (λ x. c ∷ x) w.1)

-- the route of a relative path behind a folder is the folder's, read on
pub route_of-join : (b t : List ℕ) → is_absolute t ≡ false → route_of (join b t) ≡ route_by_parts (route_of b) (parts t)
unfolding route_of
route_of-join [] t loose = rw (loose, loose) refl
route_of-join (c ∷ b) t loose = rw loose (by_test (ends_in_slash (c ∷ b)) refl)
  where
    by_test : (e : Bool) → ends_in_slash (c ∷ b) ≡ e
        → route_by_parts (route_start (cond e (c ∷ b) ((c ∷ b) ++ 47 ∷ []) ++ t))
        (parts (cond e (c ∷ b) ((c ∷ b) ++ 47 ∷ []) ++ t)) ≡ route_by_parts
        (route_by_parts (route_start (c ∷ b)) (parts (c ∷ b))) (parts t)
    by_test true e =
        let w = ends-split (c ∷ b) e in
        let whole : (c ∷ b) ++ t ≡ w.0 ++ 47 ∷ t = ap (λ x. x ++ t) w.1 ∙ append_assoc w.0 (47 ∷ []) t in
        let cut : parts ((c ∷ b) ++ t) ≡ parts w.0 ++ parts t = ap parts whole ∙ parts-slash w.0 t in
        let front : parts (c ∷ b) ≡ parts w.0 ++ [] ∷ [] = ap parts w.1 ∙ parts-slash w.0 [] in
        ap (route_by_parts (route_start (c ∷ b))) cut
        ∙ route_by_parts-append (route_start (c ∷ b)) (parts w.0) (parts t)
        ∙ ap (λ r. route_by_parts r (parts t)) (sym (ap (route_by_parts (route_start (c ∷ b))) front
        ∙ route_by_parts-append (route_start (c ∷ b)) (parts w.0) ([] ∷ [])))
    by_test false e =
        let whole : ((c ∷ b) ++ 47 ∷ []) ++ t ≡ (c ∷ b) ++ 47 ∷ t = append_assoc (c ∷ b) (47 ∷ []) t in
        ap (route_by_parts (route_start (c ∷ b))) (ap parts whole ∙ parts-slash (c ∷ b) t)
        ∙ route_by_parts-append (route_start (c ∷ b)) (parts (c ∷ b)) (parts t)
