-- What is put in turn makes the compact text of an object.
use Rattle.std.proofs.Common.{◌≡◌, ℕ, Bool, true, false, cond, List, [], ◌∷◌, ◌++◌, refl, sym, ap, ap₂, ◌∙◌}
use Rattle.std.proofs.Common.{append_assoc, Result, Ok, Err, is_ok}
use Rattle.std.specs.Prelude.{OnOk}
use Rattle.std.proofs.lemmas.Bool.{and_parts, eqb-false, ltb-false, not-true, or_parts}
use Rattle.std.specs.List.{list_all}
use Rattle.json.specs.Run.{is_plain}
use Rattle.json.specs.Print.{escape, escape_byte}
use Rattle.json.proofs.Printed.Strings.{escape_byte_plain}
use Rattle.serde_json.specs.Data.{Data, Members, member, no_members, object, string}
use Rattle.serde_json.specs.Written.{comma_if, compact_text, members_text}
use Rattle.report_core.specs.Puts.{IsPut, IsPutBut}

-- the key of a member, as it is put
abbrev pub key_text : Bool → List ℕ → List ℕ
key_text later key = comma_if later ++ (compact_text (string key) ++ 58 ∷ [])

-- members begin with the first one
pub members-first : (later : Bool) (key : List ℕ) (d : Data) (rest : Members) →
    members_text later (member key d rest) ≡ key_text later key ++ (compact_text d ++ members_text true rest)
members-first later key d rest = sym (append_assoc (comma_if later) (compact_text (string key) ++ 58 ∷ []) tail
    ∙ ap (λ s. comma_if later ++ s) (append_assoc (compact_text (string key)) (58 ∷ []) tail))
  where
    tail : List ℕ
    tail = compact_text d ++ members_text true rest

-- one member more is put behind others
pub put-member : (later : Bool) (key : List ℕ) (d : Data) (rest : Members) (old mid new : List ℕ)
    → mid ≡ old ++ key_text later key → new ≡ mid ++ compact_text d
    → old ++ members_text later (member key d rest) ≡ new ++ members_text true rest
put-member later key d rest old mid new first second =
    ap (λ s. old ++ s) (members-first later key d rest)
    ∙ sym (append_assoc old (key_text later key) (compact_text d ++ members_text true rest))
    ∙ ap (λ s. s ++ (compact_text d ++ members_text true rest)) (sym first)
    ∙ sym (append_assoc mid (compact_text d) (members_text true rest))
    ∙ ap (λ s. s ++ members_text true rest) (sym second)

-- an object begins with its bracket
pub put-open : (ms : Members) (old new : List ℕ) → new ≡ old ++ 123 ∷ []
    → old ++ compact_text (object ms) ≡ new ++ members_text false ms
put-open ms old new first =
    sym (append_assoc old (123 ∷ []) (members_text false ms)) ∙ ap (λ s. s ++ members_text false ms) (sym first)

-- ---- a text whose bytes need no escape
byte-plain : (x : ℕ) → is_plain x ≡ true → escape_byte x ≡ x ∷ []
byte-plain x plain =
    let parts = or_parts _ _ (not-true _ plain) in
    let marks = or_parts _ _ parts.0 in
    escape_byte_plain x (eqb-false x 34 marks.0) (eqb-false x 92 marks.1) (ltb-false x 32 parts.1)

escape-plain : (t : List ℕ) → list_all is_plain t ≡ true → escape t ≡ t
escape-plain [] plain = refl
escape-plain (x ∷ t) plain =
    let parts = and_parts _ _ plain in
    ap₂ (λ (a b : List ℕ). a ++ b) (byte-plain x parts.0) (escape-plain t parts.1)

pub text-put : {A E : Type 0} (r : Result A E) (old one two new t : List ℕ) → list_all is_plain t ≡ true
    → one ≡ old ++ 34 ∷ [] → two ≡ one ++ t → new ≡ cond (is_ok r) (two ++ 34 ∷ []) two
    → OnOk r (IsPut old new (string t))
text-put (Ok a) old one two new t plain first second third =
    third ∙ ap (λ s. s ++ 34 ∷ []) (second ∙ ap (λ s. s ++ t) first)
    ∙ append_assoc (old ++ 34 ∷ []) t (34 ∷ []) ∙ append_assoc old (34 ∷ []) (t ++ 34 ∷ [])
    ∙ ap (λ s. old ++ 34 ∷ (s ++ 34 ∷ [])) (sym (escape-plain t plain))
text-put (Err e) old one two new t plain first second third = tt

-- ---- objects of one and of three members
-- an object of which the first member is put, and no bracket behind it
pub one-front : {A E : Type 0} (r : Result A E) (key : List ℕ) (d : Data) (old brace begun new : List ℕ)
    → brace ≡ old ++ 123 ∷ [] → begun ≡ brace ++ key_text false key → OnOk r (IsPut begun new d)
    → OnOk r (IsPutBut old new (λ last. object (member key d last)))
one-front (Ok a) key d old brace begun new first second third =
    λ last. put-open (member key d last) old brace first ∙ put-member false key d last brace begun new second third
one-front (Err e) key d old brace begun new first second third = tt

-- three members, told by their keys, their values, and what stands before and behind each value
pub record Three : Type 0 where
  pub key : List ℕ
  pub key2 : List ℕ
  pub key3 : List ℕ
  pub value : Data
  pub value2 : Data
  pub value3 : Data

abbrev pub three_with : Three → Members → Data
three_with o last = object (member o.key o.value (member o.key2 o.value2 (member o.key3 o.value3 last)))

pub three-front : (o : Three) (old brace k1 v1 k2 v2 k3 new : List ℕ) → brace ≡ old ++ 123 ∷ []
    → k1 ≡ brace ++ key_text false o.key → v1 ≡ k1 ++ compact_text o.value
    → k2 ≡ v1 ++ key_text true o.key2 → v2 ≡ k2 ++ compact_text o.value2
    → k3 ≡ v2 ++ key_text true o.key3 → new ≡ k3 ++ compact_text o.value3
    → IsPutBut old new (three_with o)
three-front o old brace k1 v1 k2 v2 k3 new h e1 f1 e2 f2 e3 f3 = λ last.
    put-open (member o.key o.value (member o.key2 o.value2 (member o.key3 o.value3 last))) old brace h
    ∙ put-member false o.key o.value (member o.key2 o.value2 (member o.key3 o.value3 last)) brace k1 v1 e1 f1
    ∙ put-member true o.key2 o.value2 (member o.key3 o.value3 last) v1 k2 v2 e2 f2
    ∙ put-member true o.key3 o.value3 last v2 k3 new e3 f3

pub three-but : {A E : Type 0} (r : Result A E) (o : Three) (old brace k1 v1 k2 v2 k3 new : List ℕ)
    → brace ≡ old ++ 123 ∷ []
    → k1 ≡ brace ++ key_text false o.key → v1 ≡ k1 ++ compact_text o.value
    → k2 ≡ v1 ++ key_text true o.key2 → v2 ≡ k2 ++ compact_text o.value2
    → k3 ≡ v2 ++ key_text true o.key3 → OnOk r (IsPut k3 new o.value3)
    → OnOk r (IsPutBut old new (three_with o))
three-but (Ok a) o old brace k1 v1 k2 v2 k3 new h e1 f1 e2 f2 e3 f3 =
    three-front o old brace k1 v1 k2 v2 k3 new h e1 f1 e2 f2 e3 f3
three-but (Err e) o old brace k1 v1 k2 v2 k3 new h e1 f1 e2 f2 e3 f3 = tt

pub three-whole : {A E : Type 0} (r : Result A E) (o : Three) (old brace k1 v1 k2 v2 k3 v3 new : List ℕ)
    → brace ≡ old ++ 123 ∷ []
    → k1 ≡ brace ++ key_text false o.key → v1 ≡ k1 ++ compact_text o.value
    → k2 ≡ v1 ++ key_text true o.key2 → v2 ≡ k2 ++ compact_text o.value2
    → k3 ≡ v2 ++ key_text true o.key3 → v3 ≡ k3 ++ compact_text o.value3
    → new ≡ cond (is_ok r) (v3 ++ 125 ∷ []) v3
    → OnOk r (IsPut old new (three_with o no_members))
three-whole (Ok a) o old brace k1 v1 k2 v2 k3 v3 new h e1 f1 e2 f2 e3 f3 end =
    end ∙ sym (three-front o old brace k1 v1 k2 v2 k3 v3 h e1 f1 e2 f2 e3 f3 no_members)
three-whole (Err e) o old brace k1 v1 k2 v2 k3 v3 new h e1 f1 e2 f2 e3 f3 end = tt
