-- Arrays and objects that are put piece by piece.
use Rattle.std.proofs.Common.{
  ◌≡◌,
  ℕ,
  true,
  false,
  cond,
  is_ok,
  nat_lt,
  List,
  [],
  ◌∷◌,
  ◌++◌,
  drop,
  Result,
  Ok,
  Err,
  sym,
  ◌∙◌,
}
use Rattle.std.specs.Prelude.{OnOk, map}
use Rattle.serde_json.specs.Data.{Data, member, no_members, object}
use Rattle.serde_json.specs.View.{items_of}
use Rattle.serde_json.specs.Written.{compact_text, items_text}
use Rattle.report_core.specs.Puts.{IsPut}
use Rattle.report_core.proofs.Members.{key_text, put-member, put-open}

-- What is put so far, and the text of the items that are left, make the whole.
pub record AreLeft {A : Type 0} (f : A → Data) (xs : List A) (i : ℕ) (whole sofar : List ℕ) : Type 0 where
  pub left : whole ≡ sofar ++ items_text (nat_lt 0 i) (items_of (map f (drop i xs)))

-- an object of two members, by what stands before and behind each of their values
pub two-whole : {A E : Type 0} (r : Result A E) (k1 k2 : List ℕ) (d1 d2 : Data) (old brace m1 v1 m2 v2 new : List ℕ)
    → brace ≡ old ++ 123 ∷ [] → m1 ≡ brace ++ key_text false k1 → v1 ≡ m1 ++ compact_text d1
    → m2 ≡ v1 ++ key_text true k2 → v2 ≡ m2 ++ compact_text d2 → new ≡ cond (is_ok r) (v2 ++ 125 ∷ []) v2
    → OnOk r (IsPut old new (object (member k1 d1 (member k2 d2 no_members))))
two-whole (Ok a) k1 k2 d1 d2 old brace m1 v1 m2 v2 new h e1 f1 e2 f2 end = end ∙ sym (
    put-open (member k1 d1 (member k2 d2 no_members)) old brace h
    ∙ put-member false k1 d1 (member k2 d2 no_members) brace m1 v1 e1 f1
    ∙ put-member true k2 d2 no_members v1 m2 v2 e2 f2)
two-whole (Err e) k1 k2 d1 d2 old brace m1 v1 m2 v2 new h e1 f1 e2 f2 end = tt
