-- One turn of reading, and one of writing.
use Rattle.std.proofs.Common.{
  ◌≡◌,
  ◌<◌,
  ◌≤◌,
  ℕ,
  ◌+◌,
  ◌-◌,
  List,
  [],
  ◌++◌,
  Option,
  Some,
  length,
  take,
  drop,
  arith,
  sym,
  ap,
  ◌∙◌,
  length-append,
  length-drop,
  refl,
  append_assoc,
}
use Rattle.std.proofs.lemmas.List.{append-nil, drop-drop, length-take-le, take-append-drop}
use Rattle.std.proofs.Math.Seq.{take-add, take-length}
use Rattle.cli_core.specs.Streams.{Takes, Appends}
use Rattle.cli_core.specs.Reading.{LeavesEnd}

-- so much was read, in order, and the rest is left
pub record Front (bytes all : List ℕ) (left : Option (List ℕ)) : Type 0 where
  pub left_is : left ≡ Some (drop (length all) bytes)
  pub all_is : all ≡ take (length all) bytes
  pub within : length all ≤ length bytes

-- before the first turn
pub no_front : (bytes all : List ℕ) (left : Option (List ℕ)) → all ≡ [] → left ≡ Some bytes → Front bytes all left
no_front bytes all left none is =
    let len : length all ≡ 0 = ap length none in
    record {
      left_is = is ∙ ap (λ k. Some (drop k bytes)) (sym len);
      all_is = none ∙ ap (λ k. take k bytes) (sym len);
      within = omega (arith, len);
    }

pub length-more : (all more buffer : List ℕ) (n : ℕ) → n ≤ length buffer → more ≡ all ++ take n buffer
    → length more ≡ length all + n
length-more all more buffer n fits is =
    ap length is ∙ length-append all (take n buffer) ∙ ap (λ m. length all + m) (length-take-le n buffer fits)

-- after one more turn
pub next_front : (bytes all more buffer : List ℕ) (before now : Option (List ℕ)) (n : ℕ) → Front bytes all before
    → n ≤ length buffer → ((rest : List ℕ) → before ≡ Some rest → Takes n buffer rest now) → more ≡ all ++ take n buffer
    → Front bytes more now
next_front bytes all more buffer before now n f fits takes is =
    let k = length all in
    let t = takes (drop k bytes) f.left_is in
    let len : length more ≡ k + n = length-more all more buffer n fits is in
    record {
      left_is = t.others ∙ ap Some (drop-drop n k bytes ∙ ap (λ m. drop m bytes) (sym len));
      all_is = is ∙ ap (λ p. all ++ p) t.front ∙ ap (λ p. p ++ take n (drop k bytes)) f.all_is
          ∙ sym (take-add k n bytes) ∙ ap (λ m. take m bytes) (sym len);
      within = omega (arith, len, t.within, length-drop k bytes, f.within);
    }

-- at the end all was read
pub at_end : (bytes all buffer : List ℕ) (before now : Option (List ℕ)) → Front bytes all before → 0 < length buffer
    → ((rest : List ℕ) → before ≡ Some rest → Takes 0 buffer rest now) → (all ≡ bytes) × (now ≡ Some [])
at_end bytes all buffer before now f some takes =
    let k = length all in
    let t = takes (drop k bytes) f.left_is in
    let rest : drop k bytes ≡ [] = t.ends refl some in (
      f.all_is ∙ sym (append-nil (take k bytes)) ∙ ap (λ r. take k bytes ++ r) (sym rest) ∙ take-append-drop k bytes,
      t.others ∙ ap Some rest,
    )

-- what was read so far was taken from the front
pub leaves : (most : ℕ) (bytes all : List ℕ) (left : Option (List ℕ)) → Front bytes all left → length all ≤ most
    → LeavesEnd most bytes left
leaves most bytes all left f bounded =
    record { taken = length all; others = f.left_is; within = f.within; bounded = bounded }

-- so it was after one more read
pub leaves_next : (most : ℕ) (bytes all buffer : List ℕ) (before now : Option (List ℕ)) (n : ℕ) → Front bytes all before
    → ((rest : List ℕ) → before ≡ Some rest → Takes n buffer rest now) → length all + n ≤ most
    → LeavesEnd most bytes now
leaves_next most bytes all buffer before now n f takes bounded =
    let k = length all in
    let t = takes (drop k bytes) f.left_is in
    record {
      taken = k + n;
      others = t.others ∙ ap Some (drop-drop n k bytes);
      within = omega (arith, t.within, length-drop k bytes, f.within);
      bounded = bounded;
    }

-- one more piece of a text
pub appends_more : (text : List ℕ) (k n : ℕ) (a b c : Option (List ℕ)) → Appends (take k text) a b
    → Appends (take n (drop k text)) b c → Appends (take (k + n) text) a c
appends_more text k n a b c first second = λ bytes is.
    second (bytes ++ take k text) (first bytes is)
    ∙ ap Some (append_assoc bytes (take k text) (take n (drop k text))
    ∙ ap (λ p. bytes ++ p) (sym (take-add k n text)))

-- the slice from k on
pub rest_is : (k : ℕ) (text : List ℕ) → take (length text - k) (drop k text) ≡ drop k text
rest_is k text = ap (λ m. take m (drop k text)) (sym (length-drop k text)) ∙ take-length (drop k text)
