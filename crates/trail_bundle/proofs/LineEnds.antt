-- No line of a bundle has a line end in it.
use Rattle.std.proofs.Common.{
  ◌≡◌,
  ◌+◌,
  ◌/◌,
  ◌%◌,
  ◌==◌,
  ◌&&◌,
  ◌||◌,
  nat_lt,
  not,
  ℕ,
  Bool,
  true,
  false,
  cond,
  List,
  [],
  ◌∷◌,
  ◌++◌,
  Some,
  None,
  refl,
  ap,
  ◌∙◌,
  arith,
  inl,
  inr,
}
use Rattle.std.specs.Char.{digit_char}
use Rattle.std.proofs.lemmas.Bool.{ne_eqb}
use Rattle.std.proofs.lemmas.Bool.Decides.{eqb_tells}
use Rattle.hex.specs.Hex.{encode_lower}
use Rattle.json.specs.Print.{escape, escape_byte, escape_letter, quoted}
use Rattle.serde_json.specs.Data.{Data, string}
use Rattle.serde_json.specs.Written.{compact_text}
use Rattle.swc_loader.specs.declared.resolution.FileName.{FileName}
use Rattle.swc_loader.specs.declared.resolution.FileName.TheVariants.{Real, Custom, Anon}
use Rattle.tree_core.specs.declared.question.Question.{Question}
use Rattle.tree_core.specs.declared.question.Reply.{Reply}
use Rattle.tree_core.specs.declared.question.Reply.TheVariants.{Flag, Bytes, Name}
use Rattle.tree_core.specs.Question.{path_asked}
use Rattle.trail_texts.specs.TrailTexts.{kind_name, reply_value, importer_value}
use Rattle.trail_bundle.specs.declared.request.BundleRequest.{BundleRequest}
use Rattle.trail_bundle.specs.BundleText.{request_line, reply_line}
use Rattle.trail_bundle.specs.Lines.{is_line}

more_line : (b : Bool) (xs ys : List ℕ) → (is_line xs ≡ true → is_line (xs ++ ys) ≡ true) → b && is_line xs ≡ true → b
    && is_line (xs ++ ys) ≡ true
more_line true xs ys more h = more h
more_line false xs ys more h = h

pub line-append : (xs ys : List ℕ) → is_line xs ≡ true → is_line ys ≡ true → is_line (xs ++ ys) ≡ true
line-append [] ys h k = k
line-append (x ∷ xs) ys h k = more_line (not (x == 10)) xs ys (λ more. line-append xs ys more k) h

-- a byte that isn't a line end
abbrev IsOther : ℕ → Type 0
IsOther x = (x == 10) ≡ false

one : (a : ℕ) (xs : List ℕ) → IsOther a → is_line xs ≡ true → is_line (a ∷ xs) ≡ true
one a xs h k = ap (λ b. not b && is_line xs) h ∙ k

chosen : (c : Bool) (a b : ℕ) → IsOther a → IsOther b → IsOther (cond c a b)
chosen true a b h k = h
chosen false a b h k = k

chosen_line : (c : Bool) (xs ys : List ℕ) → is_line xs ≡ true → is_line ys ≡ true → is_line (cond c xs ys) ≡ true
chosen_line true xs ys h k = h
chosen_line false xs ys h k = k

digit_other : (n : ℕ) → IsOther (digit_char n)
digit_other n = chosen (nat_lt n 10) (48 + n) (87 + n) (ne_eqb (48 + n) 10 (λ h. omega arith))
    (ne_eqb (87 + n) 10 (λ h. omega arith))

letter_other : (x : ℕ) → IsOther x → IsOther (escape_letter x)
letter_other x h =
    chosen ((x == 34) || (x == 92)) x _ h
    (chosen (x == 8) 98 _ refl (chosen (x == 12) 102 _ refl (chosen (x == 10) 110 _ refl
    (chosen (x == 13) 114 _ refl (chosen (x == 9) 116 0 refl refl)))))

two : (a b : ℕ) → IsOther a → IsOther b → is_line (a ∷ b ∷ []) ≡ true
two a b h k = one a (b ∷ []) h (one b [] k refl)

escaped_other : (x : ℕ) → IsOther x → is_line (escape_byte x) ≡ true
unfolding escape_byte
escaped_other x h =
    chosen_line (nat_lt 0 (escape_letter x)) (92 ∷ escape_letter x ∷ []) _
    (two 92 (escape_letter x) refl (letter_other x h))
    (chosen_line (nat_lt x 32) (92 ∷ 117 ∷ 48 ∷ 48 ∷ digit_char (x / 16) ∷ digit_char (x % 16) ∷ []) (x ∷ [])
    (two (digit_char (x / 16)) (digit_char (x % 16)) (digit_other (x / 16)) (digit_other (x % 16)))
    (one x [] h refl))

eqb_is : (x : ℕ) → (x == 10) ≡ true → x ≡ 10
eqb_is x h = elim (eqb_tells x 10) [
  | inl w ↦ w.1
  | inr w ↦ cc
]

escaped : (x : ℕ) → is_line (escape_byte x) ≡ true
unfolding escape_byte
escaped x = by_test (x == 10) refl
  where
    by_test : (b : Bool) → (x == 10) ≡ b → is_line (escape_byte x) ≡ true
    by_test true is = rw (eqb_is x is) refl
    by_test false is = escaped_other x is

line-escape : (s : List ℕ) → is_line (escape s) ≡ true
line-escape [] = refl
line-escape (x ∷ s) = line-append (escape_byte x) (escape s) (escaped x) (line-escape s)

line-quoted : (s : List ℕ) → is_line (quoted s) ≡ true
line-quoted s = line-append (escape s) (34 ∷ []) (line-escape s) refl

-- a value's text with more behind it
before : (d : Data) (rest : List ℕ) → is_line (compact_text d) ≡ true → is_line rest ≡ true
    → is_line (compact_text d ++ rest) ≡ true
before d rest h k = line-append (compact_text d) rest h k

importer_line : (name : FileName) → is_line (compact_text (importer_value name)) ≡ true
unfolding escape_byte
importer_line (Real t) = line-quoted t
importer_line (Custom t) = line-append (quoted t) (125 ∷ []) (line-quoted t) refl
importer_line Anon = refl

pub line-request : (r : BundleRequest) → is_line (request_line r) ≡ true
unfolding request_line escape_byte
line-request r =
    before (importer_value r.importer) _ (importer_line r.importer)
    (line-append (quoted r.specifier) (125 ∷ []) (line-quoted r.specifier) refl)

reply_line_is : (r : Reply) → is_line (compact_text (reply_value r)) ≡ true
reply_line_is (Flag true) = refl
reply_line_is (Flag false) = refl
reply_line_is (Bytes None) = refl
reply_line_is (Bytes (Some bytes)) = line-quoted (encode_lower bytes)
reply_line_is (Name None) = refl
reply_line_is (Name (Some name)) = line-quoted name

pub line-reply : (step : Question × Reply) → is_line (reply_line step) ≡ true
unfolding reply_line
line-reply step =
    before (string (kind_name step.0)) _ (line-quoted (kind_name step.0))
    (before (string (path_asked step.0)) _ (line-quoted (path_asked step.0))
    (before (reply_value step.1) (93 ∷ []) (reply_line_is step.1) refl))
