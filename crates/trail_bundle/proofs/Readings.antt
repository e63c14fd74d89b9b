-- Each line's value reads as what it was written for, so that no two have one line.
use Rattle.std.proofs.Common.{
  ◌≡◌,
  ◌<◌,
  ◌/◌,
  ◌%◌,
  nat_lt,
  ltb-true,
  lt-ltb,
  ◌&&◌,
  inl,
  inr,
  ℕ,
  zero,
  suc,
  slice_index,
  Bool,
  true,
  List,
  [],
  ◌∷◌,
  Option,
  Some,
  None,
  option_map,
  option_and_then,
  refl,
  sym,
  ap,
  ◌∙◌,
  arith,
}
use Rattle.std.specs.List.{list_all}
use Rattle.std.proofs.lemmas.Bool.{cases_lt}
use Rattle.hex.specs.Hex.{IsBytes, encode_lower, encode_with, lower_digits}
use Rattle.hex.proofs.HexLemmas.{decode_of-encode_lower}
use Rattle.serde_json.specs.Data.{Data}
use Rattle.serde_json.specs.Read.{read}
use Rattle.sugar_path.proofs.Bools.{and_both, and_left, and_right}
use Rattle.swc_loader.specs.declared.resolution.FileName.{FileName}
use Rattle.swc_loader.specs.declared.resolution.FileName.TheVariants.{Real, Custom, Anon}
use Rattle.tree_core.specs.declared.question.Question.{Question}
use Rattle.tree_core.specs.declared.question.Question.TheVariants.{File, Dir, Exists, Read, Canon}
use Rattle.tree_core.specs.declared.question.Reply.{Reply}
use Rattle.tree_core.specs.declared.question.Reply.TheVariants.{Flag, Bytes, Name}
use Rattle.tree_core.specs.Question.{fits, path_asked}
use Rattle.trail_texts.specs.TrailTexts.{importer_value, kind_name, request_value, step_value, reply_value}
use Rattle.trail_texts.specs.Reading.{hex_bytes, importer_of, is_lower_hex_digit}
use Rattle.trail_texts.proofs.Items.{hex_read}
use Rattle.trail_bundle.specs.declared.request.BundleRequest.{BundleRequest}
use Rattle.trail_bundle.specs.Bundle.{is_reply}
use Rattle.trail_bundle.specs.BundleText.{request_line, reply_line}
use Rattle.trail_bundle.specs.LineReading.{question_named, request_of, step_of, step_parts, reply_to}
use Rattle.trail_bundle.proofs.ReadLines.{read-request, read-step}

importer-value : (name : FileName) → importer_of (importer_value name) ≡ Some name
importer-value (Real t) = refl
importer-value (Custom t) = refl
importer-value Anon = refl

pub request_of-value : (r : BundleRequest) → request_of (request_value r.importer r.specifier) ≡ Some r
unfolding request_of
request_of-value r = ap (λ o. option_and_then (λ importer. Some
    (record { importer = importer; specifier = r.specifier })) o) (importer-value r.importer)

-- a test that the first numbers pass
abbrev all_pass : (ℕ → Bool) → ℕ → Bool
all_pass p zero = true
all_pass p (suc n) = p n && all_pass p n

below_passes : (p : ℕ → Bool) (n k : ℕ) → all_pass p n ≡ true → k < n → p k ≡ true
below_passes p zero k h less = absurd (omega arith)
below_passes p (suc n) k h less = elim (cases_lt k n) [
  | inl below ↦ below_passes p n k (and_right (p n) _ h) below
  | inr top ↦
      let here : k ≡ n = omega arith in
      rw here (and_left (p n) _ h)
]

-- the digits that hex is written with
lower_digit : (n : ℕ) → n < 16 → is_lower_hex_digit (slice_index lower_digits n) ≡ true
lower_digit n h = below_passes (λ n. is_lower_hex_digit (slice_index lower_digits n)) 16 n refl h

are_bytes : (bytes : List ℕ) → list_all (λ b. nat_lt b 256) bytes ≡ true → IsBytes bytes
are_bytes [] h k = omega arith
are_bytes (b ∷ bytes) h zero = ltb-true b 256 (and_left (nat_lt b 256) _ h)
are_bytes (b ∷ bytes) h (suc k) = are_bytes bytes (and_right (nat_lt b 256) _ h) k

all_lower : (bytes : List ℕ) → list_all (λ b. nat_lt b 256) bytes ≡ true
    → list_all is_lower_hex_digit (encode_lower bytes) ≡ true
unfolding encode_with
all_lower [] h = refl
all_lower (b ∷ bytes) h =
    let small : b < 256 = ltb-true b 256 (and_left (nat_lt b 256) _ h) in
    and_both (is_lower_hex_digit (slice_index lower_digits (b / 16))) _ (lower_digit (b / 16) (omega arith))
    (and_both (is_lower_hex_digit (slice_index lower_digits (b % 16))) _ (lower_digit (b % 16) (omega arith))
    (all_lower bytes (and_right (nat_lt b 256) _ h)))

hex-written : (bytes : List ℕ) → list_all (λ b. nat_lt b 256) bytes ≡ true → hex_bytes (encode_lower bytes) ≡ Some bytes
hex-written bytes h =
    hex_read (encode_lower bytes) bytes (all_lower bytes h) (decode_of-encode_lower bytes (are_bytes bytes h))

reply_to-value : (q : Question) (r : Reply) → is_reply (q, r) ≡ true → reply_to q (reply_value r) ≡ Some r
reply_to-value (File p) (Flag b) h = refl
reply_to-value (File p) (Bytes o) h = cc
reply_to-value (File p) (Name o) h = cc
reply_to-value (Dir p) (Flag b) h = refl
reply_to-value (Dir p) (Bytes o) h = cc
reply_to-value (Dir p) (Name o) h = cc
reply_to-value (Exists p) (Flag b) h = refl
reply_to-value (Exists p) (Bytes o) h = cc
reply_to-value (Exists p) (Name o) h = cc
reply_to-value (Read p) (Flag b) h = cc
reply_to-value (Read p) (Bytes None) h = refl
reply_to-value (Read p) (Bytes (Some bytes)) h = ap (λ o. option_map Bytes (option_map Some o)) (hex-written bytes h)
reply_to-value (Read p) (Name o) h = cc
reply_to-value (Canon p) (Flag b) h = cc
reply_to-value (Canon p) (Bytes o) h = cc
reply_to-value (Canon p) (Name None) h = refl
reply_to-value (Canon p) (Name (Some t)) h = refl

question_named-kind : (q : Question) → question_named (kind_name q) (path_asked q) ≡ Some q
question_named-kind (File p) = refl
question_named-kind (Dir p) = refl
question_named-kind (Exists p) = refl
question_named-kind (Read p) = refl
question_named-kind (Canon p) = refl

pub step_of-value : (step : Question × Reply) → is_reply step ≡ true → step_of (step_value step) ≡ Some step
unfolding step_of
step_of-value step h =
    ap (option_and_then (λ q. option_and_then (λ reply. Some (q, reply)) (reply_to q (reply_value step.1))))
    (question_named-kind step.0)
    ∙ ap (option_and_then (λ reply. Some (step.0, reply))) (reply_to-value step.0 step.1 h)

-- what a line is read as
pub line-request : (r : BundleRequest) → option_and_then request_of (read (request_line r)) ≡ Some r
unfolding request_line
line-request r = ap (option_and_then request_of) (read-request r.importer r.specifier) ∙ request_of-value r

pub line-reply : (step : Question × Reply) → is_reply step ≡ true
    → option_and_then step_of (read (reply_line step)) ≡ Some step
unfolding reply_line
line-reply step h = ap (option_and_then step_of) (read-step step) ∙ step_of-value step h

some : {A : Type 0} (a b : A) → Some a ≡ Some b → a ≡ b
some a b is = cc

pub same-request : (a b : BundleRequest) → request_line a ≡ request_line b → a ≡ b
same-request a b is =
    some a b (sym (line-request a) ∙ ap (λ t. option_and_then request_of (read t)) is ∙ line-request b)

pub same-reply : (a b : Question × Reply) → is_reply a ≡ true → is_reply b ≡ true → reply_line a ≡ reply_line b → a ≡ b
same-reply a b h k is = some a b (sym (line-reply a h) ∙ ap (λ t. option_and_then step_of (read t)) is ∙ line-reply b k)

pub step_of-nothing : (d : Data) → step_parts d ≡ None → step_of d ≡ None
unfolding step_of
step_of-nothing d is = rw is refl

-- a line that reads as nothing, or as another one, isn't that of a request
pub no-request : (line : List ℕ) (r : BundleRequest) → option_and_then request_of (read line) ≡ None
    → line ≡ request_line r → ⊥
no-request line r nothing is =
    let some = sym nothing ∙ ap (λ t. option_and_then request_of (read t)) is ∙ line-request r in cc

pub read-as : (line : List ℕ) (r found : BundleRequest) → option_and_then request_of (read line) ≡ Some found
    → line ≡ request_line r → request_line found ≡ line
read-as line r found reads is = ap request_line (some found r
    (sym reads ∙ ap (λ t. option_and_then request_of (read t)) is ∙ line-request r)) ∙ sym is

pub no-step : (line : List ℕ) (step : Question × Reply) → is_reply step ≡ true
    → option_and_then step_of (read line) ≡ None → line ≡ reply_line step → ⊥
no-step line step h nothing is =
    let some = sym nothing ∙ ap (λ t. option_and_then step_of (read t)) is ∙ line-reply step h in cc

pub step-read-as : (line : List ℕ) (step found : Question × Reply) → is_reply step ≡ true
    → option_and_then step_of (read line) ≡ Some found → line ≡ reply_line step → reply_line found ≡ line
step-read-as line step found h reads is = ap reply_line (some found step
    (sym reads ∙ ap (λ t. option_and_then step_of (read t)) is ∙ line-reply step h)) ∙ sym is

map-some : {A : Type 0} (wrap : A → Reply) (o : Option A) (r : Reply) → option_map wrap o ≡ Some r → (a : A)
    × (r ≡ wrap a)
map-some wrap None r is = cc
map-some wrap (Some a) r is = (a, sym (some (wrap a) r is))

-- what is read as the reply to a question is of its kind
pub reply_to-fits : (q : Question) (d : Data) (r : Reply) → reply_to q d ≡ Some r → fits q r ≡ true
reply_to-fits (File p) d r is = rw (map-some Flag _ r is).1 refl
reply_to-fits (Dir p) d r is = rw (map-some Flag _ r is).1 refl
reply_to-fits (Exists p) d r is = rw (map-some Flag _ r is).1 refl
reply_to-fits (Read p) d r is = rw (map-some Bytes _ r is).1 refl
reply_to-fits (Canon p) d r is = rw (map-some Name _ r is).1 refl

pub all_bytes : (bytes : List ℕ) → ((k : ℕ) → slice_index bytes k < 256) → list_all (λ b. nat_lt b 256) bytes ≡ true
all_bytes [] h = refl
all_bytes (b ∷ bytes) h = and_both (nat_lt b 256) _ (lt-ltb b 256 (h 0)) (all_bytes bytes (λ k. h (suc k)))
