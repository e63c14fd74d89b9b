-- How a word is found, one byte at a time.
use Rattle.std.proofs.Common.{
  ◌≡◌,
  ◌<◌,
  ◌+◌,
  ℕ,
  suc,
  false,
  List,
  ◌∷◌,
  ◌++◌,
  length,
  take,
  drop,
  get_or,
  refl,
  ap,
  ◌∙◌,
  append_assoc,
  add-one,
  drop-cons,
}
use Rattle.std.proofs.Math.Seq.{take-suc}
use Rattle.npm_req.specs.Word.{after_word, ends_part, word}

word-byte : (c : ℕ) (cs : List ℕ) → ends_part (c ∷ cs) ≡ false → word (c ∷ cs) ≡ c ∷ word cs
word-byte c cs h = rw h refl

after_word-byte : (c : ℕ) (cs : List ℕ) → ends_part (c ∷ cs) ≡ false → after_word (c ∷ cs) ≡ after_word cs
after_word-byte c cs h = rw h refl

-- the first i bytes belong to the word
abbrev pub IsWithinWord : List ℕ → ℕ → Type 0
IsWithinWord t i = (word t ≡ take i t ++ word (drop i t)) × (after_word t ≡ after_word (drop i t))

pub word_goes_on : (t : List ℕ) (i : ℕ) → i < length t → IsWithinWord t i → ends_part (drop i t) ≡ false
    → IsWithinWord t (i + 1)
word_goes_on t i h within goes_on =
    let split = drop-cons t i 0 h in
    let other = rw split at goes_on in
    let rest = word-byte (get_or t i 0) (drop (suc i) t) other in
    let behind = after_word-byte (get_or t i 0) (drop (suc i) t) other in (
      rw (add-one, take-suc t i 0 h, append_assoc) (within.0 ∙ ap (λ w. take i t ++ w) (ap word split ∙ rest)),
      rw add-one (within.1 ∙ ap after_word split ∙ behind),
    )
