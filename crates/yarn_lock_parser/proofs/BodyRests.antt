-- What follows header and metadata.
use Rattle.std.proofs.Common.{◌≡◌, ℕ, Bool, true, false, List, ap, refl, Option, Some, None}
use Rattle.std.specs.Prelude.{unwrap_or, codes}
use Rattle.std.specs.Option.{option_map_or}
use Rattle.std.specs.Char.{is_ascii_digit}
use Rattle.yarn_lock_parser.specs.ByteSet.{is_white_space}
use Rattle.yarn_lock_parser.specs.declared.header.Header.{Header}
use Rattle.yarn_lock_parser.specs.Front.{run, IsRest}
use Rattle.yarn_lock_parser.specs.Header.{after_bun_line, header_at}
use Rattle.yarn_lock_parser.specs.Metadata.{
  Metadata,
  number_at,
  version_line,
  after_compression,
  cache_key,
  version_number,
  metadata_at,
}
use Rattle.yarn_lock_parser.specs.Lock.{metadata_after}
use Rattle.yarn_lock_parser.proofs.Rests.{
  step,
  inside,
  itself,
  behind,
  unwrapped,
  after-rest,
  after_blanks-later,
  after_line_end-later,
  run-rest,
  some_run-later,
  line_at-later,
  key-rest,
}
use Rattle.yarn_lock_parser.proofs.Cuts.{first_empty-rest}

after_bun_line-rest : (t r : List ℕ) → after_bun_line t ≡ Some r → IsRest t r
unfolding after_bun_line
after_bun_line-rest t r e =
    step _ _ _ e (λ third third-is e₁. step _ _ _ e₁ (λ bun bun-is e₂.
    let is = inside third.1 r e₂ in
    rw (← is) (line_at-later t third third-is).rest_is
    ))

pub header_at-rest : (t : List ℕ) (x : Header × List ℕ) → header_at t ≡ Some x → IsRest t x.1
unfolding header_at
header_at-rest t x e =
    step _ _ _ e (λ first first-is e₁. step _ _ _ e₁ (λ second second-is e₂.
    let is : (run is_white_space (unwrap_or (after_bun_line second.1) second.1)).1 ≡ x.1 = cc in
    rw (← is) (behind (line_at-later t first first-is).rest_is (behind (line_at-later first.1 second second-is).rest_is
    (behind (unwrapped (after_bun_line second.1) second.1 (after_bun_line-rest second.1)) (run-rest is_white_space _))))
    ))

number_at-rest : (t : List ℕ) (x : ℕ × List ℕ) → number_at t ≡ Some x → IsRest t x.1
unfolding number_at
number_at-rest t x e =
    step _ _ _ e (λ digits digits-is e₁. step (version_number digits.0) (λ version. Some (version, digits.1)) x e₁
    (λ version version-is e₂.
    let is = ap (λ (y : ℕ × List ℕ). y.1) (inside (version, digits.1) x e₂) in
    rw (← is) (some_run-later is_ascii_digit t digits digits-is).rest_is
    ))

pub version_line-rest : (t : List ℕ) (x : ℕ × List ℕ) → version_line t ≡ Some x → IsRest t x.1
unfolding version_line
version_line-rest t x e =
    step _ _ _ e (λ first first-is e₁. step _ _ _ e₁ (λ second second-is e₂. step _ _ _ e₂ (λ name name-is e₃.
    step _ _ _ e₃ (λ value value-is e₄. step _ _ _ e₄ (λ version version-is e₅. step _ _ _ e₅ (λ rest rest-is e₆.
    let is : rest ≡ x.1 = cc in
    rw (← is) (behind (after-rest (codes "__metadata:") t first first-is)
    (behind (after_line_end-later first second second-is).rest_is
    (behind (after_blanks-later second name name-is).rest_is
    (behind (after-rest (codes "version: ") name value value-is)
    (behind (number_at-rest value version version-is) (after_line_end-later version.1 rest rest-is).rest_is)))))
    ))))))

pub cache_key-rest : (t : List ℕ) (x : List ℕ × List ℕ) → cache_key t ≡ Some x → IsRest t x.1
unfolding cache_key
cache_key-rest t x e =
    step _ _ _ e (λ name name-is e₁. step _ _ _ e₁ (λ key key-is e₂. step _ _ _ e₂ (λ digits digits-is e₃.
    let is : unwrap_or (after_compression digits.1) digits.1 ≡ x.1 = cc in
    rw (← is) (behind (after_blanks-later t name name-is).rest_is
    (behind (after-rest (codes "cacheKey: ") name key key-is) (key-rest key digits digits-is)))
    )))

behind_key : (t : List ℕ) (o : Option (List ℕ × List ℕ)) → cache_key t ≡ o → IsRest t (option_map_or (λ key. key.1) o t)
behind_key t None e = itself t
behind_key t (Some x) e = cache_key-rest t x e

pub metadata_at-rest : (t : List ℕ) (x : Metadata × List ℕ) → metadata_at t ≡ Some x → IsRest t x.1
unfolding metadata_at
metadata_at-rest t x e =
    step _ _ _ e (λ version version-is e₁. step _ _ _ e₁ (λ rest rest-is e₂.
    let is : (run is_white_space rest).1 ≡ x.1 = cc in
    rw (← is) (behind (version_line-rest t version version-is) (behind (behind_key version.1 (cache_key version.1) refl)
    (behind (first_empty-rest _ rest rest-is).rest_is (run-rest is_white_space rest))))
    ))

pub metadata_after-rest : (b : Bool) (t : List ℕ) (x : Metadata × List ℕ) → metadata_after b t ≡ Some x → IsRest t x.1
unfolding metadata_after
metadata_after-rest true t x e = let is : t ≡ x.1 = cc in rw (← is) (itself t)
metadata_after-rest false t x e = metadata_at-rest t x e
