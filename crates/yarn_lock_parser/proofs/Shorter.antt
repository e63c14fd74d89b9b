-- Each part of an entry takes a byte or more.
use Rattle.std.proofs.Common.{
  ◌≡◌,
  ◌<◌,
  ◌==◌,
  ◌≢◌,
  ◌⊎◌,
  inl,
  inr,
  ℕ,
  true,
  false,
  List,
  [],
  ◌∷◌,
  ◌++◌,
  length,
  refl,
  sym,
  ap,
  Option,
  Some,
  None,
  arith,
  length-append,
}
use Rattle.std.specs.Prelude.{unwrap_or, codes}
use Rattle.std.proofs.lemmas.Bool.Decides.{eqb_tells}
use Rattle.yarn_lock_parser.specs.ByteSet.{is_blank, is_no_line_end, is_no_colon, is_descriptor_byte, is_name_byte}
use Rattle.yarn_lock_parser.specs.Metas.{Flag}
use Rattle.yarn_lock_parser.specs.Metas.{Absent}
use Rattle.std.specs.List.{fold}
use Rattle.yarn_lock_parser.specs.Front.{after_optional, run, after_line_end, IsRest, some}
use Rattle.yarn_lock_parser.specs.Descriptors.{descriptor_at, next_descriptor}
use Rattle.yarn_lock_parser.specs.Dependencies.{deeper, line_rest, dependency_version, dependency_at}
use Rattle.yarn_lock_parser.specs.Metas.{property_at, noted, flag_under, meta_at}
use Rattle.sugar_path.proofs.Words.{after-some}
use Rattle.yarn_lock_parser.proofs.Rests.{
  first_and_next,
  step,
  either_form,
  tested,
  IsLater,
  behind,
  later,
  then_later,
  after-rest,
  after_optional-rest,
  run-rest,
  run-whole,
  some_run-later,
  after_line_end-later,
  line_at-later,
  quoted_at-later,
}
use Rattle.yarn_lock_parser.proofs.Every.{Shortens, some-rest}

-- ---- descriptors

pub descriptor_at-later : (t : List ℕ) (x : List ℕ × List ℕ) → descriptor_at t ≡ Some x → IsLater t x.1
unfolding descriptor_at
descriptor_at-later t x e =
    let text = first_and_next _ _ _ e in
    let is : after_optional (34 ∷ []) text.0.1 ≡ x.1 = cc in
    rw (← is) (then_later (after_optional-rest (34 ∷ []) t) (later (some_run-later is_descriptor_byte _ text.0 text.1)
    (after_optional-rest (34 ∷ []) text.0.1)))

pub next_descriptor-later : (t : List ℕ) (x : List ℕ × List ℕ) → next_descriptor t ≡ Some x → IsLater t x.1
unfolding next_descriptor
next_descriptor-later t x e =
    let comma = first_and_next _ _ _ e in
    then_later (after_optional-rest (34 ∷ []) t) (then_later (after-rest (codes ", ") _ comma.0 comma.1)
    (descriptor_at-later comma.0 x comma.2))

pub next_descriptor-shortens : Shortens next_descriptor
next_descriptor-shortens t x e = (next_descriptor-later t x e).shorter

-- ---- dependencies

pub deeper-run : (indent t : List ℕ) (x : List ℕ × List ℕ) → deeper indent t ≡ Some x → (run is_blank t ≡ x)
    × (0 < length x.0)
unfolding deeper
deeper-run indent t x e =
    let further = first_and_next _ _ _ e in
    let more = tested _ _ _ further.2 in
    let whole = after-some indent _ further.0 further.1 in
    let last = by_test further.0 (eqb_tells (length further.0) 0) more.0 in
    (more.1, rw (← more.1) (omega (arith, ap length whole, length-append indent further.0, last)))
  where
    by_test : (s : List ℕ) → ((length s == 0) ≡ true) × (length s ≡ 0) ⊎ ((length s == 0) ≡ false) × (length s ≢ 0)
        → (length s == 0) ≡ false → 0 < length s
    by_test s (inl w) some = absurd (cc)
    by_test s (inr w) some = omega (arith, w.1)

pub deeper-later : (indent t : List ℕ) (x : List ℕ × List ℕ) → deeper indent t ≡ Some x → IsLater t x.1
deeper-later indent t x e =
    let found = deeper-run indent t x e in
    let whole : x.0 ++ x.1 ≡ t = rw found.0 at (run-whole is_blank t) in
    record {
      rest_is = record { prior = x.0; is = sym whole };
      shorter =
          omega (arith, found.1, ap length whole, length-append x.0 x.1);
    }

pub line_rest-rest : (t : List ℕ) (x : List ℕ × List ℕ) → line_rest t ≡ Some x → IsRest t x.1
unfolding line_rest
line_rest-rest t x e = let found = tested _ _ _ e in rw (← found.1) (run-rest is_no_line_end t)

pub dependency_version-rest : (t : List ℕ) (x : List ℕ × List ℕ) → dependency_version t ≡ Some x → IsRest t x.1
unfolding dependency_version
dependency_version-rest t x e =
    let version = first_and_next _ _ _ e in
    let is : unwrap_or (after_line_end version.0.1) (run is_blank version.0.1).1 ≡ x.1 = cc in
    let text = either_form _ _ version.0 (IsRest (run is_blank t).1 version.0.1) version.1
    (λ found. (quoted_at-later _ version.0 found).rest_is) (line_rest-rest _ version.0) in
    rw (← is) (behind (run-rest is_blank t) (behind text (after_end version.0.1 (after_line_end version.0.1) refl)))
  where
    after_end : (s : List ℕ) (o : Option (List ℕ)) → after_line_end s ≡ o → IsRest s (unwrap_or o (run is_blank s).1)
    after_end s None h = run-rest is_blank s
    after_end s (Some r) h = (after_line_end-later s r h).rest_is

pub dependency_at-later : (indent t : List ℕ) (x : (List ℕ × List ℕ) × List ℕ) → dependency_at indent t ≡ Some x
    → IsLater t x.1
unfolding dependency_at
dependency_at-later indent t x e =
    let own = first_and_next _ _ _ e in
    let name = first_and_next _ _ _ own.2 in
    let mark = first_and_next _ _ _ name.2 in
    let version = first_and_next _ _ _ mark.2 in
    let is : version.0.1 ≡ x.1 = cc in
    let marked = either_form _ _ mark.0 (IsRest name.0.1 mark.0) mark.1 (after-rest (58 ∷ []) _ mark.0)
    (after-rest (32 ∷ []) _ mark.0) in
    rw (← is) (later (deeper-later indent t own.0 own.1) (behind (some_run-later is_name_byte _ name.0 name.1).rest_is
    (behind marked (dependency_version-rest mark.0 version.0 version.1))))

pub dependency_at-shortens : (indent : List ℕ) → Shortens (dependency_at indent)
dependency_at-shortens indent t x e = (dependency_at-later indent t x e).shorter

-- ---- metas

pub property_at-later : (indent t : List ℕ) (x : (List ℕ × List ℕ) × List ℕ) → property_at indent t ≡ Some x
    → IsLater t x.1
unfolding property_at
property_at-later indent t x e =
    let own = first_and_next _ _ _ e in
    let value = first_and_next _ _ _ own.2 in
    let rest = first_and_next _ _ _ value.2 in
    let is : rest.0.1 ≡ x.1 = cc in
    rw (← is) (later (deeper-later indent t own.0 own.1) (behind (run-rest is_no_colon own.0.1)
    (behind (after-rest (codes ": ") _ value.0 value.1) (line_at-later value.0 rest.0 rest.1).rest_is)))

pub property_at-shortens : (indent : List ℕ) → Shortens (property_at indent)
property_at-shortens indent t x e = (property_at-later indent t x e).shorter

flag_under-rest : (indent t : List ℕ) (x : Flag × List ℕ) → flag_under indent t ≡ Some x → IsRest t x.1
unfolding flag_under
flag_under-rest indent t x e = step (some (property_at indent) t)
    (λ properties. Some (fold noted Absent properties.0, properties.1)) x e (λ properties found is.
    let rest : properties.1 ≡ x.1 = cc in
    rw (← rest) (some-rest (property_at indent) (property_at-later indent) t properties found))

pub meta_at-later : (indent t : List ℕ) (x : (List ℕ × Flag) × List ℕ) → meta_at indent t ≡ Some x → IsLater t x.1
unfolding meta_at
meta_at-later indent t x e =
    step _ _ _ e (λ own own-is e₁. step _ _ _ e₁ (λ name name-is e₂. step _ _ _ e₂
    (λ colon colon-is e₃. step _ _ _ e₃ (λ body body-is e₄. step _ _ _ e₄ (λ flag flag-is e₅.
    let rest : flag.1 ≡ x.1 = cc in
    let named = either_form _ _ name (IsRest own.1 name.1) name-is (λ found. (quoted_at-later _ name found).rest_is)
    (unquoted own.1 name) in
    rw (← rest) (later (deeper-later indent t own own-is) (behind named
    (behind (after-rest (58 ∷ []) _ colon colon-is) (behind (after_line_end-later _ body body-is).rest_is
    (flag_under-rest own.0 body flag flag-is)))))
    )))))
  where
    unquoted : (s : List ℕ) (y : List ℕ × List ℕ) → Some (run is_no_colon s) ≡ Some y → IsRest s y.1
    unquoted s y found = let same : run is_no_colon s ≡ y = cc in rw (← same) (run-rest is_no_colon s)

pub meta_at-shortens : (indent : List ℕ) → Shortens (meta_at indent)
meta_at-shortens indent t x e = (meta_at-later indent t x e).shorter
