-- Each item takes a byte or more.
use Rattle.std.proofs.Common.{◌≡◌, ℕ, List, [], ◌∷◌, refl, ap, Option, Some, None}
use Rattle.std.specs.Prelude.{codes}
use Rattle.yarn_lock_parser.specs.ByteSet.{is_blank, is_version_byte, is_unquoted_byte}
use Rattle.yarn_lock_parser.specs.Dependencies.{DependencyKind}
use Rattle.yarn_lock_parser.specs.Dependencies as kinds
use Rattle.yarn_lock_parser.specs.Metas.{MetaKind}
use Rattle.yarn_lock_parser.specs.Metas as meta_kinds
use Rattle.yarn_lock_parser.specs.Metas.{Flag}
use Rattle.sugar_path.specs.Front.{after}
use Rattle.yarn_lock_parser.specs.Front.{after_optional, line_at, run, IsRest}
use Rattle.yarn_lock_parser.specs.Items.{at_value, one_of, version_at, integrity_at, resolved_at}
use Rattle.yarn_lock_parser.specs.Dependencies.{names_kind, dependency_kind, dependencies_at}
use Rattle.yarn_lock_parser.specs.Metas.{meta_kind, metas_at}
use Rattle.yarn_lock_parser.specs.Item.{Item, Other, reads_as, keyed_at, indented_at, item_at}
use Rattle.yarn_lock_parser.proofs.Rests.{
  first_and_next,
  step,
  mapped,
  either_form,
  IsLater,
  behind,
  later,
  after-rest,
  after_optional-rest,
  after_blanks-later,
  run-rest,
  some_run-later,
  after_line_end-later,
  line_at-later,
}
use Rattle.yarn_lock_parser.proofs.Every.{Shortens, some-rest}
use Rattle.yarn_lock_parser.proofs.Shorter.{dependency_at-later, meta_at-later}

pub one_of-rest : (word other t r : List ℕ) → one_of word other t ≡ Some r → IsRest t r
one_of-rest word other t r e = either_form _ _ r (IsRest t r) e (after-rest word t r) (after-rest other t r)

pub at_value-rest : (t r : List ℕ) → at_value t ≡ Some r → IsRest t r
at_value-rest t r e = behind (after_optional-rest (34 ∷ []) t)
    (behind (after_optional-rest (58 ∷ []) _) (after_blanks-later _ r e).rest_is)

pub version_at-rest : (t : List ℕ) (x : List ℕ × List ℕ) → version_at t ≡ Some x → IsRest t x.1
unfolding version_at
version_at-rest t x e =
    step _ _ _ e (λ end end-is e₁. step _ _ _ e₁ (λ value value-is e₂. step _ _ _ e₂ (λ rest rest-is e₃.
    let is : rest ≡ x.1 = cc in
    rw (← is) (behind (after_optional-rest (34 ∷ []) t) (behind (after-rest (codes "version") _ end end-is)
    (behind (at_value-rest end value value-is)
    (behind (after_optional-rest (34 ∷ []) value) (behind (run-rest is_version_byte _)
    (behind (after_optional-rest (34 ∷ []) _) (after_line_end-later _ rest rest-is).rest_is))))))
    )))

pub integrity_at-rest : (t : List ℕ) (x : List ℕ × List ℕ) → integrity_at t ≡ Some x → IsRest t x.1
unfolding integrity_at
integrity_at-rest t x e =
    step _ _ _ e (λ end end-is e₁. step _ _ _ e₁ (λ value value-is e₂.
    let is : run is_unquoted_byte (after_optional (34 ∷ []) value) ≡ x = cc in
    rw (← is) (behind (after_optional-rest (34 ∷ []) t) (behind
    (one_of-rest (codes "checksum") (codes "integrity") _ end end-is) (behind (at_value-rest end value value-is)
    (behind (after_optional-rest (34 ∷ []) value) (run-rest is_unquoted_byte _)))))
    ))

pub resolved_at-rest : (t : List ℕ) (x : List ℕ × List ℕ) → resolved_at t ≡ Some x → IsRest t x.1
unfolding resolved_at
resolved_at-rest t x e =
    step _ _ _ e (λ end end-is e₁. step _ _ _ e₁ (λ value value-is e₂. step _ _ _ e₂ (λ quote quote-is e₃.
    step _ _ _ e₃ (λ text text-is e₄. step _ _ _ e₄ (λ closed closed-is e₅. step _ _ _ e₅ (λ rest rest-is e₆.
    let is : rest ≡ x.1 = cc in
    rw (← is) (behind (after_optional-rest (34 ∷ []) t) (behind
    (one_of-rest (codes "resolved") (codes "resolution") _ end end-is)
    (behind (at_value-rest end value value-is) (behind (after-rest (34 ∷ []) value quote quote-is)
    (behind (some_run-later is_unquoted_byte quote text text-is).rest_is
    (behind (after-rest (34 ∷ []) _ closed closed-is) (after_line_end-later closed rest rest-is).rest_is))))))
    ))))))

names_kind-rest : {K : Type 0} (kind : K) (w t : List ℕ) (x : K × List ℕ) → names_kind kind (after w t) ≡ Some x
    → IsRest t x.1
names_kind-rest kind w t x e = by_found (after w t) refl e
  where
    by_found : (o : Option (List ℕ)) → after w t ≡ o → names_kind kind o ≡ Some x → IsRest t x.1
    by_found None found e = cc
    by_found (Some r) found e = let is : r ≡ x.1 = cc in rw (← is) (after-rest w t r found)

pub dependency_kind-rest : (t : List ℕ) (x : DependencyKind × List ℕ) → dependency_kind t ≡ Some x → IsRest t x.1
unfolding dependency_kind
dependency_kind-rest t x e =
    either_form _ _ x (IsRest t x.1) e (names_kind-rest kinds.Regular (codes "dependencies:") t x)
    (λ e₁. either_form _ _ x (IsRest t x.1) e₁ (names_kind-rest kinds.Optional (codes "optionalDependencies:") t x)
    (names_kind-rest kinds.Peer (codes "peerDependencies:") t x))

pub dependencies_at-rest : (indent t : List ℕ) (x : (DependencyKind × List (List ℕ × List ℕ)) × List ℕ)
    → dependencies_at indent t ≡ Some x → IsRest t x.1
unfolding dependencies_at
dependencies_at-rest indent t x e =
    step _ _ _ e (λ kind kind-is e₁. step _ _ _ e₁ (λ body body-is e₂. step _ _ _ e₂ (λ found found-is e₃.
    let is : found.1 ≡ x.1 = cc in
    rw (← is) (behind (dependency_kind-rest t kind kind-is) (behind (after_line_end-later _ body body-is).rest_is
    (some-rest _ (dependency_at-later indent) body found found-is)))
    )))

pub meta_kind-rest : (t : List ℕ) (x : MetaKind × List ℕ) → meta_kind t ≡ Some x → IsRest t x.1
unfolding meta_kind
meta_kind-rest t x e =
    either_form _ _ x (IsRest t x.1) e (names_kind-rest meta_kinds.Dependencies (codes "dependenciesMeta:") t x)
    (names_kind-rest meta_kinds.PeerDependencies (codes "peerDependenciesMeta:") t x)

pub metas_at-rest : (indent t : List ℕ) (x : (MetaKind × List (List ℕ × Flag)) × List ℕ) → metas_at indent t ≡ Some x
    → IsRest t x.1
unfolding metas_at
metas_at-rest indent t x e =
    step _ _ _ e (λ kind kind-is e₁. step _ _ _ e₁ (λ body body-is e₂. step _ _ _ e₂ (λ found found-is e₃.
    let is : found.1 ≡ x.1 = cc in
    rw (← is) (behind (meta_kind-rest t kind kind-is) (behind (after_line_end-later _ body body-is).rest_is
    (some-rest _ (meta_at-later indent) body found found-is)))
    )))

reads_as-rest : {A : Type 0} (form : A → Item) (t : List ℕ) (read : Option (A × List ℕ)) (x : Item × List ℕ)
    → ((y : A × List ℕ) → read ≡ Some y → IsRest t y.1) → reads_as form read ≡ Some x → IsRest t x.1
reads_as-rest form t read x leaves e =
    let found = mapped _ read x e in
    let is : found.0.1 ≡ x.1 = ap (λ (y : Item × List ℕ). y.1) found.2 in
    rw (← is) (leaves found.0 found.1)

keyed_at-rest : (indent t : List ℕ) (x : Item × List ℕ) → keyed_at indent t ≡ Some x → IsRest t x.1
unfolding keyed_at
keyed_at-rest indent t x e =
    either_form _ _ x (IsRest t x.1) e (reads_as-rest _ t _ x (version_at-rest t))
    (λ e₁. either_form _ _ x (IsRest t x.1) e₁ (reads_as-rest _ t _ x (dependencies_at-rest indent t))
    (λ e₂. either_form _ _ x (IsRest t x.1) e₂ (reads_as-rest _ t _ x (integrity_at-rest t))
    (λ e₃. either_form _ _ x (IsRest t x.1) e₃ (reads_as-rest _ t _ x (resolved_at-rest t))
    (reads_as-rest _ t _ x (metas_at-rest indent t)))))

indented_at-later : (t : List ℕ) (x : Item × List ℕ) → indented_at t ≡ Some x → IsLater t x.1
unfolding indented_at
indented_at-later t x e =
    let indent = first_and_next _ _ _ e in
    later (some_run-later is_blank t indent.0 indent.1) (keyed_at-rest indent.0.0 indent.0.1 x indent.2)

other-later : (t : List ℕ) (x : Item × List ℕ) → reads_as (λ _. Other) (line_at t) ≡ Some x → IsLater t x.1
other-later t x e =
    let found = mapped _ (line_at t) x e in
    let is : found.0.1 ≡ x.1 = ap (λ (y : Item × List ℕ). y.1) found.2 in
    rw (← is) (line_at-later t found.0 found.1)

pub item_at-later : (t : List ℕ) (x : Item × List ℕ) → item_at t ≡ Some x → IsLater t x.1
unfolding item_at
item_at-later t x e = either_form _ _ x (IsLater t x.1) e (indented_at-later t x) (other-later t x)

pub item_at-shortens : Shortens item_at
item_at-shortens t x e = (item_at-later t x e).shorter
