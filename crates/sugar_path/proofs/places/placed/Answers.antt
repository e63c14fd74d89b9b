use Rattle.std.proofs.Common.{
  ◌≡◌,
  ◌≢◌,
  ◌++◌,
  ◌∷◌,
  [],
  false,
  refl,
  inl,
  inr,
  length,
  sym,
  ap,
  ◌∙◌,
  arith,
  ℕ,
  length-set,
}
use Rattle.std.proofs.lemmas.Bool.Decides.{Decides-eqb, not_from_Decides}
use Rattle.std.proofs.lemmas.List.{nil_from_length}
use Rattle.sugar_path.specs.Path.{is_absolute}
use Rattle.sugar_path.specs.Route.{place, route_of}
use Rattle.sugar_path.specs.Reading.{read_text}
use Rattle.sugar_path.proofs.RouteTexts.{place-read, read-length}
use Rattle.sugar_path.proofs.Placed.{route_of-rooted}
use Rattle.sugar_path.proofs.Rooms.{read-loose, read-slash, slash-behind}
use Rattle.sugar_path.proofs.places.placed.Goals as goal

pub returns-then-is_empty-clause-place : goal.returns-then-is_empty-clause-place
unfolding place
returns-then-is_empty-clause-place c =
    let s = c.of-reading.result in
    let none : read_text s ≡ [] = nil_from_length (read_text s)
    (ap length (sym c.as_slice.ensures) ∙ (Decides-eqb _ 0).0 (sym c.is_empty.ensures ∙ c.if-is_empty.true)) in
    place-read (route_of c.args.text.items) s _ c.of-reading.ensures.read
    (inl (none, c.put.ensures.read ∙ ap (λ t. t ++ 46 ∷ []) none))

pub returns-then-is_empty-clause-room : goal.returns-then-is_empty-clause-room
returns-then-is_empty-clause-room c = λ ends other.
    let s = c.of-reading.result in
    let h = c.of-reading.ensures.read in
    let none : length (read_text s) ≡ 0 =
    ap length (sym c.as_slice.ensures) ∙ (Decides-eqb _ 0).0 (sym c.is_empty.ensures ∙ c.if-is_empty.true) in
    let loose : is_absolute c.args.text.items ≡ false =
    sym (route_of-rooted c.args.text.items) ∙ read-loose (route_of c.args.text.items) s h none in
    omega (
      arith,
      slash-behind c.args.text.items loose ends,
      read-length (route_of c.args.text.items) s h,
      none,
      c.args.text.ok.0,
      c.put.ensures.len,
      c.of-reading.ensures.size,
      ap length c.put.ensures.text,
      length-set {A = ℕ},
      s.text.ok.0,
      c.put.new.self.text.ok.0,
    )

pub returns-else-is_empty-clause-place : goal.returns-else-is_empty-clause-place
unfolding place
returns-else-is_empty-clause-place c =
    let s = c.of-reading.result in
    let some : length (read_text s) ≢ 0 = λ e. not_from_Decides _ (Decides-eqb _ 0)
    (sym c.is_empty.ensures ∙ c.if-is_empty.false) (ap length c.as_slice.ensures ∙ e) in
    place-read (route_of c.args.text.items) s _ c.of-reading.ensures.read (inr (some, refl))

pub returns-else-is_empty-clause-room : goal.returns-else-is_empty-clause-room
unfolding place
returns-else-is_empty-clause-room c = λ ends other.
    let s = c.of-reading.result in
    let h = c.of-reading.ensures.read in
    let some : length (read_text s) ≢ 0 = λ e. not_from_Decides _ (Decides-eqb _ 0)
    (sym c.is_empty.ensures ∙ c.if-is_empty.false) (ap length c.as_slice.ensures ∙ e) in
    let is = place-read (route_of c.args.text.items) s _ h (inr (some, refl)) in
    omega (
      arith,
      read-slash (route_of c.args.text.items) s h some (λ e. other (sym is ∙ e)),
      read-length (route_of c.args.text.items) s h,
      c.of-reading.ensures.room ends,
      c.of-reading.ensures.size,
    )
