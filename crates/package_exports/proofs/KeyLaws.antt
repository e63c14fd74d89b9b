-- Which key of `exports` with a `*` decides.
use Rattle.std.proofs.Common.{
  ◌≡◌,
  ◌≢◌,
  ◌⊎◌,
  inl,
  inr,
  ℕ,
  Bool,
  true,
  false,
  cond,
  bytes_eq,
  List,
  [],
  ◌∷◌,
  Option,
  Some,
  None,
  refl,
  sym,
  ap,
  ◌∙◌,
}
use Rattle.std.specs.Prelude.{option_map, option_and_then}
use Rattle.std.specs.Option.{option_or}
use Rattle.std.proofs.lemmas.Slice.Eq.{bytes_eq-Decides}
use Rattle.serde_json.specs.Data.{Data, Members, no_members, member}
use Rattle.serde_json.specs.Find.{get_member}
use Rattle.star_texts.specs.Star.{has_star, around_only_star, rest_between}
use Rattle.star_texts.proofs.Ends.{rest_stands_between}
use Rattle.package_exports.specs.Exported.{
  Fit,
  some_rest,
  fit_around,
  fit_of,
  is_before,
  first_fit,
  Decided,
  by_own_key,
  by_fit,
  deciding,
  target,
  completed,
  target_of,
  exported,
}
use Rattle.package_exports.specs.Laws.{
  HasMember,
  Fits,
  KeyDecides,
  OwnKeyDecides,
  IsDecidedBy,
  IsExported,
  ExportedStands,
}
use Rattle.package_exports.proofs.Targets.{get-cons, either, target_stands}
use Rattle.package_exports.proofs.KeyOrders.{behind-behind, first_of-one, first_of-least, first_of-none}

some-rest : (o : Option (List ℕ)) (r : List ℕ) → option_and_then some_rest o ≡ Some r → (o ≡ Some r) × (r ≢ [])
some-rest None r e = cc
some-rest (Some []) r e = cc
some-rest (Some (c ∷ cs)) r e = (e, λ h. let no : Some (c ∷ cs) ≡ Some [] = e ∙ ap Some h in cc)

-- a key's fit is of that key, and fits
record IsFit (subpath key : List ℕ) (d : Data) (f : Fit) : Type 0 where
  key_is : f.key ≡ key
  value_is : f.value ≡ d
  fits : Fits subpath f

fit-around : (subpath key : List ℕ) (d : Data) (parts : List ℕ × List ℕ) (f : Fit) → around_only_star key ≡ Some parts
    → fit_around subpath key d parts ≡ Some f → IsFit subpath key d f
fit-around subpath key d parts f around e =
    by_rest (option_and_then some_rest (rest_between subpath parts.0 parts.1)) refl e
  where
    by_rest : (o : Option (List ℕ)) → option_and_then some_rest (rest_between subpath parts.0 parts.1) ≡ o
        → option_map (λ rest. record { key = key; before = parts.0; rest = rest; value = d }) o ≡ Some f
        → IsFit subpath key d f
    by_rest None is e = cc
    by_rest (Some r) is e =
        let same : f ≡ record { key = key; before = parts.0; rest = r; value = d } = cc in
        let rest = some-rest (rest_between subpath parts.0 parts.1) r is in
        rw same (record {
          key_is = refl;
          value_is = refl;
          fits = record {
            behind = parts.1;
            around = around;
            subpath_is = (rest_stands_between subpath parts.0 parts.1 r).0 rest.0;
            some = rest.1;
          };
        })

is-fit : (subpath key : List ℕ) (d : Data) (f : Fit) → fit_of subpath key d ≡ Some f → IsFit subpath key d f
is-fit subpath key d f e = by_parts (around_only_star key) refl e
  where
    by_parts : (o : Option (List ℕ × List ℕ)) → around_only_star key ≡ o
        → option_and_then (fit_around subpath key d) o ≡ Some f → IsFit subpath key d f
    by_parts None is e = cc
    by_parts (Some parts) is e = fit-around subpath key d parts f is e

rest-some : (r : List ℕ) → r ≢ [] → some_rest r ≡ Some r
rest-some [] h = absurd (h refl)
rest-some (c ∷ cs) h = refl

-- what fits is the fit of its key
fit-found : (subpath : List ℕ) (g : Fit) → Fits subpath g → fit_of subpath g.key g.value ≡ Some g
fit-found subpath g fits =
    let rest : rest_between subpath g.before fits.behind ≡ Some g.rest =
    (rest_stands_between subpath g.before fits.behind g.rest).1 fits.subpath_is in
    ap (option_and_then (fit_around subpath g.key g.value)) fits.around
    ∙ ap (λ o. option_map (λ r. record { key = g.key; before = g.before; rest = r; value = g.value })
    (option_and_then some_rest o)) rest
    ∙ ap (option_map (λ r. record { key = g.key; before = g.before; rest = r; value = g.value }))
    (rest-some g.rest fits.some)

fit-at : (subpath k : List ℕ) (d : Data) (g : Fit) → (g.key ≡ k) × (g.value ≡ d) → Fits subpath g
    → fit_of subpath k d ≡ Some g
fit-at subpath k d g same fits =
    ap (λ key. fit_of subpath key d) (sym same.0) ∙ ap (fit_of subpath g.key) (sym same.1) ∙ fit-found subpath g fits

-- ---- the one that decides
first-fits : (subpath : List ℕ) (ms : Members) (f : Fit) → first_fit subpath ms ≡ Some f → HasMember f.key f.value ms
    × Fits subpath f
first-fits subpath no_members f e = cc
first-fits subpath (member k d ms) f e = elim (first_of-one (fit_of subpath k d) (first_fit subpath ms) f e) [
  | inl h ↦ let fit = is-fit subpath k d f h in (inl (fit.key_is, fit.value_is), fit.fits)
  | inr h ↦ let later = first-fits subpath ms f h in (inr later.0, later.1)
]

no-first : (subpath : List ℕ) (ms : Members) (g : Fit) → first_fit subpath ms ≡ None → HasMember g.key g.value ms
    → Fits subpath g → ⊥
no-first subpath no_members g e has fits = has
no-first subpath (member k d ms) g e has fits = by_place has (no-first subpath ms g none.1)
  where
    none : (fit_of subpath k d ≡ None) × (first_fit subpath ms ≡ None)
    none = first_of-none (fit_of subpath k d) (first_fit subpath ms) e

    by_place : ((g.key ≡ k) × (g.value ≡ d)) ⊎ HasMember g.key g.value ms
        → (HasMember g.key g.value ms → Fits subpath g → ⊥) → ⊥
    by_place (inl same) rest = let no : None ≡ Some g = sym none.0 ∙ fit-at subpath k d g same fits in cc
    by_place (inr later) rest = rest later fits

first-least : (subpath : List ℕ) (ms : Members) (f g : Fit) → first_fit subpath ms ≡ Some f → HasMember g.key g.value ms
    → Fits subpath g → is_before g f ≡ false
first-least subpath no_members f g e has fits = absurd has
first-least subpath (member k d ms) f g e has fits =
    by_place has (first_fit subpath ms) refl (λ h is later. first-least subpath ms h g is later fits)
  where
    by_place : ((g.key ≡ k) × (g.value ≡ d)) ⊎ HasMember g.key g.value ms → (o : Option Fit) → first_fit subpath ms ≡ o
        → ((h : Fit) → first_fit subpath ms ≡ Some h → HasMember g.key g.value ms → is_before g h ≡ false)
        → is_before g f ≡ false
    by_place (inl same) o is rest =
        first_of-least (fit_of subpath k d) (first_fit subpath ms) f g e (inl (fit-at subpath k d g same fits))
    by_place (inr later) None is rest = absurd (no-first subpath ms g is later fits)
    by_place (inr later) (Some h) is rest =
        behind-behind g h f (rest h is later) (first_of-least (fit_of subpath k d) (first_fit subpath ms) f h e
        (inr is))

pub key_decides : KeyDecides
key_decides = record {
  stands = λ subpath ms f e. (first-fits subpath ms f e).0;
  fits = λ subpath ms f e. (first-fits subpath ms f e).1;
  first = first-least;
  none = no-first;
}

abbrev decided_by : Option Decided → Option Decided → Bool → Option Decided
decided_by own fits starred = cond starred fits (option_or own fits)

pub own_key_decides : OwnKeyDecides
own_key_decides = record {
  own = λ exports subpath d plain found.
      let fits = by_fit (first_fit subpath exports) in
      ap (decided_by (by_own_key (get_member subpath exports)) fits) plain
      ∙ ap (λ o. option_or (by_own_key o) fits) found;
  other = λ exports subpath plain none.
      let fits = by_fit (first_fit subpath exports) in
      ap (decided_by (by_own_key (get_member subpath exports)) fits) plain
      ∙ ap (λ o. option_or (by_own_key o) fits) none;
  starred = λ exports subpath starred. ap (decided_by (by_own_key (get_member subpath exports))
      (by_fit (first_fit subpath exports))) starred;
}

-- ---- what is answered stands in `exports`
has-member : (key : List ℕ) (d : Data) (ms : Members) → get_member key ms ≡ Some d → HasMember key d ms
has-member key d no_members e = cc
has-member key d (member k v ms) e = by_key (bytes_eq key k) refl (sym (get-cons key k v ms) ∙ e) (has-member key d ms)
  where
    by_key : (b : Bool) → bytes_eq key k ≡ b → cond b (Some v) (get_member key ms) ≡ Some d
        → (get_member key ms ≡ Some d → HasMember key d ms)
        → ((key ≡ k) × (d ≡ v)) ⊎ HasMember key d ms
    by_key true is e rest = let same : d ≡ v = cc in inl ((bytes_eq-Decides key k).0 is, same)
    by_key false is e rest = inr (rest e)

-- what decides is the value of a key that does
record IsDecided (exports : Members) (subpath : List ℕ) (d : Decided) : Type 0 where
  key : List ℕ
  has : HasMember key d.value exports
  decides : IsDecidedBy subpath key d.value d.rest

by-fit : (exports : Members) (subpath : List ℕ) (d : Decided) → by_fit (first_fit subpath exports) ≡ Some d
    → IsDecided exports subpath d
by-fit exports subpath d e = by_first (first_fit subpath exports) refl e
  where
    by_first : (o : Option Fit) → first_fit subpath exports ≡ o → by_fit o ≡ Some d → IsDecided exports subpath d
    by_first None is e = cc
    by_first (Some f) is e =
        let fit = first-fits subpath exports f is in
        let same : d ≡ record { value = f.value; rest = Some f.rest } = cc in
        rw same (record { key = f.key; has = fit.0; decides = (f, refl, refl, refl, fit.1) })

by-own : (exports : Members) (subpath : List ℕ) (d : Decided) → by_own_key (get_member subpath exports) ≡ Some d
    → IsDecided exports subpath d
by-own exports subpath d e = by_found (get_member subpath exports) refl e
  where
    by_found : (o : Option Data) → get_member subpath exports ≡ o → by_own_key o ≡ Some d → IsDecided exports subpath d
    by_found None is e = cc
    by_found (Some v) is e =
        let same : d ≡ record { value = v; rest = None } = cc in
        rw same (record { key = subpath; has = has-member subpath v exports is; decides = refl })

is-decided : (exports : Members) (subpath : List ℕ) (d : Decided) → deciding exports subpath ≡ Some d
    → IsDecided exports subpath d
is-decided exports subpath d e = by_star (has_star subpath) e
  where
    by_star : (b : Bool) → decided_by (by_own_key (get_member subpath exports)) (by_fit (first_fit subpath exports)) b ≡
        Some d → IsDecided exports subpath d
    by_star true e = by-fit exports subpath d e
    by_star false e = elim (either (by_own_key (get_member subpath exports)) (by_fit (first_fit subpath exports)) d e) [
      | inl h ↦ by-own exports subpath d h
      | inr h ↦ by-fit exports subpath d h
    ]

exported-stands : (exports : Members) (subpath : List ℕ) (conditions : List (List ℕ)) (file : List ℕ)
    → exported exports subpath conditions ≡ Some file → IsExported exports subpath file
exported-stands exports subpath conditions file e = by_decided (deciding exports subpath) refl e
  where
    by_target : (d : Decided) → IsDecided exports subpath d → (o : Option (List ℕ)) → target conditions d.value ≡ o
        → option_map (completed d.rest) o ≡ Some file
        → IsExported exports subpath file
    by_target d is None found e = cc
    by_target d is (Some text) found e = record {
      key = is.key;
      value = d.value;
      rest = d.rest;
      text = text;
      has = is.has;
      decides = is.decides;
      stands = target_stands.stands conditions d.value text found;
      file_is = let same : file ≡ completed d.rest text = cc in same;
    }

    by_decided : (o : Option Decided) → deciding exports subpath ≡ o
        → option_and_then (target_of conditions) o ≡ Some file → IsExported exports subpath file
    by_decided None is e = cc
    by_decided (Some d) is e = by_target d (is-decided exports subpath d is) (target conditions d.value) refl e

pub exported_stands : ExportedStands
exported_stands = record { stands = exported-stands }
