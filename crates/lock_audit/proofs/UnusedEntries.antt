-- The entries that name no package, one entry at a time.
use Rattle.std.proofs.Common.{
  ◌≡◌,
  ◌<◌,
  ◌+◌,
  ℕ,
  Bool,
  true,
  false,
  not,
  cond,
  List,
  [],
  ◌∷◌,
  ◌++◌,
  get_or,
  length,
  map,
  take,
  sym,
  ap,
  ◌∙◌,
  append-nil,
}
use Rattle.std.specs.Prelude.{filter}
use Rattle.std.proofs.lemmas.List.{map-append}
use Rattle.std.proofs.lemmas.List.Elements.{filter_more}
use Rattle.yarn_lock_parser.specs.Entry.{Entry}
use Rattle.lock_audit.specs.declared.audited.Unused.{Unused}
use Rattle.lock_audit.specs.Entries.{unused_of}

pub unused_more : (has : Entry → Bool) (xs : List Entry) (i : ℕ) (e : Entry) (told new : List Unused) (named : Bool)
    → i < length xs → e ≡ get_or xs i e
    → told ≡ map unused_of (filter (λ x. not (has x)) (take i xs))
    → named ≡ has e
    → new ≡ cond named told (told ++ unused_of e ∷ [])
    → new ≡ map unused_of (filter (λ x. not (has x)) (take (i + 1) xs))
unused_more has xs i e told new named inside is known tells step =
    step ∙ ap (λ b. cond b told (told ++ unused_of e ∷ [])) tells ∙ by_test (has e)
    ∙ ap (map unused_of) (sym (filter_more (λ x. not (has x)) xs i e inside
    ∙ ap (λ x. filter (λ y. not (has y)) (take i xs) ++ cond (not (has x)) (x ∷ []) []) (sym is)))
  where
    by_test : (b : Bool) → cond b told (told ++ unused_of e ∷ []) ≡ map unused_of
        (filter (λ x. not (has x)) (take i xs) ++ cond (not b) (e ∷ []) [])
    by_test true = known ∙ ap (map unused_of) (sym (append-nil (filter (λ x. not (has x)) (take i xs))))
    by_test false = ap (λ us. us ++ unused_of e ∷ []) known
        ∙ sym (map-append unused_of (filter (λ x. not (has x)) (take i xs)) (e ∷ []))
