-- Which properties make a flag, and which make it unreadable.
use Rattle.std.proofs.Common.{◌≡◌, Bool, true, false, not, ℕ, List, [], ◌∷◌, ◌++◌, refl, sym, ap, ◌∙◌, cond}
use Rattle.std.specs.Prelude.{◌&&◌, ◌||◌, bytes_eq, codes, IsTrue}
use Rattle.std.specs.List.{fold, list_any}
use Rattle.std.proofs.Math.Bool.{or_assoc, or-false}
use Rattle.yarn_lock_parser.specs.Metas.{Flag}
use Rattle.yarn_lock_parser.specs.Metas.{Absent, Known, Unreadable}
use Rattle.yarn_lock_parser.specs.Dependencies as kinds
use Rattle.yarn_lock_parser.specs.Metas as meta_kinds
use Rattle.yarn_lock_parser.specs.Item.{Item, Version, Dependencies, Integrity, Resolved, Metas, Other}
use Rattle.yarn_lock_parser.specs.Metas.{flag_of, noted}
use Rattle.yarn_lock_parser.specs.Fields.{Fields, is_unreadable, no_fields, with_item}
use Rattle.yarn_lock_parser.specs.Laws.{
  is_optional,
  is_neither,
  is_spoilt,
  UnreadableByOne,
  SpoiltByOne,
  LastFlagCounts,
}

-- ---- unreadable

abbrev unreadable : Flag → Bool
unreadable flag = is_unreadable ([], flag)

-- a property spoils a flag that was readable exactly where it is neither word
noted-neither : (name : List ℕ) (flag : Flag) (p : List ℕ × List ℕ)
    → is_unreadable (name, noted flag p) ≡ (is_unreadable (name, flag) || is_neither p)
noted-neither name Unreadable p = refl
noted-neither name Absent p = by_tests (is_optional p) (bytes_eq p.1 (codes "true")) (bytes_eq p.1 (codes "false"))
  where
    by_tests : (a b c : Bool) → is_unreadable (
      name,
      cond a (cond b (Known true) (cond c (Known false) Unreadable)) Absent,
    ) ≡ (a && not (b || c))
    by_tests false b c = refl
    by_tests true true c = refl
    by_tests true false true = refl
    by_tests true false false = refl
noted-neither name (Known k) p = by_tests (is_optional p) (bytes_eq p.1 (codes "true")) (bytes_eq p.1 (codes "false"))
  where
    by_tests : (a b c : Bool) → is_unreadable (
      name,
      cond a (cond b (Known true) (cond c (Known false) Unreadable)) (Known k),
    ) ≡ (a && not (b || c))
    by_tests false b c = refl
    by_tests true true c = refl
    by_tests true false true = refl
    by_tests true false false = refl

noted-any : (name : List ℕ) (flag : Flag) (ps : List (List ℕ × List ℕ))
    → is_unreadable (name, fold noted flag ps) ≡ (is_unreadable (name, flag) || list_any is_neither ps)
noted-any name flag [] = sym (or-false (is_unreadable (name, flag)))
noted-any name flag (p ∷ ps) =
    noted-any name (noted flag p) ps
    ∙ ap (λ (b : Bool). b || list_any is_neither ps) (noted-neither name flag p)
    ∙ or_assoc (is_unreadable (name, flag)) (is_neither p) (list_any is_neither ps)

pub unreadable-by_one : UnreadableByOne
unreadable-by_one name ps = noted-any name Absent ps

-- ---- an entry

with_item-spoilt : (f : Fields) (i : Item) → (with_item f i).is_spoilt ≡ (f.is_spoilt || is_spoilt i)
with_item-spoilt f (Version text) = sym (or-false f.is_spoilt)
with_item-spoilt f (Dependencies kinds.Regular pairs) = sym (or-false f.is_spoilt)
with_item-spoilt f (Dependencies kinds.Optional pairs) = sym (or-false f.is_spoilt)
with_item-spoilt f (Dependencies kinds.Peer pairs) = sym (or-false f.is_spoilt)
with_item-spoilt f (Integrity text) = sym (or-false f.is_spoilt)
with_item-spoilt f (Resolved text) = sym (or-false f.is_spoilt)
with_item-spoilt f (Metas meta_kinds.Dependencies metas) = refl
with_item-spoilt f (Metas meta_kinds.PeerDependencies metas) = refl
with_item-spoilt f Other = sym (or-false f.is_spoilt)

spoilt-any : (f : Fields) (items : List Item)
    → (fold with_item f items).is_spoilt ≡ (f.is_spoilt || list_any is_spoilt items)
spoilt-any f [] = sym (or-false f.is_spoilt)
spoilt-any f (i ∷ items) =
    spoilt-any (with_item f i) items
    ∙ ap (λ (b : Bool). b || list_any is_spoilt items) (with_item-spoilt f i)
    ∙ or_assoc f.is_spoilt (is_spoilt i) (list_any is_spoilt items)

pub spoilt-by_one : SpoiltByOne
spoilt-by_one items = spoilt-any no_fields items

-- ---- the last flag

noted-optional : (flag : Flag) (p : List ℕ × List ℕ) → is_unreadable ([], flag) ≡ false → IsTrue (is_optional p)
    → noted flag p ≡ flag_of p.1
noted-optional Unreadable p h o = cc
noted-optional Absent p h o = rw o refl
noted-optional (Known k) p h o = rw o refl

noted-other : (flag : Flag) (p : List ℕ × List ℕ) → is_optional p ≡ false → noted flag p ≡ flag
noted-other Unreadable p h = refl
noted-other Absent p h = rw h refl
noted-other (Known k) p h = rw h refl

noted-others : (flag : Flag) (ps : List (List ℕ × List ℕ)) → list_any is_optional ps ≡ false → fold noted flag ps ≡ flag
noted-others flag [] h = refl
noted-others flag (p ∷ ps) h = by_test (is_optional p) refl h (noted-others flag ps)
  where
    by_test : (b : Bool) → is_optional p ≡ b → (b || list_any is_optional ps) ≡ false
        → (list_any is_optional ps ≡ false → fold noted flag ps ≡ flag) → fold noted (noted flag p) ps ≡ flag
    by_test true is h rest = cc
    by_test false is h rest = ap (λ (f : Flag). fold noted f ps) (noted-other flag p is) ∙ rest h

fold-append : (flag : Flag) (ps qs : List (List ℕ × List ℕ))
    → fold noted flag (ps ++ qs) ≡ fold noted (fold noted flag ps) qs
fold-append flag [] qs = refl
fold-append flag (p ∷ ps) qs = fold-append (noted flag p) ps qs

pub last_flag-counts : LastFlagCounts
last_flag-counts ps later last readable is_one none =
    fold-append Absent ps (last ∷ later)
    ∙ ap (λ (f : Flag). fold noted f later) (noted-optional (fold noted Absent ps) last
    (noted-any [] Absent ps ∙ readable) is_one)
    ∙ noted-others (flag_of last.1) later none
