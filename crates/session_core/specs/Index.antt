-- Numbers of entries under hashes of what entries are looked up by.
use Rattle.std.specs.Prelude.{◌≡◌, ◌-◌, ◌^◌, ℕ, Bool, false, nat_eq, IsTrue, IfSome, List, [], ◌++◌, filter}
use Rattle.std.specs.List.{fold, list_any, AllByRecursion}
use Rattle.std.specs.Map.{lookup}
use Rattle.std.specs.BTreeMap.{is_at}
use Rattle.std.specs.BTreeMap.Range.{range_contains}
use Rattle.std.specs.Ordering.{nat_cmp, ordering_then}
use Rattle.std.specs.declared.cmp.Ordering.{Ordering}
use Rattle.std.specs.declared.ops.Bound.TheVariants.{Included}
use Rattle.std.specs.Hash as fed
use Rattle.std.specs.Hash.FoldHasher as folding
use Rattle.tree_core.specs.declared.question.Question.{Question}
use Rattle.tree_core.specs.declared.question.Reply.{Reply}
use Rattle.tree_core.specs.Question.{path_asked}
use Rattle.swc_loader.specs.declared.resolution.FileName.{FileName}
use Rattle.swc_loader.specs.declared.resolution.FileName.TheVariants.{Real, Custom, Anon}
use Rattle.session_core.specs.declared.latest.Entry.{Entry}
use Rattle.session_core.specs.declared.index.Noted.{Noted}
use Rattle.session_core.specs.declared.index.Sought.{Sought}
use Rattle.session_core.specs.declared.index.Sought.TheVariants.{Request, Path}
use Rattle.session_core.specs.Entries.{is_for, is_asking}

abbrev pub name_number : FileName → ℕ
name_number (Real _) = 0
name_number (Custom _) = 1
name_number Anon = 2

abbrev pub name_text : FileName → List ℕ
name_text (Real text) = text
name_text (Custom text) = text
name_text Anon = []

-- a hash of a request
unfoldable pub request_hash : FileName → List ℕ → ℕ
request_hash importer specifier =
    folding.finish
    (fold folding.write folding.initial
    (fed.u8 (name_number importer) ++ fed.str (name_text importer) ++ fed.str specifier))

-- a hash of a path
unfoldable pub path_hash : List ℕ → ℕ
path_hash path = folding.finish (fold folding.write folding.initial (fed.str path))

-- an entry is what is sought
abbrev pub fits : Sought → Entry → Bool
fits (Request importer specifier) e = is_for importer.now specifier.now e
fits (Path path) e = is_asking path.now e

-- the hash of what is sought
abbrev pub hash_of : Sought → ℕ
hash_of (Request importer specifier) = request_hash importer.now specifier.now
hash_of (Path path) = path_hash path.now

-- by hashes, and then by numbers
abbrev pub noted_cmp : Noted → Noted → Ordering
noted_cmp a b = ordering_then (nat_cmp a.hash b.hash) (nat_cmp a.number b.number)

abbrev pub note_of : ℕ → ℕ → Noted
note_of hash number = record { hash = hash; number = number }

-- a number is noted under a hash
abbrev pub is_noted : List Noted → ℕ → ℕ → Bool
is_noted noted hash number = list_any (is_at (noted_cmp (note_of hash number))) noted

-- what is noted under a hash
abbrev pub noted_under : ℕ → List Noted → List Noted
noted_under hash noted =
    filter (range_contains noted_cmp (Included (note_of hash 0)) (Included (note_of hash (2 ^ 64 - 1)))) noted

-- a number is noted under the path of each question
abbrev pub AreNoted : List Noted → ℕ → List (Question × Reply) → Type 0
AreNoted noted number trail =
    AllByRecursion (λ step. IsTrue (is_noted noted (path_hash (path_asked step.0)) number)) trail

-- an entry is noted under what it is looked up by
pub record IsNotedEntry (noted : List Noted) (number : ℕ) (e : Entry) : Type 0 where
  pub request : IsTrue (is_noted noted (request_hash e.importer e.specifier) number)
  pub paths : AreNoted noted number e.outcome.trail

-- what is noted stays so
pub record StayNoted (old new : List Noted) : Type 0 where
  pub stays : (hash number : ℕ) →
      IsTrue (is_noted old hash number) → IsTrue (is_noted new hash number)

-- what is noted of other numbers stays so
pub record OthersStayNoted (number : ℕ) (old new : List Noted) : Type 0 where
  pub stays : (hash other : ℕ) → nat_eq number other ≡ false →
      IsTrue (is_noted old hash other) → IsTrue (is_noted new hash other)

-- the entry with a number isn't what is sought, if there is one
abbrev pub FailsAt : (Entry → Bool) → List (ℕ × Entry) → ℕ → Type 0
FailsAt test es number = IfSome (lookup (nat_eq number) es) (λ e. test e ≡ false)
