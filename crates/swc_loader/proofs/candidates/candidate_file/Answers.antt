use Rattle.std.proofs.Common.{◌≡◌, ◌++◌, ◌∷◌, true, false, Bool, List, ℕ, refl}
use Rattle.sugar_path.specs.Path.{Path}
use Rattle.tree_core.specs.Plan.{◌>>=◌, first_file}
use Rattle.tree_core.proofs.Asking.{asks_as, asks_done, asks_fails}
use Rattle.swc_loader.specs.Conventions.{Conventions}
use Rattle.swc_loader.specs.Candidates.{
  has_extension,
  extension,
  stem,
  sources_of,
  with_endings,
  itself,
  in_folder,
  candidates_at,
}
use Rattle.swc_loader.proofs.Naming.{no_slash-stem}
use Rattle.swc_loader.proofs.Firsts.{or_plan, first_file-two, first_file-three}
use Rattle.swc_loader.proofs.candidates.candidate_file.Goals as goal

-- a name with an extension: the name and its endings, and then the sources
with_extension : (v : Conventions) (d : Path) (n base e : List ℕ) (closed : Bool) → has_extension n ≡ true
    → base ≡ stem n → e ≡ extension n → first_file (candidates_at v (n ∷ d) closed) ≡ first_file
    (in_folder d (itself closed n ++ with_endings n v.endings))
    >>= or_plan (first_file (in_folder d (with_endings base (sources_of v e))))
with_extension v d n base e closed has is_stem is_extension =
    rw (has, is_stem, is_extension) (first_file-three d (itself closed n) (with_endings n v.endings)
    (with_endings (stem n) (sources_of v (extension n))))

-- a name without one: some endings go before the name
without_extension : (v : Conventions) (d : Path) (n : List ℕ) (closed : Bool) → has_extension n ≡ false
    → first_file (candidates_at v (n ∷ d) closed) ≡ first_file (in_folder d (with_endings n v.first_endings))
    >>= or_plan (first_file (in_folder d (itself closed n ++ with_endings n v.endings)))
without_extension v d n closed has =
    rw has (first_file-two d (with_endings n v.first_endings) (itself closed n ++ with_endings n v.endings))

pub first_with_ending-requires-clause-base : goal.first_with_ending-requires-clause-base
first_with_ending-requires-clause-base g c =
    let parts = rw c.in-Some.is at c.split_extension.ensures in
    rw parts.1 (no_slash-stem c.args.name.now c.requires)

pub returns-in_err-file-in-Some : goal.returns-in_err-file-in-Some
returns-in_err-file-in-Some g c =
    let parts = rw c.in-Some.is at c.split_extension.ensures in
    rw (with_extension c.args.conventions.now c.args.folder.now c.args.name.now c.in-Some.stem.now
    c.in-Some.extension.now c.args.closed parts.0 parts.1 parts.2)
    (asks_fails _ _ c.from_residual.ensures.1 c.in_err-file-in-Some.ensures)

pub returns-in-Some-2 : goal.returns-in-Some-2
returns-in-Some-2 g c =
    let parts = rw c.in-Some.is at c.split_extension.ensures in
    rw (with_extension c.args.conventions.now c.args.folder.now c.args.name.now c.in-Some.stem.now
    c.in-Some.extension.now c.args.closed parts.0 parts.1 parts.2)
    (asks_as _ c.in_ok-file-in-Some.ensures c.in-Some-2.is (asks_done refl))

pub returns-in_default : goal.returns-in_default
returns-in_default g c =
    let parts = rw c.in-Some.is at c.split_extension.ensures in
    rw (with_extension c.args.conventions.now c.args.folder.now c.args.name.now c.in-Some.stem.now
    c.in-Some.extension.now c.args.closed parts.0 parts.1 parts.2)
    (asks_as _ c.in_ok-file-in-Some.ensures c.in_default.is (rw c.sources_of.ensures.list at
    c.first_with_ending.ensures))

pub returns-in_err-file-in-None : goal.returns-in_err-file-in-None
returns-in_err-file-in-None g c =
    let none = rw c.in-None.is at c.split_extension.ensures in
    rw (without_extension c.args.conventions.now c.args.folder.now c.args.name.now c.args.closed none)
    (asks_fails _ _ c.from_residual-in_err-file-in-None.ensures.1
    (rw c.first_endings-first.ensures.list at c.in_err-file-in-None.ensures))

pub returns-in-Some-3 : goal.returns-in-Some-3
returns-in-Some-3 g c =
    let none = rw c.in-None.is at c.split_extension.ensures in
    rw (without_extension c.args.conventions.now c.args.folder.now c.args.name.now c.args.closed none)
    (asks_as _ (rw c.first_endings-first.ensures.list at c.in_ok-file-in-None.ensures) c.in-Some-3.is (asks_done refl))

pub returns-in_default-2 : goal.returns-in_default-2
returns-in_default-2 g c =
    let none = rw c.in-None.is at c.split_extension.ensures in
    rw (without_extension c.args.conventions.now c.args.folder.now c.args.name.now c.args.closed none)
    (asks_as _ (rw c.first_endings-first.ensures.list at c.in_ok-file-in-None.ensures) c.in_default-2.is
    c.itself_or_ending-in-None.ensures)
