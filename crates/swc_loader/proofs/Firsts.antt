-- The first file of lists of candidates, as one plan after the other.
use Rattle.std.proofs.Common.{
  ◌≡◌,
  ℕ,
  zero,
  suc,
  ◌+◌,
  ◌<◌,
  Bool,
  true,
  false,
  cond,
  List,
  [],
  ◌∷◌,
  ◌++◌,
  map,
  length,
  get_or,
  flat_map,
  IsTrue,
  drop,
  subst,
  Option,
  Some,
  None,
  refl,
  sym,
  ◌∙◌,
  ap,
  append_assoc,
  Bor,
  arith,
}
use Rattle.std.specs.List.{list_all}
use Rattle.std.proofs.lemmas.List.{get_or_default, map-append}
use Rattle.sugar_path.specs.Path.{Path, text_of}
use Rattle.tree_core.specs.declared.question.Question.TheVariants.{File}
use Rattle.tree_core.specs.Plan.{Plan, Done, Ask, ◌>>=◌, file, first_file, flag}
use Rattle.sugar_path.proofs.Bools.{and_left, and_right}
use Rattle.tree_core.specs.Asks.{Asking, Leads}
use Rattle.tree_core.proofs.Asking.{leads_item}
use Rattle.tree_core.proofs.RowOrders.{then-then, then_alike}
use Rattle.swc_loader.specs.Candidates.{with_endings, in_folder}
use Rattle.swc_loader.specs.declared.search.Searched.{Searched}
use Rattle.swc_loader.specs.Search.{first_or, found_or, or_else}

-- a base with each ending, in a folder
abbrev pub with_each : Path → List ℕ → List (Bor (List ℕ)) → Plan (Option Path)
with_each d base es = first_file (in_folder d (with_endings base (map (λ e. e.now) es)))

-- a file that was found is the answer, and else the plan goes on
abbrev pub or_plan : Plan (Option Path) → Option Path → Plan (Option Path)
or_plan next (Some p) = Done (Some p)
or_plan next None = next

pub first_file-append : (ps qs : List Path) → first_file (ps ++ qs) ≡ first_file ps >>= or_plan (first_file qs)
unfolding file ◌>>=◌
first_file-append [] qs = refl
first_file-append (p ∷ ps) qs =
    let rest = first_file-append ps qs in λ i. Ask (File (text_of p)) (λ r. by_test rest (flag r) i)
  where
    by_test : first_file (ps ++ qs) ≡ first_file ps >>= or_plan (first_file qs) → (b : Bool)
        → cond b (Done (Some p)) (first_file (ps ++ qs)) ≡ cond b (Done (Some p)) (first_file ps)
        >>= or_plan (first_file qs)
    by_test rest true = refl
    by_test rest false = rest

-- an item of a list is the same whatever stands for one that isn't there
pub same_at : {X : Type 0} (xs : List X) (i : ℕ) (d : X) → i < length xs → get_or xs i d ≡ get_or xs i (get_or xs i d)
same_at xs i d lt = get_or_default xs i d (get_or xs i d) lt

-- what all borrowed texts pass, each of them passes
pub passes_at : (test : List ℕ → Bool) (xs : List (Bor (List ℕ))) (i : ℕ) (d : Bor (List ℕ)) → i < length xs
    → IsTrue (list_all test (map (λ x. x.now) xs)) → test (get_or xs i d).now ≡ true
passes_at test [] i d lt h = absurd (omega arith)
passes_at test (x ∷ xs) zero d lt h = and_left (test x.now) (list_all test (map (λ x. x.now) xs)) h
passes_at test (x ∷ xs) (suc i) d lt h =
    passes_at test xs i d (omega arith) (and_right (test x.now) (list_all test (map (λ x. x.now) xs)) h)

-- lists of names in one folder, one after the other
pub first_file-two : (d : Path) (a b : List (List ℕ)) → first_file (in_folder d (a ++ b)) ≡ first_file (in_folder d a)
    >>= or_plan (first_file (in_folder d b))
first_file-two d a b = ap first_file (map-append (λ m. m ∷ d) a b) ∙ first_file-append (in_folder d a) (in_folder d b)

pub first_file-three : (d : Path) (a b c : List (List ℕ))
    → first_file (in_folder d (a ++ (b ++ c))) ≡ first_file (in_folder d (a ++ b))
    >>= or_plan (first_file (in_folder d c))
first_file-three d a b c =
    ap (λ names. first_file (in_folder d names)) (sym (append_assoc a b c)) ∙ first_file-two d (a ++ b) c

-- each name with each ending, in a folder
abbrev pub with_names : Path → List (List ℕ) → List (Bor (List ℕ)) → Plan (Option Path)
with_names d endings names =
    first_file (in_folder d (flat_map (λ name. with_endings name endings) (map (λ n. n.now) names)))

with_names-next : (d : Path) (endings : List (List ℕ)) (n : Bor (List ℕ)) (ns : List (Bor (List ℕ)))
    → with_names d endings (n ∷ ns) ≡ first_file (in_folder d (with_endings n.now endings))
    >>= or_plan (with_names d endings ns)
with_names-next d endings n ns =
    first_file-two d (with_endings n.now endings) (flat_map (λ name. with_endings name endings) (map (λ n. n.now) ns))

-- in a loop over names: at a name, its endings come first, and then the names behind it
pub leads_name : {old mid : Asking} {whole : Plan (Option Path)} (d : Path) (endings : List (List ℕ))
    (names : List (Bor (List ℕ))) (i : ℕ) (n : Bor (List ℕ)) → Leads old mid whole (with_names d endings (drop i names))
    → i < length names → n ≡ get_or names i n
    → Leads old mid whole (first_file (in_folder d (with_endings n.now endings))
    >>= or_plan (with_names d endings (drop (i + 1) names)))
leads_name {old = old} {mid = mid} {whole = whole} d endings names i n h lt is =
    let P : Plan (Option Path) → Type 0 = λ rest. Leads old mid whole rest in
    subst P (with_names-next d endings n (drop (i + 1) names)) (leads_item (with_names d endings) names i n h lt is)

-- what one list of paths gives, and where it gives nothing what another does
pub first_or-append : (missed : Searched) (ps qs : List Path) → first_or missed (ps ++ qs) ≡ first_file ps
    >>= λ found. or_else found (first_or missed qs)
unfolding first_or ◌>>=◌
first_or-append missed ps qs =
    ap (λ plan. plan >>= λ found. Done (found_or missed found)) (first_file-append ps qs)
    ∙ then-then (first_file ps) (or_plan (first_file qs)) (λ found. Done (found_or missed found))
    ∙ then_alike (first_file ps) _ _ by_found
  where
    by_found : (found : Option Path) → or_plan (first_file qs) found
        >>= (λ file. Done (found_or missed file)) ≡ or_else found (first_or missed qs)
    by_found (Some f) = refl
    by_found None = refl
