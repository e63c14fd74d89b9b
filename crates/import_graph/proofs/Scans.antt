-- Kept scans stay right.
use Rattle.std.proofs.Common.{
  ◌≡◌,
  ℕ,
  Bool,
  true,
  false,
  cond,
  bytes_eq,
  List,
  [],
  Option,
  Some,
  None,
  IfSome,
  option_map,
  refl,
  sym,
  ap,
  ◌∙◌,
}
use Rattle.std.specs.Prelude.{unwrap_or}
use Rattle.std.specs.Map.{update}
use Rattle.std.proofs.lemmas.Cmp.{nat_list_eq_equiv}
use Rattle.std.proofs.lemmas.Slice.Eq.{bytes_eq-Decides}
use Rattle.tree_core.specs.Tree.{Files}
use Rattle.session_core.proofs.Replies.{SameBut}
use Rattle.import_graph.specs.Levels.{once}
use Rattle.import_graph.specs.Graph.{imported}
use Rattle.import_graph.specs.Scans.{AreScans}

-- a file at another path imports the same after an edit
imports-same : (imports : List ℕ → List (List ℕ)) (t u : Files) (path file : List ℕ) → SameBut t u path
    → bytes_eq path file ≡ false → imported imports u file ≡ imported imports t file
imports-same imports t u path file same other =
    ap (λ o. once (unwrap_or (option_map imports (option_map (λ f. f.content) o)) []))
    (same.elsewhere file (nat_list_eq_equiv.symm file path ∙ other))

-- what is kept is right on a tree that may have another file at a path, where what is kept of that is
updated : (imports : List ℕ → List (List ℕ)) (t u : Files) (kept then : List ℕ → Option (List (List ℕ))) (path : List ℕ)
    (made : Option (List (List ℕ))) → ((file : List ℕ) → bytes_eq path file ≡ false
    → imported imports u file ≡ imported imports t file) → IfSome made (λ texts. texts ≡ imported imports u path)
    → ((file : List ℕ) → then file ≡ update bytes_eq kept path made file) → AreScans imports t kept
    → AreScans imports u then
updated imports t u kept then path made elsewhere right updates scans =
    λ file texts found. by_test file texts (bytes_eq path file) refl (sym (updates file) ∙ found)
  where
    taken : (o : Option (List (List ℕ))) (texts : List (List ℕ)) → o ≡ Some texts
        → IfSome o (λ ts. ts ≡ imported imports u path) → texts ≡ imported imports u path
    taken None texts e h = cc
    taken (Some ts) texts e h = let same : ts ≡ texts = cc in sym same ∙ h

    by_test : (file : List ℕ) (texts : List (List ℕ)) (b : Bool) → bytes_eq path file ≡ b
        → cond b made (kept file) ≡ Some texts → texts ≡ imported imports u file
    by_test file texts true same is = let path_is : path ≡ file = (bytes_eq-Decides path file).0 same in
        taken made texts is right ∙ ap (imported imports u) path_is
    by_test file texts false other is = scans file texts is ∙ sym (elsewhere file other)

pub scans-edited : (imports : List ℕ → List (List ℕ)) (t u : Files) (kept then : List ℕ → Option (List (List ℕ)))
    (path : List ℕ) → SameBut t u path → ((file : List ℕ) → then file ≡ update bytes_eq kept path None file)
    → AreScans imports t kept → AreScans imports u then
scans-edited imports t u kept then path same updates scans =
    updated imports t u kept then path None (λ file other. imports-same imports t u path file same other) tt updates
    scans

pub scans-more : (imports : List ℕ → List (List ℕ)) (t : Files) (kept then : List ℕ → Option (List (List ℕ)))
    (path : List ℕ) (texts : List (List ℕ)) → texts ≡ imported imports t path
    → ((file : List ℕ) → then file ≡ update bytes_eq kept path (Some texts) file) → AreScans imports t kept
    → AreScans imports t then
scans-more imports t kept then path texts right updates scans =
    updated imports t t kept then path (Some texts) (λ file other. refl) right updates scans

pub scans-there : (kept : List ℕ → Option (List (List ℕ))) (path : List ℕ) (made : Option (List (List ℕ)))
    (then : List ℕ → Option (List (List ℕ))) → ((file : List ℕ) → then file ≡ update bytes_eq kept path made file)
    → then path ≡ made
scans-there kept path made then updates =
    updates path ∙ ap (λ b. cond b made (kept path)) ((bytes_eq-Decides path path).1 refl)
