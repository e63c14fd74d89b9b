-- The search of a place, where the code has read the text's path and the settings itself.
use Rattle.std.proofs.Common.{◌≡◌, ℕ, List, [], Result, ap, ◌∙◌, subst}
use Rattle.sugar_path.specs.Path.{Path, clean}
use Rattle.tree_core.specs.declared.tree.ReadError.{ReadError}
use Rattle.tree_core.specs.Asks.{Asking, Asks}
use Rattle.swc_loader.specs.declared.target.TargetEnv.{TargetEnv}
use Rattle.swc_loader.specs.declared.search.Searched.{Searched}
use Rattle.swc_loader.specs.Conventions.{Conventions}
use Rattle.swc_loader.specs.Search.{place_at, place}

-- a call by the place of a text that was read from the root
pub asks_place : {old new : Asking} {result : Result Searched ReadError} {c c' : Conventions} {env env' : TargetEnv}
    {text said read : List ℕ} {root at : Path} → c' ≡ c → env' ≡ env → said ≡ text → read ≡ text → root ≡ []
    → at ≡ clean root read → Asks old new result (place_at c' env' at said) → Asks old new result (place c env [] text)
asks_place {old = old} {new = new} {result = result} {c = c} {env = env} {env' = env'} {text = text} {said = said}
    {read = read} {at = at} conventions target same from root is h =
    let at_is : at ≡ clean [] text = is ∙ ap (λ d. clean d read) root ∙ ap (clean []) from in
    let C : Conventions → Type 0 = λ x. Asks old new result (place_at x env' at said) in
    let E : TargetEnv → Type 0 = λ x. Asks old new result (place_at c x at said) in
    let A : Path → Type 0 = λ x. Asks old new result (place_at c env x said) in
    let T : List ℕ → Type 0 = λ x. Asks old new result (place_at c env (clean [] text) x) in
    subst T same (subst A at_is (subst E target (subst C conventions h)))
