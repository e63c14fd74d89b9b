-- What is known of the files of a tree, as files are put and removed, and as requests read more.
use Rattle.std.proofs.Common.{◌≡◌, ℕ, Bool, true, false, cond, ◌||◌, bytes_eq, List, [], ◌∷◌, ◌++◌, Some, None, Ok}
use Rattle.std.proofs.Common.{refl, sym, ap, ◌∙◌, option_map, ◌<◌, ◌-◌, length, slice_get, arith, length-append}
use Rattle.std.proofs.Math.Seq.{get_or-append_seam}
use Rattle.std.proofs.lemmas.Option.{slice_get-get_or}
use Rattle.std.specs.FinMap as finite
use Rattle.std.specs.List.{list_any}
use Rattle.std.specs.Ordering.{nat_cmp, eq_by_cmp}
use Rattle.std.specs.Cmp.{eq_by_cmp_equiv}
use Rattle.std.specs.Cmp.Lexicographic.{slice_cmp, nat_list_cmp_total}
use Rattle.std.proofs.lemmas.Map.Text.{is_eq-slice_cmp}
use Rattle.sugar_path.specs.Path.{text_of}
use Rattle.tree_core.specs.Tree.{Files}
use Rattle.tree_core.specs.declared.tree.TreeFile.{TreeFile}
use Rattle.tree_core.proofs.Entries.{same_files-refl}
use Rattle.tree_core.specs.Memory.{same_files}
use Rattle.pnp_core.specs.ManifestReading.{reading}
use Rattle.pnp_core.specs.OnTree.{loaded_on}
use Rattle.resolve_stack.specs.Known.{ReadManifest, AreKnownOn, AreRight, IsSameBeside}

is_at : (path p : List ℕ) → bytes_eq path p ≡ eq_by_cmp (slice_cmp nat_cmp) p path
is_at path p = sym (is_eq-slice_cmp path p) ∙ (eq_by_cmp_equiv nat_list_cmp_total).symm path p

-- A tree is the same beside the path of a file that is put.
pub beside-insert : (t : Files) (path : List ℕ) (file : TreeFile) → IsSameBeside t (finite.insert t path file) path
beside-insert t path file = λ p other.
    finite.get-insert nat_list_cmp_total t path file p
    ∙ ap (λ b. cond b (Some file) (finite.get t p)) (sym (is_at path p) ∙ other)

-- So it is beside the path of one that is removed.
pub beside-remove : (t : Files) (path : List ℕ) → IsSameBeside t (finite.remove t path) path
beside-remove t path = λ p other.
    finite.get-remove nat_list_cmp_total t path p
    ∙ ap (λ b. cond b None (finite.get t p)) (sym (is_at path p) ∙ other)

-- What is known of other files stays known.
pub known-beside : (t u : Files) (path : List ℕ) (known : List ReadManifest) →
    list_any (λ k. bytes_eq path (text_of k.path)) known ≡ false → IsSameBeside t u path → AreKnownOn t known →
    AreKnownOn u known
known-beside t u path [] none same h = tt
known-beside t u path (k ∷ known) none same h =
    by_test (bytes_eq path (text_of k.path)) refl (known-beside t u path known) none
  where
    by_test : (b : Bool) → bytes_eq path (text_of k.path) ≡ b →
        (list_any (λ k. bytes_eq path (text_of k.path)) known ≡ false → IsSameBeside t u path → AreKnownOn t known →
        AreKnownOn u known) → b || list_any (λ k. bytes_eq path (text_of k.path)) known ≡ false →
        AreKnownOn u (k ∷ known)
    by_test true is rest none = cc
    by_test false is rest none = (
      ap (λ o. reading (option_map (λ (f : TreeFile). f.content) o) k.path) (same (text_of k.path) is) ∙ h.0,
      rest none same h.1,
    )

-- One more is known.
pub known-push : (t : Files) (known : List ReadManifest) (k : ReadManifest) → AreKnownOn t known →
    (loaded_on t k.path).result ≡ Ok k.manifest → AreKnownOn t (known ++ k ∷ [])
known-push t [] k h is = (is, tt)
known-push t (x ∷ known) k h is = (h.0, known-push t known k h.1 is)

-- One more is known, or none where the push is refused.
pub known-pushed : (t : Files) (known now : List ReadManifest) (k : ReadManifest) (pushed : Bool) →
    now ≡ cond pushed (known ++ k ∷ []) known → AreKnownOn t known → (loaded_on t k.path).result ≡ Ok k.manifest →
    AreKnownOn t now
known-pushed t known now k true is h loaded = rw is (known-push t known k h loaded)
known-pushed t known now k false is h loaded = rw is h

-- What is known of a tree's own files is right for the tree.
pub right : (t : Files) (known : List ReadManifest) → AreKnownOn t known → AreRight (same_files t) known
right t [] h = tt
right t (k ∷ known) h = record { tree = t; stands = same_files-refl t; loaded = h }

-- What is put at the end is the last.
last-push : {A : Type 0} (xs : List A) (x : A) → slice_get (xs ++ x ∷ []) (length (xs ++ x ∷ []) - 1) ≡ Some x
last-push xs x =
    let grown = length-append xs (x ∷ []) in
    let at : length (xs ++ x ∷ []) - 1 ≡ length xs = omega (arith, grown) in
    let within : length xs < length (xs ++ x ∷ []) = omega (arith, grown) in
    ap (slice_get (xs ++ x ∷ [])) at
    ∙ slice_get-get_or (xs ++ x ∷ []) (length xs) x within
    ∙ ap Some (get_or-append_seam xs x [] x)

pub last-pushed : {A : Type 0} (xs now : List A) (x : A) → now ≡ xs ++ x ∷ [] → slice_get now (length now - 1) ≡ Some x
last-pushed xs now x is = rw is (last-push xs x)
