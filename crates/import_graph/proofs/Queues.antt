-- A queue of files: those that were taken, and those that wait, make levels.
use Rattle.std.proofs.Common.{
  ◌≡◌,
  ℕ,
  suc,
  false,
  bytes_eq,
  List,
  [],
  ◌∷◌,
  ◌++◌,
  length,
  refl,
  sym,
  ap,
  ◌∙◌,
  append_assoc,
  append-nil,
  ◌≤◌,
  ◌<◌,
  Some,
  None,
  arith,
  length-append,
  subst,
}
use Rattle.std.specs.Prelude.{slice_get}
use Rattle.std.proofs.Math.Seq.{get_or-append_seam}
use Rattle.std.proofs.lemmas.Option.{get_or_from_slice_get, slice_get-get_or, slice_get_past}
use Rattle.std.specs.List.{flat_map, IsDistinct}
use Rattle.std.proofs.lemmas.List.{append_cancel_left}
use Rattle.std.proofs.lemmas.List.Concat.{flat_map-append}
use Rattle.indexmap.specs.IndexSet.{insert_all}
use Rattle.import_graph.specs.Levels.{among, once, without, Level, up_to, level_behind, level_at, levels_to}
use Rattle.import_graph.proofs.Repeats.{behind-others, insert_all-append}
use Rattle.import_graph.proofs.Levels.{ended-same, levels-end}

-- Files that were taken from a queue, and all that were seen: the taken ones end within a level, and of the next one is
-- seen what they lead to.
pub record IsQueue (leads : List ℕ → List (List ℕ)) (first taken seen : List (List ℕ)) : Type 0 where
  pub number : ℕ
  pub front : List (List ℕ)
  pub back : List (List ℕ)
  pub whole : (level_at leads first number).files ≡ front ++ back
  pub taken_is : taken ≡ (level_at leads first number).before ++ front
  pub seen_is : seen ≡ insert_all bytes_eq (up_to (level_at leads first number)) (flat_map leads front)

pub queue-begins : (leads : List ℕ → List (List ℕ)) (first : List (List ℕ)) → IsQueue leads first [] first
queue-begins leads first =
    record { number = 0; front = []; back = first; whole = refl; taken_is = refl; seen_is = refl }

first-of : {X : Type 0} (x y : X) (xs ys : List X) → x ∷ xs ≡ y ∷ ys → x ≡ y
first-of x y xs ys e = cc

-- one more is seen that the last of some files leads to
seen-more : (leads : List ℕ → List (List ℕ)) (all front seen : List (List ℕ)) (file : List ℕ)
    → seen ≡ insert_all bytes_eq all (flat_map leads front)
    → insert_all bytes_eq seen (leads file) ≡ insert_all bytes_eq all (flat_map leads (front ++ file ∷ []))
seen-more leads all front seen file is =
    ap (λ xs. insert_all bytes_eq xs (leads file)) is
    ∙ sym (insert_all-append all (flat_map leads front) (leads file))
    ∙ ap (insert_all bytes_eq all) (ap (λ xs. flat_map leads front ++ xs) (sym (append-nil (leads file)))
    ∙ sym (flat_map-append leads front (file ∷ [])))

-- what waits is the rest of the level, and what is seen of the next one
waiting : (l : Level) (leads : List ℕ → List (List ℕ)) (taken seen front back : List (List ℕ)) → l.files ≡ front ++ back
    → taken ≡ l.before ++ front → seen ≡ insert_all bytes_eq (up_to l) (flat_map leads front) → seen ≡ taken
    ++ (back ++ without (up_to l) (once (flat_map leads front)))
waiting l leads taken seen front back whole taken_is seen_is =
    let new : List (List ℕ) = without (up_to l) (once (flat_map leads front)) in
    seen_is ∙ behind-others (up_to l) (flat_map leads front)
    ∙ ap (λ files. (l.before ++ files) ++ new) whole
    ∙ ap (λ xs. xs ++ new) (sym (append_assoc l.before front back))
    ∙ append_assoc (l.before ++ front) back new
    ∙ ap (λ xs. xs ++ (back ++ new)) (sym taken_is)

pub record IsNext (taken seen : List (List ℕ)) (file : List ℕ) : Type 0 where
  pub rest : List (List ℕ)
  pub next : seen ≡ taken ++ file ∷ rest

at-seam : (taken waits : List (List ℕ)) (file : List ℕ) → slice_get (taken ++ waits) (length taken) ≡ Some file
    → IsNext taken (taken ++ waits) file
at-seam taken [] file there =
    let past : length (taken ++ []) ≤ length taken = omega (arith, length-append taken []) in
    let none = slice_get_past (taken ++ []) (length taken) past in cc
at-seam taken (other ∷ waits) file there =
    let same : other ≡ file = sym (get_or-append_seam taken other waits file)
    ∙ get_or_from_slice_get (taken ++ other ∷ waits) (length taken) file file there in
    record { rest = waits; next = ap (λ f. taken ++ f ∷ waits) same }

past-seam : (taken waits : List (List ℕ)) → slice_get (taken ++ waits) (length taken) ≡ None → taken ≡ taken ++ waits
past-seam taken [] none = sym (append-nil taken)
past-seam taken (other ∷ waits) none =
    let within : length taken < length (taken ++ other ∷ waits) = omega (arith, length-append taken (other ∷ waits)) in
    let there = slice_get-get_or (taken ++ other ∷ waits) (length taken) other within in cc

-- the next file that waits
pub queue-next : (leads : List ℕ → List (List ℕ)) (first taken seen : List (List ℕ)) (file : List ℕ)
    → IsQueue leads first taken seen → slice_get seen (length taken) ≡ Some file → IsNext taken seen file
queue-next leads first taken seen file q there =
    let l : Level = level_at leads first q.number in
    let waits : List (List ℕ) = q.back ++ without (up_to l) (once (flat_map leads q.front)) in
    let shape : seen ≡ taken ++ waits = waiting l leads taken seen q.front q.back q.whole q.taken_is q.seen_is in
    subst (λ (xs : List (List ℕ)). IsNext taken xs file) (sym shape)
    (at-seam taken waits file (ap (λ xs. slice_get xs (length taken)) (sym shape) ∙ there))

-- no file waits
pub queue-empty : (leads : List ℕ → List (List ℕ)) (first taken seen : List (List ℕ)) → IsQueue leads first taken seen
    → slice_get seen (length taken) ≡ None → taken ≡ seen
queue-empty leads first taken seen q none =
    let l : Level = level_at leads first q.number in
    let waits : List (List ℕ) = q.back ++ without (up_to l) (once (flat_map leads q.front)) in
    let shape : seen ≡ taken ++ waits = waiting l leads taken seen q.front q.back q.whole q.taken_is q.seen_is in
    past-seam taken waits (ap (λ xs. slice_get xs (length taken)) (sym shape) ∙ none) ∙ sym shape

-- the next file is taken
pub queue-goes-on : (leads : List ℕ → List (List ℕ)) (first taken seen rest : List (List ℕ)) (file : List ℕ)
    → IsQueue leads first taken seen → seen ≡ taken ++ file ∷ rest
    → IsQueue leads first (taken ++ file ∷ []) (insert_all bytes_eq seen (leads file))
queue-goes-on leads first taken seen rest file q next = by_back q.back q.whole
  where
    l : Level
    l = level_at leads first q.number

    new : List (List ℕ)
    new = without (up_to l) (once (flat_map leads q.front))

    by_back : (back : List (List ℕ)) → l.files ≡ q.front ++ back
        → IsQueue leads first (taken ++ file ∷ []) (insert_all bytes_eq seen (leads file))
    by_back (other ∷ back) whole =
        let waits = waiting l leads taken seen q.front (other ∷ back) whole q.taken_is q.seen_is in
        let same : file ≡ other = first-of file other rest (back ++ new)
        (append_cancel_left taken (file ∷ rest) (other ∷ (back ++ new)) (sym next ∙ waits)) in
        record {
          number = q.number;
          front = q.front ++ file ∷ [];
          back = back;
          whole = whole ∙ ap (λ f. q.front ++ f ∷ back) (sym same) ∙ sym (append_assoc q.front (file ∷ []) back);
          taken_is = ap (λ xs. xs ++ file ∷ []) q.taken_is ∙ append_assoc l.before q.front (file ∷ []);
          seen_is = seen-more leads (up_to l) q.front seen file q.seen_is;
        }
    by_back [] whole =
        let front : l.files ≡ q.front = whole ∙ append-nil q.front in
        let waits = waiting l leads taken seen q.front [] whole q.taken_is q.seen_is in
        let level : new ≡ file ∷ rest = append_cancel_left taken new (file ∷ rest) (sym waits ∙ next) in
        let files : (level_behind leads l).files ≡ file ∷ rest =
        ap (λ xs. without (up_to l) (once (flat_map leads xs))) front ∙ level in
        let before : taken ≡ up_to l = q.taken_is ∙ ap (λ xs. l.before ++ xs) (sym front) in
        let seen_is : seen ≡ up_to (level_behind leads l) = waits ∙ ap (λ xs. taken ++ xs) level
        ∙ ap (λ xs. xs ++ file ∷ rest) before ∙ ap (λ xs. up_to l ++ xs) (sym files) in
        record {
          number = suc q.number;
          front = file ∷ [];
          back = rest;
          whole = files;
          taken_is = ap (λ xs. xs ++ file ∷ []) before;
          seen_is = ap (λ xs. insert_all bytes_eq xs (leads file)) seen_is
              ∙ ap (insert_all bytes_eq (up_to (level_behind leads l))) (sym (append-nil (leads file)));
        }

no-more : (taken back new : List (List ℕ)) → taken ≡ taken ++ (back ++ new) → back ++ new ≡ []
no-more taken back new e = append_cancel_left taken (back ++ new) [] (sym e ∙ sym (append-nil taken))

no-front : (back new : List (List ℕ)) → back ++ new ≡ [] → back ≡ []
no-front [] new e = refl
no-front (x ∷ back) new e = cc

no-back : (back new : List (List ℕ)) → back ++ new ≡ [] → new ≡ []
no-back [] new e = e
no-back (x ∷ back) new e = cc

-- where all that was seen is taken, it is all files of the levels
pub queue-ends : (leads : List ℕ → List (List ℕ)) (first all taken seen : List (List ℕ))
    → ((file : List ℕ) → among file all ≡ false → leads file ≡ []) → IsDistinct bytes_eq first
    → IsQueue leads first taken seen → taken ≡ seen → taken ≡ levels_to leads first (length all)
queue-ends leads first all taken seen outside distinct q end =
    let l : Level = level_at leads first q.number in
    let new : List (List ℕ) = without (up_to l) (once (flat_map leads q.front)) in
    let none =
    no-more taken q.back new (end ∙ waiting l leads taken seen q.front q.back q.whole q.taken_is q.seen_is) in
    let front : l.files ≡ q.front =
    q.whole ∙ ap (λ xs. q.front ++ xs) (no-front q.back new none) ∙ append-nil q.front in
    let last : (level_at leads first (suc q.number)).files ≡ [] =
    ap (λ xs. without (up_to l) (once (flat_map leads xs))) front ∙ no-back q.back new none in
    q.taken_is ∙ ap (λ xs. l.before ++ xs) (sym front)
    ∙ ended-same leads first (suc q.number) (suc (length all)) last (levels-end leads first all outside distinct)
