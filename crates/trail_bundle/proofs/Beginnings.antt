-- Lines that are read from a text's front are the first ones of some bundle.
use Rattle.std.proofs.Common.{
  ◌≡◌,
  ◌≤◌,
  ◌<◌,
  ◌+◌,
  ◌-◌,
  ℕ,
  zero,
  suc,
  true,
  false,
  List,
  [],
  ◌∷◌,
  ◌++◌,
  Ordering,
  Less,
  Equal,
  Greater,
  length,
  refl,
  sym,
  ap,
  ◌∙◌,
  subst,
  arith,
  append_assoc,
  append-nil,
  length-append,
}
use Rattle.std.specs.Cmp.{nat_cmp_total, tied_itself}
use Rattle.std.specs.Cmp.Lexicographic.{slice_cmp}
use Rattle.std.specs.List.{flat_map}
use Rattle.std.specs.Ordering.{is_lt, nat_cmp, ordering_then}
use Rattle.std.specs.Prelude.{replicate}
use Rattle.std.proofs.lemmas.Grind.{flat_map-append}
use Rattle.std.proofs.lemmas.List.{length-replicate}
use Rattle.sugar_path.proofs.Bools.{and_both, and_left, and_right}
use Rattle.swc_loader.specs.declared.resolution.FileName.TheVariants.{Anon}
use Rattle.tree_core.specs.Question.{path_asked}
use Rattle.tree_core.specs.declared.question.Question.{Question}
use Rattle.tree_core.specs.declared.question.Question.TheVariants.{File}
use Rattle.tree_core.specs.declared.question.Reply.{Reply}
use Rattle.tree_core.specs.declared.question.Reply.TheVariants.{Flag}
use Rattle.trail_bundle.specs.declared.request.BundleRequest.{BundleRequest}
use Rattle.trail_bundle.specs.Bundle.{AreReplies, Bundle, IsBundle}
use Rattle.trail_bundle.specs.BundleText.{
  bundle_text,
  counts_line,
  ended,
  reply_line,
  reply_lines,
  request_line,
  request_lines,
}
use Rattle.trail_bundle.specs.Decoding.{BeginsABundle}
use Rattle.trail_bundle.specs.Lines.{first_lines, is_line}
use Rattle.trail_bundle.specs.QuestionOrder.{question_cmp, question_cmp_total, rank}
use Rattle.trail_bundle.specs.Steps.{above_all}
use Rattle.trail_bundle.proofs.CountLines.{line-counts}
use Rattle.trail_bundle.proofs.FirstLines.{ended_first}
use Rattle.trail_bundle.proofs.LineEnds.{line-reply, line-request}
use Rattle.trail_bundle.proofs.Orders.{above-last, replies-behind}

-- so many first lines of two texts are the same
abbrev AreAlike : ℕ → List ℕ → List ℕ → Type 0
AreAlike k t u = (m : ℕ) → m ≤ k → first_lines m t ≡ first_lines m u

none_alike : (t u : List ℕ) → AreAlike 0 t u
none_alike t u zero within = refl
none_alike t u (suc m) within = absurd (omega arith)

line_alike : (k : ℕ) (line t u : List ℕ) → is_line line ≡ true → AreAlike k t u
    → AreAlike (suc k) (ended line ++ t) (ended line ++ u)
line_alike k line t u whole alike zero within = refl
line_alike k line t u whole alike (suc m) within =
    ended_first m line t whole ∙ ap (λ r. line ++ 10 ∷ r) (alike m (omega arith)) ∙ sym (ended_first m line u whole)

module _ {A : Type 0} (line : A → List ℕ) (whole : (a : A) → is_line (line a) ≡ true) where
  lines_alike : (k : ℕ) (xs : List A) (t u : List ℕ) → AreAlike k t u
      → AreAlike (length xs + k) (flat_map (λ a. ended (line a)) xs ++ t) (flat_map (λ a. ended (line a)) xs ++ u)
  lines_alike k [] t u alike m within = alike m (omega arith)
  lines_alike k (a ∷ xs) t u alike m within =
      let more = flat_map (λ a. ended (line a)) xs in
      ap (first_lines m) (append_assoc (ended (line a)) more t)
      ∙ line_alike (length xs + k) (line a) (more ++ t) (more ++ u) (whole a) (lines_alike k xs t u alike) m
      (omega arith)
      ∙ ap (first_lines m) (sym (append_assoc (ended (line a)) more u))

-- a longer path stands behind
longer : (p : List ℕ) → slice_cmp nat_cmp p (p ++ 0 ∷ []) ≡ Less
longer [] = refl
longer (c ∷ p) = ap (λ r. ordering_then r (slice_cmp nat_cmp p (p ++ 0 ∷ []))) (tied_itself nat_cmp_total c) ∙ longer p

abbrev next_question : Question → Question
next_question q = File (path_asked q ++ 0 ∷ [])

behind_one : (q : Question) → question_cmp q (next_question q) ≡ Less
behind_one q = ap (λ r. ordering_then r (nat_cmp (rank q) (rank (next_question q)))) (longer (path_asked q))

less : (p q r : Question) → is_lt (question_cmp p q) ≡ true → question_cmp q r ≡ Less → is_lt (question_cmp p r) ≡ true
less p q r h k = by_order (question_cmp p q) refl h
  where
    by_order : (c : Ordering) → question_cmp p q ≡ c → is_lt c ≡ true → is_lt (question_cmp p r) ≡ true
    by_order Less is h = ap is_lt (question_cmp_total.trans p q r is k)
    by_order Equal is h = cc
    by_order Greater is h = cc

above_more : (q r : Question) (steps : List (Question × Reply)) → above_all q steps ≡ true → question_cmp q r ≡ Less
    → above_all r steps ≡ true
above_more q r [] h k = refl
above_more q r (s ∷ steps) h k = and_both (is_lt (question_cmp s.0 r)) _ (less s.0 q r (and_left _ _ h) k)
    (above_more q r steps (and_right (is_lt (question_cmp s.0 q)) _ h) k)

above_behind : (q : Question) (steps : List (Question × Reply)) (last : Question × Reply) → above_all q steps ≡ true
    → is_lt (question_cmp last.0 q) ≡ true → above_all q (steps ++ last ∷ []) ≡ true
above_behind q [] last h k = and_both (is_lt (question_cmp last.0 q)) true k refl
above_behind q (s ∷ steps) last h k = and_both (is_lt (question_cmp s.0 q)) _ (and_left _ _ h)
    (above_behind q steps last (and_right (is_lt (question_cmp s.0 q)) _ h) k)

-- replies go on
abbrev next_step : Question × Reply → Question × Reply
next_step last = (next_question last.0, Flag false)

one_more : (before : List (Question × Reply)) (last : Question × Reply) → AreReplies (before ++ last ∷ [])
    → AreReplies ((before ++ last ∷ []) ++ next_step last ∷ [])
one_more before last are =
    let next = next_question last.0 in
    let above = above_more last.0 next before (above-last before last are.ascend) (behind_one last.0) in
    replies-behind (before ++ last ∷ []) (next_step last) are
    (above_behind next before last above (ap is_lt (behind_one last.0))) refl

-- there are so many replies, and these stand in front
record Longer (n : ℕ) (before : List (Question × Reply)) : Type 0 where
  later : List (Question × Reply)
  long : length later ≡ n
  are : AreReplies (before ++ later)

go_on : (n : ℕ) (before : List (Question × Reply)) (last : Question × Reply) → AreReplies (before ++ last ∷ [])
    → Longer n (before ++ last ∷ [])
go_on zero before last are = record {
  later = [];
  long = refl;
  are = subst AreReplies (sym (append-nil (before ++ last ∷ []))) are;
}
go_on (suc n) before last are =
    let rest = go_on n (before ++ last ∷ []) (next_step last) (one_more before last are) in record {
      later = next_step last ∷ rest.later;
      long = ap suc rest.long;
      are = subst AreReplies (append_assoc (before ++ last ∷ []) (next_step last ∷ []) rest.later) rest.are;
    }

-- the last of some
record HasLast (steps : List (Question × Reply)) : Type 0 where
  before : List (Question × Reply)
  last : Question × Reply
  whole_list : steps ≡ before ++ last ∷ []

last_of : (s : Question × Reply) (steps : List (Question × Reply)) → HasLast (s ∷ steps)
last_of s [] = record { before = []; last = s; whole_list = refl }
last_of s (t ∷ steps) =
    let rest = last_of t steps in
    record { before = s ∷ rest.before; last = rest.last; whole_list = ap (λ l. s ∷ l) rest.whole_list }

abbrev first_step : Question × Reply
first_step = (File [], Flag false)

are_none : AreReplies []
are_none = record { ascend = refl; fit = refl }

longer_replies : (n : ℕ) (before : List (Question × Reply)) → AreReplies before → Longer n before
longer_replies n (s ∷ steps) are =
    let split = last_of s steps in
    subst (Longer n) (sym split.whole_list) (go_on n split.before split.last (subst AreReplies split.whole_list are))
longer_replies zero [] are = record { later = []; long = refl; are = are }
longer_replies (suc n) [] are =
    let rest = go_on n [] first_step (replies-behind [] first_step are_none refl refl) in record {
      later = first_step ∷ rest.later;
      long = ap suc rest.long;
      are = rest.are;
    }

abbrev any_request : BundleRequest
any_request = record { importer = Anon; specifier = [] }

-- a bundle of so many requests and replies whose lines are the ones behind the counts
abbrev pub lines_behind : Bundle → List ℕ
lines_behind b = request_lines b.requests ++ reply_lines b.replies

begun : (r q k : ℕ) (text t : List ℕ) (b : Bundle) → IsBundle b → length b.requests ≡ r → length b.replies ≡ q
    → text ≡ ended (counts_line r q) ++ t → AreAlike k t (lines_behind b)
    → (lines : ℕ) → lines ≤ suc k → BeginsABundle lines text
unfolding bundle_text
begun r q k text t b is_bundle requests replies front alike lines within = record {
  bundle = b;
  is_bundle = is_bundle;
  begins =
      ap (first_lines lines) front
      ∙ line_alike k (counts_line r q) t (lines_behind b) (line-counts r q) alike lines within
      ∙ ap (λ n. first_lines lines (ended (counts_line n q) ++ lines_behind b)) (sym requests)
      ∙ ap (λ n. first_lines lines (ended (counts_line (length b.requests) n) ++ lines_behind b)) (sym replies);
}

-- no line at all
pub begins_none : (text : List ℕ) (lines : ℕ) → lines < 1 → BeginsABundle lines text
begins_none text zero less =
    record { bundle = record { requests = []; replies = [] }; is_bundle = record { replies = are_none }; begins = refl }
begins_none text (suc n) less = absurd (omega arith)

-- the counts and some requests
pub begins_requests : (r q : ℕ) (text rest : List ℕ) (before : List BundleRequest) → text ≡ ended (counts_line r q)
    ++ (request_lines before ++ rest) → length before ≤ r
    → (lines : ℕ) → lines ≤ suc (length before) → BeginsABundle lines text
begins_requests r q text rest before front few lines within =
    let more = replicate (r - length before) any_request in
    let replies = longer_replies q [] are_none in
    let b : Bundle = record { requests = before ++ more; replies = replies.later } in
    let long : length (before ++ more) ≡ r = length-append before more
    ∙ ap (λ n. length before + n) (length-replicate (r - length before) any_request) ∙ omega arith in
    let behind : lines_behind b ≡ request_lines before ++ (request_lines more ++ reply_lines replies.later) =
    ap (λ t. t ++ reply_lines replies.later) (flat_map-append (λ r. ended (request_line r)) before more)
    ∙ append_assoc (request_lines before) (request_lines more) (reply_lines replies.later) in
    begun r q (length before) text (request_lines before ++ rest) b (record { replies = replies.are }) long replies.long
    front
    (λ m less. lines_alike request_line line-request 0 before rest (request_lines more ++ reply_lines replies.later)
    (none_alike _ _) m (omega arith) ∙ ap (first_lines m) (sym behind))
    lines within

-- the counts, all requests and some replies
pub begins_replies : (r q : ℕ) (text rest : List ℕ) (rs : List BundleRequest) (before : List (Question × Reply))
    → text ≡ ended (counts_line r q) ++ (request_lines rs ++ (reply_lines before ++ rest)) → length rs ≡ r
    → length before ≤ q → AreReplies before
    → (lines : ℕ) → lines ≤ suc (length rs + length before) → BeginsABundle lines text
begins_replies r q text rest rs before front all few are lines within =
    let more = longer_replies (q - length before) before are in
    let b : Bundle = record { requests = rs; replies = before ++ more.later } in
    let long : length (before ++ more.later) ≡ q =
    length-append before more.later ∙ ap (λ n. length before + n) more.long ∙ omega arith in
    let behind : lines_behind b ≡ request_lines rs ++ (reply_lines before ++ reply_lines more.later) =
    ap (λ t. request_lines rs ++ t) (flat_map-append (λ step. ended (reply_line step)) before more.later) in
    begun r q (length rs + length before) text (request_lines rs ++ (reply_lines before ++ rest)) b
    (record { replies = more.are }) all long front
    (λ m less.
    lines_alike request_line line-request (length before) rs (reply_lines before ++ rest)
    (reply_lines before ++ reply_lines more.later)
    (λ m less. lines_alike reply_line line-reply 0 before rest (reply_lines more.later) (none_alike _ _) m
    (omega arith)) m less
    ∙ ap (first_lines m) (sym behind))
    lines within
