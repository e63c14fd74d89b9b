-- Which line of a text is the first that no bundle has, by where its reading ends.
use Rattle.std.proofs.Common.{
  ◌≡◌,
  ◌≤◌,
  ◌<◌,
  ◌+◌,
  ℕ,
  suc,
  Bool,
  true,
  List,
  [],
  ◌∷◌,
  ◌++◌,
  length,
  refl,
  sym,
  ap,
  ◌∙◌,
  subst,
  arith,
  append-nil,
}
use Rattle.std.specs.List.{list_all}
use Rattle.tree_core.specs.declared.question.Question.{Question}
use Rattle.tree_core.specs.declared.question.Reply.{Reply}
use Rattle.trail_bundle.specs.declared.request.BundleRequest.{BundleRequest}
use Rattle.trail_bundle.specs.Bundle.{AreReplies, Bundle, IsBundle, is_reply}
use Rattle.trail_bundle.specs.BundleText.{
  bundle_text,
  counts_line,
  ended,
  reply_line,
  reply_lines,
  request_line,
  request_lines,
}
use Rattle.trail_bundle.specs.Decoding.{IsWrongBy}
use Rattle.trail_bundle.specs.Lines.{first_lines}
use Rattle.trail_bundle.specs.Parts.{LacksReply, LacksRequest, NoCounts}
use Rattle.trail_bundle.proofs.Beginnings.{begins_none, begins_replies, begins_requests}
use Rattle.trail_bundle.proofs.CountLines.{line-counts, same-counts}
use Rattle.trail_bundle.proofs.FirstLines.{all_alike, first-ended, goes_on, peeled}
use Rattle.trail_bundle.proofs.LineEnds.{line-reply, line-request}
use Rattle.trail_bundle.proofs.Prefixes.{replies-prefix}
use Rattle.trail_bundle.proofs.Readings.{same-reply, same-request}

any_request : BundleRequest → Bool
any_request r = true

all_any : (rs : List BundleRequest) → list_all any_request rs ≡ true
unfolding any_request
all_any [] = refl
all_any (r ∷ rs) = all_any rs

one_request : (a b : BundleRequest) → any_request a ≡ true → any_request b ≡ true → request_line a ≡ request_line b
    → a ≡ b
one_request a b h k is = same-request a b is

pub wrong_counts : (text : List ℕ) → NoCounts text → IsWrongBy 1 text
unfolding bundle_text
wrong_counts text none = record {
  wrong = λ w.
      let b = w.bundle in
      none (length b.requests) (length b.replies) (w.begins
      ∙ first-ended (counts_line (length b.requests) (length b.replies)) _ (line-counts _ _));
  least = begins_none text;
}

-- what the lines behind the counts have in common with a bundle's
record Behind (r q n : ℕ) (t : List ℕ) (b : Bundle) : Type 0 where
  requests : r ≡ length b.requests
  replies : q ≡ length b.replies
  more : first_lines n t ≡ first_lines n (request_lines b.requests ++ reply_lines b.replies)

behind : (r q n : ℕ) (text t : List ℕ) (b : Bundle) → text ≡ ended (counts_line r q) ++ t
    → first_lines (suc n) text ≡ first_lines (suc n) (bundle_text b) → Behind r q n t b
unfolding bundle_text
behind r q n text t b front is =
    let two = peeled n (counts_line r q) (counts_line (length b.requests) (length b.replies)) t _ (line-counts r q)
    (line-counts _ _)
    (ap (first_lines (suc n)) (sym front) ∙ is) in
    let counts = same-counts r q (length b.requests) (length b.replies) two.0 in
    record { requests = counts.0; replies = counts.1; more = two.1 }

pub wrong_request : (r q count line : ℕ) (text t : List ℕ) → text ≡ ended (counts_line r q) ++ t → count ≤ r
    → LacksRequest count 2 t line → IsWrongBy line text
wrong_request r q count line text t front some lacks = record {
  wrong = λ w.
      let b = w.bundle in
      let is = w.begins in
      let here : line ≡ suc (suc (length lacks.before)) = omega (arith, lacks.told) in
      let first = subst (λ n. first_lines n text ≡ first_lines n (bundle_text b)) here is in
      let on = behind r q (suc (length lacks.before)) text t b front first in
      let next = goes_on request_line any_request line-request one_request lacks.before b.requests lacks.rest
      (reply_lines b.replies)
      (all_any lacks.before) (all_any b.requests) (omega (arith, lacks.few, on.requests))
      (ap (first_lines (suc (length lacks.before))) (sym lacks.front) ∙ on.more) in
      lacks.none next.next next.first;
  least = λ lines less.
      begins_requests r q text lacks.rest lacks.before (front ∙ ap (λ u. ended (counts_line r q) ++ u) lacks.front)
      (omega (arith, lacks.few))
      lines (omega (arith, lacks.told));
}

-- where all requests are the bundle's
record BehindRequests (q n : ℕ) (t : List ℕ) (b : Bundle) : Type 0 where
  replies : q ≡ length b.replies
  more : first_lines n t ≡ first_lines n (reply_lines b.replies)

behind_requests : (r q n m : ℕ) (text t : List ℕ) (rs : List BundleRequest) (b : Bundle)
    → text ≡ ended (counts_line r q) ++ (request_lines rs ++ t) → length rs ≡ r → m ≡ suc (length rs + n)
    → first_lines m text ≡ first_lines m (bundle_text b) → BehindRequests q n t b
behind_requests r q n m text t rs b front all at is =
    let first = subst (λ n. first_lines n text ≡ first_lines n (bundle_text b)) at is in
    let on = behind r q (length rs + n) text (request_lines rs ++ t) b front first in
    let same = all_alike request_line any_request line-request one_request n (length rs + n) rs b.requests t
    (reply_lines b.replies)
    (all_any rs) (all_any b.requests) (all ∙ on.requests) refl on.more in
    record { replies = on.replies; more = same.1 }

pub wrong_reply : (r q count line : ℕ) (text t : List ℕ) (rs : List BundleRequest) → text ≡ ended (counts_line r q)
    ++ (request_lines rs ++ t) → length rs ≡ r → count ≤ q → LacksReply count (2 + length rs) t line
    → IsWrongBy line text
wrong_reply r q count line text t rs front all some lacks = record {
  wrong = λ w.
      let b = w.bundle in
      let is_bundle = w.is_bundle in
      let is = w.begins in
      let on =
      behind_requests r q (suc (length lacks.before)) line text t rs b front all (omega (arith, lacks.told)) is in
      let next = goes_on reply_line is_reply line-reply same-reply lacks.before b.replies lacks.rest []
      lacks.are.fit is_bundle.replies.fit (omega (arith, lacks.few, on.replies))
      (ap (first_lines (suc (length lacks.before))) (sym lacks.front) ∙ on.more
      ∙ ap (first_lines (suc (length lacks.before))) (sym (append-nil (reply_lines b.replies)))) in
      lacks.none next.next (replies-prefix lacks.before next.next next.later
      (subst AreReplies next.whole_list is_bundle.replies)) next.first;
  least = λ lines less.
      begins_replies r q text lacks.rest rs lacks.before (front
      ∙ ap (λ u. ended (counts_line r q) ++ (request_lines rs ++ u)) lacks.front) all (omega (arith, lacks.few))
      lacks.are
      lines (omega (arith, lacks.told));
}

pub wrong_end : (r q line : ℕ) (text t : List ℕ) (rs : List BundleRequest) (steps : List (Question × Reply))
    → text ≡ ended (counts_line r q) ++ (request_lines rs ++ (reply_lines steps ++ t)) → length rs ≡ r
    → length steps ≡ q → AreReplies steps → 0 < length t → line ≡ 2 + length rs + length steps → IsWrongBy line text
wrong_end r q line text t rs steps front all every are more at = record {
  wrong = λ w.
      let b = w.bundle in
      let is_bundle = w.is_bundle in
      let is = w.begins in
      let on = behind_requests r q (length steps + 1) line text (reply_lines steps ++ t) rs b front all
      (omega (arith, at)) is in
      let same = all_alike reply_line is_reply line-reply same-reply 1 (length steps + 1) steps b.replies t []
      are.fit is_bundle.replies.fit (every ∙ on.replies) refl
      (on.more ∙ ap (first_lines (length steps + 1)) (sym (append-nil (reply_lines b.replies)))) in
      nothing_first t more same.1;
  least =
      λ lines less. begins_replies r q text t rs steps front all (omega (arith, every)) are lines (omega (arith, at));
}
  where
    nothing_first : (t : List ℕ) → 0 < length t → first_lines 1 t ≡ [] → ⊥
    nothing_first [] more is = omega arith
    nothing_first (c ∷ t) more is = cc

-- two bundles that have one text
pub one_text : (b c : Bundle) → IsBundle b → IsBundle c → bundle_text b ≡ bundle_text c → b ≡ c
unfolding bundle_text
one_text b c h k is =
    let r = length b.requests in
    let q = length b.replies in
    let on = behind r q (r + (q + 0)) (bundle_text b) (request_lines b.requests ++ reply_lines b.replies) c refl
    (ap (first_lines (suc (r + (q + 0)))) is) in
    let requests = all_alike request_line any_request line-request one_request (q + 0) (r + (q + 0)) b.requests
    c.requests (reply_lines b.replies) (reply_lines c.replies)
    (all_any b.requests) (all_any c.requests) on.requests refl on.more in
    let ends = λ (steps : List (Question × Reply)). append-nil (reply_lines steps) in
    let replies = all_alike reply_line is_reply line-reply same-reply 0 (q + 0) b.replies c.replies [] []
    h.replies.fit k.replies.fit on.replies refl
    (ap (first_lines (q + 0)) (ends b.replies) ∙ requests.1 ∙ ap (first_lines (q + 0)) (sym (ends c.replies))) in
    λ i. record { requests = requests.0 i; replies = replies.0 i }
