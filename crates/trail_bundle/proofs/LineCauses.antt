-- Why the next line of a text isn't that of the counts, of a request or of a reply.
use Rattle.std.proofs.Common.{
  ◌≡◌,
  ◌<◌,
  ◌+◌,
  ℕ,
  true,
  false,
  List,
  [],
  ◌∷◌,
  ◌++◌,
  length,
  Option,
  Some,
  None,
  IfSome,
  sym,
  ap,
  ◌∙◌,
  arith,
  append-nil,
  append_assoc,
}
use Rattle.std.specs.Prelude.{codes, IfNone}
use Rattle.std.proofs.lemmas.Grind.{flat_map-append}
use Rattle.std.proofs.lemmas.List.{length_push}
use Rattle.sugar_path.specs.Front.{after}
use Rattle.sugar_path.proofs.Words.{after-append, after-some}
use Rattle.tree_core.specs.declared.question.Question.{Question}
use Rattle.tree_core.specs.declared.question.Reply.{Reply}
use Rattle.trail_bundle.specs.declared.request.BundleRequest.{BundleRequest}
use Rattle.trail_bundle.specs.declared.decode.Counts.{Counts}
use Rattle.trail_bundle.specs.declared.decode_error.DecodeError.{DecodeError}
use Rattle.trail_bundle.specs.declared.decode_error.DecodeError.TheVariants.{NotABundle, NoMemory}
use Rattle.trail_bundle.specs.Bundle.{AreReplies, is_reply}
use Rattle.trail_bundle.specs.BundleText.{counts_line, ended, reply_line, reply_lines, request_line, request_lines}
use Rattle.trail_bundle.specs.Counts.{count_text}
use Rattle.trail_bundle.specs.Lines.{first_lines, is_line, lacks}
use Rattle.trail_bundle.specs.Parts.{
  AreCounts,
  IfLine,
  IsNextReply,
  LacksReply,
  LacksRequest,
  NoCounts,
  NoReply,
  NoRequest,
  TellsLine,
}
use Rattle.trail_bundle.specs.Steps.{above_all}
use Rattle.trail_bundle.proofs.CountLines.{count-lacks, line-counts}
use Rattle.trail_bundle.proofs.FirstLines.{first-same, same_parts, unended}
use Rattle.trail_bundle.proofs.LineEnds.{line-reply, line-request}
use Rattle.trail_bundle.proofs.Orders.{above-last, fit-last}
use Rattle.trail_bundle.proofs.Readings.{same-reply}

-- no line end is left
pub no_counts-unended : (rest : List ℕ) → is_line rest ≡ true → NoCounts rest
no_counts-unended rest h = λ r q is. unended rest (counts_line r q) h is

pub no_request-unended : (rest : List ℕ) → is_line rest ≡ true → NoRequest rest
no_request-unended rest h = λ r is. unended rest (request_line r) h is

pub no_reply-unended : (before : List (Question × Reply)) (rest : List ℕ) → is_line rest ≡ true → NoReply before rest
no_reply-unended before rest h = λ step are is. unended rest (reply_line step) h is

-- the line is another one
pub no_counts-other : (line rest more : List ℕ) → rest ≡ ended line ++ more → is_line line ≡ true
    → ((r q : ℕ) → line ≡ counts_line r q → ⊥) → NoCounts rest
no_counts-other line rest more front h none = λ r q is.
    none r q (first-same line more (counts_line r q) h (line-counts r q) (ap (first_lines 1) (sym front) ∙ is))

pub no_request-other : (line rest more : List ℕ) → rest ≡ ended line ++ more → is_line line ≡ true
    → ((r : BundleRequest) → line ≡ request_line r → ⊥) → NoRequest rest
no_request-other line rest more front h none = λ r is.
    none r (first-same line more (request_line r) h (line-request r) (ap (first_lines 1) (sym front) ∙ is))

pub no_reply-other : (before : List (Question × Reply)) (line rest more : List ℕ) → rest ≡ ended line ++ more
    → is_line line ≡ true → ((step : Question × Reply) → is_reply step ≡ true → line ≡ reply_line step → ⊥)
    → NoReply before rest
no_reply-other before line rest more front h none = λ step are is.
    none step (fit-last before step are.fit) (first-same line more (reply_line step) h (line-reply step)
    (ap (first_lines 1) (sym front) ∙ is))

-- the line is that of a reply which doesn't stand behind the others
pub no_reply-early : (before : List (Question × Reply)) (line rest more : List ℕ) (found : Question × Reply)
    → rest ≡ ended line ++ more → is_line line ≡ true → line ≡ reply_line found → is_reply found ≡ true
    → above_all found.0 before ≡ false → NoReply before rest
no_reply-early before line rest more found front h told fits early = λ step are is.
    let same = same-reply step found (fit-last before step are.fit) fits
    (sym (first-same line more (reply_line step) h (line-reply step) (ap (first_lines 1) (sym front) ∙ is)) ∙ told) in
    let yes =
    sym (above-last before step are.ascend) ∙ ap (λ (s : Question × Reply). above_all s.0 before) same ∙ early in
    let contrary : true ≡ false = yes in
    cc

-- one line more
pub one_more_request : (text rest more : List ℕ) (rs : List BundleRequest) (r : BundleRequest) → text ≡ request_lines rs
    ++ rest → rest ≡ ended (request_line r) ++ more → text ≡ request_lines (rs ++ r ∷ []) ++ more
one_more_request text rest more rs r front next =
    front ∙ ap (λ t. request_lines rs ++ t) next ∙ sym (append_assoc (request_lines rs) (ended (request_line r)) more)
    ∙ ap (λ t. t ++ more) (sym (flat_map-append (λ r. ended (request_line r)) rs (r ∷ [])
    ∙ ap (λ t. request_lines rs ++ t) (append-nil (ended (request_line r)))))

pub one_more_reply : (text rest more : List ℕ) (before after : List (Question × Reply)) → text ≡ reply_lines before
    ++ rest → IsNextReply before after rest more → text ≡ reply_lines after ++ more
one_more_reply text rest more before after front next =
    let step = next.step in
    front ∙ ap (λ t. reply_lines before ++ t) next.front
    ∙ sym (append_assoc (reply_lines before) (ended (reply_line step)) more)
    ∙ ap (λ t. t ++ more) (sym (flat_map-append (λ step. ended (reply_line step)) before (step ∷ [])
    ∙ ap (λ t. reply_lines before ++ t) (append-nil (ended (reply_line step)))))
    ∙ ap (λ steps. reply_lines steps ++ more) (sym next.steps)

pub one_longer : (before after : List (Question × Reply)) (text rest : List ℕ) → IsNextReply before after text rest
    → length after ≡ length before + 1
one_longer before after text rest next = ap length next.steps ∙ length_push before next.step

-- behind some requests, or replies, none follows
pub lacks_request : (count number k n : ℕ) (text rest : List ℕ) (before : List BundleRequest) (e : DecodeError)
    → text ≡ request_lines before ++ rest → length before ≡ k → k < count → n ≡ number + k
    → TellsLine e n (NoRequest rest) → IfLine e (LacksRequest count number text)
lacks_request count number k n text rest before (NotABundle line) front long few at told = record {
  before = before;
  rest = rest;
  front = front;
  few = omega arith;
  told = omega (arith, told.0);
  none = told.1;
}
lacks_request count number k n text rest before NoMemory front long few at told = tt

pub lacks_reply : (count number k n : ℕ) (text rest : List ℕ) (before : List (Question × Reply)) (e : DecodeError)
    → text ≡ reply_lines before ++ rest → AreReplies before → length before ≡ k → k < count → n ≡ number + k
    → TellsLine e n (NoReply before rest) → IfLine e (LacksReply count number text)
lacks_reply count number k n text rest before (NotABundle line) front are long few at told = record {
  before = before;
  rest = rest;
  are = are;
  front = front;
  few = omega arith;
  told = omega (arith, told.0);
  none = told.1;
}
lacks_reply count number k n text rest before NoMemory front are long few at told = tt

-- what two counts come to, from their parts
pub counts_apart : (text a b : List ℕ) (o : Option Counts) → text ≡ a ++ 32 ∷ b → lacks 32 a ≡ true
    → IfNone o ((r q : ℕ) → a ≡ count_text r → b ≡ count_text q → ⊥)
    → IfNone o ((r q : ℕ) → text ≡ count_text r ++ 32 ∷ count_text q → ⊥)
counts_apart text a b (Some counts) front h none = tt
counts_apart text a b None front h none = λ r q is.
    let two = same_parts 32 a (count_text r) b (count_text q) h (count-lacks 32 (omega arith) r) (sym front ∙ is) in
    none r q two.0 two.1

pub counts_behind : (line t : List ℕ) (o : Option Counts) → after (codes "trail-bundle 1 ") line ≡ Some t
    → IfSome o (λ counts. (r : ℕ) × (q : ℕ) × AreCounts r q counts × (t ≡ count_text r ++ 32 ∷ count_text q))
    → IfSome o (λ counts. (r : ℕ) × (q : ℕ) × AreCounts r q counts × (line ≡ counts_line r q))
unfolding counts_line
counts_behind line t None is h = tt
counts_behind line t (Some counts) is h =
    (h.0, h.1, h.2, after-some (codes "trail-bundle 1 ") line t is ∙ ap (λ t. codes "trail-bundle 1 " ++ t) h.3)

pub counts_not_behind : (line t : List ℕ) (o : Option Counts) → after (codes "trail-bundle 1 ") line ≡ Some t
    → IfNone o ((r q : ℕ) → t ≡ count_text r ++ 32 ∷ count_text q → ⊥)
    → IfNone o ((r q : ℕ) → line ≡ counts_line r q → ⊥)
unfolding counts_line
counts_not_behind line t (Some counts) is h = tt
counts_not_behind line t None is h = λ r q told.
    let found : Some t ≡ Some (count_text r ++ 32 ∷ count_text q) = sym is ∙ ap (after (codes "trail-bundle 1 ")) told
    ∙ after-append (codes "trail-bundle 1 ") (count_text r ++ 32 ∷ count_text q) in
    h r q (cc)

pub not_behind : (line : List ℕ) → after (codes "trail-bundle 1 ") line ≡ None → (r q : ℕ) → line ≡ counts_line r q → ⊥
unfolding counts_line
not_behind line is r q told =
    let found : None ≡ Some (count_text r ++ 32 ∷ count_text q) = sym is ∙ ap (after (codes "trail-bundle 1 ")) told
    ∙ after-append (codes "trail-bundle 1 ") (count_text r ++ 32 ∷ count_text q) in
    cc
