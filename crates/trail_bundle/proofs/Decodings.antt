-- What the decoding of a text comes to, from what its parts come to.
use Rattle.std.proofs.Common.{
  ◌≡◌,
  ◌≤◌,
  ◌<◌,
  ◌+◌,
  ◌-◌,
  ◌^◌,
  min,
  ℕ,
  List,
  [],
  ◌∷◌,
  ◌++◌,
  length,
  Result,
  Ok,
  Err,
  refl,
  sym,
  ap,
  ◌∙◌,
  subst,
  arith,
  append-nil,
}
use Rattle.std.specs.Prelude.{IfErr, IsErrAnd}
use Rattle.tree_core.specs.declared.question.Question.{Question}
use Rattle.tree_core.specs.declared.question.Reply.{Reply}
use Rattle.trail_bundle.specs.declared.decode.Counts.{Counts}
use Rattle.trail_bundle.specs.declared.decode_error.DecodeError.{DecodeError}
use Rattle.trail_bundle.specs.declared.decode_error.DecodeError.TheVariants.{NotABundle, NoMemory}
use Rattle.trail_bundle.specs.declared.request.BundleRequest.{BundleRequest}
use Rattle.trail_bundle.specs.Bundle.{AreReplies}
use Rattle.trail_bundle.specs.BundleText.{bundle_text, counts_line, ended, reply_lines, request_lines}
use Rattle.trail_bundle.specs.Decoding.{IsWrongBy}
use Rattle.trail_bundle.specs.Parts.{AreCounts, IfLine, LacksReply, LacksRequest, NoCounts, TellsLine}
use Rattle.trail_bundle.proofs.Wrong.{wrong_counts, wrong_end, wrong_reply, wrong_request}

-- an error is handed on
pub raised : {A : Type 0} (Holds : ℕ → Type 0) (e : DecodeError) (r : Result A DecodeError) → IsErrAnd r (λ x. x ≡ e)
    → IfLine e Holds → IfErr r (λ x. IfLine x Holds)
raised Holds e (Ok a) is h = elim is [ ]
raised Holds e (Err x) is h = subst (λ x. IfLine x Holds) (sym is) h

pub counts_told : (text : List ℕ) (e : DecodeError) → TellsLine e 1 (NoCounts text)
    → IfLine e (λ line. IsWrongBy line text)
counts_told text (NotABundle line) h = subst (λ line. IsWrongBy line text) (sym h.0) (wrong_counts text h.1)
counts_told text NoMemory h = tt

pub requests_told : (r q count : ℕ) (text t : List ℕ) (e : DecodeError) → text ≡ ended (counts_line r q) ++ t
    → count ≡ min r (2 ^ 64 - 1) → IfLine e (LacksRequest count 2 t) → IfLine e (λ line. IsWrongBy line text)
requests_told r q count text t (NotABundle line) front is h = wrong_request r q count line text t front (omega arith) h
requests_told r q count text t NoMemory front is h = tt

-- so many lines as were read are fewer than the largest number
pub all_read : (r count lines : ℕ) → count ≡ min r (2 ^ 64 - 1) → count + 2 ≤ lines → lines ≤ 2 ^ 63 → count ≡ r
all_read r count lines is many few = omega arith

pub replies_told : (r q count : ℕ) (text t u : List ℕ) (rs : List BundleRequest) (e : DecodeError)
    → text ≡ ended (counts_line r q) ++ t → t ≡ request_lines rs ++ u → length rs ≡ r → count ≡ min q (2 ^ 64 - 1)
    → IfLine e (LacksReply count (2 + length rs) u) → IfLine e (λ line. IsWrongBy line text)
replies_told r q count text t u rs (NotABundle line) front then all is h =
    wrong_reply r q count line text u rs (front ∙ ap (λ t. ended (counts_line r q) ++ t) then) all (omega arith) h
replies_told r q count text t u rs NoMemory front then all is h = tt

-- the parts of a text, one behind the other
parts : (r q : ℕ) (text t u v : List ℕ) (rs : List BundleRequest) (steps : List (Question × Reply))
    → text ≡ ended (counts_line r q) ++ t → t ≡ request_lines rs ++ u → u ≡ reply_lines steps ++ v
    → text ≡ ended (counts_line r q) ++ (request_lines rs ++ (reply_lines steps ++ v))
parts r q text t u v rs steps front then last =
    front ∙ ap (λ t. ended (counts_line r q) ++ t) (then ∙ ap (λ u. request_lines rs ++ u) last)

pub end_told : (r q line : ℕ) (text t u v : List ℕ) (rs : List BundleRequest) (steps : List (Question × Reply))
    → text ≡ ended (counts_line r q) ++ t → t ≡ request_lines rs ++ u → u ≡ reply_lines steps ++ v → length rs ≡ r
    → length steps ≡ q → AreReplies steps → 0 < length v → line ≡ 2 + length rs + length steps → IsWrongBy line text
end_told r q line text t u v rs steps front then last all every are more at =
    wrong_end r q line text v rs steps (parts r q text t u v rs steps front then last) all every are more at

nothing : (v : List ℕ) → length v ≡ 0 → v ≡ []
nothing [] h = refl
nothing (c ∷ v) h = absurd (omega arith)

pub decoded : (r q : ℕ) (text t u v : List ℕ) (rs : List BundleRequest) (steps : List (Question × Reply))
    → text ≡ ended (counts_line r q) ++ t → t ≡ request_lines rs ++ u → u ≡ reply_lines steps ++ v → length rs ≡ r
    → length steps ≡ q → length v ≡ 0 → text ≡ bundle_text (record { requests = rs; replies = steps })
unfolding bundle_text
decoded r q text t u v rs steps front then last all every none =
    parts r q text t u v rs steps front then last
    ∙ ap (λ v. ended (counts_line r q) ++ (request_lines rs ++ (reply_lines steps ++ v))) (nothing v none)
    ∙ ap (λ t. ended (counts_line r q) ++ (request_lines rs ++ t)) (append-nil (reply_lines steps))
    ∙ ap (λ n. ended (counts_line n q) ++ (request_lines rs ++ reply_lines steps)) (sym all)
    ∙ ap (λ n. ended (counts_line (length rs) n) ++ (request_lines rs ++ reply_lines steps)) (sym every)

-- The counts were read from the front of a text.
pub record CountsRead (text t : List ℕ) (counts : Counts) : Type 0 where
  pub requests : ℕ
  pub replies : ℕ
  pub are : AreCounts requests replies counts
  pub front : text ≡ ended (counts_line requests replies) ++ t

pub counts_read : (text rest t : List ℕ) (counts : Counts) → rest ≡ text → (r : ℕ) × (q : ℕ) × AreCounts r q counts
    × (rest ≡ ended (counts_line r q) ++ t) → CountsRead text t counts
counts_read text rest t counts whole h = record { requests = h.0; replies = h.1; are = h.2; front = sym whole ∙ h.3 }

pub without_counts : (text rest : List ℕ) (n : ℕ) (e : DecodeError) → rest ≡ text → n ≡ 1
    → TellsLine e n (NoCounts rest) → IfLine e (λ line. IsWrongBy line text)
without_counts text rest n e whole first h =
    counts_told text e (subst (λ t. TellsLine e 1 (NoCounts t)) whole
    (subst (λ n. TellsLine e n (NoCounts rest)) first h))

pub without_request : (text t : List ℕ) (counts : Counts) (m : ℕ) (e : DecodeError) → CountsRead text t counts → m ≡ 2
    → IfLine e (LacksRequest counts.requests m t) → IfLine e (λ line. IsWrongBy line text)
without_request text t counts m e read at h =
    requests_told read.requests read.replies counts.requests text t e read.front read.are.of_requests
    (subst (λ n. IfLine e (LacksRequest counts.requests n t)) at h)

pub without_reply : (text t u : List ℕ) (counts : Counts) (rs : List BundleRequest) (m : ℕ) (e : DecodeError)
    → CountsRead text t counts → t ≡ request_lines rs ++ u → length rs ≡ counts.requests → m ≡ 2 + counts.requests
    → m + length u ≤ 2 ^ 63 → IfLine e (LacksReply counts.replies m u) → IfLine e (λ line. IsWrongBy line text)
without_reply text t u counts rs m e read then all at room h =
    let whole : counts.requests ≡ read.requests =
    all_read read.requests counts.requests m read.are.of_requests (omega arith) (omega arith) in
    let here : m ≡ 2 + length rs = omega arith in
    replies_told read.requests read.replies counts.replies text t u rs e read.front then (all ∙ whole)
    read.are.of_replies
    (subst (λ n. IfLine e (LacksReply counts.replies n u)) here h)

-- All lines were read, and more or nothing is left.
pub record LinesRead (text t u v : List ℕ) (counts : Counts) (rs : List BundleRequest) (steps : List (Question × Reply))
    (m : ℕ) : Type 0 where
  pub read : CountsRead text t counts
  pub then : t ≡ request_lines rs ++ u
  pub last : u ≡ reply_lines steps ++ v
  pub all : length rs ≡ counts.requests
  pub every : length steps ≡ counts.replies
  pub at : m ≡ 2 + counts.requests + counts.replies
  pub room : m + length v ≤ 2 ^ 63

pub with_more : (text t u v : List ℕ) (counts : Counts) (rs : List BundleRequest) (steps : List (Question × Reply))
    (m : ℕ) → LinesRead text t u v counts rs steps m → AreReplies steps → 0 < length v → IsWrongBy m text
with_more text t u v counts rs steps m lines are more =
    let read = lines.read in
    let whole : counts.requests ≡ read.requests =
    all_read read.requests counts.requests m read.are.of_requests (omega (arith, lines.at))
    (omega (arith, lines.room)) in
    let every : counts.replies ≡ read.replies =
    all_read read.replies counts.replies m read.are.of_replies (omega (arith, lines.at))
    (omega (arith, lines.room)) in
    end_told read.requests read.replies m text t u v rs steps read.front lines.then lines.last (lines.all ∙ whole)
    (lines.every ∙ every) are more
    (omega (arith, lines.at, lines.all, lines.every))

pub all_decoded : (text t u v : List ℕ) (counts : Counts) (rs : List BundleRequest) (steps : List (Question × Reply))
    (m : ℕ) → LinesRead text t u v counts rs steps m → length v ≡ 0
    → text ≡ bundle_text (record { requests = rs; replies = steps })
all_decoded text t u v counts rs steps m lines none =
    let read = lines.read in
    let whole : counts.requests ≡ read.requests =
    all_read read.requests counts.requests m read.are.of_requests (omega (arith, lines.at))
    (omega (arith, lines.room)) in
    let every : counts.replies ≡ read.replies =
    all_read read.replies counts.replies m read.are.of_replies (omega (arith, lines.at))
    (omega (arith, lines.room)) in
    decoded read.requests read.replies text t u v rs steps read.front lines.then lines.last (lines.all ∙ whole)
    (lines.every ∙ every) none
