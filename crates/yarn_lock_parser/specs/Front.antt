-- What a text's front is, and what follows it. A reading of a front is what the front says, and the text that follows
-- it. A `do` here is over readings: it goes on with what a reading gives, and gives nothing where one of them doesn't
-- read.
use Rattle.std.specs.Prelude.{
  ◌≡◌,
  ◌++◌,
  ℕ,
  Bool,
  zero,
  suc,
  ◌==◌,
  ◌-◌,
  if◌then◌else◌,
  List,
  [],
  ◌∷◌,
  length,
  take,
  drop,
  Option,
  Some,
  None,
  option_map,
  unwrap_or,
}
use Rattle.std.specs.Option.{option_or}
use Rattle.std.specs.List.{prefix_len}
use Rattle.sugar_path.specs.Front.{◌>>=◌, after, before}
use Rattle.yarn_lock_parser.specs.ByteSet.{is_blank, is_no_line_feed, is_no_quote}

-- what follows a word that may stand at the front
abbrev pub after_optional : List ℕ → List ℕ → List ℕ
after_optional word t = unwrap_or (after word t) t

-- what stands before a word that may stand at the end
abbrev pub before_optional : List ℕ → List ℕ → List ℕ
before_optional word t = unwrap_or (before word t) t

-- the longest run of a set's bytes at the front, and what follows it
unfoldable pub run : (ℕ → Bool) → List ℕ → List ℕ × List ℕ
run set t = (take (prefix_len set t) t, drop (prefix_len set t) t)

-- the longest run of a set's bytes at the front, where it has one byte or more
unfoldable pub some_run : (ℕ → Bool) → List ℕ → Option (List ℕ × List ℕ)
some_run set t = if length (run set t).0 == 0 then None else Some (run set t)

-- what follows one blank or more
abbrev pub after_blanks : List ℕ → Option (List ℕ)
after_blanks t = option_map (λ blanks. blanks.1) (some_run is_blank t)

-- what follows a line feed, or a carriage return and a line feed
unfoldable pub after_line_end : List ℕ → Option (List ℕ)
after_line_end t = option_or (after (10 ∷ []) t) (after (13 ∷ 10 ∷ []) t)

-- a line, without its line feed
unfoldable pub line_at : List ℕ → Option (List ℕ × List ℕ)
line_at t = do
  rest ← after (10 ∷ []) (run is_no_line_feed t).1
  Some ((run is_no_line_feed t).0, rest)

-- a text between quotes: it ends at the next quote
unfoldable pub quoted_at : List ℕ → Option (List ℕ × List ℕ)
quoted_at t = do
  text ← after (34 ∷ []) t
  rest ← after (34 ∷ []) (run is_no_quote text).1
  Some ((run is_no_quote text).0, rest)

-- the rest of a text behind some front
pub record IsRest (t rest : List ℕ) : Type 0 where
  pub prior : List ℕ
  pub is : t ≡ prior ++ rest

-- the front of a text, up to a rest of it
unfoldable pub front : List ℕ → List ℕ → List ℕ
front t rest = take (length t - length rest) t

-- at most so many parts, one after the other
abbrev pub up_to : {A : Type 0} → (List ℕ → Option (A × List ℕ)) → ℕ → List ℕ → List A × List ℕ
up_to part zero t = ([], t)
up_to part (suc n) t = elim (part t) [
  | None ↦ ([], t)
  | Some first ↦ (first.0 ∷ (up_to part n first.1).0, (up_to part n first.1).1)
]

-- as many parts as fit, one after the other: each takes a byte or more, so there are no more of them than bytes
unfoldable pub every : {A : Type 0} → (List ℕ → Option (A × List ℕ)) → List ℕ → List A × List ℕ
every part t = up_to part (length t) t

-- as many parts as fit, where one or more do
unfoldable pub some : {A : Type 0} → (List ℕ → Option (A × List ℕ)) → List ℕ → Option (List A × List ℕ)
some part t = if length (every part t).0 == 0 then None else Some (every part t)
