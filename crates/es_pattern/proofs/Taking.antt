-- What completes a reading, with a character in front, is taken, whatever the mode.
use Rattle.std.proofs.Common.{◌≡◌, ℕ, List, ◌∷◌, refl}
use Rattle.es_pattern.specs.Tree.{Tree}
use Rattle.es_pattern.specs.declared.mode.Mode.{Mode}
use Rattle.es_pattern.specs.declared.mode.Mode.TheVariants.{
  Term,
  Atom,
  Quantified,
  Zero,
  Braces,
  Escape,
  Paren,
  ParenQuestion,
  ClassOpen,
  ClassFirst,
  ClassNext,
  ClassNextDash,
  ClassNextDashes,
}
use Rattle.es_pattern.specs.declared.mode.Mode.TheVariants as modes
use Rattle.es_pattern.specs.Reading.{Reading, step, step_in}
use Rattle.es_pattern.proofs.Sound.{Completes, CompletesIn, Taken}
use Rattle.es_pattern.proofs.Sane.{IsSane, IsSaneIn}
use Rattle.es_pattern.proofs.TakingTerms.{
  taking_term,
  taking_atom,
  taking_quantified,
  taking_zero,
  taking_braces,
  taking_escape,
  taking_paren,
  taking_paren_question,
}
use Rattle.es_pattern.proofs.TakingClasses.{
  taking_hex,
  taking_class_open,
  taking_class_first,
  taking_class_next,
  taking_class_next_dash,
  taking_class_next_dashes,
  taking_class_char,
  taking_class_dash,
  taking_class_zero,
  taking_class_escape,
  taking_class_hex,
}

taking_in : (m : Mode) (c : ℕ) (r : Reading) (w : List ℕ) (t : Tree) → r.mode ≡ m → IsSaneIn m r
    → CompletesIn m r (c ∷ w) t → Taken (step_in m c r) w t
taking_in Term c r w t m sane h = taking_term c r w t m h
taking_in Atom c r w t m sane h = taking_atom c r w t m h
taking_in Quantified c r w t m sane h = taking_quantified c r w t m h
taking_in Zero c r w t m sane h = taking_zero c r w t m h
taking_in (Braces after_atom) c r w t m sane h = taking_braces after_atom c r w t m sane h
taking_in Escape c r w t m sane h = taking_escape c r w t m h
taking_in (modes.Hex value left) c r w t m sane h = taking_hex value left c r w t m sane h
taking_in Paren c r w t m sane h = taking_paren c r w t m h
taking_in ParenQuestion c r w t m sane h = taking_paren_question c r w t m h
taking_in ClassOpen c r w t m sane h = taking_class_open c r w t m h
taking_in ClassFirst c r w t m sane h = taking_class_first c r w t m h
taking_in ClassNext c r w t m sane h = taking_class_next c r w t m h
taking_in ClassNextDash c r w t m sane h = taking_class_next_dash c r w t m h
taking_in ClassNextDashes c r w t m sane h = taking_class_next_dashes c r w t m h
taking_in (modes.ClassChar first) c r w t m sane h = taking_class_char first c r w t m h
taking_in (modes.ClassDash first) c r w t m sane h = taking_class_dash first c r w t m h
taking_in (modes.ClassZero is_last) c r w t m sane h = taking_class_zero is_last c r w t m h
taking_in (modes.ClassEscape first) c r w t m sane h = taking_class_escape first c r w t m h
taking_in (modes.ClassHex first value left) c r w t m sane h = taking_class_hex first value left c r w t m sane h

pub taking : (c : ℕ) (r : Reading) (w : List ℕ) (t : Tree) → IsSane r → Completes r (c ∷ w) t → Taken (step c r) w t
taking c r w t sane h = taking_in r.mode c r w t refl sane h
