use Rattle.std.proofs.Common.{◌≡◌, length}
use Rattle.std.specs.List.{fold}
use denote.Text.{Utf8}
use denote.Shadow.{shadow}
use Rattle.yarn_lock_parser.specs.Front.{every}
use Rattle.yarn_lock_parser.specs.Metas.{property_at, noted}
use Rattle.yarn_lock_parser.specs.Given.{flag_said}
use Rattle.yarn_lock_parser.proofs.metas.further_flag.Given as goal

-- what is left has the answer
abbrev pub invariant-loop-key : goal.invariant-loop-key
invariant-loop-key l = record {
  text : shadow (Utf8 l.rest);
  flag : fold noted (flag_said l.flag) (every (property_at l.indent) l.rest).0 ≡ fold noted (flag_said l.fn.flag)
      (every (property_at l.indent) l.text).0;
  rest : (every (property_at l.indent) l.rest).1 ≡ (every (property_at l.indent) l.text).1;
}

abbrev pub decreases-loop-key : goal.decreases-loop-key
decreases-loop-key l = length l.rest
