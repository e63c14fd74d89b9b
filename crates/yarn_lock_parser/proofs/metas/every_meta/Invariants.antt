use Rattle.std.proofs.Common.{◌≡◌, length}
use denote.Text.{Utf8}
use denote.Shadow.{shadow}
use Rattle.yarn_lock_parser.specs.Front.{every}
use Rattle.yarn_lock_parser.specs.Metas.{meta_at}
use Rattle.yarn_lock_parser.proofs.Every.{onto}
use Rattle.yarn_lock_parser.proofs.metas.every_meta.Given as goal

-- what is found and what is left are the whole
abbrev pub invariant-loop-meta : goal.invariant-loop-meta
invariant-loop-meta l =
    shadow (Utf8 l.rest) × (onto l.found.items (every (meta_at l.indent) l.rest) ≡ every (meta_at l.indent) l.text)

abbrev pub decreases-loop-meta : goal.decreases-loop-meta
decreases-loop-meta l = length l.rest
