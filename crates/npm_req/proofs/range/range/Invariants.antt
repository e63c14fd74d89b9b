use Rattle.std.proofs.Common.{◌≤◌, length}
use denote.Text.{Utf8}
use denote.Shadow.{shadow}
use Rattle.npm_req.specs.Front.{IsEndOf}
use Rattle.npm_req.specs.Range.{range}
use Rattle.npm_req.proofs.Ranges.{IsRestOfRange}
use Rattle.npm_req.proofs.range.range.Given as goal

abbrev pub invariant-alternatives : goal.invariant-alternatives
invariant-alternatives l = shadow (Utf8 l.rest) × (length l.rest ≤ length l.text) × IsEndOf l.rest l.text
    × IsRestOfRange l.made.items l.rest (range l.text)

abbrev pub decreases-alternatives : goal.decreases-alternatives
decreases-alternatives l = length l.rest
