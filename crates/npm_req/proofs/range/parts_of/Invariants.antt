use Rattle.std.proofs.Common.{◌≤◌, length}
use denote.Text.{Utf8}
use denote.Shadow.{shadow}
use Rattle.npm_req.specs.Front.{IsEndOf}
use Rattle.npm_req.specs.Range.{parts_of}
use Rattle.npm_req.proofs.Ranges.{IsRestOfParts}
use Rattle.npm_req.proofs.range.parts_of.Given as goal

abbrev pub invariant-parts : goal.invariant-parts
invariant-parts l =
    shadow (Utf8 l.rest) × (length l.rest ≤ length l.text) × IsEndOf l.rest l.text
    × IsRestOfParts l.made.items l.rest (parts_of (length l.text) l.text)

abbrev pub decreases-parts : goal.decreases-parts
decreases-parts l = length l.rest
