use Rattle.npm_req.proofs.Words.{IsWithinWord}
use Rattle.npm_req.proofs.word.word.Given as goal

abbrev pub invariant-loop-at : goal.invariant-loop-at
invariant-loop-at l = IsWithinWord l.text l.at
