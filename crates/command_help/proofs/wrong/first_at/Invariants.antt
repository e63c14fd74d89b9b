use Rattle.std.proofs.Common.{◌≡◌, map, drop}
use Rattle.command_help.specs.WrongWords.{first_at}
use Rattle.command_help.proofs.wrong.first_at.Given as goal

-- no name in front is so many edits away
abbrev pub invariant-loop-name : goal.invariant-loop-name
invariant-loop-name l =
    first_at l.edits l.word (map (λ n. n.now) (drop l.name-index l.names))
    ≡ first_at l.edits l.word (map (λ n. n.now) l.names)
