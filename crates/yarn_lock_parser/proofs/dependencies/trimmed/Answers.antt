use Rattle.yarn_lock_parser.proofs.Quotes.{trimmed-both}
use Rattle.yarn_lock_parser.proofs.dependencies.trimmed.Goals as goal

pub returns : goal.returns
returns c = trimmed-both _ _ _ c.trim_start_matches.ensures.matches c.trim_end_matches.ensures.matches
