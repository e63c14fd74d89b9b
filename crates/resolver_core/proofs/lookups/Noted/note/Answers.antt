use Rattle.resolver_core.proofs.Keeping.{kept-exact, kept-starred}
use Rattle.resolver_core.proofs.lookups.Noted.note.Goals as goal

pub returns-in_ok-add-in-Exact : goal.returns-in_ok-add-in-Exact
returns-in_ok-add-in-Exact c = λ ps len kept.
    let keeps = rw c.as_str.ensures at c.in_ok-add-in-Exact.ensures in
    rw c.in-Exact.is (kept-exact ps _ _ c.args.place c.args.self.now.exact c.add.new.self c.args.self.now.starred
    c.args.self.now.lengths.keys keeps len kept)

pub returns-in_ok-insert-in-Starred : goal.returns-in_ok-insert-in-Starred
returns-in_ok-insert-in-Starred c = λ ps len kept.
    let keeps = rw c.as_str-prefix.ensures at c.in_ok-add-in-Starred.ensures in
    let keys = rw c.as_str-prefix.ensures at c.in_ok-insert-in-Starred.ensures.keys in
    rw (c.in-Starred.is, keys) (kept-starred ps c.in-Starred.wildcard c.args.place c.args.self.now.exact
    c.args.self.now.starred c.add-in-Starred.new.self c.args.self.now.lengths.keys keeps len kept)
