use Rattle.std.proofs.Common.{◌∙◌, arith}
use Rattle.sugar_path.proofs.Rooms.{drop-later, drop-moved}
use Rattle.sugar_path.proofs.reading.Reading.go_down.Goals as goal

pub returns-clause-passed : goal.returns-clause-passed
returns-clause-passed c =
    let put = c.put_slash.new.self in
    record {
      read = omega arith;
      rest =
          drop-moved put.text.items _ c.args.at c.args.end put.len (omega arith) (omega arith)
          (omega (arith, put.text.ok.0)) c.copy_within.ensures.items
          ∙ drop-later put.text.items c.args.self.now.text.items c.args.at c.args.end (omega arith)
          c.put_slash.ensures.passed.rest;
      size = c.copy_within.ensures.len ∙ c.put_slash.ensures.passed.size;
    }
