use Rattle.std.proofs.Common.{◌≡◌, ◌-◌, ◌==◌, take, drop, get_or, length, sym, ap, ◌∙◌, arith, length-drop}
use Rattle.std.proofs.lemmas.Bool.Decides.{Decides-eqb}
use Rattle.std.proofs.lemmas.List.{take_all}
use Rattle.sugar_path.proofs.Rooms.{part-uncut, part-cut}
use Rattle.sugar_path.proofs.reading.part_end.Goals as goal

pub returns-in-None : goal.returns-in-None
returns-in-None c =
    let t = c.args.path.now in
    let at = c.args.at in
    let rest : take (length t - at) (drop at t) ≡ drop at t =
    take_all (length t - at) (drop at t) (omega (arith, length-drop at t)) in
    part-uncut t at c.requires (λ k lt is. c.in-None.ensures k (omega arith) (omega (arith, ap length rest))
    (ap (λ u. get_or u k 0 == 47) rest ∙ is))

pub returns-in-Some : goal.returns-in-Some
returns-in-Some c =
    let t = c.args.path.now in
    let at = c.args.at in
    let rest : take (length t - at) (drop at t) ≡ drop at t =
    take_all (length t - at) (drop at t) (omega (arith, length-drop at t)) in
    let first = c.in-Some.ensures in
    part-cut t at c.in-Some.slash c.requires (omega (arith, first.0.high, ap length rest))
    (λ k lt is. first.0.before k (omega arith) lt (ap (λ u. get_or u k 0 == 47) rest ∙ is))
    ((Decides-eqb _ 47).0 (ap (λ u. get_or u c.in-Some.slash 0 == 47) (sym rest) ∙ first.1))
