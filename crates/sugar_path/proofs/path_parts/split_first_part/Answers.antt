use Rattle.std.proofs.Common.{◌≡◌, ◌-◌, ◌+◌, ◌∷◌, take, drop, length, sym, ap, ◌∙◌, arith, length-drop}
use Rattle.std.proofs.lemmas.Bool.Decides.{Decides-eqb}
use Rattle.std.proofs.lemmas.List.{take_all}
use Rattle.sugar_path.specs.Path.{parts}
use Rattle.sugar_path.proofs.FirstParts.{parts-cut, parts-uncut}
use Rattle.sugar_path.proofs.path_parts.split_first_part.Goals as goal

pub returns-in-None : goal.returns-in-None
returns-in-None c = parts-uncut c.args.path.now (λ k lt is. c.in-None.ensures k (omega arith) lt is)

pub returns-in-Some : goal.returns-in-Some
returns-in-Some c =
    let t = c.args.path.now in
    let at = c.in-Some.at in
    let first = c.in-Some.ensures in
    let rest : take (length t - (at + 1)) (drop (at + 1) t) ≡ drop (at + 1) t =
    take_all (length t - (at + 1)) (drop (at + 1) t) (omega (arith, length-drop (at + 1) t)) in
    parts-cut t at first.0.high (λ k lt is. first.0.before k (omega arith) lt is) ((Decides-eqb _ 47).0 first.1)
    ∙ ap (λ s. take at t ∷ parts s) (sym rest)
