use Rattle.std.proofs.Common.{ℕ, ◌*◌, ◌-◌, ◌^◌, ap, ◌∙◌, arith, min, max}
use Rattle.std.specs.Prelude.{option_map, ◌+◌}
use Rattle.es_pattern.specs.Reading.{Reading, bounds_of, quantified}
use Rattle.es_pattern.specs.ReaderView.{reading}
use Rattle.es_pattern.proofs.Digits.{taken_bounds}
use Rattle.es_pattern.proofs.reader.Reader.take_bounds.Goals as goal

pub returns : goal.returns
returns c =
    let old : Reading = reading c.args.self.now in
    taken_bounds (bounds_of c.args.self.now.braces.items) c.args.bounds c.more.result c.args.after_atom old
    (reading c.repeat.new.self) c.requires.bounds c.if-not-after_atom.false
    (omega (arith, c.unwrap_or-most.ensures)) (omega arith) c.more.ensures c.saturating_mul-product.result
    (c.saturating_mul-product.ensures ∙ ap (λ (k : ℕ). min (old.atom_product * k) (2 ^ 32 - 1))
    (c.max.ensures ∙ ap (λ (k : ℕ). max k 1) c.unwrap_or-most.ensures)) (omega arith)
    (c.in_ok-repeat.ensures ∙ ap (λ (p : ℕ). quantified c.args.bounds.least
    (option_map (λ n. c.args.bounds.least + n) c.more.result) (record old { product = p })) c.max-self.ensures)
