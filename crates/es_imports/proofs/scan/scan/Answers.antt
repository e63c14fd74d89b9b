use Rattle.std.proofs.Common.{◌≡◌, ◌≤◌, ◌+◌, ℕ, List, Ok, length, take, drop, arith, refl, sym, ap, ◌∙◌}
use Rattle.std.proofs.lemmas.List.{length-take-le, take_rest}
use Rattle.es_imports.specs.declared.imports.Import.{Import}
use Rattle.es_imports.specs.ScannerView.{context}
use Rattle.es_imports.proofs.Scanning.{
  scanning_end,
  scanning_fault,
  scanning_finds,
  scanning_next,
  scanning_same,
  scanning_start,
}
use Rattle.es_imports.proofs.scan.scan.Goals as goal

pub loop-at-init : goal.loop-at-init
loop-at-init c =
    let at = rw c.as_bytes-bytes.ensures.value at c.hash_bang_len-at.ensures in (
      scanning_same c.args.jsx c.args.text.now c.hash_bang_len-at.result _ _ _ _ _ _ c.new-scanner.ensures.front refl
          c.new-imports.ensures.items
          (scanning_start c.args.jsx c.args.text.now c.hash_bang_len-at.result at.value at.within),
      c.new-scanner.ensures.jsx,
    )

pub returns-in-Err : goal.returns-in-Err
returns-in-Err c =
    let read = rw (
      take_rest c.as_bytes-bytes.result.now c.loop-at.at,
      c.goal.ensures,
      c.as_bytes-bytes.ensures.value,
    ) at c.in-Err.ensures.value in
    let len = c.as_bytes-bytes.ensures.len in
    scanning_fault c.args.jsx c.args.text.now c.loop-at.at
    (context c.loop-at.scanner) c.loop-at.expected c.loop-at.imports.items c.in-Err.cause
    c.loop-at.invariant.0 (omega arith) (sym read)

-- the length of a token is that of its piece
token_len : (rest : List ℕ) (n : ℕ) → n ≤ length rest → length (take n rest) ≡ n
token_len rest n within = length-take-le n rest within

pub follow-requires : goal.follow-requires
follow-requires c =
    let piece = rw (
      take_rest c.as_bytes-bytes.result.now c.loop-at.at,
      c.goal.ensures,
      c.as_bytes-bytes.ensures.value,
    ) at c.in-Ok.ensures in
    let token = take c.in-Ok.piece.len (drop c.loop-at.at c.args.text.now) in
    let finds = scanning_finds c.args.jsx c.args.text.now c.loop-at.at
    (context c.loop-at.scanner) c.loop-at.expected c.loop-at.imports.items c.in-Ok.piece
    token c.loop-at.invariant.0 (sym piece.value) in
    rw (
      take_rest c.as_bytes-bytes.result.now c.loop-at.at,
      c.as_bytes-bytes.ensures.value,
      token_len (drop c.loop-at.at c.args.text.now) c.in-Ok.piece.len piece.within,
    ) finds

pub loop-at-preserved : goal.loop-at-preserved
loop-at-preserved c =
    let piece = rw (
      take_rest c.as_bytes-bytes.result.now c.loop-at.at,
      c.goal.ensures,
      c.as_bytes-bytes.ensures.value,
    ) at c.in-Ok.ensures in
    let passed = rw (
      take_rest c.as_bytes-bytes.result.now c.loop-at.at,
      c.as_bytes-bytes.ensures.value,
      c.loop-at.invariant.1,
    ) at c.in_ok-pass.ensures.behind in
    let followed = rw (
      take_rest c.as_bytes-bytes.result.now c.loop-at.at,
      c.as_bytes-bytes.ensures.value,
      token_len (drop c.loop-at.at c.args.text.now) c.in-Ok.piece.len piece.within,
    ) at c.in_ok-expected.ensures in
    let len = c.as_bytes-bytes.ensures.len in (
      scanning_same c.args.jsx c.args.text.now (c.loop-at.at + c.in-Ok.piece.len) _ _ _ _ _ _ passed followed.behind
          followed.kept
          (scanning_next c.args.jsx c.args.text.now c.loop-at.at
          (context c.loop-at.scanner) c.loop-at.expected c.loop-at.imports.items c.in-Ok.piece c.loop-at.invariant.0
          (omega arith) (sym piece.value) piece.some piece.within),
      c.in_ok-pass.ensures.jsx ∙ c.loop-at.invariant.1,
    )

pub returns : goal.returns
returns c =
    let len = c.as_bytes-bytes.ensures.len in
    let end = scanning_end c.args.jsx c.args.text.now c.loop-at.at
    (context c.loop-at.scanner) c.loop-at.expected c.loop-at.imports.items c.loop-at.invariant.0 (omega arith) in
    end ∙ ap (λ (xs : List Import). Ok xs) (sym c.from.ensures)
