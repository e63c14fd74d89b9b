use Rattle.std.proofs.Common.{◌++◌, string_bytes, sym, ap, ◌∙◌, arith}
use Rattle.generated_project.specs.Generated.{manifest_front, manifest_end, package_row}
use Rattle.generated_project.proofs.Numbers.{texts_begin, texts_go, texts_end}
use Rattle.generated_project.proofs.manifest.manifest_text.Goals as goal

pub loop-i-init : goal.loop-i-init
unfolding manifest_front
loop-i-init c = texts_begin (package_row c.args.size) 1 c.args.size manifest_front (string_bytes c.in_ok-text.text)
    c.in_ok-text.ensures.ok

pub loop-i-preserved : goal.loop-i-preserved
loop-i-preserved c =
    texts_go (package_row c.args.size) 1 c.loop-i.i c.args.size _ (string_bytes c.loop-i.text)
    (string_bytes c.in_ok-row.row) (string_bytes c.push_str.new.self) (omega arith) c.loop-i.invariant
    c.in_ok-row.ensures (c.in_ok-push_str.ensures.bytes
    ∙ ap (λ t. string_bytes c.loop-i.text ++ t) c.as_str.ensures.value)

pub returns : goal.returns
unfolding manifest_end
returns c =
    c.in_ok-push_str-2.ensures.bytes
    ∙ ap (λ t. t ++ manifest_end) (sym (texts_end (package_row c.args.size) 1 c.loop-i.i c.args.size _
    (string_bytes c.loop-i.text) (omega arith) c.loop-i.invariant))
