use Rattle.std.proofs.Common.{◌≡◌, ◌++◌, false, ap, sym, ◌∙◌, lit<}
use Rattle.std.proofs.lemmas.Str.Pattern.{strip_prefix_char}
use Rattle.sugar_path.specs.Path.{is_root, steps}
use Rattle.pnp_core.proofs.FirstNames.{first_name, no_name, steps-begin, text_of-steps, root_below, goes_on}
use Rattle.pnp_core.proofs.trie_nodes.first_name_below.Goals as goal

pub returns-then-is_root : goal.returns-then-is_root
returns-then-is_root c =
    root_below c.args.path.now c.args.folder.now (sym c.is_root.ensures ∙ c.if-is_root.true) c.requires

pub returns-in_err-strip_prefix : goal.returns-in_err-strip_prefix
returns-in_err-strip_prefix c =
    let some : is_root c.args.path.now ≡ false = sym c.is_root.ensures ∙ c.if-is_root.false in
    let w = steps-begin c.args.path.now c.args.folder.now c.requires in
    absurd (c.in_err-strip_prefix.ensures.cases w.0 (c.as_str.ensures.text ∙ text_of-steps c.args.path.now some ∙ w.1
    ∙ ap (λ s. s ++ w.0) (sym c.steps_of-above.ensures)))

pub returns-in_err-names : goal.returns-in_err-names
returns-in_err-names c =
    let some : is_root c.args.path.now ≡ false = sym c.is_root.ensures ∙ c.if-is_root.false in
    let cut = rw c.in_err-names.was at (strip_prefix_char 47 c.in_ok-strip_prefix.field-0.now c.strip_prefix-2.result
    c.strip_prefix-2.ensures.cases (lit< tt)) in
    let whole : steps c.args.path.now ≡ steps c.args.folder.now ++ c.in_ok-strip_prefix.field-0.now =
    goes_on c.args.path.now c.args.folder.now c.as_str.result.now c.steps_of-above.result.now
    c.in_ok-strip_prefix.field-0.now _ some c.as_str.ensures.text c.steps_of-above.ensures
    c.in_ok-strip_prefix.ensures.cases.1.1 c.in_ok-strip_prefix.ensures.cases.2 in
    rw c.from_residual-in_err-names.ensures (no_name c.args.path.now c.args.folder.now c.in_ok-strip_prefix.field-0.now
    c.requires whole cut)

pub returns : goal.returns
returns c =
    let some : is_root c.args.path.now ≡ false = sym c.is_root.ensures ∙ c.if-is_root.false in
    let cut = rw c.in_ok-names.was at (strip_prefix_char 47 c.in_ok-strip_prefix.field-0.now c.strip_prefix-2.result
    c.strip_prefix-2.ensures.cases (lit< tt)) in
    let whole : steps c.args.path.now ≡ steps c.args.folder.now ++ c.in_ok-strip_prefix.field-0.now =
    goes_on c.args.path.now c.args.folder.now c.as_str.result.now c.steps_of-above.result.now
    c.in_ok-strip_prefix.field-0.now _ some c.as_str.ensures.text c.steps_of-above.ensures
    c.in_ok-strip_prefix.ensures.cases.1.1 c.in_ok-strip_prefix.ensures.cases.2 in
    rw c.first_of.ensures (first_name c.args.path.now c.args.folder.now c.in_ok-names.names.now c.as_str.ensures.names
    c.requires (whole ∙ ap (λ s. steps c.args.folder.now ++ s) cut))
