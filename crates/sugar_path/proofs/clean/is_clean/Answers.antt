use Rattle.std.proofs.Common.{◌∙◌, sym, ap, length, lit<}
use Rattle.std.proofs.lemmas.Bool.Decides.{Decides-eqb, not_from_Decides}
use Rattle.std.proofs.lemmas.Str.Pattern.{strip_prefix_char}
use Rattle.std.specs.List.{list_all}
use Rattle.sugar_path.specs.Path.{is_plain, parts}
use Rattle.sugar_path.proofs.CleanTexts.{not_clean-other, clean-parts, steps-names}
use Rattle.sugar_path.proofs.clean.is_clean.Goals as goal

pub returns-in-None : goal.returns-in-None
returns-in-None c =
    let cut = rw c.in-None.is at (strip_prefix_char 47 c.args.text.now c.strip_prefix.result
    c.strip_prefix.ensures.cases (lit< tt)) in
    not_clean-other c.args.text.now cut

pub returns-else-is_empty : goal.returns-else-is_empty
returns-else-is_empty c =
    let cut = rw c.in-Some.is at (strip_prefix_char 47 c.args.text.now c.strip_prefix.result
    c.strip_prefix.ensures.cases (lit< tt)) in
    clean-parts c.args.text.now c.in-Some.rest.now c.are_steps.result cut
    (λ none. not_from_Decides _ (Decides-eqb (length c.in-Some.rest.now) 0)
    (sym c.is_empty.ensures ∙ c.if-is_empty.false) (ap length none))
    (c.are_steps.ensures ∙ sym (steps-names (parts c.as_bytes.result.now))
    ∙ ap (λ s. list_all is_plain (parts s)) c.as_bytes.ensures.value)
