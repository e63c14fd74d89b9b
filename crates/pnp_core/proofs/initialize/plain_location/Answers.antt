use Rattle.std.proofs.Common.{◌≡◌, ◌∷◌, ◌++◌, sym, ap, ◌∙◌}
use Rattle.sugar_path.specs.Path.{IsCleanPath, with_slash}
use Rattle.pnp_core.specs.NormalizePath.{location_path}
use Rattle.pnp_core.specs.Slashed.{slashed}
use Rattle.pnp_core.proofs.PlainLocations.{location-plain, location-clean, ends-plain}
use Rattle.pnp_core.proofs.initialize.plain_location.Goals as goal

pub returns-then-is_plain : goal.returns-then-is_plain
returns-then-is_plain c =
    let text : c.args.text.now ≡ 46 ∷ 47 ∷ c.in-Some.names.now =
    c.in-Some.ensures.cases.1.1 ∙ ap (λ s. 46 ∷ 47 ∷ s) (sym c.in-Some.ensures.cases.2) in
    let written : c.from.result ≡ with_slash c.args.folder.now ++ c.without_end.result.now =
    c.from.ensures ∙ c.in_ok-push_str.ensures.bytes ∙ ap (λ s. s ++ c.without_end.result.now) c.in_ok-plain.ensures in
    let clean : IsCleanPath c.from.result =
    rw (c.from.ensures, ← c.as_str.ensures.value) (c.is_plain.ensures.clean c.if-is_plain.true) in
    let plain : slashed c.from.result ≡ c.from.result =
    rw (c.from.ensures, ← c.as_str.ensures.value) (c.is_plain.ensures.plain c.if-is_plain.true) in
    rw text (record {
      plain =
          c.from_clean.ensures ∙ sym (location-clean c.from.result clean plain) ∙ ap location_path written
          ∙ location-plain c.args.folder.now c.in-Some.names.now c.without_end.result.now c.requires
          c.without_end.ensures;
      ends = λ _. ends-plain c.args.folder.now c.in-Some.names.now;
    })
