use Rattle.std.proofs.Common.{refl, ◌∙◌}
use Rattle.sugar_path.specs.Path.{join}
use Rattle.pnp_core.proofs.PlainLocations.{normal-joined}
use Rattle.pnp_core.proofs.initialize.located_at.Goals as goal

pub returns-in-Some : goal.returns-in-Some
returns-in-Some c =
    let path = rw c.in-Some.is at c.in_ok-path.ensures.plain in
    let ends = rw c.in-Some.is at c.in_ok-path.ensures.ends in
    record {
      path = path;
      text = c.in_ok-normal.ensures ∙ normal-joined c.args.folder.now c.args.text.now c.args.text.now c.in-Some.path
          c.requires path (ends refl);
    }

pub returns : goal.returns
returns c =
    let path = rw (c.as_str.ensures.value, c.in_ok-joined.ensures) at c.in_ok-path-2.ensures in
    record {
      path = path;
      text =
          rw (c.as_str-2.ensures.value, c.in_ok-joined.ensures) at c.in_ok-normal-2.ensures
          ∙ normal-joined c.args.folder.now c.args.text.now (join c.args.folder.now c.args.text.now) c.in_ok-path-2.path
          c.requires path refl;
    }
