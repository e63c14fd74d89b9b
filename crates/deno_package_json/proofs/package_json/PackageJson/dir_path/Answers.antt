use Rattle.std.proofs.Common.{sym, ap, subst, ◌∙◌, option_map}
use Rattle.std.specs.Prelude.{IsUtf8}
use Rattle.sugar_path.specs.Parent.{parent_of}
use Rattle.sugar_path.specs.PathTypes.{path_bytes}
use Rattle.deno_package_json.proofs.Parents.{IsUtf8-parent_of}
use Rattle.deno_package_json.proofs.package_json.PackageJson.dir_path.Goals as goal

pub to_slash-requires : goal.to_slash-requires
to_slash-requires c =
    let text = subst IsUtf8 c.as_str.ensures c.as_str.utf8 in
    let found = sym (ap parent_of (c.of_text.ensures ∙ c.as_str.ensures)) ∙ sym c.parent.ensures
    ∙ ap (option_map path_bytes) c.unwrap.ensures in
    IsUtf8-parent_of c.args.self.now.path _ text found
