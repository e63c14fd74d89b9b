use Rattle.std.proofs.Common.{refl}
use Rattle.deno_package_json.proofs.Escapes.{percent_encode-escaped}
use Rattle.deno_package_json.proofs.package_json.PackageJson.specifier.Goals as goal

pub returns : goal.returns
returns c =
    rw (
      c.from.ensures,
      c.in_ok-append_to.ensures.ok,
      c.in_ok-url.ensures.ok,
      c.percent_encode.ensures.text,
      c.as_bytes.ensures.value,
      c.as_str.ensures,
      percent_encode-escaped,
    )
    refl
