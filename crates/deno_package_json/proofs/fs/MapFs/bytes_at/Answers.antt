use Rattle.std.proofs.Common.{sym, ap, ◌∙◌}
use Rattle.std.specs.FinMap as finite
use Rattle.deno_package_json.specs.Reader.{MemoryFiles}
use Rattle.deno_package_json.proofs.KeptEntries.{get-from_texts}
use Rattle.deno_package_json.proofs.fs.MapFs.bytes_at.Goals as goal

pub returns : goal.returns
returns c = c.get.ensures.value ∙ sym (get-from_texts c.self.inside.files.entries c.args.path.now)
    ∙ ap (λ (m : MemoryFiles). finite.get m.files c.args.path.now) c.self.view_is
