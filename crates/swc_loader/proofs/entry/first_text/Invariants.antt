use Rattle.std.proofs.Common.{◌≡◌, map, drop}
use Rattle.serde_json.specs.View.{view}
use Rattle.swc_loader.specs.Entry.{first_text}
use Rattle.swc_loader.proofs.entry.first_text.Given as goal

-- the fields that are left decide
abbrev pub invariant-loop-field : goal.invariant-loop-field
invariant-loop-field l = first_text l.conventions (map (λ f. f.now) l.fields) (view l.package_json) ≡ first_text
    l.conventions (map (λ f. f.now) (drop l.field-index l.fields)) (view l.package_json)
