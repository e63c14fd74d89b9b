use Rattle.std.proofs.Common.{◌≡◌, option_map}
use Rattle.serde_json.specs.View.{members_view}
use Rattle.package_exports.specs.Exported.{first_of, first_fit}
use Rattle.package_exports.specs.ExportedView.{fit_view}
use Rattle.package_exports.proofs.exports.first_fit.Given as goal

-- the first of what was found and of what is left is that of all
abbrev pub invariant-loop-key : goal.invariant-loop-key
invariant-loop-key l =
    (goal.iterator-loop-key).can_next l.key-iterator ×
    (goal.iterator-loop-key).is_finite l.key-iterator ×
    (first_of (option_map fit_view l.first) (first_fit l.subpath (members_view l.key-iterator)) ≡ first_fit l.subpath
    (members_view l.exports.entries))
