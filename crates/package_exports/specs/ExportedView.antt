-- What a fit in the code says.
use Rattle.std.specs.Option.{option_copied}
use Rattle.serde_json.specs.View.{view}
use Rattle.package_exports.specs.Exported.{Fit, Decided}
use Rattle.package_exports.specs.declared.exports.Fit.{Fit as BorrowedFit}
use Rattle.package_exports.specs.declared.exports.Decided.{Decided as BorrowedDeciding}

abbrev pub fit_view : BorrowedFit → Fit
fit_view f = record { key = f.key.now; before = f.before.now; rest = f.rest.now; value = view f.value.now }

abbrev pub decided_view : BorrowedDeciding → Decided
decided_view d = record { value = view d.value.now; rest = option_copied d.rest }
